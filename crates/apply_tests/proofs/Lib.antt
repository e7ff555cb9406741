-- Lemmas about the small types of these tests.
pub mod Boards
