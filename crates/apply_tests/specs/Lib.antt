-- What the small types of these tests keep.
pub mod Boards
