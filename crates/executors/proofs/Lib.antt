pub mod Atomic
pub mod Changes
pub mod Counts
pub mod Fold
pub mod Marks
pub mod Numbering
pub mod Rising
pub mod Settled
