pub mod Awaiting
pub mod Mixed
pub mod Stopped
pub mod Troubled
pub mod Worked
pub mod WorkedLaws
