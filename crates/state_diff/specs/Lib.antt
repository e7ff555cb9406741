pub mod Changes
pub mod IndexDiffs
pub mod MapDiffs
pub mod MetadataDiffs
pub mod SetDiffs
pub mod StateDiffs
