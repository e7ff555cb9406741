pub mod Agreeing
pub mod NoFloat
pub mod Tables
