pub mod Apart
pub mod Bounds
pub mod FormLaws
pub mod GoodForm
pub mod ReportLaws
