pub mod RecordLaws
pub mod MisLaws
pub mod TisLaws
