pub mod BitLaws
pub mod Exact
