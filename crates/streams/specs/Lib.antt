pub mod Records
pub mod Mis
pub mod Tis
