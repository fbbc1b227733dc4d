pub mod Symbols
pub mod Mending
pub mod SymbolsLemmas
