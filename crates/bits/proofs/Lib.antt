pub mod Bits
pub mod ByteLaws
pub mod Remainders
pub mod Sequences
