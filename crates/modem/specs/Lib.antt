pub mod Carrying
pub mod MisStream
pub mod Reading
pub mod Stream
pub mod TisStream
