mod Arrays
mod Cells
mod HexWords
mod Lists
mod Naming
mod Parsing
mod Printing
mod WordByWord
