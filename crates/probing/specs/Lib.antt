pub mod Wrongs
pub mod Halts
