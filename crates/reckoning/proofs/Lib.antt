pub mod EachOnce
pub mod Attained
