pub mod Exact
pub mod WellFormed
pub mod Truth
pub mod Worked
pub mod Runs
pub mod Law
