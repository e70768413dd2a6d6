pub mod Writings
pub mod Tables
pub mod FilesPut
pub mod WrittenBack
pub mod Lengths
pub mod FormWritten
pub mod EnteredAgain
pub mod ReadBack
