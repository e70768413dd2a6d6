pub mod Fields
pub mod Padded
pub mod Standing
pub mod Lines
pub mod Trailing
