pub mod Texts
pub mod Places
pub mod Reads
pub mod Trailers
