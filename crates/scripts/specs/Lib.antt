pub mod Said
pub mod Asked
