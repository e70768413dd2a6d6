pub mod Printed
pub mod Told
pub mod Tables
pub mod Statements
pub mod RoundTrips
