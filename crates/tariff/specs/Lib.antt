pub mod Refusals
pub mod Grammar
pub mod Files
pub mod Forms
pub mod Filed
pub mod Reading
