pub mod Reading
pub mod Routes
