pub mod Serving
pub mod Ends
pub mod Face
pub mod Cores
