pub mod Face
pub mod Shows
pub mod Ends
