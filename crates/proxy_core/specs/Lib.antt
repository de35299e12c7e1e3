pub mod Meaning
pub mod Core
pub mod Lawful
pub mod Face
pub mod Shows
