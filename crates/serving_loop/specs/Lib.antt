pub mod Carrying
pub mod Face
pub mod Cores
pub mod Same
pub mod One
pub mod Shows
pub mod Server
pub mod Progress
