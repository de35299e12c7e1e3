pub mod WholeFront
pub mod Told
