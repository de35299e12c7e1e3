pub mod Alphabet
pub mod Packing
pub mod Laws
pub mod Examples
