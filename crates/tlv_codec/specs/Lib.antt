pub mod Tlv
pub mod Reading
pub mod Looking
pub mod Outcome
pub mod Laws
