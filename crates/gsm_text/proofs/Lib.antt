pub mod Tables
pub mod Characters
pub mod Digits
pub mod Unpacking
