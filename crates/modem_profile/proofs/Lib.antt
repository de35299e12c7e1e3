pub mod Texts
pub mod Continued
pub mod Units
pub mod Within
