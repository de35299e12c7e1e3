pub mod State
pub mod Step
pub mod Stands
pub mod Faithful
pub mod Laws
pub mod Requests
pub mod Chosen
pub mod Telling
