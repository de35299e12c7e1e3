pub mod Table
pub mod Requests
pub mod View
pub mod Answers
pub mod BuiltIn
pub mod Inputs
pub mod Laws
pub mod Modem
