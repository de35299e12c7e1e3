pub mod Computed
pub mod Growing
