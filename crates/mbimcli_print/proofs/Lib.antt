pub mod Computed
pub mod Printing
