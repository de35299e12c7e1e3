pub mod Table
pub mod Calls
pub mod Laws
pub mod Chain
pub mod Index
pub mod Counts
