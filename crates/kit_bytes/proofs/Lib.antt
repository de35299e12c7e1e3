pub mod Lists
pub mod Spelling
pub mod RoundTrips
pub mod Sorted
pub mod Lengths
pub mod Pairs
pub mod Members
