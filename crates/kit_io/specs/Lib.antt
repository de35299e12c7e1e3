pub mod Causes
pub mod Counts
pub mod Growth
pub mod Sink
pub mod Record
pub mod Log
