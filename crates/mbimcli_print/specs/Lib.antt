pub mod Words
pub mod Texts
pub mod Printed
pub mod Answer
pub mod Examples
