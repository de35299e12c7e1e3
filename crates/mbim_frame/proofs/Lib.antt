pub mod Numbers
pub mod Parts
pub mod Written
pub mod Renumbered
pub mod Numbered
pub mod ReadBack
