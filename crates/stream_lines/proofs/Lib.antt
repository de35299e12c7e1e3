pub mod Showing
pub mod Pieces
pub mod ReadPieces
