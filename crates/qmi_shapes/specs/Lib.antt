pub mod Form
pub mod View
pub mod WellMade
