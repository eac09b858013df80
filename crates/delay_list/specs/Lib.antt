-- The columns of a list of delays.
pub mod Columns
