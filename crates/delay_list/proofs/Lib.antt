-- The laws of the columns of a list.
pub mod ColumnLaws
