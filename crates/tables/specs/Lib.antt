-- What the contracts of tables say: Tables has the test of two tables, mask against mask, Rest the table that is widened by the rests.
pub mod Tables
pub mod Rest
