-- Document 01's marked batches, and rows of our own, for 02 too: what the definitions give, computed.
pub mod Marked
