-- A batch's times as arrays of 24 places, and what is found of starts with them.
pub mod Fill
pub mod Latency
pub mod Stays
pub mod Ends
