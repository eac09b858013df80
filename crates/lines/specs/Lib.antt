-- What the contracts cite: a line of a file as it is read in place, and a buffer with a text put into it.
pub mod Read
pub mod Write
