-- What the contracts of reading cite: the answers of its steps for what the definitions read.
pub mod Read
