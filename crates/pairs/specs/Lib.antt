-- What finding the pairs and asking them yields.
pub mod Pairs
