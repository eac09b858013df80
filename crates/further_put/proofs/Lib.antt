-- Laws for the proofs of the functions: what a loop counts, and the texts of the lines.
pub mod Sizes
pub mod Texts
