-- Laws about lines that are put: `Pieces` and `Lengths` are for callers too, and the others serve the proofs here.
pub mod Weight
pub mod Pieces
pub mod Lengths
pub mod Masks
