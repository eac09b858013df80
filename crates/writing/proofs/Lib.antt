-- Laws for the proofs of the functions: the texts of the lines, what a writer answers, and what the tests decide.
pub mod Texts
pub mod Answers
pub mod Refusals
