-- What the contracts of soundness say, in parts of the definition; `Examined` has what a caller reads.
pub mod Best
pub mod Path
pub mod Examined
