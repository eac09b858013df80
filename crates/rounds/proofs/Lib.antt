-- Laws of this crate's definitions, for the proofs here and in the rooms above.
pub mod RoundLaws
