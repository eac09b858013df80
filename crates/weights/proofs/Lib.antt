-- Laws of this crate's definitions.
pub mod CodeLaws
pub mod ListedLaws
pub mod DelaysLaws
pub mod TurnLaws
pub mod SoundLaws
