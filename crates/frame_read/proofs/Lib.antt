-- Laws about one frame, from its numbers and bytes up to the line that it stands in. They serve the proofs here and in the rooms above.
pub mod Tests
pub mod Bytes
pub mod Pad
pub mod Wides
pub mod NumberedLaws
pub mod One
pub mod FileRest
pub mod Told
