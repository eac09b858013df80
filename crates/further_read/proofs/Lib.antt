-- Laws about the further lines, of one kind and of all. They serve the proofs here.
pub mod Kind
pub mod Places
pub mod NumberedLaws
pub mod NumberedKind
pub mod WindowLaws
pub mod RestLaws
pub mod KindRest
pub mod FurtherLaws
