-- The laws behind the proofs of a run.
pub mod AnswerLaws
pub mod RecordLaws
pub mod RunLaws
pub mod AdvanceLaws
