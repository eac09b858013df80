-- The laws behind the proofs of a node.
pub mod BackLaws
pub mod PathLaws
pub mod StepsLaws
pub mod NodeLaws
pub mod BeginLaws
pub mod RowsLaws
pub mod WorksLaws
pub mod ReachLaws
pub mod VisitLaws
