-- The laws of claims: one line of a plan text, and then all B1 lines as a loop reads them.
pub mod ReadLaws
pub mod LinesLaws
