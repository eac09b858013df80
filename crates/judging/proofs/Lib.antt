-- The laws of judging: a plan tested by arrays, and the answers in turn.
pub mod PlanLaws
pub mod AnswerLaws
