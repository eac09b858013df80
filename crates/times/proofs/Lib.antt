-- Laws of this crate's definitions.
pub mod FillLaws
pub mod LatencyLaws
pub mod StaysLaws
pub mod EndsLaws
