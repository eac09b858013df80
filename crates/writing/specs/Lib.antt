-- What the contracts cite: the plan text where there is a plan, and the bounds that the batch text needs.
pub mod Plan
pub mod Bounded
