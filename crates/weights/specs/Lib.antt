-- Codes of weights, and when lists of inequalities stand for a batch's delays or for turns.
pub mod Code
pub mod Inequality
pub mod Turn
pub mod Delays
pub mod Holds
