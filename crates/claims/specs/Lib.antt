-- What the contracts of claims cite: the answers of the functions that read a plan text.
pub mod Claim
pub mod JobLines
