-- What the contracts of batch_limits say, in parts of the definition of a sound record; `Limits` has what a caller reads.
pub mod Limits
pub mod Further
