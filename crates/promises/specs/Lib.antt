-- The demands, and the change requests that landed, as statements about what the public calls return.
pub mod Demands
pub mod Judging
pub mod Finish
pub mod Windows
pub mod Rests
