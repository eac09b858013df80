-- Laws about lines: `Framed` and `Puts` are the ones for callers, and the others serve the proofs here.
pub mod Digit
pub mod UpTo
pub mod Bytes
pub mod Parsed
pub mod Judged
pub mod Framed
pub mod Puts
