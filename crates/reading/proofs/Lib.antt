-- Laws about reading a whole file, frame after frame. They serve the proofs here; opening and judging take `Told`.
pub mod Reading
pub mod Told
pub mod FileLaws
