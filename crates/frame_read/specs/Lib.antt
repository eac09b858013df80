-- What the contracts of frame_read cite: the bytes of a frame where it stands, and the answers for what the definitions read of one.
pub mod Answer
pub mod Frame
pub mod Numbered
pub mod Window
pub mod Rest
