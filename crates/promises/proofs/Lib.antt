-- The demands and the requests that landed, proved of what the public calls return, and pinned.
pub mod Demands
pub mod Pins
pub mod Judging
pub mod JudgingPins
pub mod Finish
pub mod WindowRuns
pub mod Windows
pub mod Cooling
pub mod Rests
