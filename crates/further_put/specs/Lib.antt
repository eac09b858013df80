-- What the contracts cite: a line that stands only where a number is not 0, and so a job's window line and a station's rest line.
pub mod Lined
pub mod Windows
pub mod Rests
