-- What the C boundary means: records, answers as numbers, and the calls on them.
pub mod Records
pub mod Replies
pub mod Calls
