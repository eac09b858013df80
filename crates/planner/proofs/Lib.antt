-- What the calls promise.
pub mod Promises
