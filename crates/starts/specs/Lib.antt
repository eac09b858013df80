-- What the functions of this crate compute, in terms of the arrays they are given.
pub mod Table
pub mod Least
