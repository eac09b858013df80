-- What the loop over nodes says of its arrays.
pub mod Walks
