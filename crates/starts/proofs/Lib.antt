-- Laws of this crate's definitions. `Law` has those that a caller wants.
pub mod PlaceLaws
pub mod TakeLaws
pub mod HeldLaws
pub mod RaisedLaws
pub mod FromLaws
pub mod PathTable
pub mod Law
pub mod MetLaws
