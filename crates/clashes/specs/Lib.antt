-- What the contracts of the clash list say. List and First have what callers see; Code has the codes.
pub mod Code
pub mod List
pub mod First
