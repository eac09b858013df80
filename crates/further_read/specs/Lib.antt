-- What the contracts of further_read cite: the answers for what the definitions read of the further lines, of one kind and of all.
pub mod Windows
pub mod Rests
pub mod Further
pub mod Kind
