-- The laws of pairs: those that are found, and those that are passed over.
pub mod PairedLaws
pub mod PassedLaws
