-- Laws about opening a file that was read: what its batch gives, and 9, 10 and the fresh search. They serve the proofs here.
pub mod WithinLaws
pub mod OpenLaws
