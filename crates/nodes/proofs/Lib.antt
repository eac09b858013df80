-- The laws behind the loop over nodes; a run takes them too.
pub mod NodesLaws
