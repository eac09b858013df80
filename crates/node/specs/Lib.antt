-- What a node's contracts say of its arrays and of the place that it walks.
pub mod Walk
pub mod Rows
pub mod Kit
