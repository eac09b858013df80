-- Laws about the definitions that the contracts cite, each stated in the code's shape.
pub mod MaskLaws
pub mod TableLaws
pub mod RestLaws
