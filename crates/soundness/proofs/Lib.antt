-- Laws about the definitions that the contracts cite, each in the code's shape. Each file depends only on those above it.
pub mod BestLaws
pub mod TurnLaws
pub mod MarkLaws
pub mod PathLaws
pub mod RestLaws
pub mod StateLaws
pub mod BatchLaws
pub mod ExamineLaws
