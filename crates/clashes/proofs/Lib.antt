-- Laws about the definitions that the contracts cite, each stated in the code's shape.
pub mod SeqLaws
pub mod CodeLaws
pub mod StoreLaws
pub mod PairLaws
pub mod GrowLaws
pub mod RowLaws
pub mod FirstLaws
pub mod LimitLaws
pub mod ListedLaws
