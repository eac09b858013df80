-- Laws about the definitions that the contracts cite, each in the code's shape. Each file depends only on those above it.
pub mod LimitLaws
pub mod FurtherLaws
