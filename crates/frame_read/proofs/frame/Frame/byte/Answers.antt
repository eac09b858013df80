-- Byte k's digits stand two a byte from the place of the first.
use native.Mathlib.Omega.{arith}
use Rattle.frame_read.proofs.Bytes.{size_is, byte_is}
use Rattle.frame_read.proofs.frame.Frame.byte.Goals as goal

pub overflow_mul-k : goal.overflow_mul-k
overflow_mul-k c = let n = size_is _ _ _ c.self.view_is in omega arith

pub overflow_add-self-inside : goal.overflow_add-self-inside
overflow_add-self-inside c = let n = size_is _ _ _ c.self.view_is in omega arith

pub byte_at-requires : goal.byte_at-requires
byte_at-requires c = let n = size_is _ _ _ c.self.view_is in omega arith

pub returns : goal.returns
returns c = byte_is _ _ _ c.self.view_is _ c.requires c.byte_at.ensures
