-- `wide` reads two bytes, high byte first.
use mathlib.Core.Path.{◌∙◌}
use native.Mathlib.Omega.{arith}
use Rattle.frame_read.proofs.Bytes.{size_is, wide_is}
use Rattle.frame_read.proofs.frame.Frame.wide.Goals as goal

pub overflow_mul-at : goal.overflow_mul-at
overflow_mul-at c = let n = size_is _ _ _ c.self.view_is in omega arith

pub overflow_add-at : goal.overflow_add-at
overflow_add-at c = let n = size_is _ _ _ c.self.view_is in omega arith

pub byte_at-requires : goal.byte_at-requires
byte_at-requires c = let n = size_is _ _ _ c.self.view_is in omega arith

pub overflow_add-at-2 : goal.overflow_add-at-2
overflow_add-at-2 c = let n = size_is _ _ _ c.self.view_is in omega arith

pub byte_at-requires-2 : goal.byte_at-requires-2
byte_at-requires-2 c = let n = size_is _ _ _ c.self.view_is in omega arith

pub returns : goal.returns
returns c = c.from_be_bytes.ensures ∙ wide_is _ _ _ c.self.view_is _ c.requires c.byte_at.ensures c.byte_at-2.ensures
