-- The first byte's digits stand at the frame's place.
use Prim.Native.Nat.{◌+◌, ◌*◌}
use mathlib.Core.Path.{◌≡◌, ap, ◌∙◌}
use native.Mathlib.Omega.{arith}
use Rattle.lines.specs.Read.{byte_at}
use Rattle.frame_read.proofs.Bytes.{size_is, byte_is}
use Rattle.frame_read.proofs.frame.Frame.kind.Goals as goal

pub returns : goal.returns
returns c =
    let n = size_is _ _ _ c.self.view_is in
    let first : c.self.inside.at ≡ c.self.inside.at + 2 * 0 = omega arith in
    byte_is _ _ _ c.self.view_is 0 (omega arith) (c.byte_at.ensures ∙ ap (byte_at c.self.inside.file.now) first)
