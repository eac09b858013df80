-- The number's two bytes.
use Prim.Native.Nat.{ℕ}
use mathlib.Core.Path.{◌≡◌, ap, ap₂, ◌∙◌}
use mathlib.Core.List.{List, [], ◌∷◌}
use native.Mathlib.Omega.{arith}
use lib.ListN.{length}
use Rattle.model.specs.Line.{digits_of, two}
use Rattle.lines.specs.Write.{overwritten}
use Rattle.lines.proofs.write.put_two.Goals as goal

pub returns : goal.returns
unfolding two
returns c =
    let bytes : c.to_be_bytes.result ≡ two c.args.number = c.to_be_bytes.ensures ∙ ap₂ (λ (x y : ℕ). x ∷ y ∷ []) (omega arith) (omega arith) in
    (omega (arith, c.put_bytes.ensures.0, ap length bytes), c.put_bytes.ensures.1 ∙ ap (λ (s : List ℕ). overwritten c.args.buffer.now c.args.at (digits_of s)) bytes)
