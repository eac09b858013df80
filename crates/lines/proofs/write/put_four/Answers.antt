-- The number's four bytes.
use Prim.Native.Nat.{ℕ}
use mathlib.Core.Path.{◌≡◌, ap, ◌∙◌}
use mathlib.Core.List.{List, [], ◌∷◌}
use native.Mathlib.Omega.{arith}
use lib.ListN.{length}
use Rattle.model.specs.Line.{digits_of, two, four}
use Rattle.lines.specs.Write.{overwritten}
use Rattle.lines.proofs.write.put_four.Goals as goal

same_four : {l : List ℕ} {a b c d a' b' c' d' : ℕ} → l ≡ a ∷ b ∷ c ∷ d ∷ [] → a ≡ a' → b ≡ b' → c ≡ c' → d ≡ d' → l ≡ a' ∷ b' ∷ c' ∷ d' ∷ []
same_four e p q r s = cc

pub returns : goal.returns
unfolding two four
returns c =
    let bytes : c.to_be_bytes.result ≡ four c.args.number = same_four c.to_be_bytes.ensures (omega arith) (omega arith) (omega arith) (omega arith) in
    (omega (arith, c.put_bytes.ensures.0, ap length bytes), c.put_bytes.ensures.1 ∙ ap (λ (s : List ℕ). overwritten c.args.buffer.now c.args.at (digits_of s)) bytes)
