-- The turns' inequalities beside the turns: one more, and those that stay when turns are dropped.
use Prim.Native.Nat.{ℕ, ◌+◌, ◌/◌, ◌≤◌, ◌<◌}
use mathlib.Core.Path.{◌≡◌, ◌∙◌}
use mathlib.Core.List.{List}
use native.Mathlib.Omega.{arith}
use native.Mathlib.Decide.{ℕ_discrete}
use lib.ListN.{get_or, set, replicate, length-set, length-replicate}
use lib.Seq.{get_or-set_same, get_or-set_other}
use Rattle.weights.specs.declared.Inequality.{Inequality}
use Rattle.weights.specs.Inequality.{blank_inequality, nth}
use Rattle.weights.specs.Turn.{turn_inequality}
use Rattle.node.specs.Walk.{Steps}

-- one more, where the turn and its clash's number are what the code has read
pub steps_more : (codes turns : List ℕ) (w : List Inequality) (d c x : ℕ) (v : Inequality) → Steps codes turns d w → d < 1024 → x ≡ get_or turns d 0 → c ≡ x / 2
    → v ≡ turn_inequality (get_or codes c 0) x → Steps codes turns (d + 1) (set w d v)
steps_more codes turns w d c x v s h p q e = record { long = length-set w d v ∙ s.long; each = λ k l. go k l (ℕ_discrete k d) }
  where
    go : (k : ℕ) → k < d + 1 → Dec (k ≡ d) → nth (set w d v) k ≡ turn_inequality (get_or codes (get_or turns k 0 / 2) 0) (get_or turns k 0)
    go k l (yes z) = rw (z, get_or-set_same w d v blank_inequality (omega (arith, s.long)), e, q, p)
    go k l (no z) = get_or-set_other w d k v blank_inequality z ∙ s.each k (omega arith)

-- none yet
pub steps_none : (codes turns : List ℕ) → Steps codes turns 0 (replicate 1024 blank_inequality)
steps_none codes turns = record { long = length-replicate 1024 blank_inequality; each = λ k l. absurd (omega arith) }

-- fewer of them, of turns that are the same so far
pub steps_less : (codes turns turns' : List ℕ) (w : List Inequality) (d e : ℕ) → Steps codes turns d w → e ≤ d → ((k : ℕ) → k < e → get_or turns' k 0 ≡ get_or turns k 0) → Steps codes turns' e w
steps_less codes turns turns' w d e s h same = record { long = s.long; each = λ k l. rw (same k l) (s.each k (omega arith)) }
