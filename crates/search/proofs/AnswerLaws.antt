-- Starts copied to the front of a list one by one, and the answer by cases of the record.
use Prim.Native.Nat.{ℕ, suc, ◌+◌, ◌<◌}
use mathlib.Core.Path.{◌≡◌, refl, ap, sym, ◌∙◌}
use mathlib.Core.Bool.{Bool, true, false}
use mathlib.Core.List.{List, ◌++◌}
use native.Mathlib.Omega.{arith}
use native.Mathlib.Numerals.{add-one}
use lib.ListN.{length, get_or, set, take, drop}
use lib.Seq.{paste-suc}
use Rattle.model.specs.Best.{Best}
use Rattle.std.specs.Prelude.{None, Some}
use Rattle.model.specs.declared.Answer.{Answer}
use Rattle.model.specs.declared.Answer.TheVariants.{Spent, Plan, NoPlan}
use Rattle.model.specs.Run.{answer_of, starts_after}

-- one start more
pub give_more : (starts old list : List ℕ) (k : ℕ) → k < length starts → k < length old → list ≡ take k starts ++ drop k old → set list k (get_or starts k 0) ≡ take (k + 1) starts ++ drop (k + 1) old
give_more starts old list k h g e =
    let z : 0 + k ≡ k = omega arith in
    let s : 0 + suc k ≡ suc k = omega arith in
    rw (e, add-one k)
    (ap (λ (i : ℕ). set (take k starts ++ drop i old) i (get_or starts k 0)) (sym z) ∙ paste-suc old 0 starts k 0 (omega arith) h ∙ ap (λ (i : ℕ). take (suc k) starts ++ drop i old) s)

-- what the answer is, and what it leaves in the list
abbrev pub Told : Bool → Best → ℕ → ℕ → List ℕ → List ℕ → Answer → List ℕ → Type 0
Told ended best total n starts list answer list' = (answer ≡ answer_of ended best total) × (list' ≡ starts_after answer n starts list)

module _ (total n : ℕ) (starts list : List ℕ) where
  pub told_spent : (ended : Bool) (best : Best) → ended ≡ false → Told ended best total n starts list (Spent total) list
  unfolding answer_of starts_after
  told_spent ended best e = (ap (λ (p : Bool). answer_of p best total) (sym e), refl)

  pub told_none : (ended : Bool) (best : Best) → ended ≡ true → best ≡ None → Told ended best total n starts list (NoPlan total) list
  unfolding answer_of starts_after
  told_none ended best e b = (ap (λ (p : Bool). answer_of p None total) (sym e) ∙ ap (λ (x : Best). answer_of ended x total) (sym b), refl)

  pub told_plan : (ended : Bool) (best : Best) (l k : ℕ) (list' : List ℕ) → ended ≡ true → best ≡ Some l → k ≡ n → list' ≡ take k starts ++ drop k list → Told ended best total n starts list (Plan l total) list'
  unfolding answer_of starts_after
  told_plan ended best l k list' e b m g =
      (ap (λ (p : Bool). answer_of p (Some l) total) (sym e) ∙ ap (λ (x : Best). answer_of ended x total) (sym b), g ∙ ap (λ (i : ℕ). take i starts ++ drop i list) m)
