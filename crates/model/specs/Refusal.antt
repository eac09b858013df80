-- The number that 01 and 02 give each refusal, the refusal that has a number, and what is answered as the outcome that it stands for.
use Rattle.std.specs.Prelude.{ℕ, ◌-◌, List, [], ◌∷◌, get_or, Result, Ok, Err}
use Rattle.model.specs.declared.refusal.Refusal.{Refusal}
use Rattle.model.specs.declared.refusal.Refusal.TheVariants as refusal
use Rattle.model.specs.Common.{Outcome, refuse, accept}

unfoldable pub number : Refusal → ℕ
number refusal.Line = 1
number refusal.Kind = 2
number refusal.Edition = 3
number refusal.Counts = 4
number refusal.DelayJobs = 5
number refusal.Weight = 6
number refusal.Missing = 7
number refusal.Trailing = 8
number refusal.Clashes = 9
number refusal.Unmet = 10
number refusal.Budget = 11
number refusal.Unsound = 12
number refusal.ShortList = 13
number refusal.Total = 14
number refusal.Unended = 15
number refusal.ShortBuffer = 16
number refusal.PlanText = 17
number refusal.PlanJobs = 18
number refusal.PlanWrong = 19
number refusal.Window = 20
number refusal.Rest = 21

-- by their numbers
abbrev pub refusals : List Refusal
refusals =
    refusal.Line ∷ refusal.Kind ∷ refusal.Edition ∷ refusal.Counts ∷ refusal.DelayJobs ∷ refusal.Weight ∷ refusal.Missing ∷ refusal.Trailing ∷ refusal.Clashes ∷ refusal.Unmet
    ∷ refusal.Budget ∷ refusal.Unsound ∷ refusal.ShortList ∷ refusal.Total ∷ refusal.Unended ∷ refusal.ShortBuffer ∷ refusal.PlanText ∷ refusal.PlanJobs ∷ refusal.PlanWrong
    ∷ refusal.Window ∷ refusal.Rest ∷ []

-- 01 and 02 give no other number
unfoldable pub named : ℕ → Refusal
named k = get_or refusals (k - 1) refusal.Line

unfoldable pub told : {A : Type 0} → Result A Refusal → Outcome A
told (Ok a) = accept a
told (Err r) = refuse (number r)

-- what writing answers: the number of bytes; and judging a plan text
abbrev pub Written : Type 0
Written = Result ℕ Refusal

abbrev pub Judgement : Type 0
Judgement = Result (Unit {0}) Refusal
