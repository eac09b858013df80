-- A refusal and its number say the same.
use Prim.Native.Nat.{ℕ, zero, suc, ◌≤◌}
use mathlib.Core.Path.{◌≡◌, refl, ap, sym, ◌∙◌}
use native.Mathlib.Omega.{arith}
use Rattle.model.specs.declared.refusal.Refusal.{Refusal}
use Rattle.model.specs.declared.refusal.Refusal.TheVariants as refusal
use Rattle.model.specs.Refusal.{number, named}

pub named_number : (r : Refusal) → named (number r) ≡ r
unfolding number named
named_number refusal.Line = refl
named_number refusal.Kind = refl
named_number refusal.Edition = refl
named_number refusal.Counts = refl
named_number refusal.DelayJobs = refl
named_number refusal.Weight = refl
named_number refusal.Missing = refl
named_number refusal.Trailing = refl
named_number refusal.Clashes = refl
named_number refusal.Unmet = refl
named_number refusal.Budget = refl
named_number refusal.Unsound = refl
named_number refusal.ShortList = refl
named_number refusal.Total = refl
named_number refusal.Unended = refl
named_number refusal.ShortBuffer = refl
named_number refusal.PlanText = refl
named_number refusal.PlanJobs = refl
named_number refusal.PlanWrong = refl
named_number refusal.Window = refl
named_number refusal.Rest = refl

pub number_named : (k : ℕ) → 1 ≤ k → k ≤ 21 → number (named k) ≡ k
unfolding number named
number_named zero h g = absurd (omega arith)
number_named (suc zero) h g = refl
number_named (suc (suc zero)) h g = refl
number_named (suc (suc (suc zero))) h g = refl
number_named (suc (suc (suc (suc zero)))) h g = refl
number_named (suc (suc (suc (suc (suc zero))))) h g = refl
number_named (suc (suc (suc (suc (suc (suc zero)))))) h g = refl
number_named (suc (suc (suc (suc (suc (suc (suc zero))))))) h g = refl
number_named (suc (suc (suc (suc (suc (suc (suc (suc zero)))))))) h g = refl
number_named (suc (suc (suc (suc (suc (suc (suc (suc (suc zero))))))))) h g = refl
number_named (suc (suc (suc (suc (suc (suc (suc (suc (suc (suc zero)))))))))) h g = refl
number_named (suc (suc (suc (suc (suc (suc (suc (suc (suc (suc (suc zero))))))))))) h g = refl
number_named (suc (suc (suc (suc (suc (suc (suc (suc (suc (suc (suc (suc zero)))))))))))) h g = refl
number_named (suc (suc (suc (suc (suc (suc (suc (suc (suc (suc (suc (suc (suc zero))))))))))))) h g = refl
number_named (suc (suc (suc (suc (suc (suc (suc (suc (suc (suc (suc (suc (suc (suc zero)))))))))))))) h g = refl
number_named (suc (suc (suc (suc (suc (suc (suc (suc (suc (suc (suc (suc (suc (suc (suc zero))))))))))))))) h g = refl
number_named (suc (suc (suc (suc (suc (suc (suc (suc (suc (suc (suc (suc (suc (suc (suc (suc zero)))))))))))))))) h g = refl
number_named (suc (suc (suc (suc (suc (suc (suc (suc (suc (suc (suc (suc (suc (suc (suc (suc (suc zero))))))))))))))))) h g = refl
number_named (suc (suc (suc (suc (suc (suc (suc (suc (suc (suc (suc (suc (suc (suc (suc (suc (suc (suc zero)))))))))))))))))) h g = refl
number_named (suc (suc (suc (suc (suc (suc (suc (suc (suc (suc (suc (suc (suc (suc (suc (suc (suc (suc (suc zero))))))))))))))))))) h g = refl
number_named (suc (suc (suc (suc (suc (suc (suc (suc (suc (suc (suc (suc (suc (suc (suc (suc (suc (suc (suc (suc zero)))))))))))))))))))) h g = refl
number_named (suc (suc (suc (suc (suc (suc (suc (suc (suc (suc (suc (suc (suc (suc (suc (suc (suc (suc (suc (suc (suc zero))))))))))))))))))))) h g = refl
number_named (suc (suc (suc (suc (suc (suc (suc (suc (suc (suc (suc (suc (suc (suc (suc (suc (suc (suc (suc (suc (suc (suc k)))))))))))))))))))))) h g = absurd (omega arith)

-- no two refusals have one number
pub number_one : (r r' : Refusal) → number r ≡ number r' → r ≡ r'
number_one r r' e = sym (named_number r) ∙ ap named e ∙ named_number r'
