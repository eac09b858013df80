-- What a caller knows of a step by its answer: `Ok` stands for what is accepted, and `Err` for a refusal with its number.
use mathlib.Core.Path.{◌≡◌, sym}
use Rattle.std.specs.Prelude.{Ok, Err}
use Rattle.model.specs.declared.refusal.Refusal.{Refusal}
use Rattle.model.specs.Common.{Outcome, refuse, accept}
use Rattle.model.specs.Refusal.{number, told}

pub told_ok : {A : Type 0} {a : A} {o : Outcome A} → told (Ok a) ≡ o → o ≡ accept a
unfolding told
told_ok e = sym e

pub told_err : {A : Type 0} (r : Refusal) {o : Outcome A} → told (Err r) ≡ o → o ≡ refuse (number r)
unfolding told
told_err r e = sym e
