-- `rests_length` has 7 bytes for each station that rests.
use mathlib.Core.Path.{◌≡◌, ap, ◌∙◌}
use Prim.Native.Nat.{ℕ, ◌*◌}
use native.Mathlib.Omega.{arith}
use borrow.Author.Rules.{rules}
use lib.ListN.{length}
use Rattle.further_put.proofs.Texts.{rests_size, rests_most}
use Rattle.further_put.proofs.rests.rests_length.Goals as goal

pub overflow_mul-result : goal.overflow_mul-result
overflow_mul-result c = let all : length c.args.batch.rests ≡ 16 = search rules in
    record { fits = omega (arith, c.resting.ensures, rests_most c.args.batch all) }

pub returns : goal.returns
returns c = let all : length c.args.batch.rests ≡ 16 = search rules in
    let most = rests_most c.args.batch all in
    (ap (λ (k : ℕ). 7 * k) c.resting.ensures ∙ rests_size c.args.batch all, omega (arith, c.resting.ensures, most))
