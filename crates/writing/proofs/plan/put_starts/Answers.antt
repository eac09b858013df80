-- Each turn of `put_starts` puts one start line behind those before it.
use Prim.Native.Nat.{◌<◌}
use mathlib.Core.Path.{◌≡◌, ap}
use native.Mathlib.Omega.{arith}
use borrow.Author.Rules.{rules}
use lib.ListN.{length}
use lib.Seq.{length-take-le}
use Rattle.std.proofs.lemmas.List.{get_or-take}
use Rattle.model.specs.Plan.{start}
use Rattle.frame_put.proofs.Pieces.{filled_none, filled_more, filled_all}
use Rattle.frame_put.proofs.Lengths.{start_length}
use Rattle.writing.proofs.Texts.{starts_text, starts_size}
use Rattle.writing.proofs.plan.put_starts.Goals as goal

pub loop-i-init : goal.loop-i-init
loop-i-init c = filled_none _ _ _

pub put_start-next-requires : goal.put_start-next-requires
put_start-next-requires c = let starts = c.args.starts in
    let all : length starts ≡ 24 = search rules in
    omega (arith, starts_size starts c.loop-i.i, length-take-le c.from-jobs.result starts (omega arith))

pub loop-i-preserved : goal.loop-i-preserved
unfolding start
loop-i-preserved c = let n = c.args.n in
    let starts = c.args.starts in
    let all : length starts ≡ 24 = search rules in
    let less : c.loop-i.i < c.from-jobs.result = omega (arith, length-take-le c.from-jobs.result starts (omega arith)) in
    let put = rw (get_or-take c.from-jobs.result starts c.loop-i.i _ less) at c.put_start-next.ensures in
    filled_more _ _ _ n (omega (arith, starts_size starts n)) c.loop-i.invariant (omega arith)
    (start_length _ _)
    put.0
    put.1

pub shape_of-buffer : goal.shape_of-buffer
shape_of-buffer c = c.loop-i.invariant.same_length

pub returns : goal.returns
returns c = let n = c.args.n in
    let starts = c.args.starts in
    let all_starts : length starts ≡ 24 = search rules in
    let end : c.loop-i.i ≡ n = omega (arith, length-take-le c.from-jobs.result starts (omega arith)) in
    let all = filled_all _ _ _ n _ c.loop-i.invariant end (starts_text n starts) in
    (omega (arith, all.0, starts_size starts n, ap length (starts_text n starts)), all.1)
