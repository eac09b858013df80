-- Each turn of `put_delays` puts one delay line behind those before it.
use Prim.Native.Nat.{◌<◌}
use mathlib.Core.Path.{◌≡◌, ap}
use native.Mathlib.Omega.{arith}
use lib.ListN.{length}
use lib.Seq.{length-take-le}
use Rattle.std.proofs.lemmas.List.{get_or-take}
use Rattle.model.specs.Batch.{delay_of, blank_delay}
use Rattle.frame_put.proofs.Pieces.{filled_none, filled_more, filled_all}
use Rattle.frame_put.proofs.Lengths.{delay_length}
use Rattle.writing.proofs.Texts.{delays_text, delays_size}
use Rattle.writing.proofs.batch.put_delays.Goals as goal

pub loop-delay-init : goal.loop-delay-init
loop-delay-init c = filled_none _ _ _

-- there is room for a line
pub put_delay-next-requires : goal.put_delay-next-requires
put_delay-next-requires c = let batch = c.args.batch in
    let i = c.loop-delay.delay-index in
    let all : length batch.delays ≡ 128 = c.well_formed.1.1.0.1.1.1.1.1.1.0.1.0.1 in
    omega (arith, delays_size (delay_of batch) i, length-take-le c.from-m.result batch.delays (omega arith))

-- one line more
pub loop-delay-preserved : goal.loop-delay-preserved
unfolding delay_of blank_delay
loop-delay-preserved c = let batch = c.args.batch in
    let i = c.loop-delay.delay-index in
    let all : length batch.delays ≡ 128 = c.well_formed.1.1.0.1.1.1.1.1.1.0.1.0.1 in
    let less : i < c.from-m.result = omega (arith, length-take-le c.from-m.result batch.delays (omega arith)) in
    let put = rw (get_or-take c.from-m.result batch.delays i _ less) at c.put_delay-next.ensures in
    filled_more _ _ _ batch.m (omega (arith, delays_size (delay_of batch) batch.m)) c.loop-delay.invariant (omega arith)
    (delay_length _)
    put.0
    put.1

pub shape_of-buffer : goal.shape_of-buffer
shape_of-buffer c = c.loop-delay.invariant.same_length

-- all of them
pub returns : goal.returns
returns c = let batch = c.args.batch in
    let all : length batch.delays ≡ 128 = c.well_formed.1.1.0.1.1.1.1.1.1.0.1.0.1 in
    let done = filled_all _ _ _ batch.m _ c.loop-delay.invariant (omega (arith, length-take-le c.from-m.result batch.delays (omega arith))) (delays_text batch) in
    (omega (arith, done.0, delays_size (delay_of batch) batch.m, ap length (delays_text batch)), done.1)
