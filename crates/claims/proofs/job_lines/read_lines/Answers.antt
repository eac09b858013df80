-- `job_lines::read_lines` reads one line a turn, so that what is still to be read, behind the lines so far, stays what the whole reading gives.
use native.Mathlib.Omega.{arith}
use mathlib.Core.Path.{◌∙◌}
use Rattle.claims.specs.Claim.{ReadsJob}
use Rattle.claims.proofs.LinesLaws.{read_start, read_more, read_stop, read_all}
use Rattle.claims.proofs.job_lines.read_lines.Goals as goal

pub loop-place-init : goal.loop-place-init
loop-place-init c = read_start _ _ c.requires

-- no B1 line
pub returns-in_err-line : goal.returns-in_err-line
unfolding ReadsJob
returns-in_err-line c = let (k, e) = c.in_err-line.ensures in
    c.from_residual.ensures ∙ read_stop _ _ _ _ _ _ c.loop-place.invariant c.loop-place-test.true k e

pub loop-place-smaller : goal.loop-place-smaller
unfolding ReadsJob
loop-place-smaller c = let (h, g, e) = c.in_ok-line.ensures in omega (arith, h, g)

-- one line more
pub loop-place-preserved : goal.loop-place-preserved
unfolding ReadsJob
loop-place-preserved c = let (h, g, e) = c.in_ok-line.ensures in
    rw (c.in_order-ordered.ensures, c.store.ensures) (read_more _ _ _ _ _ _ c.loop-place.invariant _ _ _ h g e)

pub returns : goal.returns
returns c = read_all _ _ _ _ _ _ c.loop-place.invariant c.loop-place-test.false
