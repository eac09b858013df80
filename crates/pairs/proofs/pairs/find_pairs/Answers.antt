-- `pairs::find_pairs` meets its contract. The invariant: the pairs of the first k codes.
use mathlib.Core.Path.{refl}
use borrow.Author.Rules.{rules}
use Rattle.pairs.proofs.PairedLaws.{pairing_none, Opened, open_same, open_new, stored}
use Rattle.pairs.proofs.pairs.find_pairs.Goals as goal
use Rattle.pairs.proofs.pairs.find_pairs.Goals.{then-pairs-eq0+else-pairs-eq276, else-pairs-eq0+else-pairs-jobs}

pub loop-k-init : goal.loop-k-init
loop-k-init c = pairing_none _ _ c.requires.room

-- one code more: where the branches meet, code k is of the last pair
pub loop-k-preserved : goal.loop-k-preserved
loop-k-preserved c =
    let g = c.loop-k.invariant in
    let j = c.requires.known.each c.loop-k.k (search rules) in
    let opened : Opened c.args.codes.now c.if-pairs-eq0.pairs c.loop-k.k =
    elim c.if-pairs-eq0.branch [
      | then-pairs-eq0+else-pairs-eq276 w ↦ open_new _ _ _ g j w.if-pairs-eq276.false w.pairs-is
      | else-pairs-eq0+else-pairs-jobs w ↦ open_same _ _ _ g (search rules) w.if-pairs-jobs.false w.pairs-is
    ] in
    stored _ _ _ _ opened (c.requires.near.each _ (search rules)) refl
