-- `run::advance` meets its contract: the kit and the trail stand for the record's batch and place, and the nodes lead from it.
use mathlib.Core.Path.{◌≡◌, ◌∙◌}
use borrow.Author.Rules.{rules}
use lib.ListN.{length}
use Rattle.pairs.proofs.PairedLaws.{room_new}
use Rattle.node.proofs.StepsLaws.{steps_none}
use Rattle.search.proofs.AdvanceLaws.{first_placed, first_paired, first_times, first_path, first_coded, first_works, advanced}
use Rattle.search.proofs.run.advance.Goals as goal

pub heaviest_of-weights-requires : goal.heaviest_of-weights-requires
heaviest_of-weights-requires c = let p = first_placed c.args.search c.args.examined c.requires.search_value.0 c.requires.prepared _ c.from-m.ensures in record { m_bound = p.0; placed = p.1 }

-- the stays and the earliest starts are those of a sound record's jobs
pub raised_latency-requires : goal.raised_latency-requires
raised_latency-requires c = first_times c.args.search c.args.examined c.requires.search_value.0 c.requires.prepared

pub find_pairs-requires : goal.find_pairs-requires
find_pairs-requires c = let p = first_paired c.args.search c.args.examined c.requires.search_value.0 c.requires.prepared _ c.taken_by_pairs-paired.ensures in record { count_bound = p.0; known = p.1.0; near = p.1.1; room = room_new _ }

pub store_turns-requires : goal.store_turns-requires
store_turns-requires c = let l : length c.args.examined.route.turns ≡ 1024 = search rules in record {
  path = (
    first_path c.args.search c.args.examined c.requires.search_value.0 c.requires.search_value.1 c.requires.prepared l,
    first_coded c.args.search c.args.examined c.requires.search_value.0 c.requires.search_value.1 c.requires.prepared l,
  );
  none_yet = steps_none _ _;
}

pub visit_nodes-walked-requires : goal.visit_nodes-walked-requires
visit_nodes-walked-requires c = let l : length c.args.examined.route.turns ≡ 1024 = search rules in
    let f = first_works c.args.search c.args.examined c.requires.search_value.0 c.requires.search_value.1 c.requires.prepared l _ _ _ _ _ _ _ c.from.ensures c.from-m.ensures c.raised_latency.ensures
    c.heaviest_of-weights.ensures c.taken_by_pairs-paired.ensures c.find_pairs.ensures c.store_turns.ensures in
    record { left_bound = c.requires.budget_bound; ready = (_, f) }

pub rebuilt-requires : goal.rebuilt-requires
rebuilt-requires c = let l : length c.args.examined.route.turns ≡ 1024 = search rules in
    let f = first_works c.args.search c.args.examined c.requires.search_value.0 c.requires.search_value.1 c.requires.prepared l _ _ _ _ _ _ _ c.from.ensures c.from-m.ensures c.raised_latency.ensures
    c.heaviest_of-weights.ensures c.taken_by_pairs-paired.ensures c.find_pairs.ensures c.store_turns.ensures in
    (c.visit_nodes-walked.ensures _ f).1.deep

pub returns : goal.returns
returns c = let l : length c.args.examined.route.turns ≡ 1024 = search rules in
    let f = first_works c.args.search c.args.examined c.requires.search_value.0 c.requires.search_value.1 c.requires.prepared l _ _ _ _ _ _ _ c.from.ensures c.from-m.ensures c.raised_latency.ensures
    c.heaviest_of-weights.ensures c.taken_by_pairs-paired.ensures c.find_pairs.ensures c.store_turns.ensures in
    let k : length c.args.search.path ≡ 1024 = search rules in
    advanced c.args.search c.args.examined c.requires.search_value.0 c.requires.search_value.1 c.requires.prepared l _ k _ (c.rebuilt.ensures ∙ (c.visit_nodes-walked.ensures _ f).0)
