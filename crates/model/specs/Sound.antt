-- Which records are sound. A record may come from anywhere; only what 01 and 02 name is looked at.
use Rattle.std.specs.Prelude.{ℕ, Bool, true, ◌&&◌, ◌||◌, not, List, [], ◌∷◌, map, length, drop, leb, ltb, eqb}
use Rattle.model.specs.declared.Batch.{Batch}
use Rattle.model.specs.declared.Turn.{Turn}
use Rattle.model.specs.Best.{Best}
use Rattle.std.specs.Prelude.{None, Some}
use Rattle.model.specs.declared.Search.{Search}
use Rattle.model.specs.Common.{all, any, count, is_empty}
use Rattle.model.specs.Limits.{stations, most_start, most_latency, most_total}
use Rattle.model.specs.Batch.{ticks, delays_of}
use Rattle.model.specs.Plan.{start}
use Rattle.model.specs.Clash.{clashes}
use Rattle.model.specs.Search.{turns_of, is_turn}
use Rattle.model.specs.Window.{window_ok}
use Rattle.model.specs.Rest.{rest_ok}
use Rattle.model.specs.Format.{further_of, has_none}
use Rattle.model.specs.Open.{counts_ok, ticks_ok, jobs_ok, weight_ok, few_clashes, delays_met}

-- its edition is 01, which has no further lines, or 02
unfoldable pub sound_edition : Batch → Bool
sound_edition b = eqb b.edition 2 || (eqb b.edition 1 && has_none (further_of b))

-- its further lines, kind by kind, keep their limits, and what has no line is as it is without one
unfoldable pub sound_further : Batch → Bool
sound_further b = all (window_ok b) (count 0 b.n) && all (rest_ok b) (count 0 stations)

-- its batch passes 4, 5, 6, 9 and 10, and its edition and further lines are sound
unfoldable pub sound_batch : Batch → Bool
sound_batch b =
    counts_ok b.n b.m && all (λ i. ticks_ok (ticks b i)) (count 0 b.n) && sound_edition b && sound_further b
    && all (jobs_ok b.n) (delays_of b) && all weight_ok (delays_of b) && few_clashes b && delays_met b

unfoldable pub distinct : List ℕ → Bool
distinct [] = true
distinct (x ∷ xs) = not (any (eqb x) xs) && distinct xs

-- its path names listed clashes with sides 0 or 1, no two turns the same clash
unfoldable pub sound_turns : ℕ → List Turn → Bool
sound_turns D ts = all (λ t. ltb t.clash D && leb t.side 1) ts && distinct (map (λ t. t.clash) ts)

-- with empty places only after the last turn, and no turn at all if ended
unfoldable pub sound_path : Search → Bool
sound_path s =
    let turns = turns_of s.path in
    sound_turns (length (clashes s.batch)) turns && all (λ t. not (is_turn t)) (drop (length turns) s.path)
    && (not s.ended || is_empty turns)

-- best has starts up to 43,000 and latency up to 43,016
unfoldable pub sound_best : ℕ → Best → List ℕ → Bool
sound_best n None starts = true
sound_best n (Some l) starts = leb l most_latency && all (λ i. leb (start starts i) most_start) (count 0 n)

-- total is at most 100,000,000
unfoldable pub sound : Search → Bool
sound s =
    sound_batch s.batch && sound_path s && leb s.total most_total
    && sound_best s.batch.n s.best s.starts
