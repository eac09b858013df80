-- The search (branch and bound, depth first): its state, one node, going back, and N.
use Rattle.std.specs.Prelude.{ℕ, zero, suc, ◌+◌, ◌-◌, ◌^◌, Bool, true, false, ◌&&◌, not, List, [], ◌∷◌, ◌++◌, map, ◌≡◌, get_or, replicate, length, pos, ◌+ℤ◌, ◌-ℤ◌, leb, eqb, if◌then◌else◌}
use Rattle.std.proofs.Math.Option.{Option, none, some}
use Rattle.std.proofs.Math.IntN.{sub_ℕ}
use Rattle.model.specs.declared.Delay.{Delay}
use Rattle.model.specs.declared.Batch.{Batch}
use Rattle.model.specs.declared.Turn.{Turn}
use Rattle.model.specs.Best.{Best}
use Rattle.std.specs.Prelude.{None, Some}
use Rattle.model.specs.declared.Search.{Search}
use Rattle.model.specs.Common.{up_to, pad, eq_z}
use Rattle.model.specs.Limits.{most_jobs, most_clashes}
use Rattle.model.specs.Batch.{delays_of, earliest_starts, latest_starts}
use Rattle.model.specs.Plan.{start, latency}
use Rattle.model.specs.Clash.{Clash, clashes}
use Rattle.model.specs.Starts.{least_starts}

-- ---- state: a path of turns, best with its starts (the incumbent), and whether the search has ended

pub record Incumbent : Type 0 where
  pub best : Best
  pub starts : List ℕ

pub record Place : Type 0 where
  pub turns : List Turn
  pub incumbent : Incumbent
  pub ended : Bool

-- ---- turns: branching decisions on clashes of a list

unfoldable pub no_clash : Clash
no_clash = record { i = 0; j = 0; d = pos 0 }

-- t_j − t_i ≥ d + 1 on side 0, t_i − t_j ≥ 1 − d on side 1
unfoldable pub side_of : Clash → ℕ → Delay
side_of c zero = record { from = c.i; to = c.j; weight = c.d +ℤ pos 1 }
side_of c (suc k) = record { from = c.j; to = c.i; weight = pos 1 -ℤ c.d }

unfoldable pub turned : List Clash → Turn → Delay
turned cs t = side_of (get_or cs t.clash no_clash) t.side

-- the delays and, for each turn, its inequality
unfoldable pub inequalities : List Clash → Batch → List Turn → List Delay
inequalities cs b ts = delays_of b ++ map (turned cs) ts

unfoldable pub starts_at : List Clash → Batch → List Turn → Option (List ℕ)
starts_at cs b ts = least_starts (earliest_starts b) (latest_starts b) (inequalities cs b ts)

-- t_j − t_i = d
unfoldable pub met : List ℕ → Clash → Bool
met ts c = eq_z (sub_ℕ (start ts c.j) (start ts c.i)) c.d

-- the number of the first clash that is met, the list's first having number k
unfoldable pub first_met : List Clash → List ℕ → ℕ → Option ℕ
first_met [] ts k = none
first_met (c ∷ cs) ts k = elim (met ts c) [ true ↦ some k | false ↦ first_met cs ts (suc k) ]

-- ---- going back (backtracking)

-- what a turn goes on to: side 1 after side 0, nothing after side 1
unfoldable pub next_side : Turn → Option Turn
next_side t = if eqb t.side 0 then some (record { clash = t.clash; side = 1 }) else none

-- a turn before what is left of the turns after it, or moved on where nothing is left
unfoldable pub moved_on : Turn → Option (List Turn) → Option Turn → Option (List Turn)
moved_on t (some us) o = some (t ∷ us)
moved_on t none (some u) = some (u ∷ [])
moved_on t none none = none

-- drop turns of side 1 from the end, then set the last turn to side 1; none if none is left
unfoldable pub turned_back : List Turn → Option (List Turn)
turned_back [] = none
turned_back (t ∷ ts) = moved_on t (turned_back ts) (next_side t)

-- if none is left, ended
unfoldable pub back_to : Incumbent → Option (List Turn) → Place
back_to found (some ts) = record { turns = ts; incumbent = found; ended = false }
back_to found none = record { turns = []; incumbent = found; ended = true }

unfoldable pub back : List Turn → Incumbent → Place
back ts found = back_to found (turned_back ts)

-- ---- one node

-- best exists, and the latency is at or above best's
unfoldable pub prunes : Best → ℕ → Bool
prunes None l = false
prunes (Some k) l = leb k l

unfoldable pub become_best : Batch → List ℕ → Incumbent
become_best b ss = record { best = Some (latency b ss); starts = pad most_jobs 0 ss }

-- the first clash that is met is appended with side 0; if none is, the starts become best, and the search goes back
unfoldable pub branch : Batch → Place → List ℕ → Option ℕ → Place
branch b p ss (some k) =
    record { turns = p.turns ++ (record { clash = k; side = 0 } ∷ []); incumbent = p.incumbent; ended = false }
branch b p ss none = back p.turns (become_best b ss)

-- no least starts, or a latency at or above best's: back
unfoldable pub visit : List Clash → Batch → Place → Option (List ℕ) → Place
visit cs b p none = back p.turns p.incumbent
visit cs b p (some ss) =
    if prunes p.incumbent.best (latency b ss) then back p.turns p.incumbent
    else branch b p ss (first_met cs ss 0)

unfoldable pub next : List Clash → Batch → Place → Place
next cs b p = visit cs b p (starts_at cs b p.turns)

-- ---- the record, whose path is an array of 1,024 places

unfoldable pub empty : Turn
empty = record { clash = 65535; side = 0 }

unfoldable pub is_turn : Turn → Bool
is_turn t = not (eqb t.clash 65535 && eqb t.side 0)

unfoldable pub turns_of : List Turn → List Turn
turns_of path = up_to is_turn path

unfoldable pub place_of : Search → Place
place_of s =
    record { turns = turns_of s.path; incumbent = record { best = s.best; starts = s.starts }; ended = s.ended }

unfoldable pub search_of : Batch → ℕ → Place → Search
search_of b total p =
    record {
      batch = b;
      path = pad most_clashes empty p.turns;
      best = p.incumbent.best;
      starts = p.incumbent.starts;
      total = total;
      ended = p.ended;
    }

unfoldable pub fresh_place : Place
fresh_place = record { turns = []; incumbent = record { best = None; starts = replicate most_jobs 0 }; ended = false }

-- a path of 1,024 turns, all empty; no best, total 0, not ended
unfoldable pub fresh_search : Batch → Search
fresh_search b = search_of b 0 fresh_place

-- one node of the record: add 1 to total
unfoldable pub node : List Clash → Search → Search
node cs s = search_of s.batch (s.total + 1) (next cs s.batch (place_of s))

-- nodes until ended or k are visited. The clashes are worked out once
unfoldable pub nodes_on : List Clash → ℕ → Search → Search
nodes_on cs zero s = s
nodes_on cs (suc k) s = elim s.ended [ true ↦ s | false ↦ nodes_on cs k (node cs s) ]

unfoldable pub nodes : ℕ → Search → Search
nodes k s = nodes_on (clashes s.batch) k s

-- ---- N: the total at which a fresh search has ended, with no budget and no limit

pub record Ends (b : Batch) (N : ℕ) : Type 0 where
  pub ended : (nodes N (fresh_search b)).ended ≡ true
  pub total : (nodes N (fresh_search b)).total ≡ N

-- 2^(D+1) − 1
unfoldable pub node_limit : Batch → ℕ
node_limit b = 2 ^ suc (length (clashes b)) - 1
