-- Empty ticks at the end of a table change nothing but the table: neither clashes nor validity, least starts, latency, any step of the search, nor
-- what a call answers.
use Rattle.std.specs.Prelude.{if◌then◌else◌}
use Prim.Native.Nat.{ℕ, zero, suc, ◌+◌, ◌-◌, ◌≤◌, ◌<◌, max}
use mathlib.Core.Path.{◌≡◌, refl, ap, ap₂, sym, ◌∙◌, subst}
use mathlib.Core.Logic.{◌↔◌}
use mathlib.Core.Bool.{Bool, true, false, ◌&&◌, ◌||◌, not}
use mathlib.Core.Option.{Option, none, some}
use mathlib.Core.List.{List, [], ◌∷◌, ◌++◌, map, foldr, Memᴰ}
use native.Mathlib.Omega.{arith}
use native.Mathlib.Decide.{dec_lt}
use lib.ListN.{get_or, length, drop}
use lib.IntN.{ℤ, sub_ℕ, ◌-ℤ◌}
use lib.Dec.{T, leb, eqb}
use Rattle.model.specs.declared.Delay.{Delay}
use Rattle.model.specs.declared.Job.{Job}
use Rattle.model.specs.declared.Turn.{Turn}
use Rattle.model.specs.declared.Batch.{Batch}
use Rattle.model.specs.declared.Search.{Search}
use Rattle.model.specs.declared.Ran.{Ran}
use Rattle.model.specs.Common.{between, count, all, keep, joined, is_empty, is_some, Outcome, refuse, accept, ◌>>=◌, require}
use Rattle.model.specs.Limits.{stations, most_clashes, most_budget, most_total}
use Rattle.model.specs.Batch.{job_of, ticks, mask, bit, delays_of, rest_of, earliest, latest, earliest_starts, latest_starts}
use Rattle.model.specs.Plan.{start, Keeps, Holds, too_close, Apart, KeepsDelays, KeepsEnds, KeepsStations, Valid, stay_in, stay, finish, latency}
use Rattle.model.specs.Padded.{Padded, in_batch}
use Rattle.model.specs.Clash.{Clash, clashing, distances, clashes_of, clashes}
use Rattle.model.specs.Starts.{same, least_starts}
use Rattle.model.specs.Search.{Place, turned, inequalities, starts_at, prunes, become_best, branch, back, first_met, visit, next, place_of, search_of, is_turn, turns_of, fresh_search, node, nodes_on, nodes, Ends}
use Rattle.model.specs.Open.{few_clashes, delays_met, read_file, open_file, opened_as, opened}
use Rattle.model.specs.Sound.{sound_batch, sound_turns, sound_path, sound_best, sound}
use Rattle.model.specs.Run.{run_refusal, ran_as, ran, answered, answer_of, starts_after}
use Rattle.model.specs.Calls.{Call, call, after}
use Rattle.model.specs.Text.{plan_lines, plan_text}
use Rattle.model.specs.Answers.{open_told}
use Rattle.model.specs.Judge.{jobs_in, starts_in, read_claim, as17, jobs_right, keeps, keeps_ends, valid, plan_right, judge_text, judge, judged_as, judged}
use Rattle.model.proofs.BoolLaws.{same_test, T_true, true_T}
use Rattle.model.proofs.ListLaws.{all_each, each_all, count_some, joined_cong}
use Rattle.model.proofs.SeqLaws.{listed_cong}
use Rattle.model.proofs.BitLaws.{bit_none}
use Rattle.model.proofs.FinishLaws.{last}
use Rattle.model.proofs.LeaveLaws.{nodes_batch, running_leaves}
use Rattle.model.proofs.ClashLaws.{Shared, clashing_shared, shared_clashing}

-- tests that agree on a list
all_cong : (f g : ℕ → Bool) (xs : List ℕ) → ((x : ℕ) → Memᴰ x xs → f x ≡ g x) → all f xs ≡ all g xs
all_cong f g xs h = same_test (all f xs) (all g xs) (λ e. each_all g xs (λ x m. sym (h x m) ∙ all_each f xs e m)) (λ e. each_all f xs (λ x m. h x m ∙ all_each g xs e m))

-- a tick of the first table that is not empty is one of the second
stay_below : (job job' : Job) (p q : ℕ) → ((a : ℕ) → a < p → (get_or job.masks a 0 ≡ 0 → ⊥) → (a < q) × (get_or job'.masks a 0 ≡ 0 → ⊥)) → stay_in job p ≤ stay_in job' q
stay_below job job' p q h = go (stay_in job p) refl
  where
    go : (k : ℕ) → stay_in job p ≡ k → stay_in job p ≤ stay_in job' q
    go zero e = omega arith
    go (suc a) e = side (h a (omega (arith, (last job p).most)) ((last job p).here a e)) (dec_lt a (stay_in job' q))
      where
        side : (a < q) × (get_or job'.masks a 0 ≡ 0 → ⊥) → Dec (a < stay_in job' q) → stay_in job p ≤ stay_in job' q
        side g (yes l) = omega arith
        side g (no l) = absurd (g.1 ((last job' q).past a g.0 (omega arith)))

module _ (b b' : Batch) (p : Padded b b') where
  -- ---- clashes

  -- a tick that is not empty is one of the shorter table
  kept : (i a : ℕ) → i < b.n → a < ticks b' i → (mask b' i a ≡ 0 → ⊥) → a < ticks b i
  kept i a h l t = go (dec_lt a (ticks b i))
    where
      go : Dec (a < ticks b i) → a < ticks b i
      go (yes g) = g
      go (no g) = absurd (t (p.added i a h (omega arith) l))

  -- what a job holds in its ticks by one batch, it holds by the other
  abbrev Moves : Batch → Batch → Type 0
  Moves c c' = (i a s : ℕ) → i < b.n → a < ticks c i → bit (mask c i a) s ≡ true → (a < ticks c' i) × (bit (mask c' i a) s ≡ true)

  -- and every station rests as long
  abbrev Rests : Batch → Batch → Type 0
  Rests c c' = (s : ℕ) → s < stations → rest_of c s ≡ rest_of c' s

  less : Moves b' b
  less i a s h g t = let l = kept i a h g (λ z. bit_none (mask b' i a) s z t) in (l, ap (λ (m : ℕ). bit m s) (sym (p.same i a h l)) ∙ t)

  more : Moves b b'
  more i a s h g t = (omega (arith, p.longer i h), ap (λ (m : ℕ). bit m s) (p.same i a h g) ∙ t)

  shared_by : (c c' : Batch) → Moves c c' → Rests c c' → (i j : ℕ) (d : ℤ) → i < b.n → j < b.n → Shared c i j d → Shared c' i j d
  shared_by c c' m rests i j d h g s =
      let x = m i s.a s.s h s.a_in s.first in
      let y = m j s.b s.s g s.b_in s.second in
      record { a = s.a; b = s.b; s = s.s; a_in = x.0; b_in = y.0; s_in = s.s_in; first = x.1; second = y.1; close = ap (λ (r : ℕ). too_close r (sub_ℕ s.a s.b -ℤ d)) (sym (rests s.s s.s_in)) ∙ s.close }

  clashing_same : (i j : ℕ) → i < b.n → j < b.n → (d : ℤ) → clashing b' i j d ≡ clashing b i j d
  clashing_same i j h g d =
      same_test (clashing b' i j d) (clashing b i j d) (λ e. shared_clashing b i j d (shared_by b' b less p.rests i j d h g (clashing_shared b' i j d e)))
      (λ e. shared_clashing b' i j d (shared_by b b' more (λ s h. sym (p.rests s h)) i j d h g (clashing_shared b i j d e)))

  clashes_of_lem : (i j : ℕ) → i < b.n → j < b.n → clashes_of b' i j ≡ clashes_of b i j
  unfolding clashes_of
  clashes_of_lem i j h g = λ z. map (λ d. record { i = i; j = j; d = d }) (keep (λ d. clashing_same i j h g d z) distances)

  -- so D and every clash's number stay
  pub padded_clashes : clashes b' ≡ clashes b
  unfolding clashes
  padded_clashes =
      ap (λ (n : ℕ). joined (λ i. joined (clashes_of b' i) (count (suc i) (n - suc i))) (count 0 n)) p.jobs
      ∙ joined_cong _ _ (count 0 b.n) (λ i m.
      joined_cong _ _ (count (suc i) (b.n - suc i)) (λ j k.
      let h = count_some 0 b.n i m in
      let g = count_some (suc i) (b.n - suc i) j k in
      clashes_of_lem i j (omega (arith, h.1)) (omega (arith, h.1, g.1))))

  -- ---- latency

  stay_same : (i : ℕ) → i < b.n → stay (job_of b' i) ≡ stay (job_of b i)
  unfolding stay ticks mask
  stay_same i h =
      let low = stay_below (job_of b' i) (job_of b i) (ticks b' i) (ticks b i) (λ a l t. let g = kept i a h l t in (g, λ z. t (p.same i a h g ∙ z))) in
      let high = stay_below (job_of b i) (job_of b' i) (ticks b i) (ticks b' i) (λ a l t. (omega (arith, p.longer i h), λ z. t (sym (p.same i a h l) ∙ z))) in
      omega (arith, low, high)

  pub padded_latency : (ts : List ℕ) → latency b' ts ≡ latency b ts
  unfolding latency finish
  padded_latency ts =
      ap (λ (n : ℕ). foldr max 0 (map (λ i. finish b' i (start ts i)) (count 0 n))) p.jobs
      ∙ ap (foldr max 0) (listed_cong _ _ b.n (λ i h. ap (λ (k : ℕ). start ts i + k) (stay_same i h)))

  -- ---- validity

  holds_by : (c c' : Batch) → Moves c c' → (ts : List ℕ) (i s x : ℕ) → i < b.n → Holds c ts i s x → Holds c' ts i s x
  unfolding Holds
  holds_by c c' m ts i s x h t = let l = m i t.0 s h t.1 (T_true _ t.3) in (t.0, l.0, t.2, true_T l.1)

  valid_by : (c c' : Batch) → Moves c' c → Rests c' c → c.n ≡ b.n → c'.n ≡ c.n → delays_of c ≡ delays_of c' → ((i : ℕ) → i < b.n → (earliest c' i ≡ earliest c i) × (latest c' i ≡ latest c i)) → (ts : List ℕ) → Valid c ts → Valid c' ts
  unfolding KeepsDelays KeepsEnds KeepsStations Apart
  valid_by c c' m rests n n' d ends ts v =
      record {
        starts = v.starts ∙ sym n';
        delays = subst (λ (qs : List Delay). (q : Delay) → Memᴰ q qs → Keeps ts q) d v.delays;
        ends = λ i h. let e = ends i (omega arith) in let k = v.ends i (omega arith) in (omega (arith, e.0, k.0), omega (arith, e.1, k.1));
        stations = λ i j r l s x y q h g near.
            v.stations i j r (omega arith) s x y q (holds_by c' c m ts i s x (omega arith) h) (holds_by c' c m ts j s y (omega arith) g)
            (subst (λ (k : ℕ). T (too_close k (sub_ℕ x y))) (rests s q) near);
      }

  pub padded_valid : (ts : List ℕ) → Valid b' ts ↔ Valid b ts
  padded_valid ts = (
    valid_by b' b more (λ s h. sym (p.rests s h)) p.jobs (sym p.jobs) p.delays (λ i h. let e = p.ends i h in (sym e.1, sym e.2)) ts,
    valid_by b b' less p.rests refl p.jobs (sym p.delays) (λ i h. let e = p.ends i h in (e.1, e.2)) ts,
  )

  -- ---- the search

  earliest_same : earliest_starts b' ≡ earliest_starts b
  unfolding earliest_starts
  earliest_same = ap (λ (n : ℕ). map (earliest b') (count 0 n)) p.jobs ∙ listed_cong (earliest b') (earliest b) b.n (λ i h. (p.ends i h).1)

  latest_same : latest_starts b' ≡ latest_starts b
  unfolding latest_starts
  latest_same = ap (λ (n : ℕ). map (latest b') (count 0 n)) p.jobs ∙ listed_cong (latest b') (latest b) b.n (λ i h. (p.ends i h).2)

  starts_same : (cs : List Clash) (ts : List Turn) → starts_at cs b' ts ≡ starts_at cs b ts
  unfolding starts_at inequalities
  starts_same cs ts = λ z. least_starts (earliest_same z) (latest_same z) (p.delays z ++ map (turned cs) ts)

  branch_same : (q : Place) (ss : List ℕ) (o : Option ℕ) → branch b' q ss o ≡ branch b q ss o
  unfolding branch become_best
  branch_same q ss none = rw (padded_latency ss)
  branch_same q ss (some k) = refl

  visit_same : (cs : List Clash) (q : Place) (o : Option (List ℕ)) → visit cs b' q o ≡ visit cs b q o
  unfolding visit
  visit_same cs q none = refl
  visit_same cs q (some ss) =
      ap₂ (λ (l : ℕ) (r : Place). if prunes q.incumbent.best l then back q.turns q.incumbent else r) (padded_latency ss) (branch_same q ss (first_met cs ss 0))

  next_same : (cs : List Clash) (q : Place) → next cs b' q ≡ next cs b q
  unfolding next
  next_same cs q = visit_same cs q (starts_at cs b' q.turns) ∙ ap (visit cs b q) (starts_same cs q.turns)

  node_same : (cs : List Clash) (s : Search) → s.batch ≡ b → (node cs (in_batch b' s) ≡ in_batch b' (node cs s)) × ((node cs s).batch ≡ b)
  unfolding node search_of place_of in_batch
  node_same cs s e = (ap (search_of b' (s.total + 1)) (next_same cs (place_of s) ∙ ap (λ (c : Batch). next cs c (place_of s)) (sym e)), e)

  nodes_same : (cs : List Clash) (k : ℕ) (s : Search) → s.batch ≡ b → nodes_on cs k (in_batch b' s) ≡ in_batch b' (nodes_on cs k s)
  unfolding nodes_on in_batch
  nodes_same cs zero s e = refl
  nodes_same cs (suc k) s e = go s.ended (node_same cs s e) (nodes_same cs k (node cs s))
    where
      go : (t : Bool) → (node cs (in_batch b' s) ≡ in_batch b' (node cs s)) × ((node cs s).batch ≡ b)
          → ((node cs s).batch ≡ b → nodes_on cs k (in_batch b' (node cs s)) ≡ in_batch b' (nodes_on cs k (node cs s)))
          → ◌≡◌ {A = Search} (elim t [ true ↦ in_batch b' s | false ↦ nodes_on cs k (node cs (in_batch b' s)) ]) (in_batch b' (elim t [ true ↦ s | false ↦ nodes_on cs k (node cs s) ]))
      go true one rec = refl
      go false one rec = ap (nodes_on cs k) one.0 ∙ rec one.1

  -- after any number of nodes, from any record, the padded search stands where the other does
  pub padded_nodes : (s : Search) → s.batch ≡ b → (k : ℕ) → nodes k (in_batch b' s) ≡ in_batch b' (nodes k s)
  unfolding nodes in_batch
  padded_nodes s e k = ap (λ (cs : List Clash). nodes_on cs k (in_batch b' s)) (padded_clashes ∙ ap clashes (sym e)) ∙ nodes_same (clashes s.batch) k s e

  -- so N is the same
  pub padded_ends : (N : ℕ) → Ends b' N ↔ Ends b N
  unfolding fresh_search search_of in_batch
  padded_ends N =
      let at = padded_nodes (fresh_search b) refl N in (
        λ e. record { ended = ap (λ (s : Search). s.ended) (sym at) ∙ e.ended; total = ap (λ (s : Search). s.total) (sym at) ∙ e.total },
        λ e. record { ended = ap (λ (s : Search). s.ended) at ∙ e.ended; total = ap (λ (s : Search). s.total) at ∙ e.total },
      )

  -- ---- files that both are read

  few_same : few_clashes b' ≡ few_clashes b
  unfolding few_clashes
  few_same = ap (λ (cs : List Clash). leb (length cs) most_clashes) padded_clashes

  met_same : delays_met b' ≡ delays_met b
  unfolding delays_met
  met_same = λ z. is_some (least_starts (earliest_same z) (latest_same z) (p.delays z))

  ends_same : (ts : List ℕ) → keeps_ends b' ts ≡ keeps_ends b ts
  unfolding keeps_ends
  ends_same ts =
      ap (λ (n : ℕ). all (λ i. between (earliest b' i) (start ts i) (latest b' i)) (count 0 n)) p.jobs
      ∙ all_cong _ _ (count 0 b.n) (λ i m. let e = p.ends i (omega (arith, (count_some 0 b.n i m).1)) in ap₂ (λ (x y : ℕ). between x (start ts i) y) e.1 e.2)

  judge_same : (text : List ℕ) → judge_text b' text ≡ judge_text b text
  unfolding judge_text jobs_right plan_right valid
  judge_same text =
      λ z.
      as17 (read_claim text) >>= λ c.
      require 18 (eqb c.n (p.jobs z) && same (jobs_in c) (count 0 (p.jobs z))) >>= λ u.
      require 19 (all (keeps (starts_in c)) (p.delays z) && ends_same (starts_in c) z && not (is_some (first_met (padded_clashes z) (starts_in c) 0)) && eqb (padded_latency (starts_in c) z) c.latency)

  module _ (file file' : List ℕ) (read : read_file file ≡ accept b) (read' : read_file file' ≡ accept b') where
    abbrev opening : Bool → Bool → Batch → Outcome Batch
    opening few met c = require 9 few >>= λ u. require 10 met >>= λ v. accept c

    open_at : (x : List ℕ) (c : Batch) → read_file x ≡ accept c → open_file x ≡ opening (few_clashes c) (delays_met c) c
    unfolding open_file ◌>>=◌
    open_at x c e = ap (λ (o : Outcome Batch). o >>= λ c. opening (few_clashes c) (delays_met c) c) e

    -- what is the same of both batches is the same of what opening gives
    alike : {A : Type 0} (f : Outcome Batch → A) → f (accept b') ≡ f (accept b) → f (open_file file') ≡ f (open_file file)
    unfolding require ◌>>=◌
    alike f h =
        ap f (open_at file' b' read') ∙ ap₂ (λ (few met : Bool). f (opening few met b')) few_same met_same ∙ go (few_clashes b) (delays_met b) ∙ sym (ap f (open_at file b read))
      where
        go : (few met : Bool) → f (opening few met b') ≡ f (opening few met b)
        go true true = h
        go true false = refl
        go false met = refl

    -- both open, or both are refused with the same number
    pub padded_opened : open_told (opened file').answer ≡ open_told (opened file).answer
    unfolding opened opened_as
    padded_opened = alike (λ o. open_told (opened_as o).answer) refl

    -- and every plan text is judged alike
    pub padded_judged : (text : List ℕ) → judged file' text ≡ judged file text
    unfolding judged judge ◌>>=◌
    padded_judged text = alike (λ o. judged_as (o >>= λ c. judge_text c text)) (ap judged_as (judge_same text))

  -- ---- runs on records whose batches are both sound, or both not

  module _ (both : sound_batch b' ≡ sound_batch b) (s : Search) (e : s.batch ≡ b) where
    abbrev n_same : b'.n ≡ s.batch.n
    n_same = p.jobs ∙ ap (λ (c : Batch). c.n) (sym e)

    sound_same : sound (in_batch b' s) ≡ sound s
    unfolding sound sound_path in_batch
    sound_same =
        let d : length (clashes b') ≡ length (clashes s.batch) = ap length (padded_clashes ∙ ap clashes (sym e)) in
        let q : sound_batch b' ≡ sound_batch s.batch = both ∙ ap sound_batch (sym e) in
        let turns = turns_of s.path in
        λ z.
        q z && (sound_turns (d z) turns && all (λ t. not (is_turn t)) (drop (length turns) s.path) && (not s.ended || is_empty turns)) && leb s.total most_total
        && sound_best (n_same z) s.best s.starts

    pub padded_text : plan_text (in_batch b' s) ≡ plan_text s
    unfolding plan_text in_batch
    padded_text = λ z. require 12 (sound_same z) >>= λ u. require 15 s.ended >>= λ v. accept (plan_lines s.best (n_same z) s.starts s.total)

    padded_refusal : (budget len : ℕ) → run_refusal (in_batch b' s) budget len ≡ run_refusal s budget len
    unfolding run_refusal in_batch
    padded_refusal budget len = λ z. require 11 (leb budget most_budget) >>= λ u. require 12 (sound_same z) >>= λ v. require 13 (leb (n_same z) len) >>= λ w. require 14 (s.ended || leb (s.total + budget) most_total)

    -- a run answers the same, leaves the same list, and the record that it returns is the same but for the batch
    pub padded_call : (c : Call) → call (in_batch b' s) c ≡ (record { answer = (call s c).0.answer; search = in_batch b' (call s c).0.search }, (call s c).1)
    unfolding call ran ran_as answered nodes in_batch
    padded_call c =
        ap (λ (o : Outcome (Unit {0})). ran_as o (in_batch b' s) c.budget c.starts) (padded_refusal c.budget (length c.starts))
        ∙ go (run_refusal s c.budget (length c.starts))
      where
        go : (o : Outcome (Unit {0})) → ran_as o (in_batch b' s) c.budget c.starts
            ≡ (record { answer = (ran_as o s c.budget c.starts).0.answer; search = in_batch b' (ran_as o s c.budget c.starts).0.search }, (ran_as o s c.budget c.starts).1)
        go (refuse k) = refl
        go (accept u) =
            let t = nodes c.budget s in
            let kept : b'.n ≡ t.batch.n = n_same ∙ ap (λ (x : Batch). x.n) (sym (nodes_batch (clashes s.batch) c.budget s)) in
            let a = answer_of t.ended t.best t.total in
            ap (λ (x : Search). answered x c.starts) (padded_nodes s e c.budget)
            ∙ ap (λ (n : ℕ). (record { answer = a; search = in_batch b' t }, starts_after a n t.starts c.starts)) kept

  -- and so after every list of runs
  pub padded_after : sound_batch b' ≡ sound_batch b → (cs : List Call) (s : Search) → s.batch ≡ b → (after (in_batch b' s) cs ≡ in_batch b' (after s cs)) × ((after s cs).batch ≡ b)
  unfolding after call
  padded_after both [] s e = (refl, e)
  padded_after both (c ∷ cs) s e =
      let one = padded_call both s e c in
      let rest = padded_after both cs (call s c).0.search ((running_leaves s c.budget c.starts).batch ∙ e) in
      (ap (λ (x : Ran × List ℕ). after x.0.search cs) one ∙ rest.0, rest.1)
