-- Demand 3: whatever list of run calls a freshly opened search gets, its record is the one that 01's steps reach with the smaller of S and
-- N nodes, and the last answer follows from it. An invariant that each call keeps.
use Rattle.std.specs.Prelude.{if◌then◌else◌}
use Prim.Native.Nat.{ℕ, ◌+◌, ◌≤◌, ◌<◌, min}
use mathlib.Core.Path.{◌≡◌, refl, ap, sym, ◌∙◌, subst}
use mathlib.Core.Logic.{◌↔◌}
use mathlib.Core.Bool.{Bool, true, false, not, ◌&&◌, ◌||◌}
use mathlib.Core.List.{List, [], ◌∷◌, ◌++◌}
use native.Mathlib.Omega.{arith}
use native.Mathlib.Decide.{dec_lt}
use lib.ListN.{length, take, drop}
use lib.Seq.{take_at}
use lib.Dec.{leb, ltb}
use borrow.Author.Tests.{le-leb, lt-leb, ltb-true, ltb-false, lt-ltb}
use Rattle.model.specs.declared.Batch.{Batch}
use Rattle.model.specs.Best.{Best}
use Rattle.std.specs.Prelude.{None, Some}
use Rattle.model.specs.declared.Search.{Search}
use Rattle.model.specs.declared.Ran.{Ran}
use Rattle.model.specs.Common.{Outcome, refuse, accept, ◌>>=◌, require}
use Rattle.model.specs.Refusal.{number, named}
use Rattle.model.specs.Limits.{most_budget, most_total}
use Rattle.model.specs.Plan.{Valid, Shortest, latency}
use Rattle.model.specs.Clash.{clashes}
use Rattle.model.specs.Search.{place_of, search_of, fresh_search, nodes_on, nodes}
use Rattle.model.specs.Sound.{sound}
use Rattle.model.specs.Run.{run_refusal, answer_of, starts_after, answered, ran_as, ran}
use Rattle.model.specs.Answers.{Verdict, spent, plan, no_plan, run_told, total_told}
use Rattle.model.specs.Calls.{Call, call, after, refuses, granted}
use Rattle.model.specs.Demands.{Reached, AnswerFor}
use Rattle.model.proofs.BoolLaws.{apart}
use Rattle.model.proofs.NodeLaws.{BestLe}
use Rattle.model.proofs.GoodLaws.{ValidBest}
use Rattle.model.proofs.SoundLaws.{Passes, fits, sound_nodes}
use Rattle.model.proofs.LeaveLaws.{nodes_batch, run_sound}
use Rattle.model.proofs.EndLaws.{End, nodes_fresh, nodes_more, nodes_total, nodes_past, ends_not_before, fresh_total}

-- ---- the table's tests, read either way

le_not_lt : (x y : ℕ) → leb x y ≡ not (ltb y x)
le_not_lt x y = go (ltb y x) refl
  where
    go : (p : Bool) → ltb y x ≡ p → leb x y ≡ not p
    go true e = lt-leb x y (ltb-true y x e)
    go false e = le-leb x y (omega (arith, ltb-false y x e))

-- 11 to 14 with 12 passed
checked : Bool → Bool → Bool → Bool → Outcome (Unit {0})
checked p q r t = do
  _ ← require 11 (not p)
  _ ← require 12 true
  _ ← require 13 (not q)
  require 14 (not r || not t)

-- what a call's refusal is, by what the table says
abbrev pub Checked : Bool → Outcome (Unit {0}) → Type 0
Checked true o = (k : ℕ) × (o ≡ refuse k)
Checked false o = o ≡ accept tt

checked_is : (p q r t : Bool) → Checked (p || q || (r && t)) (checked p q r t)
unfolding checked ◌>>=◌ require
checked_is true q r t = (11, refl)
checked_is false true r t = (13, refl)
checked_is false false true true = (14, refl)
checked_is false false true false = refl
checked_is false false false t = refl

module _ (b : Batch) (passes : Passes b) (n : ℕ) (end : End b (fits b passes) n) where
  -- the record after k of 01's steps
  abbrev pub at : ℕ → Search
  at k = nodes k (fresh_search b)

  pub at_batch : (k : ℕ) → (at k).batch ≡ b
  unfolding fresh_search search_of
  at_batch k = ap (λ (s : Search). s.batch) (nodes_fresh b k) ∙ nodes_batch (clashes b) k (fresh_search b)

  at_min : (k : ℕ) → at k ≡ at (min k n)
  at_min k = go (dec_lt k n)
    where
      go : Dec (k < n) → at k ≡ at (min k n)
      go (yes h) = let z : k ≡ min k n = omega arith in ap at z
      go (no h) = let z : n ≡ min k n = omega arith in nodes_past b n k end.ends.ended (omega arith) ∙ ap at z

  -- j nodes on from k
  at_more : (k j : ℕ) → nodes j (at k) ≡ at (k + j)
  unfolding nodes
  at_more k j =
      ap (λ (c : Batch). nodes_on (clashes c) j (at k)) (at_batch k) ∙ ap (nodes_on (clashes b) j) (nodes_fresh b k)
      ∙ sym (nodes_more b k j (fresh_search b)) ∙ sym (nodes_fresh b (k + j))

  at_ended : (s : ℕ) → (at (min s n)).ended ≡ not (ltb s n)
  at_ended s = go (ltb s n) refl
    where
      go : (p : Bool) → ltb s n ≡ p → (at (min s n)).ended ≡ not p
      go true e = ends_not_before b n (min s n) end.ends (omega (arith, ltb-true s n e))
      go false e = let z : min s n ≡ n = omega (arith, ltb-false s n e) in ap (λ (k : ℕ). (at k).ended) z ∙ end.ends.ended

  at_total : (s : ℕ) → (at (min s n)).total ≡ min s n
  at_total s = go (dec_lt s n)
    where
      go : Dec (s < n) → (at (min s n)).total ≡ min s n
      go (yes h) =
          let e = nodes_fresh b (min s n) in
          ap (λ (r : Search). r.total) e
          ∙ (nodes_total b (min s n) (fresh_search b)).1
          (ap (λ (r : Search). r.ended) (sym e) ∙ ends_not_before b n (min s n) end.ends (omega arith))
          ∙ omega (arith, fresh_total b)
      go (no h) = let z : min s n ≡ n = omega arith in ap (λ (k : ℕ). (at k).total) z ∙ end.ends.total ∙ sym z

  -- S is below n where the test says so
  lower : (s : ℕ) → false ≡ not (ltb s n) → s < n
  lower s e = go (ltb s n) refl e
    where
      go : (p : Bool) → ltb s n ≡ p → false ≡ not p → s < n
      go true f g = ltb-true s n f
      go false f g = apart g

  pub reached_at : (s : ℕ) → Reached b n s (at (min s n))
  reached_at s = record { is = refl; total = at_total s; unfinished = (λ e. lower s (sym e ∙ at_ended s), λ h. at_ended s ∙ ap not (lt-ltb s n h)) }

  -- what the invariant keeps beside the record: it is sound
  abbrev pub SoundThere : ℕ → Type 0
  SoundThere s = sound (at (min s n)) ≡ true

  -- ---- the answer that a record gives

  -- S is at or above n where the test says so
  upper : (s : ℕ) → true ≡ not (ltb s n) → n ≤ s
  upper s e = go (ltb s n) refl e
    where
      go : (p : Bool) → ltb s n ≡ p → true ≡ not p → n ≤ s
      go true f g = apart (sym g)
      go false f g = omega (arith, ltb-false s n f)

  -- by cases of what the record says: ended, best, total and starts
  answer_by :
      (s : ℕ) (e : Bool) (best : Best) (total m : ℕ) (starts list : List ℕ) → e ≡ not (ltb s n) → total ≡ min s n → m ≡ b.n
      → (n ≤ s → ValidBest b (record { best = best; starts = starts }) × ((us : List ℕ) → Valid b us → BestLe b (fits b passes) best (latency b us)))
      → AnswerFor b n s (run_told (answer_of e best total)) (starts_after (answer_of e best total) m starts list)
  unfolding answer_of run_told starts_after total_told
  answer_by s false best total m starts list e t q h =
      let below : s < n = lower s e in
      record {
        verdict = spent total;
        answered = refl;
        total = t;
        is_spent = (λ x. below, λ x. (total, refl));
        is_plan = λ g us v. absurd (omega arith);
        is_none = λ g f. absurd (omega arith);
        shortest = λ l k f. let z : ◌≡◌ {A = ℕ} 0 1 = cc in absurd (omega arith);
      }
  answer_by s true None total m starts list e t q h =
      let above : n ≤ s = upper s e in
      let all : total ≡ n = omega arith in
      record {
        verdict = no_plan total;
        answered = refl;
        total = t;
        is_spent = (λ x. let z : ◌≡◌ {A = ℕ} 0 1 = cc x.1 in absurd (omega arith), λ x. absurd (omega arith));
        is_plan = λ g us v. absurd ((h above).1 us v);
        is_none = λ g f. ap no_plan all;
        shortest = λ l k f. let z : ◌≡◌ {A = ℕ} 0 1 = cc in absurd (omega arith);
      }
  answer_by s true (Some l) total m starts list e t q h =
      let above : n ≤ s = upper s e in
      let all : total ≡ n = omega arith in
      let v = (h above).0 in
      let placed : take b.n (take m starts ++ drop m list) ≡ take b.n starts =
      ap (λ (k : ℕ). take b.n (take k starts ++ drop k list)) q ∙ take_at (take b.n starts) (drop b.n list) b.n (omega (arith, v.0.starts)) in
      record {
        verdict = plan l total;
        answered = refl;
        total = t;
        is_spent = (λ x. let z : ◌≡◌ {A = ℕ} 0 1 = cc x.1 in absurd (omega arith), λ x. absurd (omega arith));
        is_plan = λ g us v. (l, ap (plan l) all);
        is_none = λ g f. absurd (f (take b.n starts) v.0);
        shortest = λ k j f.
            let z : l ≡ k = cc in (
              subst (Shortest b) (sym placed) (record { valid = v.0; least = λ us w. omega (arith, (h above).1 us w, v.1) }),
              ap (latency b) placed ∙ v.1 ∙ z,
            );
      }

  answer_at : (s : ℕ) (list : List ℕ) → AnswerFor b n s (run_told (answered (at (min s n)) list).0.answer) (answered (at (min s n)) list).1
  unfolding answered place_of
  answer_at s list =
      answer_by s (at (min s n)).ended (at (min s n)).best (at (min s n)).total (at (min s n)).batch.n (at (min s n)).starts list
      (at_ended s) (at_total s) (ap (λ (x : Batch). x.n) (at_batch (min s n))) at_end
    where
      at_end : n ≤ s → ValidBest b (record { best = (at (min s n)).best; starts = (at (min s n)).starts }) × ((us : List ℕ) → Valid b us → BestLe b (fits b passes) (at (min s n)).best (latency b us))
      at_end h =
          let z : n ≡ min s n = omega arith in
          subst (λ (k : ℕ). ValidBest b (record { best = (at k).best; starts = (at k).starts }) × ((us : List ℕ) → Valid b us → BestLe b (fits b passes) (at k).best (latency b us))) z
          (end.valid, end.shortest)

  -- ---- one call

  module _ (s : ℕ) (c : Call) (there : SoundThere s) where
    refusal_is : run_refusal (at (min s n)) c.budget (length c.starts) ≡ checked (ltb most_budget c.budget) (ltb (length c.starts) b.n) (ltb s n) (ltb most_total (min s n + c.budget))
    unfolding run_refusal checked
    refusal_is =
        rw (
          le_not_lt c.budget most_budget,
          there,
          ap (λ (x : Batch). x.n) (at_batch (min s n)),
          le_not_lt b.n (length c.starts),
          at_ended s,
          at_total s,
          le_not_lt (min s n + c.budget) most_total,
        )

    pub call_checked : Checked (refuses b n s c) (run_refusal (at (min s n)) c.budget (length c.starts))
    unfolding refuses
    call_checked = rw refusal_is (checked_is (ltb most_budget c.budget) (ltb (length c.starts) b.n) (ltb s n) (ltb most_total (min s n + c.budget)))

    -- a call that is not refused visits nodes up to the smaller of the new S and N
    moved : nodes c.budget (at (min s n)) ≡ at (min (s + c.budget) n)
    moved =
        let z : min (min s n + c.budget) n ≡ min (s + c.budget) n = omega arith in
        at_more (min s n) c.budget ∙ at_min (min s n + c.budget) ∙ ap at z

    -- what one call does: the record, its soundness, whether it is refused, and its answer
    pub record OneCall (p : Bool) : Type 0 where
      pub search : (call (at (min s n)) c).0.search ≡ at (min (if p then s else s + c.budget) n)
      pub sound : SoundThere (if p then s else s + c.budget)
      pub refused : (p ≡ true) ↔ ((k : ℕ) × (run_told (call (at (min s n)) c).0.answer ≡ refuse k))
      pub answer : p ≡ false → AnswerFor b n (if p then s else s + c.budget) (run_told (call (at (min s n)) c).0.answer) (call (at (min s n)) c).1

    called_by : (p : Bool) → Checked p (run_refusal (at (min s n)) c.budget (length c.starts)) → OneCall p
    unfolding call ran ran_as run_told answered refuses
    called_by true (k, f) =
        let whole : call (at (min s n)) c ≡ ran_as (refuse k) (at (min s n)) c.budget c.starts = ap (λ o. ran_as o (at (min s n)) c.budget c.starts) f in
        record {
          search = ap (λ (x : Ran × List ℕ). x.0.search) whole;
          sound = there;
          refused = (λ h. (number (named k), ap (λ (x : Ran × List ℕ). run_told x.0.answer) whole), λ h. refl);
          answer = λ h. apart (sym h);
        }
    called_by false f =
        let whole : call (at (min s n)) c ≡ answered (at (min (s + c.budget) n)) c.starts =
        ap (λ o. ran_as o (at (min s n)) c.budget c.starts) f ∙ ap (λ (r : Search). answered r c.starts) moved in
        let told = answer_at (s + c.budget) c.starts in
        record {
          search = ap (λ (x : Ran × List ℕ). x.0.search) whole;
          sound = ap sound (sym moved) ∙ sound_nodes c.budget (at (min s n)) there (run_sound (at (min s n)) c.budget (length c.starts) f).1;
          refused = (λ h. apart h, λ h. never h.0 told.verdict (sym (ap (λ (x : Ran × List ℕ). run_told x.0.answer) whole ∙ told.answered) ∙ h.1));
          answer = λ h. subst (λ (x : Ran × List ℕ). AnswerFor b n (s + c.budget) (run_told x.0.answer) x.1) (sym whole) told;
        }
      where
        never : (k : ℕ) (v : Verdict) → accept v ≡ refuse k → false ≡ true
        never k v e = let z : ◌≡◌ {A = ℕ} 0 1 = cc in absurd (omega arith)

    pub called : OneCall (refuses b n s c)
    called = called_by (refuses b n s c) call_checked

  -- ---- every list of calls

  -- the record after the list, from S = s on
  after_at : (s : ℕ) (cs : List Call) → SoundThere s → (after (at (min s n)) cs ≡ at (min (granted b n s cs) n)) × SoundThere (granted b n s cs)
  unfolding after granted
  after_at s [] h = (refl, h)
  after_at s (c ∷ cs) h =
      let d = called s c h in
      let r = after_at (if refuses b n s c then s else s + c.budget) cs d.sound in
      (ap (λ (x : Search). after x cs) d.search ∙ r.0, r.1)

  granted_last : (s : ℕ) (cs : List Call) (c : Call) → granted b n s (cs ++ (c ∷ [])) ≡ (if refuses b n (granted b n s cs) c then granted b n s cs else granted b n s cs + c.budget)
  unfolding granted
  granted_last s [] c = refl
  granted_last s (d ∷ cs) c = granted_last (if refuses b n s d then s else s + d.budget) cs c

  module _ (fresh_sound : sound (fresh_search b) ≡ true) where
    at_zero : at (min 0 n) ≡ fresh_search b
    unfolding nodes nodes_on
    at_zero = let z : min 0 n ≡ 0 = omega arith in ap at z

    -- the record after any list of calls on the fresh search, and that it is sound
    pub after_fresh : (cs : List Call) → (after (fresh_search b) cs ≡ at (min (granted b n 0 cs) n)) × SoundThere (granted b n 0 cs)
    after_fresh cs =
        let r = after_at 0 cs (ap sound at_zero ∙ fresh_sound) in
        (ap (λ (x : Search). after x cs) (sym at_zero) ∙ r.0, r.1)

    -- after every list: the record, its total, and whether the search is unfinished
    pub list_reached : (cs : List Call) → Reached b n (granted b n 0 cs) (after (fresh_search b) cs)
    list_reached cs = subst (Reached b n (granted b n 0 cs)) (sym (after_fresh cs).0) (reached_at (granted b n 0 cs))

    -- the table refuses one more call exactly when its answer is a refusal
    pub list_refused : (cs : List Call) (c : Call) → (refuses b n (granted b n 0 cs) c ≡ true) ↔ ((k : ℕ) × (run_told (call (after (fresh_search b) cs) c).0.answer ≡ refuse k))
    list_refused cs c =
        subst (λ (x : Search). (refuses b n (granted b n 0 cs) c ≡ true) ↔ ((k : ℕ) × (run_told (call x c).0.answer ≡ refuse k)))
        (sym (after_fresh cs).0) (called (granted b n 0 cs) c (after_fresh cs).1).refused

    -- and answered as S and N say otherwise
    pub list_answered : (cs : List Call) (c : Call) → refuses b n (granted b n 0 cs) c ≡ false → AnswerFor b n (granted b n 0 (cs ++ (c ∷ []))) (run_told (call (after (fresh_search b) cs) c).0.answer) (call (after (fresh_search b) cs) c).1
    list_answered cs c f =
        subst (λ (k : ℕ). AnswerFor b n k (run_told (call (after (fresh_search b) cs) c).0.answer) (call (after (fresh_search b) cs) c).1) (sym (granted_last 0 cs c))
        (subst (λ (x : Search). AnswerFor b n (if refuses b n (granted b n 0 cs) c then granted b n 0 cs else granted b n 0 cs + c.budget) (run_told (call x c).0.answer) (call x c).1)
        (sym (after_fresh cs).0) ((called (granted b n 0 cs) c (after_fresh cs).1).answer f))
