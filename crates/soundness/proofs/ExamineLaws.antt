-- A record examined: soundness as the code takes it apart, and what a run works on where no part fails.
use Prim.Native.Nat.{ℕ, ◌≤◌, ◌<◌}
use mathlib.Core.Path.{◌≡◌, refl, ap, sym, ◌∙◌, subst}
use mathlib.Core.Bool.{Bool, true, false, ◌&&◌, ◌||◌, not}
use mathlib.Core.List.{List}
use native.Mathlib.Omega.{arith}
use lib.ListN.{length, drop}
use lib.Dec.{leb}
use borrow.Author.Tests.{le-leb, lt-leb}
use Rattle.model.specs.declared.Batch.{Batch}
use Rattle.model.specs.declared.Search.{Search}
use Rattle.model.specs.Common.{all, count, is_empty}
use Rattle.model.specs.Batch.{ticks, delays_of}
use Rattle.model.specs.Clash.{clashes}
use Rattle.model.specs.Search.{is_turn, turns_of}
use Rattle.model.specs.Open.{counts_ok, ticks_ok, jobs_ok, weight_ok, few_clashes, delays_met}
use Rattle.model.specs.Sound.{sound_edition, sound_further, sound_batch, sound_turns, sound_path, sound_best, sound}
use Rattle.model.proofs.BoolLaws.{and, and_false}
use Rattle.clashes.specs.declared.Clashes.{Clashes}
use Rattle.clashes.specs.List.{list_of}
use Rattle.clashes.proofs.ListedLaws.{list_count}
use Rattle.weights.specs.declared.Inequality.{Inequality}
use Rattle.weights.specs.Delays.{delays_pass, delays_read}
use Rattle.times.specs.declared.ends.Ends.{Ends}
use Rattle.times.specs.Stays.{stays_read}
use Rattle.times.specs.Ends.{earliest_read, latest_read}
use Rattle.soundness.specs.declared.path.Route.{Route}
use Rattle.batch_limits.specs.Limits.{ticks_pass, counts_pass, limits_pass}
use Rattle.soundness.specs.Path.{Routed}
use Rattle.soundness.specs.Examined.{state_sound, Prepared}

-- ---- soundness in the code's order

batch_parts : (b : Batch) → sound_batch b ≡ (((limits_pass b && delays_pass b) && few_clashes b) && delays_met b)
unfolding sound_batch limits_pass counts_pass ticks_pass delays_pass
batch_parts b = go (counts_ok b.n b.m && all (λ i. ticks_ok (ticks b i)) (count 0 b.n) && sound_edition b && sound_further b)
  where
    go : (p : Bool) → ((((p && all (jobs_ok b.n) (delays_of b)) && all weight_ok (delays_of b)) && few_clashes b) && delays_met b)
        ≡ (((p && (all (jobs_ok b.n) (delays_of b) && all weight_ok (delays_of b))) && few_clashes b) && delays_met b)
    go true = refl
    go false = refl

sound_parts : (s : Search) → sound s ≡ ((((limits_pass s.batch && delays_pass s.batch) && few_clashes s.batch) && delays_met s.batch) && state_sound s)
unfolding sound state_sound
sound_parts s = go (sound_batch s.batch) ∙ ap (λ (p : Bool). p && state_sound s) (batch_parts s.batch)
  where
    go : (p : Bool) → (((p && sound_path s) && leb s.total 100000000) && sound_best s.batch.n s.best s.starts)
        ≡ (p && ((sound_path s && leb s.total 100000000) && sound_best s.batch.n s.best s.starts))
    go true = refl
    go false = refl

-- ---- a record that is not sound

module _ (s : Search) where
  abbrev limits : Bool
  limits = limits_pass s.batch && delays_pass s.batch

  pub past_limits : (x : Bool) → x ≡ limits_pass s.batch → x ≡ false → sound s ≡ false
  past_limits x p e =
      sound_parts s
      ∙ ap (λ (q : Bool). (((q && delays_pass s.batch) && few_clashes s.batch) && delays_met s.batch) && state_sound s) (sym p ∙ e)

  pub past_delays : delays_pass s.batch ≡ false → sound s ≡ false
  past_delays e =
      sound_parts s
      ∙ ap (λ (q : Bool). (((limits_pass s.batch && q) && few_clashes s.batch) && delays_met s.batch) && state_sound s) e
      ∙ ap (λ (q : Bool). ((q && few_clashes s.batch) && delays_met s.batch) && state_sound s) (and_false (limits_pass s.batch))

  pub many_clashes : (l : Clashes) → l ≡ list_of s.batch → 1024 < l.count → sound s ≡ false
  unfolding few_clashes
  many_clashes l e h =
      let d : few_clashes s.batch ≡ false = lt-leb (length (clashes s.batch)) 1024 (omega (arith, list_count s.batch l e)) in
      sound_parts s
      ∙ ap (λ (q : Bool). ((limits && q) && delays_met s.batch) && state_sound s) d
      ∙ ap (λ (q : Bool). (q && delays_met s.batch) && state_sound s) (and_false limits)

  pub delays_unmet : (x : Bool) → x ≡ delays_met s.batch → x ≡ false → sound s ≡ false
  delays_unmet x p e =
      sound_parts s
      ∙ ap (λ (q : Bool). ((limits && few_clashes s.batch) && q) && state_sound s) (sym p ∙ e)
      ∙ ap (λ (q : Bool). q && state_sound s) (and_false (limits && few_clashes s.batch))

  state_fails : state_sound s ≡ false → sound s ≡ false
  state_fails e =
      sound_parts s ∙ ap (λ (q : Bool). (((limits && few_clashes s.batch) && delays_met s.batch) && q)) e ∙ and_false ((limits && few_clashes s.batch) && delays_met s.batch)

  pub turns_unsound : (l : Clashes) → l ≡ list_of s.batch → sound_turns l.count (turns_of s.path) ≡ false → sound s ≡ false
  unfolding state_sound sound_path
  turns_unsound l e h =
      state_fails
      (ap (λ (p : Bool). (((p && all (λ t. not (is_turn t)) (drop (length (turns_of s.path)) s.path)) && (not s.ended || is_empty (turns_of s.path))) && leb s.total 100000000) && sound_best s.batch.n s.best s.starts)
      (rw (list_count s.batch l e) at h))

  pub state_unsound : (x : Bool) → x ≡ state_sound s → x ≡ false → sound s ≡ false
  state_unsound x p e = state_fails (sym p ∙ e)

-- ---- a record that passes

-- a route that was read with the list's count was read with the number of clashes
pub counted : (s : Search) (l : Clashes) (r : Route) → l ≡ list_of s.batch → Routed s.path l.count r → Routed s.path (length (clashes s.batch)) r
counted s l r e h = subst (λ (n : ℕ). Routed s.path n r) (list_count s.batch l e) h

module _ (s : Search) (x met y : Bool) (d : List Inequality) (l : Clashes) (r : Route) (ends : Ends) (stays : List ℕ) where
  -- the batch and the state pass, and the record holds what a run works on
  pub examined : x ≡ limits_pass s.batch → x ≡ true → (delays_pass s.batch ≡ true) × (d ≡ delays_read s.batch) → l ≡ list_of s.batch → l.count ≤ 1024
      → met ≡ delays_met s.batch → met ≡ true → Routed s.path l.count r → y ≡ state_sound s → y ≡ true
      → stays ≡ stays_read s.batch → (ends.earliest ≡ earliest_read s.batch) × (ends.latest ≡ latest_read s.batch)
      → (sound s ≡ true) × Prepared s (record { clashes = l; delays = d; stays = stays; ends = ends; route = r })
  unfolding few_clashes
  examined p p' q c few m m' h e e' g g' =
      let few' : few_clashes s.batch ≡ true = le-leb (length (clashes s.batch)) 1024 (omega (arith, list_count s.batch l c)) in (
        sound_parts s ∙ and (and (and (and (sym p ∙ p') q.0) few') (sym m ∙ m')) (sym e ∙ e'),
        record { clashes = c; delays = q.1; stays = g; earliest = g'.0; latest = g'.1; path = h.coded },
      )
