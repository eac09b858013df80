-- Two tables meet at a distance exactly when one of the places that lie over a tick shares a station with it.
use Prim.Native.Nat.{ℕ, ◌+◌, ◌-◌, ◌≤◌, ◌<◌, min}
use mathlib.Core.Path.{◌≡◌, sym, ap, ◌∙◌}
use mathlib.Core.Logic.{◌⊎◌, ⊎_elim}
use mathlib.Core.Bool.{Bool, true, false, ◌&&◌}
use mathlib.Core.List.{List}
use native.Mathlib.Omega.{arith}
use lib.ListN.{get_or}
use lib.IntN.{ℤ, sub_ℕ}
use Rattle.model.specs.declared.Job.{Job}
use Rattle.model.specs.Common.{count, any, eq_z}
use Rattle.model.proofs.BoolLaws.{apart, decide, both, and}
use Rattle.model.proofs.ListLaws.{any_some, some_any, count_some, some_count}
use Rattle.model.proofs.DistanceLaws.{eq_z_eq, eq_z_refl, sub_sum, sum_sub}
use Rattle.tables.specs.Tables.{shares, tables_meet}

module _ (low end : ℕ) (places : List ℕ) (second : Job) (k : ℕ) where
  -- place x shares a station with the tick of the second table that is at distance k − 15
  abbrev pub meet_at : ℕ → Bool
  meet_at x = shares (get_or places x 0) (get_or second.masks (x + 15 - k) 0)

  -- ---- what meeting is

  pub record Meets : Type 0 where
    pub x : ℕ
    pub c : ℕ
    pub from : low ≤ x
    pub x_in : x < end
    pub c_in : c < second.ticks
    pub over : x + 15 ≡ k + c
    pub shared : shares (get_or places x 0) (get_or second.masks c 0) ≡ true

  abbrev at : ℕ → ℕ → Bool
  at x c = eq_z (sub_ℕ x c) (sub_ℕ k 15) && shares (get_or places x 0) (get_or second.masks c 0)

  pub meets_some : tables_meet low end places second (sub_ℕ k 15) ≡ true → Meets
  unfolding tables_meet
  meets_some t =
      let x = any_some (λ x. any (at x) (count 0 second.ticks)) (count low (end - low)) t in
      let c = any_some (at x.0) (count 0 second.ticks) x.2 in
      let h = count_some low (end - low) x.0 x.1 in
      let r = both (eq_z (sub_ℕ x.0 c.0) (sub_ℕ k 15)) _ c.2 in
      record {
        x = x.0;
        c = c.0;
        from = h.0;
        x_in = omega (arith, h.0, h.1);
        c_in = omega (arith, (count_some 0 second.ticks c.0 c.1).1);
        over = sub_sum x.0 c.0 k 15 (eq_z_eq (sub_ℕ x.0 c.0) (sub_ℕ k 15) r.0);
        shared = r.1;
      }

  pub some_meets : Meets → tables_meet low end places second (sub_ℕ k 15) ≡ true
  unfolding tables_meet
  some_meets m =
      some_any (λ x. any (at x) (count 0 second.ticks)) (count low (end - low)) (some_count low (end - low) m.x m.from (omega (arith, m.from, m.x_in)))
      (some_any (at m.x) (count 0 second.ticks) (some_count 0 second.ticks m.c (omega arith) (omega (arith, m.c_in)))
      (and (ap (λ (z : ℤ). eq_z z (sub_ℕ k 15)) (sum_sub m.x m.c k 15 m.over) ∙ eq_z_refl (sub_ℕ k 15)) m.shared))

  -- ---- the loop

  -- no place below x does, of those that lie over a tick of the second
  pub record Clear (x : ℕ) : Type 0 where
    pub from : low ≤ x
    pub over : k - 15 ≤ x
    pub none : (y : ℕ) → low ≤ y → k - 15 ≤ y → y < x → meet_at y ≡ false

  -- place x shares a station: the tables meet
  pub tables_met : (x last : ℕ) (r : Bool) → last ≡ min end (second.ticks + k - 15) → Clear x → x < last → r ≡ meet_at x → r ≡ true → true ≡ tables_meet low end places second (sub_ℕ k 15)
  tables_met x last r ends c h e t =
      sym
      (some_meets (record { x = x; c = x + 15 - k; from = c.from; x_in = omega arith; c_in = omega (arith, c.over); over = omega (arith, c.over); shared = sym e ∙ t }))

  -- no place is left: they do not
  pub tables_clear : (x last : ℕ) → last ≡ min end (second.ticks + k - 15) → Clear x → last ≤ x → false ≡ tables_meet low end places second (sub_ℕ k 15)
  tables_clear x last ends l h =
      sym
      (decide (tables_meet low end places second (sub_ℕ k 15)) λ t.
      let m = meets_some t in
      let q : m.x + 15 - k ≡ m.c = omega (arith, m.over) in
      apart (sym (l.none m.x m.from (omega (arith, m.over)) (omega (arith, m.x_in, m.c_in, m.over))) ∙ (rw q m.shared)))

  -- further apart than they reach, they do not
  pub tables_apart : (second.ticks + k ≤ low + 15) ⊎ (end + 15 ≤ k) → tables_meet low end places second (sub_ℕ k 15) ≡ false
  tables_apart h =
      decide (tables_meet low end places second (sub_ℕ k 15)) λ t.
      let m = meets_some t in
      ⊎_elim (λ (g : second.ticks + k ≤ low + 15). omega (arith, m.from, m.c_in, m.over)) (λ (g : end + 15 ≤ k). omega (arith, m.x_in, m.over)) h
