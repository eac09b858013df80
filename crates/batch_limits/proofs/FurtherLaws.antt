-- The edition and the further lines, as tests of every job and of every station.
use Rattle.std.specs.Prelude.{if◌then◌else◌}
use Prim.Native.Nat.{ℕ, ◌≤◌}
use mathlib.Core.Path.{◌≡◌, refl, ap, ◌∙◌}
use mathlib.Core.Bool.{Bool, true, false, not}
use mathlib.Core.List.{List, [], ◌∷◌, map}
use lib.ListN.{length, take}
use Rattle.std.specs.List.{list_all}
use lib.Dec.{leb, eqb}
use Rattle.model.specs.declared.Window.{Window}
use Rattle.model.specs.declared.Batch.{Batch}
use Rattle.model.specs.Common.{all, count, keep, is_empty}
use Rattle.model.specs.Limits.{most_rest, stations}
use Rattle.model.specs.Batch.{blank_window, rest_of, window_of, lined, earliest, latest}
use Rattle.model.specs.Window.{window_line, window_lines, window_ok}
use Rattle.model.specs.Rest.{rested, rest_line, rest_lines, rest_ok}
use Rattle.batch_limits.specs.Further.{ends_pass, windows_pass, unlined, rests_pass, unrested}
use Rattle.batch_limits.proofs.LimitLaws.{all_whole, all_front}

-- ---- ends

pub all_ends : (b : Batch) (n : ℕ) → n ≡ b.n → n ≤ length b.windows → list_all ends_pass (take n b.windows) ≡ windows_pass b
unfolding windows_pass ends_pass window_ok lined earliest latest window_of
all_ends b n e m =
    all_front ends_pass blank_window (window_ok b) b.windows n m (λ i l. refl)
    ∙ ap (λ (k : ℕ). all (window_ok b) (count 0 k)) e

-- ---- no lines

-- nothing that is kept of some numbers: each fails the test
pub none_kept : {A : Type 0} (none : ℕ → Bool) (line : ℕ → A) (xs : List ℕ) → all none xs ≡ is_empty (map line (keep (λ i. not (none i)) xs))
unfolding all keep is_empty
none_kept none line [] = refl
none_kept none line (x ∷ xs) = go (none x) (none_kept none line xs)
  where
    go : (t : Bool) → all none xs ≡ is_empty (map line (keep (λ i. not (none i)) xs))
        → ◌≡◌ {A = Bool} (elim t [ true ↦ all none xs | false ↦ false ]) (is_empty (map line (if not t then x ∷ keep (λ i. not (none i)) xs else keep (λ i. not (none i)) xs)))
    go true rec = rec
    go false rec = refl

-- a job has none, by its flag
pub all_unlined : (b : Batch) (n : ℕ) → n ≡ b.n → n ≤ length b.windows → list_all (λ (w : Window). eqb w.lined 0) (take n b.windows) ≡ unlined b
unfolding unlined window_lines lined window_of
all_unlined b n e m =
    all_front (λ (w : Window). eqb w.lined 0) blank_window (λ i. eqb (window_of b i).lined 0) b.windows n m (λ i l. refl)
    ∙ ap (λ (k : ℕ). all (λ i. eqb (window_of b i).lined 0) (count 0 k)) e
    ∙ none_kept (λ i. eqb (window_of b i).lined 0) (window_line b) (count 0 b.n)

-- ---- rests

pub all_rests : (b : Batch) → length b.rests ≡ stations → list_all (λ r. leb r most_rest) b.rests ≡ rests_pass b
unfolding rests_pass rest_ok rest_of
all_rests b e = all_whole (λ r. leb r most_rest) 0 (rest_ok b) b.rests stations e (λ i l. refl)

-- a station has no line
pub all_unrested : (b : Batch) → length b.rests ≡ stations → list_all (λ r. eqb r 0) b.rests ≡ unrested b
unfolding unrested rest_lines rested rest_of
all_unrested b e =
    all_whole (λ r. eqb r 0) 0 (λ s. eqb (rest_of b s) 0) b.rests stations e (λ i l. refl)
    ∙ none_kept (λ s. eqb (rest_of b s) 0) (rest_line b) (count 0 stations)
