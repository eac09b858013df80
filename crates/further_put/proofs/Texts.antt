-- The further lines as the pieces that the loops put: what both kinds have in common, the window lines, and the rest lines.
use Rattle.std.specs.Prelude.{if◌then◌else◌}
use Prim.Native.Nat.{ℕ, ◌*◌, ◌<◌, ◌≤◌}
use mathlib.Core.Path.{◌≡◌, refl, ap, sym, ◌∙◌}
use mathlib.Core.Bool.{Bool, true, false, not}
use mathlib.Core.List.{List, [], ◌∷◌, ◌++◌, map}
use native.Mathlib.Omega.{arith}
use lib.ListN.{length, take, get_or}
use lib.Seq.{length-take-le}
use Rattle.std.specs.List.{count_by}
use Rattle.std.proofs.lemmas.List.{get_or-take}
use Rattle.std.proofs.lemmas.List.Sums.{count_by-le-length}
use lib.Dec.{eqb}
use borrow.Author.Tests.{eq-eqb, ne_eqb}
use Rattle.model.specs.declared.Batch.{Batch}
use Rattle.model.specs.declared.Window.{Window}
use Rattle.model.specs.Common.{count, keep, joined}
use Rattle.model.specs.Limits.{stations}
use Rattle.model.specs.Batch.{blank_window, rest_of, window_of, lined, earliest, latest}
use Rattle.model.specs.Window.{window_text, window_line, window_lines}
use Rattle.model.specs.Rest.{rest_text, rested, rest_line, rest_lines}
use Rattle.model.proofs.SeqLaws.{get_d_default}
use Rattle.frame_put.specs.Window.{window_as}
use Rattle.frame_put.specs.Rest.{rest_as}
use Rattle.frame_put.proofs.Pieces.{pieces}
use Rattle.frame_put.proofs.Lengths.{window_length, rest_length}
use Rattle.further_put.specs.Lined.{line_if}
use Rattle.further_put.specs.Windows.{window_piece}
use Rattle.further_put.specs.Rests.{rest_piece}
use Rattle.further_put.proofs.Sizes.{counted}

-- ---- lines that stand only where a number is not 0

-- the lines of those numbers that have one are pieces
kept_text : {A : Type 0} (text : A → List ℕ) (line : ℕ → A) (has : ℕ → Bool) (n : ℕ) → joined text (map line (keep has (count 0 n))) ≡ pieces (λ i. if has i then text (line i) else []) n
unfolding keep joined pieces
kept_text text line has n = go (count 0 n)
  where
    go : (xs : List ℕ) → joined text (map line (keep has xs)) ≡ joined (λ i. if has i then text (line i) else []) xs
    go [] = refl
    go (x ∷ xs) = step (has x) (go xs)
      where
        step : (t : Bool) → joined text (map line (keep has xs)) ≡ joined (λ i. if has i then text (line i) else []) xs
            → joined text (map line (if t then x ∷ keep has xs else keep has xs)) ≡ (if t then text (line x) else []) ++ joined (λ i. if has i then text (line i) else []) xs
        step true e = ap (λ (l : List ℕ). text (line x) ++ l) e
        step false e = e

-- with a line and without
pub line_some : (number : ℕ) (line : List ℕ) → (number ≡ 0 → ⊥) → line_if number line ≡ line
unfolding line_if
line_some number line h = rw (ne_eqb number 0 h)

pub line_none : (number : ℕ) (line : List ℕ) → number ≡ 0 → line_if number line ≡ []
unfolding line_if
line_none number line h = rw (eq-eqb number 0 h)

-- its bytes
pub line_size : (number size : ℕ) (line : List ℕ) → length line ≡ size → length (line_if number line) ≡ (if not (eqb number 0) then size else 0)
unfolding line_if
line_size number size line e = go (not (eqb number 0))
  where
    go : (t : Bool) → length (if t then line else []) ≡ (if t then size else 0)
    go true = e
    go false = refl

-- ---- windows

abbrev pub line_piece : Batch → ℕ → List ℕ
line_piece b i = window_piece i (window_of b i)

pub windows_text : (b : Batch) → joined window_text (window_lines b) ≡ pieces (line_piece b) b.n
unfolding window_lines window_line lined earliest latest window_piece window_as line_if
windows_text b = kept_text window_text (window_line b) (lined b) b.n

-- a window as the code reads it: past the array's end it has no line
abbrev pub read_window : Batch → ℕ → Window
read_window b i = get_or b.windows i (record { lined = 0; earliest = 0; latest = 0 })

pub read_window_lem : (b : Batch) (i : ℕ) → window_piece i (read_window b i) ≡ line_piece b i
unfolding window_of blank_window window_piece line_if
read_window_lem b i = get_d_default (window_piece i) b.windows i (record { lined = 0; earliest = 0; latest = 0 }) blank_window refl

abbrev pub has_line : Window → Bool
has_line w = not (eqb w.lined 0)

-- those of the first n that have one count for 13 bytes each
pub windows_size : (b : Batch) → b.n ≤ length b.windows → 13 * count_by has_line (take b.n b.windows) ≡ length (joined window_text (window_lines b))
unfolding window_piece
windows_size b short =
    let size = length-take-le b.n b.windows short in
    let blank : Window = record { lined = 0; earliest = 0; latest = 0 } in
    let each = λ (i : ℕ) (l : i < length (take b.n b.windows)).
    let less : i < b.n = omega (arith, size) in
    ap length (sym (read_window_lem b i))
    ∙ line_size (read_window b i).lined 13 (window_as i (read_window b i)) (window_length i (read_window b i))
    ∙ ap (λ (w : Window). if has_line w then 13 else 0) (sym (get_or-take b.n b.windows i blank less)) in
    sym (counted has_line (line_piece b) 13 blank (take b.n b.windows) each)
    ∙ ap (λ (k : ℕ). length (pieces (line_piece b) k)) size
    ∙ ap length (sym (windows_text b))

pub windows_most : (b : Batch) → b.n ≤ length b.windows → count_by has_line (take b.n b.windows) ≤ b.n
windows_most b short = omega (arith, count_by-le-length has_line (take b.n b.windows), length-take-le b.n b.windows short)

-- ---- rests, whose lines stand in an array of numbers

abbrev pub station_piece : List ℕ → ℕ → List ℕ
station_piece rests s = rest_piece s (get_or rests s 0)

pub rests_text : (b : Batch) → joined rest_text (rest_lines b) ≡ pieces (station_piece b.rests) stations
unfolding rest_lines rest_line rested rest_of rest_piece rest_as line_if
rests_text b = kept_text rest_text (rest_line b) (rested b) stations

abbrev pub has_rest : ℕ → Bool
has_rest ticks = not (eqb ticks 0)

-- the stations that rest count for 7 bytes each
pub rests_size : (b : Batch) → length b.rests ≡ stations → 7 * count_by has_rest b.rests ≡ length (joined rest_text (rest_lines b))
unfolding rest_piece
rests_size b all =
    let each = λ (s : ℕ) (l : s < length b.rests). line_size (get_or b.rests s 0) 7 (rest_as s (get_or b.rests s 0)) (rest_length s (get_or b.rests s 0)) in
    sym (counted has_rest (station_piece b.rests) 7 0 b.rests each)
    ∙ ap (λ (k : ℕ). length (pieces (station_piece b.rests) k)) all
    ∙ ap length (sym (rests_text b))

pub rests_most : (b : Batch) → length b.rests ≡ stations → count_by has_rest b.rests ≤ stations
rests_most b all = omega (arith, all, count_by-le-length has_rest b.rests)
