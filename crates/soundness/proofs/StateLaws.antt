-- What soundness asks of a path whose turns were read: a route that is read stands for the path's turns.
use Prim.Native.Nat.{ℕ, ◌-◌}
use mathlib.Core.Path.{◌≡◌, refl, ap, sym, ◌∙◌}
use mathlib.Core.Bool.{Bool, ◌&&◌, ◌||◌, not}
use mathlib.Core.List.{List, [], ◌∷◌}
use native.Mathlib.Omega.{arith}
use lib.ListN.{length, take, drop}
use Rattle.std.proofs.lemmas.List.{take_all, length-drop}
use lib.Dec.{eqb}
use borrow.Author.Tests.{ne_eqb}
use Rattle.model.specs.declared.Search.{Search}
use Rattle.model.specs.Common.{all, is_empty}
use Rattle.model.specs.Clash.{clashes}
use Rattle.model.specs.Search.{is_turn, turns_of}
use Rattle.model.specs.Sound.{sound_path}
use Rattle.soundness.specs.declared.path.Route.{Route}
use Rattle.soundness.specs.Path.{rest_empty, Routed}

empty_length : {A : Type 0} (xs : List A) → is_empty xs ≡ eqb (length xs) 0
unfolding is_empty
empty_length [] = refl
empty_length (x ∷ xs) = sym (ne_eqb (length (x ∷ xs)) 0 (λ e. omega arith))

-- the turns are sound, and the rest decides
pub path_rest : (s : Search) (r : Route) → Routed s.path (length (clashes s.batch)) r → length s.path ≡ 1024 → (x : Bool) → x ≡ rest_empty (take (1024 - r.depth) (drop r.depth s.path)) → (o : Bool) → s.ended ≡ o → (x && (not o || eqb r.depth 0)) ≡ sound_path s
unfolding sound_path rest_empty
path_rest s r h long x p o q =
    let ts = turns_of s.path in
    let e = h.coded.whole in
    let all_left = take_all (1024 - r.depth) (drop r.depth s.path) (omega (arith, length-drop r.depth s.path)) in
    ap (λ (a : Bool). x && (not a || eqb r.depth 0)) (sym q)
    ∙ ap (λ (a : Bool). a && (not s.ended || eqb r.depth 0)) (p ∙ ap rest_empty all_left)
    ∙ ap (λ (n : ℕ). all (λ t. not (is_turn t)) (drop n s.path) && (not s.ended || eqb n 0)) e
    ∙ ap (λ (p : Bool). all (λ t. not (is_turn t)) (drop (length ts) s.path) && (not s.ended || p)) (sym (empty_length ts))
    ∙ ap (λ (p : Bool). (p && all (λ t. not (is_turn t)) (drop (length ts) s.path)) && (not s.ended || is_empty ts)) (sym h.sound)
