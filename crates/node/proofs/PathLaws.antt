-- The record's path put together place by place, and taken apart again.
use Prim.Native.Nat.{ℕ, ◌+◌, ◌≤◌, ◌<◌}
use mathlib.Core.Path.{◌≡◌, refl, ap, sym, ◌∙◌}
use mathlib.Core.List.{List}
use native.Mathlib.Omega.{arith}
use native.Mathlib.Numerals.{add-one}
use lib.ListN.{length, get_or, set, replicate}
use Rattle.model.specs.declared.Turn.{Turn}
use Rattle.model.specs.Common.{count, pad}
use Rattle.model.specs.Search.{empty}
use Rattle.model.proofs.SeqLaws.{listed_length, pad_put}
use Rattle.node.specs.Walk.{turn_of, turns_in}
use Rattle.node.proofs.BackLaws.{turns_more}

pub turns_length : (turns : List ℕ) (d : ℕ) → length (turns_in turns d) ≡ d
unfolding turns_in
turns_length turns d = listed_length (λ k. turn_of (get_or turns k 0)) d

pub path_none : (turns : List ℕ) → replicate 1024 empty ≡ pad 1024 empty (turns_in turns 0)
unfolding turns_in count pad
path_none turns = refl

-- one turn more
pub path_more : (turns : List ℕ) (path : List Turn) (k x : ℕ) → k < 1024 → x ≡ get_or turns k 0 → path ≡ pad 1024 empty (turns_in turns k) → set path k (turn_of x) ≡ pad 1024 empty (turns_in turns (k + 1))
path_more turns path k x h e p =
    let q : turn_of x ≡ turn_of (get_or turns k 0) = ap turn_of e in
    rw (p, q)
    (pad_put 1024 empty (turns_in turns k) k (turn_of (get_or turns k 0)) (turns_length turns k) h
    ∙ ap (pad 1024 empty) (sym (ap (turns_in turns) (add-one k) ∙ turns_more turns k)))

pub path_all : (turns : List ℕ) (path : List Turn) (k depth : ℕ) → k ≤ depth → depth ≤ k → path ≡ pad 1024 empty (turns_in turns k) → path ≡ pad 1024 empty (turns_in turns depth)
path_all turns path k depth h g p = let z : k ≡ depth = omega arith in p ∙ ap (λ (d : ℕ). pad 1024 empty (turns_in turns d)) z
