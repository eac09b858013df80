-- A loop over jobs adds the codes of each in turn: one law for the jobs after job i, and for all jobs.
use Prim.Native.Nat.{ℕ, suc, ◌+◌, ◌-◌, ◌*◌, ◌≤◌, ◌<◌}
use mathlib.Core.Path.{◌≡◌, sym, ap, ◌∙◌}
use mathlib.Core.List.{List, map}
use native.Mathlib.Nat.{mul-suc}
use native.Mathlib.Omega.{arith}
use Rattle.model.specs.Common.{count, joined}
use Rattle.model.specs.Clash.{Clash}
use Rattle.model.proofs.SeqLaws.{count_more, count_end}
use Rattle.clashes.specs.declared.Clashes.{Clashes}
use Rattle.clashes.specs.Code.{code_of}
use Rattle.clashes.specs.List.{add_all, Grown}
use Rattle.clashes.proofs.SeqLaws.{map_append}
use Rattle.clashes.proofs.StoreLaws.{add_append}

-- the codes of jobs k to n − 1, each job's by f
unfoldable pub codes_from : (ℕ → List Clash) → ℕ → ℕ → List ℕ
codes_from f k n = map code_of (joined f (count k (n - k)))

-- the loop over k has come from the list `from` to l, by `most` codes a turn at most
pub record Growing (f : ℕ → List Clash) (most a n : ℕ) (from l : Clashes) (k : ℕ) : Type 0 where
  pub begun : a ≤ k
  pub within : k ≤ n
  pub few : l.count ≤ from.count + most * (k - a)
  pub rest : add_all l (codes_from f k n) ≡ add_all from (codes_from f a n)

module _ (f : ℕ → List Clash) (most a n : ℕ) where
  -- before the first turn
  pub grow_none : (k : ℕ) (l : Clashes) → k ≡ a → a ≤ n → Growing f most a n l l k
  grow_none k l e h =
      record { begun = omega arith; within = omega arith; few = omega arith; rest = ap (λ (k : ℕ). add_all l (codes_from f k n)) e }

  -- one turn adds the codes of job k
  pub grow_more : (from l m : Clashes) (k : ℕ) → Growing f most a n from l k → k < n → Grown l m (map code_of (f k)) most → Growing f most a n from m (k + 1)
  unfolding codes_from joined
  grow_more from l m k g h s =
      let e : k + 1 - a ≡ suc (k - a) = omega (arith, g.begun) in
      record {
        begun = omega (arith, g.begun);
        within = omega arith;
        few = rw (e, mul-suc) (omega (arith, g.few, s.few));
        rest =
            ap (λ (x : Clashes). add_all x (codes_from f (k + 1) n)) s.all
            ∙ sym (add_append l (map code_of (f k)) (codes_from f (k + 1) n))
            ∙ (rw (count_more k n h, map_append code_of (f k)) at g.rest);
      }

  -- after the last turn all are there
  pub grow_end : (from l : Clashes) (k : ℕ) → Growing f most a n from l k → n ≤ k → l ≡ add_all from (codes_from f a n)
  unfolding codes_from add_all joined
  grow_end from l k g h = rw (count_end k n h) at g.rest
