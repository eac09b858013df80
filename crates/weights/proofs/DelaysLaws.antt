-- Reading a batch's delays: what a loop over them has tested, coded and copied, and the list after it.
use mathlib.Core.Path.{◌≡◌, refl, ap, sym, ◌∙◌}
use Rattle.std.specs.Prelude.{Some, None}
use mathlib.Core.Bool.{Bool, true, false, ◌&&◌}
use mathlib.Core.List.{List}
use Prim.Native.Nat.{ℕ, ◌+◌, ◌≤◌, ◌<◌}
use native.Mathlib.Omega.{arith}
use lib.ListN.{take, set, replicate}
use Rattle.model.specs.declared.Delay.{Delay}
use Rattle.model.specs.declared.Batch.{Batch}
use Rattle.model.specs.Common.{count}
use Rattle.model.specs.Batch.{delay_of}
use Rattle.model.specs.Open.{jobs_ok, weight_ok}
use Rattle.model.proofs.BoolLaws.{both}
use Rattle.model.proofs.AllLaws.{all_from, all_start, all_passed, all_failed, all_ended, all_both}
use Rattle.model.proofs.LimitLaws.{weight_iff}
use Rattle.delay_list.specs.declared.Columns.{Columns}
use Rattle.delay_list.specs.Columns.{columns_of, delay_at}
use Rattle.delay_list.proofs.ColumnLaws.{batch_delay_at, batch_delays}
use Rattle.weights.specs.Code.{Limited, coded}
use Rattle.weights.specs.declared.Inequality.{Inequality}
use Rattle.weights.specs.Inequality.{blank_inequality, listed}
use Rattle.weights.specs.Delays.{inequality_of, delays_pass, delays_read, ReadsDelays}
use Rattle.weights.proofs.ListedLaws.{listed_none, listed_more, listed_cong}

-- ---- delays

-- the test of the delay at place k of a list's columns, among n jobs
unfoldable pub delay_test : ℕ → Columns → ℕ → Bool
delay_test n columns k = jobs_ok n (delay_at columns k) && weight_ok (delay_at columns k)

-- the delays below k have passed and are coded, those from k on decide
pub record ReadTo (n : ℕ) (columns : Columns) (m : ℕ) (list : List Inequality) (k : ℕ) : Type 0 where
  pub few : k ≤ m
  pub left : all_from (delay_test n columns) k m ≡ all_from (delay_test n columns) 0 m
  pub read : list ≡ listed (λ i. inequality_of (delay_at columns i)) 128 k

pub read_none : (n : ℕ) (columns : Columns) (m : ℕ) → ReadTo n columns m (replicate 128 blank_inequality) 0
read_none n columns m = record { few = omega arith; left = refl; read = listed_none _ 128 }

pub weight_limited : (q : Delay) → weight_ok q ≡ true → Limited q.weight
weight_limited q e = let h = (weight_iff q).0 e in record { low = h.0; high = h.1 }

-- a delay that passes has a weight with a code
pub read_limited : (n : ℕ) (q : Delay) (x : Bool) → x ≡ (jobs_ok n q && weight_ok q) → x ≡ true → Limited q.weight
read_limited n q x test e = weight_limited q (both (jobs_ok n q) (weight_ok q) (sym test ∙ e)).1

-- delay k is read as q, and tested: x is the answer
module _ (n : ℕ) (columns : Columns) (m : ℕ) (list : List Inequality) (k : ℕ) (at : ReadTo n columns m list k) (h : k < m) (q : Delay) (x : Bool) (is : q ≡ delay_at columns k) (test : x ≡ (jobs_ok n q && weight_ok q)) where
  tested : x ≡ delay_test n columns k
  unfolding delay_test
  tested = rw is at test

  -- it passes, and is coded
  pub read_more : x ≡ true → (v : ℕ) → v ≡ coded q.weight → ReadTo n columns m (set list k (record { from = q.from; to = q.to; code = v })) (k + 1)
  read_more e v c =
      record {
        few = omega arith;
        left = all_passed _ k m _ at.left h (sym tested ∙ e);
        read = listed_more _ 128 k _ list at.read (rw (c, is) refl);
      }

  -- it fails, and so do the delays
  pub read_failed : x ≡ false → false ≡ all_from (delay_test n columns) 0 m
  read_failed e = all_failed _ k m _ at.left h (sym tested ∙ e)

-- the columns are those of the batch's list of delays
module _ (b : Batch) (columns : Columns) (m : ℕ) (same : columns ≡ columns_of (take m b.delays)) (e : m ≡ b.m) where
  -- what the loop has tested is what the definition asks
  delays_start : all_from (delay_test b.n columns) 0 m ≡ delays_pass b
  unfolding delays_pass delay_test
  delays_start = rw (batch_delays b columns m same e) (all_start (delay_test b.n columns) m ∙ all_both (jobs_ok b.n) weight_ok (delay_at columns) (count 0 m))

  -- the loop has ended, or one delay has failed
  pub read_all : (list : List Inequality) (k : ℕ) → ReadTo b.n columns m list k → m ≤ k → ReadsDelays b (Some list)
  unfolding delays_read delay_of
  read_all list k at h =
      let s : k ≡ m = omega arith in
      let c : list ≡ listed (λ i. inequality_of (delay_of b i)) 128 m = rw (at.read, s) (listed_cong _ _ 128 m (λ i p. ap inequality_of (batch_delay_at b columns m same i p))) in (
        sym (all_ended _ k m _ at.left h ∙ delays_start),
        rw e at c,
      )

  pub read_not : false ≡ all_from (delay_test b.n columns) 0 m → ReadsDelays b None
  read_not f = sym (f ∙ delays_start)
