-- The columns of a list grow by one delay at a time, and each delay is read out of them again.
use Prim.Native.Nat.{ℕ, suc, ◌+◌, ◌<◌, ◌≤◌}
use mathlib.Core.Path.{◌≡◌, ap, sym, ◌∙◌}
use mathlib.Core.List.{List, map}
use native.Mathlib.Omega.{arith}
use lib.ListN.{length, take, get_or, set, length-map, get_or-map}
use lib.Seq.{get_or-take, length-take-le, take-suc}
use lib.IntN.{pos}
use Rattle.std.proofs.Common.{add-one}
use Rattle.model.specs.declared.Delay.{Delay}
use Rattle.model.specs.declared.Batch.{Batch}
use Rattle.model.specs.Common.{count, pad}
use Rattle.model.specs.Batch.{blank_delay, delay_of, delays_of}
use Rattle.model.proofs.SeqLaws.{map_snoc, listed_cong, pad_at, pad_put}
use Rattle.delay_list.specs.declared.Columns.{Columns}
use Rattle.delay_list.specs.Columns.{columns_of, delay_at}

-- a column of the first k delays, with its part of delay k stored
pub column_more : {X : Type 0} (part : Delay → X) (blank : X) (list : List Delay) (k : ℕ) → k < length list → k < 128
    → set (pad 128 blank (map part (take k list))) k (part (get_or list k blank_delay)) ≡ pad 128 blank (map part (take (suc k) list))
column_more part blank list k h g =
    pad_put 128 blank (map part (take k list)) k _ (length-map (take k list) part ∙ length-take-le k list (omega arith)) g
    ∙ ap (pad 128 blank) (sym (map_snoc part (take k list) _) ∙ ap (map part) (sym (take-suc list k blank_delay h)))

-- the columns of the first k delays, with delay k stored at place k
pub columns_more : (list : List Delay) (k : ℕ) (columns : Columns) → k < length list → length list ≤ 128 → columns ≡ columns_of (take k list)
    → ◌≡◌ {A = Columns} (record {
      from = set columns.from k (get_or list k blank_delay).from;
      to = set columns.to k (get_or list k blank_delay).to;
      weight = set columns.weight k (get_or list k blank_delay).weight;
    }) (columns_of (take (k + 1) list))
unfolding columns_of
columns_more list k columns h few e =
    let near : k < 128 = omega arith in
    let q = get_or list k blank_delay in
    let f = column_more (λ q. q.from) 0 list k h near in
    let t = column_more (λ q. q.to) 0 list k h near in
    let w = column_more (λ q. q.weight) (pos 0) list k h near in
    rw (e, add-one) (λ i. record { from = f i; to = t i; weight = w i })

-- a delay that is read out of the columns is the list's
pub delay_at_lem : (list : List Delay) (k : ℕ) → delay_at (columns_of list) k ≡ get_or list k blank_delay
unfolding columns_of blank_delay
delay_at_lem list k =
    let f = pad_at 128 0 (map (λ q. q.from) list) k ∙ get_or-map (λ (q : Delay). q.from) list k blank_delay in
    let t = pad_at 128 0 (map (λ q. q.to) list) k ∙ get_or-map (λ (q : Delay). q.to) list k blank_delay in
    let w = pad_at 128 (pos 0) (map (λ q. q.weight) list) k ∙ get_or-map (λ (q : Delay). q.weight) list k blank_delay in
    λ i. record { from = f i; to = t i; weight = w i }

-- of a batch's columns
module _ (b : Batch) (columns : Columns) (m : ℕ) (same : columns ≡ columns_of (take m b.delays)) where
  pub batch_delay_at : (k : ℕ) → k < m → delay_at columns k ≡ delay_of b k
  unfolding delay_of
  batch_delay_at k h = rw same (delay_at_lem (take m b.delays) k ∙ get_or-take m b.delays k blank_delay h)

  pub batch_delays : m ≡ b.m → delays_of b ≡ map (delay_at columns) (count 0 m)
  unfolding delays_of delay_of
  batch_delays e = rw (← e) (listed_cong _ _ m (λ k h. sym (batch_delay_at k h)))
