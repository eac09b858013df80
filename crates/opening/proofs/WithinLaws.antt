-- What a batch within the limits gives the crates that list its clashes and find its least starts, and what the list says of it.
use mathlib.Core.Path.{◌≡◌, ap}
use lib.Dec.{leb}
use Rattle.model.specs.declared.Batch.{Batch}
use Rattle.model.specs.Batch.{delays_of}
use Rattle.model.specs.Rest.{WithinRests}
use Rattle.model.specs.Format.{Within}
use Rattle.model.specs.Open.{jobs_ok, weight_ok, few_clashes}
use Rattle.model.proofs.ListLaws.{each_all}
use Rattle.model.proofs.LimitLaws.{within_limits}
use Rattle.clashes.specs.declared.Clashes.{Clashes}
use Rattle.clashes.specs.List.{Tabled, list_of}
use Rattle.model.proofs.WindowLaws.{window_ok_lem, window_soon}
use Rattle.times.specs.Fill.{Small}
use Rattle.times.specs.Ends.{earliest_read}
use Rattle.times.proofs.EndsLaws.{earliest_small}
use Rattle.weights.specs.Delays.{DelaysSound}

-- a batch within the limits
module _ (b : Batch) (w : Within b) where
  -- its clashes can be listed
  pub within_tabled : Tabled b
  unfolding WithinRests
  within_tabled = record { few = w.jobs.1; short = λ i l. (w.ticks_each i l).1; rests = w.rests }

  -- no earliest start is above 20,000
  pub within_soon : Small (earliest_read b) 20000
  within_soon = earliest_small b w.jobs.1 20000 (λ i h. window_soon b i (window_ok_lem b w.windows i h))

  -- its delays can be read
  pub within_sound : DelaysSound b
  within_sound =
      let l = within_limits b w in
      record {
        some = w.jobs.0;
        most = w.jobs.1;
        few = w.delays;
        jobs = each_all (jobs_ok b.n) (delays_of b) l.jobs_each;
        weights = each_all weight_ok (delays_of b) l.weights_each;
      }

  -- D, by the list's count
  pub few_is : (l : Clashes) → l ≡ list_of b → leb l.count 1024 ≡ few_clashes b
  unfolding list_of few_clashes
  few_is l e = ap (λ (x : Clashes). leb x.count 1024) e
