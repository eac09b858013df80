-- Opening a file that was read: 9 and 10, and the fresh search.
use Prim.Native.Nat.{ℕ}
use mathlib.Core.Path.{◌≡◌, sym, ◌∙◌}
use mathlib.Core.Bool.{true, false}
use mathlib.Core.List.{List}
use Rattle.model.specs.declared.Batch.{Batch}
use Rattle.model.specs.Common.{refuse, accept}
use Rattle.model.specs.Format.{Within}
use Rattle.model.specs.Open.{few_clashes, delays_met, read_file, open_file}
use Rattle.model.proofs.OutcomeLaws.{accepts_bind, accepts_require, refuses_require}
use Rattle.model.proofs.LimitLaws.{limits_within}
use Rattle.model.proofs.FileLaws.{read_limits}
use Rattle.frame_read.proofs.Tests.{refuses_bind}

-- the file is not read
pub open_refused : (file : List ℕ) (k : ℕ) → read_file file ≡ refuse k → refuse k ≡ open_file file
unfolding open_file
open_refused file k e = sym (refuses_bind _ e)

module _ (file : List ℕ) (b : Batch) (is : read_file file ≡ accept b) where
  -- its batch is within the limits
  pub open_within : Within b
  open_within = limits_within b (read_limits file b is)

  -- 9
  pub open_many : few_clashes b ≡ false → refuse 9 ≡ open_file file
  unfolding open_file
  open_many h = sym (accepts_bind _ is ∙ refuses_require 9 _ h)

  -- 10
  pub open_unmet : few_clashes b ≡ true → delays_met b ≡ false → refuse 10 ≡ open_file file
  unfolding open_file
  open_unmet few h = sym (accepts_bind _ is ∙ accepts_require 9 _ few ∙ refuses_require 10 _ h)

  -- it opens
  pub open_all : few_clashes b ≡ true → delays_met b ≡ true → accept b ≡ open_file file
  unfolding open_file
  open_all few met = sym (accepts_bind _ is ∙ accepts_require 9 _ few ∙ accepts_require 10 _ met)
