-- Lists of run calls on a freshly opened search: what is handed on from call to call, and S.
use Rattle.std.specs.Prelude.{ℕ, ◌+◌, min, Bool, ◌&&◌, ◌||◌, List, [], ◌∷◌, length, ltb, if◌then◌else◌}
use Rattle.model.specs.declared.Batch.{Batch}
use Rattle.model.specs.declared.Search.{Search}
use Rattle.model.specs.declared.Ran.{Ran}
use Rattle.model.specs.Limits.{most_budget, most_total}
use Rattle.model.specs.Run.{ran}

-- starts lists may differ from call to call in length and in what they hold
pub record Call : Type 0 where
  pub budget : ℕ
  pub starts : List ℕ

unfoldable pub call : Search → Call → Ran × List ℕ
call s c = ran s c.budget c.starts

-- each call gets the record that the one before returned
unfoldable pub after : Search → List Call → Search
after s [] = s
after s (c ∷ cs) = after (call s c).0.search cs

-- the table refuses a call by 11, 13 or 14. 14 is read with S before the call: the smaller of it and N is the total, and not
-- ended means that it is below N; 12 refuses no call of such a list
unfoldable pub refuses : Batch → ℕ → ℕ → Call → Bool
refuses b N S c =
    ltb most_budget c.budget || ltb (length c.starts) b.n || (ltb S N && ltb most_total (min S N + c.budget))

-- S: 0 before the first call; each call that the table does not refuse adds its budget
unfoldable pub granted : Batch → ℕ → ℕ → List Call → ℕ
granted b N S [] = S
granted b N S (c ∷ cs) = granted b N (if refuses b N S c then S else S + c.budget) cs
