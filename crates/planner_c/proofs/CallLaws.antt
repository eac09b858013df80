-- What each call yields, from what its parts do: the search that the record stands for, the planner's call, and its answer as numbers.
use mathlib.Core.Path.{◌≡◌, ◌∙◌, ap}
use mathlib.Core.List.{List}
use mathlib.Core.Logic.{◌⊎◌, inl, inr}
use Prim.Native.Nat.{ℕ}
use Rattle.model.specs.declared.Search.{Search}
use Rattle.model.specs.declared.Opened.{Opened}
use Rattle.model.specs.declared.Ran.{Ran}
use Rattle.model.specs.declared.Answer.{Answer}
use Rattle.model.specs.declared.Answer.TheVariants.{Spent, Plan, NoPlan}
use Rattle.model.specs.Refusal.{Written}
use Rattle.model.specs.Common.{Outcome}
use Rattle.model.specs.Open.{opened}
use Rattle.model.specs.Run.{ran}
use Rattle.model.specs.Text.{written}
use Rattle.planner_c.specs.declared.records.Record.{Record}
use Rattle.planner_c.specs.declared.replies.Reply.{Reply}
use Rattle.planner_c.specs.declared.replies.Text.{Text}
use Rattle.planner_c.specs.Records.{search_in, record_of}
use Rattle.planner_c.specs.Replies.{number_of, reply_of, text_of}
use Rattle.planner_c.specs.Calls.{record_opened, opened_as, opened_record, record_after, ran_as, ran_record, text_as, written_text}

-- opening
pub record_opened_lem : (s : Record) (file : List ℕ) (o : Opened) (k : ℕ) (after : Record) → o ≡ opened file → k ≡ number_of o.answer → after ≡ record_opened s o.answer o.search
    → (k, after) ≡ opened_record s file
unfolding opened_record opened_as
record_opened_lem s file o k after e p q = (λ i. (p i, q i)) ∙ ap (opened_as s) e

-- running
pub record_ran :
    (s : Record) (budget : ℕ) (list list' : List ℕ) (t : Search) (r : Ran) (reply : Reply) (after : Record)
    → t ≡ search_in s → (r, list') ≡ ran t budget list → reply ≡ reply_of r.answer → after ≡ record_after s r.answer r.search
    → ((reply, after), list') ≡ ran_record s budget list
unfolding ran_record ran_as
record_ran s budget list list' t r reply after e f p q =
    (λ i. ((p i, q i), list')) ∙ ap (ran_as s) f ∙ ap (λ (u : Search). ran_as s (ran u budget list)) e

-- the record that is stored where a run is answered
pub stored : (s : Record) (a : Answer) (t : Search) → ((x : ℕ) × (a ≡ Spent x)) ⊎ (((x : ℕ) × (y : ℕ) × (a ≡ Plan x y)) ⊎ ((x : ℕ) × (a ≡ NoPlan x))) → record_of t ≡ record_after s a t
unfolding record_after
stored s a t (inl (x, e)) = rw e
stored s a t (inr (inl (x, y, e))) = rw e
stored s a t (inr (inr (x, e))) = rw e

-- writing the text that f says
pub record_written :
    (f : Search → Outcome (List ℕ)) (s : Record) (buffer buffer' : List ℕ) (t : Search) (w : Written) (x : Text)
    → t ≡ search_in s → (w, buffer') ≡ written (f t) buffer → x ≡ text_of w
    → (x, buffer') ≡ written_text (f (search_in s)) buffer
unfolding written_text text_as
record_written f s buffer buffer' t w x e g p =
    (λ i. (p i, buffer')) ∙ ap text_as g ∙ ap (λ (u : Search). text_as (written (f u) buffer)) e
