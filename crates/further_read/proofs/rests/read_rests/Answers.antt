-- The places that `read_kind` fills are those of the lines that the definition reads.
use mathlib.Core.Path.{◌∙◌}
use native.Mathlib.Omega.{arith}
use Rattle.std.proofs.lemmas.Result.{err_from_is_err_and}
use Rattle.model.specs.Common.{count, ◌>>=◌}
use Rattle.model.specs.Numbered.{place_in}
use Rattle.model.specs.Refusal.{told}
use Rattle.model.specs.Rest.{rest_in, rests_of}
use Rattle.further_read.specs.Kind.{beside}
use Rattle.further_read.specs.Rests.{read_rests, rests_told}
use Rattle.further_read.proofs.RestLaws.{rest_below, rest_numbers}
use Rattle.further_read.proofs.NumberedKind.{places_kind}
use Rattle.further_read.proofs.rests.read_rests.Goals as goal

-- each station is below 16
pub read_kind-requires-clause-room : goal.read_kind-requires-clause-room
read_kind-requires-clause-room c low f i p e = let below = rest_below low f i p e in (omega arith, omega arith)

-- a line is refused
pub returns-in_err-place : goal.returns-in_err-place
unfolding told beside ◌>>=◌ read_rests rests_told rests_of rest_in place_in count
returns-in_err-place c =
    let p = err_from_is_err_and c.from_residual.result c.from_residual.ensures.1 in
    rw (p.1, p.2) (c.in_err-place.ensures ∙ places_kind rest_numbers c.args.file.now c.args.at)

pub returns : goal.returns
unfolding told beside ◌>>=◌ read_rests rests_told rests_of rest_in place_in count
returns c = c.in_ok-place.ensures ∙ places_kind rest_numbers c.args.file.now c.args.at
