-- `read_rest` asks for the end of the file in edition 01, and reads the further lines of edition 02.
use mathlib.Core.Path.{ap, sym}
use Rattle.model.specs.Common.{count, ◌>>=◌}
use Rattle.model.specs.Batch.{blank_window}
use Rattle.model.specs.Numbered.{place_in}
use Rattle.model.specs.Window.{window_in, windows_of}
use Rattle.model.specs.Rest.{rest_in, rests_of}
use Rattle.model.specs.Format.{no_further}
use Rattle.model.specs.Refusal.{told, number}
use Rattle.further_read.specs.Further.{further_told}
use Rattle.reading.proofs.FileLaws.{rest_second, rest_more, rest_none}
use Rattle.reading.proofs.batch.read_rest.Goals as goal

pub returns-then-edition-ne1 : goal.returns-then-edition-ne1
returns-then-edition-ne1 c = rw (rest_second _ c.args.n _ c.if-edition-ne1.true) c.read_further.ensures

pub returns-then-at-file : goal.returns-then-at-file
unfolding told number further_told ◌>>=◌
returns-then-at-file c = sym (ap further_told (rest_more c.args.file.now c.args.edition c.args.n c.args.at c.if-edition-ne1.false c.if-at-file.true))

pub returns : goal.returns
unfolding told further_told ◌>>=◌ no_further windows_of window_in rests_of rest_in place_in blank_window count
returns c = sym (ap further_told (rest_none c.args.file.now c.args.edition c.args.n c.args.at c.if-edition-ne1.false c.if-at-file.false))
