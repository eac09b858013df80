-- `digit_of` takes the digit by the definition's own test.
use borrow.Author.Tests.{lt-ltb, le-ltb}
use Rattle.model.specs.Line.{digit_of}
use Rattle.lines.proofs.write.digit_of.Goals as goal

pub returns-then-v-lt10 : goal.returns-then-v-lt10
unfolding digit_of
returns-then-v-lt10 c = simp (lt-ltb _ _ c.if-v-lt10.true)

pub returns-else-v-lt10 : goal.returns-else-v-lt10
unfolding digit_of
returns-else-v-lt10 c = simp (le-ltb _ _ c.if-v-lt10.false)
