-- `meeting::share`: two masks share a station exactly when their bitwise and is not 0.
use borrow.Author.Rules.{rules}
use Rattle.tables.proofs.MaskLaws.{shares_and}
use Rattle.tables.proofs.meeting.share.Goals as goal

pub returns : goal.returns
returns c = shares_and _ _ (search rules)
