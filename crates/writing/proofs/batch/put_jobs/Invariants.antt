-- Each turn of `put_jobs` puts one job line behind those before it.
use Rattle.frame_put.proofs.Pieces.{Filled}
use Rattle.writing.proofs.Texts.{job_piece}
use Rattle.writing.proofs.batch.put_jobs.Given as goal

abbrev pub invariant-loop-job : goal.invariant-loop-job
invariant-loop-job l = Filled (job_piece l.fn.batch) l.initial.buffer l.at l.job-index l.next l.buffer
