-- `step::loss_with` meets its contract: the numbers that it hands on are the job's, and they fit.
-- Assumes nothing.
use Rattle.step.proofs.Fits.{numbers_fit}
use Rattle.step.proofs.loss_with.Goals as goal

pub job_loss-requires : goal.job_loss-requires
job_loss-requires c = rw (c.loss_pages.ensures, c.requires.2) (numbers_fit c.args.j c.args.t c.requires.0 c.requires.1)
