-- The test of a period: what `allowed` promises to inner functions, and what they promise in turn. proofs/Allowing.antt shows that it holds
-- exactly where the period is Allowed. Of entry points only the ladder's lines cite this, through
-- specs/Judging.antt of score. Assumes nothing.
use Rattle.std.specs.Prelude.{Bool, not, ◌&&◌, ◌%◌, eqb, ltb}
use Rattle.model.specs.declared.Seconds.{Seconds}
use Rattle.model.specs.declared.Job.{Job}

-- Whether a job may have a period after the period `before`.
unfoldable pub allows : Job → Seconds → Seconds → Bool
allows j before t = not (ltb t.0 j.lo.0) && (not (ltb j.hi.0 t.0) && eqb (t.0 % before.0) 0)
