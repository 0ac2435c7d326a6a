-- A plan's periods in an array of eight: they come first, and zeros follow.
-- Assumes nothing.
use Rattle.std.proofs.Common.{◌≡◌, ap, List, ◌++◌, length, take, drop, replicate}
use Rattle.std.proofs.Math.Seq.{take-append_seam}
use Rattle.std.proofs.lemmas.List.{drop-replicate}
use Rattle.model.specs.declared.Seconds.{Seconds}
use Rattle.model.specs.Model.{seconds, padded}

-- in front of what is left of eight zeros
pub kept_padded : (ps : List Seconds) →
    let all = ps ++ drop (length ps) (replicate 8 (seconds 0)) in
    all ≡ padded (seconds 0) (take (length ps) all)
kept_padded ps =
    let rest = drop (length ps) (replicate 8 (seconds 0)) in
    rw (take-append_seam ps rest) (ap (λ (l : List Seconds). ps ++ l) (drop-replicate (length ps) 8 (seconds 0)))
