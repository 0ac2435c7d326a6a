-- `profile_read::judge_records` meets its contract: before each turn the verdict is that of the records from the k-th on.
-- Assumes nothing.
use mathlib.Core.Path.{◌≡◌}
use lib.ListN.{drop}
use Rattle.model.specs.Model.{first_refused}
use Rattle.profile_read.specs.Reading.{records_in, judge_record}
use Rattle.profile_read.proofs.Records.{judged_from}
use Rattle.profile_read.proofs.judge_records.Given as goal

abbrev pub invariant-loop-k : goal.invariant-loop-k
invariant-loop-k l = first_refused judge_record 0 (records_in l.n (drop 1 l.bytes)) ≡ judged_from l.bytes l.k l.n
