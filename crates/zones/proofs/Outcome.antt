-- What listing answers: the rows of the one list of zones, put by the rule that all rows share.
-- Assumes nothing.
use mathlib.Core.Path.{◌≡◌, sym, ◌∙◌, ap, subst}
use mathlib.Core.Logic.{◌↔◌}
use mathlib.Core.List.{List, ◌++◌}
use Prim.Native.Nat.{ℕ, ◌*◌, ◌/◌, ◌≤◌, ◌<◌}
use native.Mathlib.Omega.{arith}
use lib.ListN.{length, drop}
use Rattle.std.specs.Prelude.{Result, Ok, Err}
use Rattle.model.specs.declared.Seconds.{Seconds}
use Rattle.model.specs.declared.Profile.{Profile}
use Rattle.model.specs.declared.Refusal.{Refusal}
use Rattle.model.specs.Model.{sound, no_job, jobs_of, Permitted, verdict_of, row_size, count_verdict, PutsFront}
use Rattle.model.specs.Valid.{Valid}
use Rattle.model.proofs.Entries.{length_entries}
use Rattle.model.proofs.Validity.{sound_valid, valid_sound}
use Rattle.model.proofs.FrontPut.{own_alone, room_enough, count_refused, rows_put}
use Rattle.zone_walk.specs.declared.Intervals.{Intervals}
use Rattle.zone_walk.specs.Zone.{Zone}
use Rattle.zones.specs.Zones.{ZonesOf, rows_of, Listed}
use Rattle.zone_walk.specs.Listing.{intervals_in, zones_in, zones_for, IntervalsOf, Bounded}
use Rattle.zones.proofs.Bound.{zones_few}
use Rattle.zone_walk.proofs.OfProfile.{intervals_are, intervals_within}
use Rattle.zones.specs.ZoneRows.{Wrote}
use Rattle.zones.proofs.Listing.{listing_is}
use Rattle.zones.proofs.Permitted.{none_permitted}
use Rattle.zones.proofs.ZoneRows.{length_rows}

abbrev pub zones_of : Profile → List Zone
zones_of p = zones_for (jobs_of p)

pub are_zones : (p : Profile) → verdict_of p ≡ sound → ZonesOf (jobs_of p) (zones_of p)
are_zones p e =
    let v = sound_valid p e in
    listing_is (jobs_of p) (omega (arith, length_entries no_job p.jobs 0 p.n)) v.jobs

pub none_of : (p : Profile) → verdict_of p ≡ sound → (length (zones_of p) ≡ 0) ↔ ((ts : List Seconds) → Permitted (jobs_of p) ts → ⊥)
none_of p e =
    let v = sound_valid p e in
    none_permitted (jobs_of p) (omega (arith, length_entries no_job p.jobs 0 p.n)) v.jobs

-- rows put for this list of zones are what listing may answer
pub listed : (p : Profile) (old : List ℕ) {r : Result ℕ Refusal} {new : List ℕ}
    → PutsFront p (count_verdict (length (zones_of p)) (length old)) (length (zones_of p)) (rows_of (zones_of p)) old r new → Listed p old r new
listed p old put = record { zones = zones_of p; are = are_zones p; none = none_of p; puts = put }

-- the profile's own refusal is told first
pub refused_listed : {p : Profile} {old : List ℕ} {refusal : Refusal} → Err refusal ≡ verdict_of p → Listed p old (Err refusal) old
refused_listed {p} {old} e = listed p old (own_alone p _ _ _ old (sym e))

-- past the profile's own verdict: the intervals of its jobs, and a walk over them that counts
module _ {p : Profile} (s : Intervals) (v : Valid p) (h : IntervalsOf p s) where
  pub zones_are : zones_in (intervals_in s) ≡ zones_of p
  zones_are = ap zones_in (intervals_are p s v.n_to h)

  pub within_bounds : Bounded s
  within_bounds = intervals_within p s v h

  pub few_zones : length (zones_in (intervals_in s)) < 2147483648
  few_zones = rw zones_are (zones_few (jobs_of p) (omega (arith, length_entries no_job p.jobs 0 p.n, v.n_to)) v.jobs)

  module _ {nowhere nothing : List ℕ} {count : ℕ} (counted : Wrote (zones_in (intervals_in s)) nowhere nothing count) where
    count_is : count ≡ length (zones_of p)
    count_is = counted.count ∙ ap length zones_are

    pub count_listed : {old : List ℕ} {refusal : Refusal} → Err refusal ≡ count_verdict count (length old) → Listed p old (Err refusal) old
    count_listed {old} e = listed p old (count_refused p _ _ old count (valid_sound p v) count_is (sym e))

    -- .. and one that writes
    pub all_listed : {old : List ℕ} {none : Unit {0}} → Ok none ≡ count_verdict count (length old) → {new : List ℕ} {written : ℕ}
        → Wrote (zones_in (intervals_in s)) old new written → Listed p old (Ok count) new
    all_listed {old} e wrote =
        let room = subst (λ (m : ℕ). m ≤ length old / row_size) counted.count (room_enough _ _ (sym e)) in
        let bytes = wrote.bytes room ∙ ap (λ (zs : List Zone). rows_of zs ++ drop (row_size * length zs) old) zones_are in
        listed p old (rows_put p _ _ old count (valid_sound p v) count_is (sym e) (length_rows _) bytes)
