-- The numbers of the list are right: computing every answer anew gives the same list of cases, and what is computed is right.
-- Assumes nothing.
use mathlib.Core.Path.{◌≡◌, refl, ◌∙◌, sym, ap, subst}
use mathlib.Core.List.{List, [], ◌∷◌, map, flat_map, Memᴰ}
use Rattle.model.specs.Model.{entries, cost, last_of, running, data_of, commit_of, pages_at, sum_over, pages_in, exact_need, rounded_up, need, rate, job_loss, loss, verdict_of, refuse_if, or_else, if_sound, first_refused, judge_interval_and_stiffness, judge_job}
use Rattle.model.specs.Climb.{in_turn, climb_to, descend_to}
use Rattle.model.specs.Testing.{allows}
use Rattle.codec.specs.Packing.{bits, pack, unpack, recut}
use Rattle.codec.specs.Layout.{record_bytes, profile_bytes}
use Rattle.table_row.specs.Table.{table_row}
use Rattle.profile_read.specs.Reading.{header_of, records_in, judge_record, judge_header, verdict_of_bytes}
use Rattle.step.specs.Step.{load, need_at}
use Rattle.score.specs.Judging.{judge_period, first_unpermitted}
use Rattle.score.proofs.Computed.{scored_by, score_for}
use Rattle.walk.specs.Chains.{rising_from, multiples, falling_from, multiples_down, chains_by}
use Rattle.walk.specs.Walk.{visit, walk_by}
use Rattle.choose_offer.specs.Found.{beats, pick}
use Rattle.choose_walk.specs.Least.{less_need}
use Rattle.choose.specs.Steps.{settle}
use Rattle.zone_walk.specs.Listing.{unless_empty, zones_below, zones_in}
use Rattle.zones.specs.Zones.{rows_of}
use Rattle.table.specs.Table.{table_bytes}
use Rattle.table.specs.Descent.{up_to, descent}
use Rattle.table_row.specs.Table.{row_fields}
use Rattle.table_row.specs.Cut.{follows}
use Rattle.table_check.proofs.Tests.{permits, zeros_from, row_good, first_bad_from}
use Rattle.table_lookup.specs.Lookup.{place_found}
use Rattle.table_lookup.proofs.Finding.{last_within}
use Rattle.table_lookup.proofs.Computed.{whole_rows, unless_bad, find_for, locate_for}
use Rattle.cases.specs.Case.{Case, Right}
use Rattle.cases.specs.Cases.{cases}
use Rattle.cases.proofs.Anew.{choice_for, reading_for, counted, after, roomy, anew, anew_right}

-- Computing every answer of a list anew gives the same list. To unfold this is to unfold all that is computed with.
unfoldable pub Computed : List Case → Type 0
unfolding anew reading_for verdict_of_bytes judge_header header_of records_in judge_record profile_bytes record_bytes chains_by choice_for score_for counted after
    roomy settle walk_by visit pick less_need beats multiples rising_from climb_to multiples_down falling_from descend_to in_turn load need_at cost rate job_loss entries
    verdict_of refuse_if or_else if_sound first_refused judge_interval_and_stiffness judge_job need rounded_up exact_need loss pages_in sum_over pages_at running data_of commit_of last_of scored_by first_unpermitted judge_period
    zones_in zones_below unless_empty flat_map rows_of recut pack unpack bits table_bytes table_row descent up_to locate_for find_for whole_rows unless_bad first_bad_from row_good
    permits zeros_from follows allows row_fields last_within place_found
Computed cs = map anew cs ≡ cs

same_head : {A : Type 0} {x y : A} {xs ys : List A} → x ∷ xs ≡ y ∷ ys → x ≡ y
same_head e = cc

same_tail : {A : Type 0} {x y : A} {xs ys : List A} → x ∷ xs ≡ y ∷ ys → xs ≡ ys
same_tail e = cc

-- a function that leaves a list as it is leaves each of its entries
same_at : {A : Type 0} (f : A → A) (xs : List A) {x : A} → map f xs ≡ xs → Memᴰ x xs → f x ≡ x
same_at f (y ∷ xs) e (Memᴰ.head h) = ap f h ∙ same_head e ∙ sym h
same_at f (y ∷ xs) e (Memᴰ.tail m) = same_at f xs (same_tail e) m
same_at f [] e m = elim m [ ]

-- Such a list is right.
pub all_right : (cs : List Case) → Computed cs → (c : Case) → Memᴰ c cs → Right c
unfolding Computed
all_right cs computed c m = subst Right (same_at anew cs computed m) (anew_right c)

-- and so is one case by itself
pub right : (c : Case) → Computed (c ∷ []) → Right c
right c computed = all_right (c ∷ []) computed c (Memᴰ.head refl)

computed : Computed cases
unfolding cases Computed
computed = refl

-- For every case of the list, whatever the contract allows is what stands there.
pub worked : (c : Case) → Memᴰ c cases → Right c
worked = all_right cases computed
