-- The answer to any case can be computed, and what is computed is right: it meets the contract, which allows one outcome.
-- Assumes nothing.
use mathlib.Core.Path.{◌≡◌, refl, ◌∙◌, ap}
use mathlib.Core.List.{List, [], ◌++◌}
use mathlib.Core.Bool.{Bool, true, false}
use Prim.Native.Nat.{ℕ, ◌+◌, ◌*◌, ◌/◌, ◌≤◌}
use native.Mathlib.Omega.{arith}
use native.Mathlib.Nat.{le_refl}
use lib.ListN.{length, drop}
use lib.Dec.{eqb, ltb}
use borrow.Author.Tests.{le-ltb}
use Rattle.std.specs.Prelude.{Result, Ok, Err}
use Rattle.model.specs.declared.Profile.{Profile}
use Rattle.model.specs.declared.Refusal.{Refusal}
use Rattle.model.specs.declared.Refusal.TheVariants.{NoPeriods, Room}
use Rattle.model.specs.Model.{Verdict, sound, seconds, pages_per_hour, jobs_of, periods_of, pages_in, refuse_if, or_else, verdict_in, if_sound, verdict_of, count_verdict}
use Rattle.model.proofs.Validity.{sound_valid}
use Rattle.model.proofs.ProfileFirst.{computed_first}
use Rattle.codec.specs.Layout.{profile_length, profile_bytes}
use Rattle.profile_read.specs.Reading.{verdict_of_bytes, values_of}
use Rattle.profile_read.proofs.OneOutcome.{reads_one}
use Rattle.profile_write.specs.Writing.{Writes}
use Rattle.profile_write.proofs.OneOutcome.{writes_one}
use Rattle.profile_write.proofs.Records.{length_profile_bytes}
use Rattle.score.proofs.Computed.{score_for, score_meets}
use Rattle.score.proofs.OneOutcome.{scores_one}
use Rattle.choose.specs.declared.Choice.{Choice}
use Rattle.choose.specs.Choice.{Chosen}
use Rattle.walk.specs.Chains.{chains}
use Rattle.walk.specs.Walk.{start, walk, walk_down}
use Rattle.walk.proofs.Chains.{multiples_lists, chains_only, chains_all}
use Rattle.choose_offer.specs.Found.{nothing, pick}
use Rattle.choose_walk.specs.Least.{none, less_need}
use Rattle.choose.specs.Steps.{settle}
use Rattle.walk.proofs.Falling.{down_lists}
use Rattle.choose_walk.proofs.Fold.{walk_best}
use Rattle.choose.proofs.LeastNeed.{walk_least}
use Rattle.choose.proofs.Settled.{settled}
use Rattle.choose.proofs.OneOutcome.{chosen_one}
use Rattle.zones.specs.Zones.{rows_of, Listed}
use Rattle.zones.proofs.Outcome.{zones_of, listed}
use Rattle.zones.proofs.OneOutcome.{listed_one}
use Rattle.zones.proofs.ZoneRows.{length_rows}
use Rattle.table_row.specs.Table.{bytes_at}
use Rattle.table.specs.Table.{table_bytes, Built}
use Rattle.table.proofs.Outcome.{rows_of as table_of, built, length_table}
use Rattle.table.proofs.OneOutcome.{built_one}
use Rattle.table_lookup.specs.Lookup.{place_found, Locates}
use Rattle.table_lookup.proofs.Computed.{locate_for, locate_meets}
use Rattle.table_lookup.proofs.OneOutcome.{locates_one}
use Rattle.cases.specs.Case.{Case, reading, writing, writing_in, permitting, counting, scoring, choosing, listing, listing_in, building, building_in, looking_up, Right}

-- choosing: what both walks leave, unless the profile is refused
unfoldable pub choice_for : Profile → ℕ → Result Choice Refusal
choice_for p b = or_else (verdict_of p) (settle (jobs_of p) (walk (pick b) (jobs_of p) start nothing) (walk_down less_need (jobs_of p) start none))

choice_meets : (p : Profile) (b : ℕ) → Chosen p (pages_per_hour b) (choice_for p b)
unfolding choice_for
choice_meets p b = computed_first _ (λ e. (let v = (sound_valid p e).jobs in settled (jobs_of p) (pages_per_hour b) _ _ (walk_best (jobs_of p) (pages_per_hour b) v) (walk_least down_lists (jobs_of p) v)))

-- reading
unfoldable pub reading_for : List ℕ → Result Profile Refusal
reading_for bytes = or_else (verdict_of_bytes bytes) (Ok (values_of bytes))

-- past a verdict: a count
unfoldable pub counted : Verdict → ℕ → Result ℕ Refusal
counted v k = or_else v (Ok k)

-- a buffer with bytes put over its front; what stands in it beside an answer; and the bytes that are put
abbrev over : List ℕ → List ℕ → List ℕ
over bytes old = bytes ++ drop (length bytes) old

unfoldable pub after : Result ℕ Refusal → List ℕ → List ℕ → List ℕ
after answer bytes old = if_sound answer (over bytes old) old

abbrev put : Result ℕ Refusal → List ℕ → List ℕ
put answer bytes = if_sound answer bytes []

-- answer and buffer, so computed
abbrev Comes : Result ℕ Refusal → List ℕ → List ℕ → Result ℕ Refusal → List ℕ → Type 0
Comes answer bytes old r new = (r ≡ answer) × (new ≡ after answer bytes old)

-- so many rows, told past the verdict on them; and the verdict before room is asked for
abbrev on_rows : Profile → ℕ → ℕ → Result ℕ Refusal
on_rows p count size = or_else (verdict_of p) (counted (count_verdict count size) count)

unfoldable pub roomy : Profile → ℕ → Verdict
roomy p count = or_else (verdict_of p) (refuse_if (eqb count 0) NoPeriods sound)

-- Room is asked for last: where there is enough, the verdict before it stays, and what is left of a buffer is told by what stands beside it.
abbrev with_room : Verdict → ℕ → ℕ → Result ℕ Refusal
with_room v k room = or_else v (counted (refuse_if (ltb room k) (Room k) sound) k)

module _ (v : Verdict) (k room : ℕ) (bytes old : List ℕ) where
  enough : (length bytes ≤ length old → k ≤ room) → length (put (counted v k) bytes) ≤ length old → with_room v k room ≡ counted v k
  unfolding counted or_else refuse_if if_sound
  enough fits h = go v h
    where
      go : (u : Verdict) → length (put (counted u k) bytes) ≤ length old → with_room u k room ≡ counted u k
      go (Ok fine) h = simp (le-ltb room k (fits h))
      go (Err refusal) h = refl

  left_beside : after (counted v k) bytes old ≡ over (put (counted v k) bytes) old
  unfolding after if_sound
  left_beside = go (counted v k)
    where
      go : (answer : Result ℕ Refusal) → after answer bytes old ≡ over (put answer bytes) old
      go (Ok count) = refl
      go (Err refusal) = refl

  pub in_room : (length bytes ≤ length old → k ≤ room) → length (put (counted v k) bytes) ≤ length old → {answer : Result ℕ Refusal} → answer ≡ with_room v k room → {r : Result ℕ Refusal} {new : List ℕ}
      → Comes answer bytes old r new → (r ≡ counted v k) × (new ≡ over (put (counted v k) bytes) old)
  in_room fits h is comes =
      let e = is ∙ enough fits h in
      (comes.0 ∙ e, comes.1 ∙ ap (λ (a : Result ℕ Refusal). after a bytes old) e ∙ left_beside)

-- for rows as for a profile
room_last : (p : Profile) (count size : ℕ) → on_rows p count size ≡ with_room (roomy p count) count (size / 16)
unfolding roomy counted or_else refuse_if
room_last p count size = go (verdict_of p) (eqb count 0)
  where
    go : (own : Verdict) (empty : Bool) →
        let this = refuse_if (ltb (size / 16) count) (Room count) sound in
        or_else own (counted (refuse_if empty NoPeriods this) count) ≡ or_else (or_else own (refuse_if empty NoPeriods sound)) (counted this count)
    go (Err refusal) empty = refl
    go (Ok fine) true = refl
    go (Ok fine) false = refl

module _ (p : Profile) (count : ℕ) (bytes old : List ℕ) (size : length bytes ≡ 16 * count) where
  rows_in_room : length (put (counted (roomy p count) count) bytes) ≤ length old → {r : Result ℕ Refusal} {new : List ℕ} → Comes (on_rows p count (length old)) bytes old r new
      → (r ≡ counted (roomy p count) count) × (new ≡ over (put (counted (roomy p count) count) bytes) old)
  rows_in_room h = in_room (roomy p count) count (length old / 16) bytes old (λ fits. omega (arith, size)) h (room_last p count (length old))

-- A case with its answer computed.
unfoldable pub anew : Case → Case
anew (reading bytes answer) = reading bytes (reading_for bytes)
anew (writing p answer bytes) =
    let r = counted (verdict_of p) (profile_length p.n) in
    writing p r (put r (profile_bytes p))
anew (writing_in p old answer new) =
    let r = with_room (verdict_of p) (profile_length p.n) (length old) in
    writing_in p old r (after r (profile_bytes p) old)
anew (permitting p verdict lists) = permitting p (verdict_of p) (chains (seconds 1) (jobs_of p))
anew (counting p ts time pages) = counting p ts time (pages_in (seconds time) (jobs_of p) (periods_of p ts))
anew (scoring p ts answer) = scoring p ts (score_for p ts)
anew (choosing p b answer) = choosing p b (choice_for p b)
anew (listing p answer bytes) =
    let r = counted (roomy p (length (zones_of p))) (length (zones_of p)) in
    listing p r (put r (rows_of (zones_of p)))
anew (listing_in p old answer new) =
    let r = on_rows p (length (zones_of p)) (length old) in
    listing_in p old r (after r (rows_of (zones_of p)) old)
anew (building p answer bytes) =
    let r = counted (roomy p (length (table_of p))) (length (table_of p)) in
    building p r (put r (table_bytes (jobs_of p) (table_of p)))
anew (building_in p old answer new) =
    let r = on_rows p (length (table_of p)) (length old) in
    building_in p old r (after r (table_bytes (jobs_of p) (table_of p)) old)
anew (looking_up p table b answer bytes) =
    let r = locate_for p table (pages_per_hour b) in
    looking_up p table b r (put r (bytes_at table (place_found r)))

-- what each writer may answer and leave is what is computed for the buffer given
write_computed : (p : Profile) (old : List ℕ) {r : Result ℕ Refusal} {new : List ℕ} → Writes p old r new
    → Comes (with_room (verdict_of p) (profile_length p.n) (length old)) (profile_bytes p) old r new
unfolding counted after
write_computed p old writes = writes_one p old writes (record { answer = refl; bytes = refl })

list_computed : (p : Profile) (old : List ℕ) {r : Result ℕ Refusal} {new : List ℕ} → Listed p old r new
    → Comes (on_rows p (length (zones_of p)) (length old)) (rows_of (zones_of p)) old r new
unfolding counted after
list_computed p old is = listed_one p old is (listed p old (record { answer = refl; bytes = refl }))

build_computed : (p : Profile) (old : List ℕ) {r : Result ℕ Refusal} {new : List ℕ} → Built p old r new
    → Comes (on_rows p (length (table_of p)) (length old)) (table_bytes (jobs_of p) (table_of p)) old r new
unfolding counted after
build_computed p old is = built_one p old is (built p old (record { answer = refl; bytes = refl }))

pub anew_right : (c : Case) → Right (anew c)
unfolding anew reading_for
anew_right (reading bytes answer) = λ r reads. reads_one bytes reads refl
anew_right (writing p answer bytes) = λ old room r new writes.
    in_room (verdict_of p) (profile_length p.n) (length old) (profile_bytes p) old (λ fits. omega (arith, length_profile_bytes p)) room refl (write_computed p old writes)
anew_right (writing_in p old answer new) = λ r left writes. write_computed p old writes
anew_right (permitting p verdict lists) = (
  refl,
  λ sound ts.
      (let v = (sound_valid p sound).jobs in
      (chains_all multiples_lists (jobs_of p) ts v (le_refl 1), chains_only multiples_lists (jobs_of p) ts v (le_refl 1))),
)
anew_right (counting p ts time pages) = refl
anew_right (scoring p ts answer) = λ r scores. scores_one p ts scores (score_meets p ts)
anew_right (choosing p b answer) = λ r chosen. chosen_one p (pages_per_hour b) chosen (choice_meets p b)
anew_right (listing p answer bytes) = λ old room r new is. rows_in_room p (length (zones_of p)) (rows_of (zones_of p)) old (length_rows (zones_of p)) room (list_computed p old is)
anew_right (listing_in p old answer new) = λ r left is. list_computed p old is
anew_right (building p answer bytes) = λ old room r new is. rows_in_room p (length (table_of p)) (table_bytes (jobs_of p) (table_of p)) old (length_table (jobs_of p) (table_of p)) room (build_computed p old is)
anew_right (building_in p old answer new) = λ r left is. build_computed p old is
anew_right (looking_up p table b answer bytes) = (
  λ r located. is located,
  λ v told. told.verdict ∙ ap verdict_in (is told.located),
  λ lies at part looked. (
    looked.holds ∙ ap (λ (r : Result ℕ Refusal). put r (bytes_at table (place_found r))) (is looked.located),
    looked.place ∙ ap (λ (r : Result ℕ Refusal). (lies.0, lies.1 + 16 * place_found r)) (is looked.located),
  ),
)
  where
    is : {r : Result ℕ Refusal} → Locates p table (pages_per_hour b) r → r ≡ locate_for p table (pages_per_hour b)
    is located = locates_one p table (pages_per_hour b) located (locate_meets p table (pages_per_hour b))
