-- None of the wrong programs meets its contract: what the contract allows at an input is computed, as in a case of the list, and the
-- defect contradicts it. Assumes nothing.
use mathlib.Core.Path.{◌≡◌, refl, ◌∙◌, sym, ap}
use mathlib.Core.List.{List, [], ◌∷◌, ◌++◌}
use mathlib.Core.Bool.{false, true≢false}
use Prim.Native.Nat.{ℕ}
use native.Mathlib.Omega.{arith}
use lib.ListN.{length, get_or}
use lib.Dec.{eqb}
use borrow.Author.Tests.{eqb-false}
use Rattle.std.specs.Prelude.{Result, Ok}
use Rattle.model.specs.declared.Profile.{Profile}
use Rattle.model.specs.declared.Refusal.{Refusal}
use Rattle.model.specs.declared.Seconds.{Seconds}
use Rattle.model.specs.Model.{Verdict, sound, seconds, pages_per_hour, jobs_of, verdict_of, PutsFront}
use Rattle.model.specs.ProfileA.{bytes_a}
use Rattle.model.proofs.Verdicts.{both_sound}
use Rattle.profile_write.specs.Writing.{Writes}
use Rattle.zone_walk.specs.Zone.{Zone}
use Rattle.zones.specs.Zones.{ZonesOf, Listed}
use Rattle.zones.proofs.OneOutcome.{zones_one}
use Rattle.table.specs.Table.{TableOf, Built}
use Rattle.table.proofs.OneOutcome.{table_one}
use Rattle.cases.specs.Case.{writing_in, choosing, listing_in, building_in, plan, number, lent, rows}
use Rattle.cases.specs.Cases.{profile_a, one_list, table_a, zones_a}
use Rattle.cases.specs.Wrong.{Chooser, ChoosesFor, RefusesEverything, GivesOnePlan, Filler, MeetsAt, StoresNothing, RepeatsFirstRow, InventsCount}
use Rattle.cases.proofs.Worked.{Computed, right}

-- equal things do not differ in a number
differ : {A : Type 0} (number_of_lem : A → ℕ) {x y : A} → x ≡ y → eqb (number_of_lem x) (number_of_lem y) ≡ false → ⊥
differ number_of_lem e unequal = eqb-false _ _ unequal (ap number_of_lem e)

-- what the contracts allow at the inputs tried
at_4176 : (f : Chooser) → ChoosesFor profile_a 4176 f → f profile_a (pages_per_hour 4176) ≡ plan 4176 0 3281956 (25 ∷ 50 ∷ 100 ∷ [])
unfolding Computed
at_4176 f = right (choosing profile_a 4176 (plan 4176 0 3281956 (25 ∷ 50 ∷ 100 ∷ []))) refl _

at_5220 : (f : Chooser) → ChoosesFor profile_a 5220 f → f profile_a (pages_per_hour 5220) ≡ plan 5220 0 864676 (20 ∷ 60 ∷ 60 ∷ [])
unfolding Computed
at_5220 f = right (choosing profile_a 5220 (plan 5220 0 864676 (20 ∷ 60 ∷ 60 ∷ []))) refl _

nine_rows : (f : Filler) → MeetsAt Built profile_a (lent 144) f → ((f profile_a (lent 144)).0 ≡ number 9) × ((f profile_a (lent 144)).1 ≡ table_a)
unfolding Computed
nine_rows f = right (building_in profile_a (lent 144) (number 9) table_a) refl _ _

one_row : (f : Filler) → MeetsAt Built one_list (lent 144) f → (f one_list (lent 144)).0 ≡ number 1
unfolding Computed
one_row f meets = (right (building_in one_list (lent 144) (number 1) (rows ((0x00 ∷ 0x00 ∷ 0x11 ∷ 0x47 ∷ 0x00 ∷ 0x10 ∷ 0x05 ∷ 0x02 ∷ 0x30 ∷ []) ∷ []) ++ lent 128)) refl _ _ meets).0

three_zones : (f : Filler) → MeetsAt Listed profile_a (lent 48) f → (f profile_a (lent 48)).0 ≡ number 3
unfolding Computed
three_zones f meets = (right (listing_in profile_a (lent 48) (number 3) zones_a) refl _ _ meets).0

one_zone : (f : Filler) → MeetsAt Listed one_list (lent 48) f → (f one_list (lent 48)).0 ≡ number 1
unfolding Computed
one_zone f meets = (right (listing_in one_list (lent 48) (number 1) (rows ((0x00 ∷ 0x10 ∷ 0x01 ∷ 0x00 ∷ 0x50 ∷ 0x23 ∷ []) ∷ []) ++ lent 32)) refl _ _ meets).0

bytes_of_A : (f : Filler) → MeetsAt Writes profile_a (lent 25) f → ((f profile_a (lent 25)).0 ≡ number 25) × ((f profile_a (lent 25)).1 ≡ bytes_a)
unfolding Computed
bytes_of_A f = right (writing_in profile_a (lent 25) (number 25) bytes_a) refl _ _

-- The seven.

pub no_refuser : (f : Chooser) → RefusesEverything f → ChoosesFor profile_a 4176 f → ⊥
no_refuser f refuses meets = true≢false (sym (rw (at_4176 f meets) at (refuses profile_a (pages_per_hour 4176))))

pub no_fixed_plan : (f : Chooser) → GivesOnePlan f → ChoosesFor profile_a 4176 f → ChoosesFor profile_a 5220 f → ⊥
no_fixed_plan f fixed meets meets-more =
    let same = fixed profile_a (pages_per_hour 4176) (pages_per_hour 5220) in
    differ (λ ts. (get_or ts 0 (seconds 0)).0) (rw (at_4176 f meets, at_5220 f meets-more) at same) refl

pub no_rowless_builder : (f : Filler) → StoresNothing f → MeetsAt Built profile_a (lent 144) f → ⊥
no_rowless_builder f nothing meets =
    let is = nine_rows f meets in
    differ (λ bytes. get_or bytes 0 0) (rw (is.0, is.1) at (nothing profile_a (lent 144))) refl

pub no_row_repeater : (f : Filler) → RepeatsFirstRow f → MeetsAt Built profile_a (lent 144) f → ⊥
no_row_repeater f repeats meets =
    let is = nine_rows f meets in
    differ (λ row. get_or row 3 0) ((rw (is.0, is.1) at (repeats profile_a (lent 144))) 1 (omega arith)) refl

-- of two profiles, one count is told where the contract allows two
two_counts : (f : Filler) → InventsCount f → (p q : Profile) (old : List ℕ) (k l : ℕ) → p.n ≡ q.n → (f p old).0 ≡ number k → (f q old).0 ≡ number l → eqb k l ≡ false → ⊥
two_counts f invents p q old k l jobs one other unequal = eqb-false k l unequal (rw (one, other) at (invents p q old jobs))

pub no_invented_row_count : (f : Filler) → InventsCount f → MeetsAt Built profile_a (lent 144) f → MeetsAt Built one_list (lent 144) f → ⊥
no_invented_row_count f invents meets meets-more = two_counts f invents profile_a one_list (lent 144) 9 1 refl (nine_rows f meets).0 (one_row f meets-more) refl

pub no_invented_zone_count : (f : Filler) → InventsCount f → MeetsAt Listed profile_a (lent 48) f → MeetsAt Listed one_list (lent 48) f → ⊥
no_invented_zone_count f invents meets meets-more = two_counts f invents profile_a one_list (lent 48) 3 1 refl (three_zones f meets) (one_zone f meets-more) refl

pub no_idle_writer : (f : Filler) → StoresNothing f → MeetsAt Writes profile_a (lent 25) f → ⊥
no_idle_writer f nothing meets =
    let is = bytes_of_A f meets in
    differ (λ bytes. get_or bytes 0 0) (rw (is.0, is.1) at (nothing profile_a (lent 25))) refl

-- A count is not invented at any input: where one is answered, it is the length of the one list of rows, or of zones.

-- where rows are put, the profile is sound and the count is theirs
counted_rows : {p : Profile} {next : Verdict} {k count : ℕ} {front old new : List ℕ} {r : Result ℕ Refusal} → PutsFront p next k front old r new → r ≡ Ok count → (verdict_of p ≡ sound) × (count ≡ k)
counted_rows {p} {next} {k} {count} puts done =
    let passed = both_sound (verdict_of p) (sym puts.answer ∙ done) in
    let told : Ok k ≡ Ok count = (both_sound next passed.1).1 in
    (passed.0, cc)

pub count_of_rows : {p : Profile} {old new : List ℕ} {r : Result ℕ Refusal} {count : ℕ} → Built p old r new → r ≡ Ok count → {rs : List (List Seconds)} → TableOf (jobs_of p) rs → count ≡ length rs
count_of_rows {p} built done table =
    let is = counted_rows built.puts done in
    is.1 ∙ ap length (table_one (jobs_of p) (built.are is.0) table)

pub count_of_zones : {p : Profile} {old new : List ℕ} {r : Result ℕ Refusal} {count : ℕ} → Listed p old r new → r ≡ Ok count → {zs : List Zone} → ZonesOf (jobs_of p) zs → count ≡ length zs
count_of_zones {p} listed done zones =
    let is = counted_rows listed.puts done in
    is.1 ∙ ap length (zones_one (jobs_of p) (listed.are is.0) zones)
