-- The test of a period says what it tests; and permitted periods are as many as the jobs.
-- Assumes nothing.
use mathlib.Core.Path.{◌≡◌, refl, sym, ap}
use mathlib.Core.List.{List, [], ◌∷◌}
use mathlib.Core.Bool.{Bool, true, false, not, ◌&&◌, true≢false}
use Prim.Native.Nat.{ℕ, suc}
use lib.Dec.{ltb}
use lib.ListN.{length}
use borrow.Author.Tests.{ltb-false, eqb-true, not-true, le-ltb, eq-eqb}
use Rattle.model.specs.declared.Seconds.{Seconds}
use Rattle.model.specs.declared.Job.{Job}
use Rattle.model.specs.Model.{Allowed, PermittedAfter}
use Rattle.model.specs.Testing.{allows}

pub both_true : (a : Bool) {b : Bool} → (a && b) ≡ true → (a ≡ true) × (b ≡ true)
both_true true e = (refl, e)
both_true false e = (e, absurd (true≢false (sym e)))

pub both_hold : {a b : Bool} → a ≡ true → b ≡ true → (a && b) ≡ true
both_hold f g = rw (f, g)

pub allowed : (j : Job) (before t : Seconds) → allows j before t ≡ true → Allowed j before t
unfolding allows
allowed j before t e =
    let a = both_true (not (ltb t.0 j.lo.0)) e in
    let b = both_true (not (ltb j.hi.0 t.0)) a.1 in
    record { above = ltb-false _ _ (not-true _ a.0); below = ltb-false _ _ (not-true _ b.0); multiple = eqb-true _ _ b.1 }

pub allowed_back : (j : Job) (before t : Seconds) → Allowed j before t → allows j before t ≡ true
unfolding allows
allowed_back j before t a = simp (le-ltb t.0 j.lo.0 a.above, le-ltb j.hi.0 t.0 a.below, eq-eqb _ 0 a.multiple)

-- a permitted list has a period for each job
pub permitted_length : (before : Seconds) (js : List Job) (ts : List Seconds) → PermittedAfter before js ts → length ts ≡ length js
permitted_length before [] [] h = refl
permitted_length before [] (t ∷ ts) h = absurd h
permitted_length before (j ∷ js) [] h = absurd h
permitted_length before (j ∷ js) (t ∷ ts) h = ap suc (permitted_length t js ts h.1)
