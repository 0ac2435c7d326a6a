-- Every period divides the next, so the pages in one period, taken over to the next and on to the last, are the loads of Tn seconds.
-- Assumes nothing.
use mathlib.Core.Path.{◌≡◌, ◌∙◌, ap}
use mathlib.Core.List.{List, [], ◌∷◌}
use Prim.Native.Nat.{ℕ, ◌+◌, ◌*◌, ◌/◌, ◌%◌, ◌≤◌, max}
use native.Mathlib.Omega.{arith}
use native.Mathlib.Nat.{mul-mod_left, mod_self, div_self, div-eq_of_eq-mul_left}
use Rattle.model.specs.declared.Seconds.{Seconds}
use Rattle.model.specs.declared.Job.{Job}
use Rattle.model.specs.Model.{PermittedAfter, last_of}
use Rattle.model.specs.Valid.{ValidJobs}
use Rattle.step.specs.Step.{load, loads_in, carried, pages_after}
use Rattle.model.proofs.Rounding.{multiple_is}

-- a multiple of a multiple: the quotients multiply
quotients : (p t s : ℕ) → t % p ≡ 0 → s % t ≡ 0 → s ≡ (t / p * (s / t)) * p
quotients p t s e d =
    let a : t ≡ t / p * p = multiple_is t p e in
    let b : s ≡ s / t * t = multiple_is s t d in
    let f : s / t * t ≡ s / t * (t / p * p) = ap (λ (x : ℕ). s / t * x) a in
    omega arith

pub multiple_trans : (p t s : ℕ) → t % p ≡ 0 → s % t ≡ 0 → s % p ≡ 0
multiple_trans p t s e d = ap (λ (x : ℕ). x % p) (quotients p t s e d) ∙ mul-mod_left (t / p * (s / t)) p

pub quotient_trans : (p t s : ℕ) → 1 ≤ p → t % p ≡ 0 → s % t ≡ 0 → s / p ≡ t / p * (s / t)
quotient_trans p t s pos e d = div-eq_of_eq-mul_left pos (quotients p t s e d)

-- Tn is a multiple of every period before it
pub last_multiple : (before : Seconds) (js : List Job) (ts : List Seconds) → PermittedAfter before js ts → (last_of before ts).0 % before.0 ≡ 0
unfolding last_of
last_multiple before [] [] h = mod_self before.0
last_multiple before [] (t ∷ ts) h = absurd h
last_multiple before (j ∷ js) [] h = absurd h
last_multiple before (j ∷ js) (t ∷ ts) h = multiple_trans _ _ _ h.0.multiple (last_multiple t js ts h.1)

pub last_positive : (before : Seconds) (js : List Job) (ts : List Seconds) → ValidJobs js → 1 ≤ before.0 → PermittedAfter before js ts → 1 ≤ (last_of before ts).0
unfolding last_of
last_positive before [] [] v pos h = pos
last_positive before [] (t ∷ ts) v pos h = absurd h
last_positive before (j ∷ js) [] v pos h = absurd h
last_positive before (j ∷ js) (t ∷ ts) v pos h = last_positive t js ts v.1 (omega arith) h.1

pub pages_after_lem : (greatest pages : ℕ) (before : Seconds) (js : List Job) (ts : List Seconds) → ValidJobs js → 1 ≤ before.0 → PermittedAfter before js ts →
    pages_after greatest pages before js ts ≡ pages * ((last_of before ts).0 / before.0) + loads_in greatest (last_of before ts) js ts
unfolding pages_after loads_in last_of
pages_after_lem greatest pages before [] [] v pos h = let e : before.0 / before.0 ≡ 1 = div_self pos in rw e (omega arith)
pages_after_lem greatest pages before [] (t ∷ ts) v pos h = absurd h
pages_after_lem greatest pages before (j ∷ js) [] v pos h = absurd h
pages_after_lem greatest pages before (j ∷ js) (t ∷ ts) v pos h =
    let p = before.0 in
    let last = (last_of t ts).0 in
    let onward = pages_after_lem (max greatest j.metadata) (carried pages before t (load greatest j)) t js ts v.1 (omega arith) h.1 in
    let whole : last / p ≡ t.0 / p * (last / t.0) = quotient_trans p t.0 last pos h.0.multiple (last_multiple t js ts h.1) in
    let moved : pages * (last / p) ≡ pages * (t.0 / p * (last / t.0)) = ap (λ (x : ℕ). pages * x) whole in
    omega arith
