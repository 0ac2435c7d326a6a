-- The periods are permitted, or 13 names the first that is not: each test of a period is one of its three conditions.
-- Assumes nothing.
use mathlib.Core.Path.{◌≡◌, refl, sym, ◌∙◌, ap, subst}
use mathlib.Core.List.{List, [], ◌∷◌}
use mathlib.Core.Bool.{Bool, true, false, not}
use mathlib.Core.Logic.{◌⊎◌, inl, inr, ⊎_elim}
use Prim.Native.Nat.{ℕ, ◌+◌}
use native.Mathlib.Nat.{suc-ne-zero, suc_inj, zero-add}
use native.Mathlib.Omega.{arith}
use lib.ListN.{length}
use borrow.Author.Tests.{not-false}
use Rattle.model.specs.declared.Seconds.{Seconds}
use Rattle.model.specs.declared.Job.{Job}
use Rattle.std.specs.Prelude.{Err}
use Rattle.model.specs.declared.Refusal.TheVariants.{Periods}
use Rattle.model.specs.Model.{Verdict, sound, seconds, Allowed, PermittedAfter, Permitted, refuse_if, or_else}
use Rattle.model.specs.Testing.{allows}
use Rattle.model.proofs.Allowing.{allowed, allowed_back}
use Rattle.model.proofs.Verdicts.{test_passed, refusal_is_none, both_sound, sound_passes}
use Rattle.score.specs.Scoring.{FirstOut, here, later}
use Rattle.score.specs.Judging.{judge_period, first_unpermitted}

period_allowed : (j : Job) (before t : Seconds) (k : ℕ) → judge_period j before t k ≡ sound → Allowed j before t
unfolding judge_period
period_allowed j before t k e = allowed j before t (not-false _ (test_passed _ _ _ e).0)

allowed_sound : (j : Job) (before t : Seconds) (k : ℕ) → Allowed j before t → judge_period j before t k ≡ sound
unfolding judge_period refuse_if
allowed_sound j before t k a = simp (allowed_back j before t a)

-- no period is refused: all are permitted
pub sound_permitted : (k : ℕ) (before : Seconds) (js : List Job) (ts : List Seconds) → length js ≡ length ts →
    first_unpermitted k before js ts ≡ sound → PermittedAfter before js ts
unfolding first_unpermitted
sound_permitted k before [] [] h e = tt
sound_permitted k before [] (t ∷ ts) h e = absurd (suc-ne-zero (length ts) (sym h))
sound_permitted k before (j ∷ js) [] h e = absurd (suc-ne-zero (length js) h)
sound_permitted k before (j ∷ js) (t ∷ ts) h e =
    let both = both_sound (judge_period j before t (k + 1)) e in
    (period_allowed j before t (k + 1) both.0, sound_permitted (k + 1) t js ts (suc_inj h) both.1)

-- and the other way round
pub permitted_sound : (k : ℕ) (before : Seconds) (js : List Job) (ts : List Seconds) → PermittedAfter before js ts → first_unpermitted k before js ts ≡ sound
unfolding first_unpermitted
permitted_sound k before [] [] h = refl
permitted_sound k before [] (t ∷ ts) h = absurd h
permitted_sound k before (j ∷ js) [] h = absurd h
permitted_sound k before (j ∷ js) (t ∷ ts) h =
    sound_passes {v = judge_period j before t (k + 1)} _ refl (allowed_sound j before t (k + 1) h.0) ∙ permitted_sound (k + 1) t js ts h.1

period_cases : (j : Job) (before t : Seconds) (k : ℕ) → (judge_period j before t k ≡ sound) ⊎ (judge_period j before t k ≡ Err (Periods k))
unfolding judge_period refuse_if
period_cases j before t k = go (not (allows j before t))
  where
    go : (t : Bool) → (refuse_if t (Periods k) sound ≡ sound) ⊎ (refuse_if t (Periods k) sound ≡ Err (Periods k))
    go true = inr refl
    go false = inl refl

refused_not_allowed : (j : Job) (before t : Seconds) (k : ℕ) → judge_period j before t k ≡ Err (Periods k) → Allowed j before t → ⊥
refused_not_allowed j before t k e a = refusal_is_none (sym e ∙ allowed_sound j before t k a)

refused_names : {v : Verdict} {k : ℕ} (rest : Verdict) → v ≡ Err (Periods k) → or_else v rest ≡ Err (Periods k)
unfolding or_else
refused_names rest e = rw e

-- 13 for the first period that is out, where the first of these jobs is numbered k + 1
record NamesOut (k : ℕ) (before : Seconds) (js : List Job) (ts : List Seconds) (v : Verdict) : Type 0 where
  number : ℕ
  out : FirstOut before js ts number
  named : v ≡ Err (Periods (k + number))

later_out : {k : ℕ} {before : Seconds} {j : Job} {js : List Job} {t : Seconds} {ts : List Seconds} {v : Verdict} →
    Allowed j before t → NamesOut (k + 1) t js ts v → NamesOut k before (j ∷ js) (t ∷ ts) v
later_out {k} a o =
    let same : k + 1 + o.number ≡ k + (o.number + 1) = omega arith in
    record { number = o.number + 1; out = later a o.out; named = o.named ∙ ap (λ (m : ℕ). Err (Periods m)) same }

-- the periods are permitted, or the verdict names the first that is out
abbrev PermittedOrNamed : ℕ → Seconds → List Job → List Seconds → Verdict → Type 0
PermittedOrNamed k before js ts v = PermittedAfter before js ts ⊎ NamesOut k before js ts v

permitted_or_names : (k : ℕ) (before : Seconds) (js : List Job) (ts : List Seconds) → length js ≡ length ts →
    PermittedOrNamed k before js ts (first_unpermitted k before js ts)
unfolding first_unpermitted
permitted_or_names k before [] [] h = inl tt
permitted_or_names k before [] (t ∷ ts) h = absurd (suc-ne-zero (length ts) (sym h))
permitted_or_names k before (j ∷ js) [] h = absurd (suc-ne-zero (length js) h)
permitted_or_names k before (j ∷ js) (t ∷ ts) h = one_of (period_cases j before t (k + 1)) (permitted_or_names (k + 1) t js ts (suc_inj h))
  where
    one_of :
        let this = judge_period j before t (k + 1) in
        let rest = first_unpermitted (k + 1) t js ts in
        (this ≡ sound) ⊎ (this ≡ Err (Periods (k + 1))) → PermittedOrNamed (k + 1) t js ts rest →
        PermittedOrNamed k before (j ∷ js) (t ∷ ts) (or_else this rest)
    one_of (inl e) (inl rest) = inl (period_allowed j before t (k + 1) e, rest)
    one_of (inl e) (inr rest) =
        let passes = sound_passes (first_unpermitted (k + 1) t js ts) refl e in
        inr (subst (NamesOut k before (j ∷ js) (t ∷ ts)) (sym passes) (later_out (period_allowed j before t (k + 1) e) rest))
    one_of (inr e) rest = inr (record { number = 1; out = here (refused_not_allowed j before t (k + 1) e); named = refused_names _ e })

-- The periods are permitted, or 13 names the first that is not, those before it being allowed.
pub permitted_or_first_out : (js : List Job) (ts : List Seconds) → length js ≡ length ts →
    Permitted js ts ⊎ ((k : ℕ) × FirstOut (seconds 1) js ts k × (first_unpermitted 0 (seconds 1) js ts ≡ Err (Periods k)))
permitted_or_first_out js ts h =
    ⊎_elim
    inl
    (λ (o : NamesOut 0 (seconds 1) js ts (first_unpermitted 0 (seconds 1) js ts)). inr (o.number, o.out, o.named ∙ ap (λ (m : ℕ). Err (Periods m)) (zero-add o.number)))
    (permitted_or_names 0 (seconds 1) js ts h)

-- never both, and never two
pub permitted_none_out : {before : Seconds} (js : List Job) (ts : List Seconds) {k : ℕ} → PermittedAfter before js ts → FirstOut before js ts k → ⊥
permitted_none_out (j ∷ js) (t ∷ ts) p (here out) = out p.0
permitted_none_out {before = before} (j ∷ js) (t ∷ ts) p (later {k = k} a f) = permitted_none_out {before = t} js ts {k = k} p.1 f
permitted_none_out [] ts p out = elim out [ ]
permitted_none_out (j ∷ js) [] p out = elim p [ ]

pub one_first_out : {before : Seconds} {js : List Job} {ts : List Seconds} {k m : ℕ} → FirstOut before js ts k → FirstOut before js ts m → k ≡ m
one_first_out (here out) (here out') = refl
one_first_out (here out) (later a f) = absurd (out a)
one_first_out (later a f) (here out) = absurd (out a)
one_first_out (later a f) (later a' f') = ap (λ (n : ℕ). n + 1) (one_first_out f f')
