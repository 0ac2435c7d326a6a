-- The profile's own verdict comes first: a refusal is the answer, and past a sound one the rest decides. So one outcome of the rest is one
-- outcome of the whole. Assumes nothing.
use mathlib.Core.Path.{◌≡◌, refl, sym, ◌∙◌, ap}
use Rattle.std.specs.Prelude.{Result, Ok, Err}
use Rattle.model.specs.declared.Profile.{Profile}
use Rattle.model.specs.declared.Refusal.{Refusal}
use Rattle.model.specs.Model.{Verdict, sound, or_else, verdict_of, ProfileFirst}
use Rattle.model.proofs.Verdicts.{refusal_is_none}

-- a refusal as an answer
abbrev refused : {A : Type 0} → Refusal → Result A Refusal
refused refusal = Err refusal

moved : {A : Type 0} {v : Verdict} {one other : Refusal} → v ≡ Err one → v ≡ Err other → refused {A = A} one ≡ refused other
unfolding or_else
moved {one = one} e told = ap (λ (v : Verdict). or_else v (refused one)) (sym e ∙ told)

module _ {A : Type 0} {p : Profile} {Rest : Result A Refusal → Type 0} where
  pub own_refused : {refusal : Refusal} → verdict_of p ≡ Err refusal → ProfileFirst p Rest (Err refusal)
  own_refused e = record { own = λ told. moved e told; rest = λ s. absurd (refusal_is_none (sym e ∙ s)) }

  pub past_profile : {r : Result A Refusal} → verdict_of p ≡ sound → Rest r → ProfileFirst p Rest r
  past_profile e rest = record { own = λ told. absurd (refusal_is_none (sym told ∙ e)); rest = λ _. rest }

  -- the rest, computed, unless the profile is refused
  pub computed_first : (r : Result A Refusal) → (verdict_of p ≡ sound → Rest r) → ProfileFirst p Rest (or_else (verdict_of p) r)
  unfolding or_else
  computed_first r rest = go (verdict_of p) refl
    where
      go : (v : Verdict) → verdict_of p ≡ v → ProfileFirst p Rest (or_else v r)
      go (Ok none) e = past_profile e (rest e)
      go (Err refusal) e = own_refused e

  -- what is answered is the rest's answer, for a sound profile
  pub answered : {r : Result A Refusal} {answer : A} → ProfileFirst p Rest r → r ≡ Ok answer → (verdict_of p ≡ sound) × Rest r
  answered {r} {answer} first done = go (verdict_of p) refl
    where
      go : (v : Verdict) → verdict_of p ≡ v → (verdict_of p ≡ sound) × Rest r
      go (Ok none) e = (e, first.rest e)
      go (Err refusal) e = absurd (refusal_is_none (sym (first.own e) ∙ done))

  pub one_first : {r s : Result A Refusal} → (Rest r → Rest s → r ≡ s) → ProfileFirst p Rest r → ProfileFirst p Rest s → r ≡ s
  one_first {r} {s} same one other = go (verdict_of p) refl
    where
      go : (v : Verdict) → verdict_of p ≡ v → r ≡ s
      go (Ok none) e = same (one.rest e) (other.rest e)
      go (Err refusal) e = one.own e ∙ sym (other.own e)
