-- A verdict is sound or refuses, and of two in a row the first that refuses stands. Assumes nothing.
use mathlib.Core.Path.{◌≡◌, refl, sym, ap, subst}
use mathlib.Core.Logic.{◌⊎◌, inl, inr, ⊎_elim}
use Rattle.model.specs.Model.{Verdict, sound, number_of, or_else}
use Rattle.model.proofs.Verdicts.{sound_passes, Refuses, refuses, some_number, sound_or_not, unsound_stays}

pub sound_or_refused : (v : Verdict) → (v ≡ sound) ⊎ Refuses v
sound_or_refused v = go (sound_or_not v)
  where
    go : Dec (v ≡ sound) → (v ≡ sound) ⊎ Refuses v
    go (yes e) = inl e
    go (no unsound) = inr (refuses v unsound)

pub refused_first : (v rest : Verdict) → Refuses v → or_else v rest ≡ v
refused_first v rest h = unsound_stays v rest (λ e. some_number v h (ap number_of e))

pub refused_next : (v w : Verdict) → Refuses w → Refuses (or_else v w)
refused_next v w h = ⊎_elim (λ e. subst Refuses (sym (sound_passes {v = v} w refl e)) h) (λ g. subst Refuses (sym (refused_first v w g)) g) (sound_or_refused v)
