-- What is kept at a place that is lent, and what holds just that: an update of what stands there is one of the place, and absorbs as
-- that does.
-- Assumes nothing.
use mathlib.Core.Path.{◌≡◌, sym, ◌∙◌, ap, subst}
use mathlib.Core.List.{List}
use Prim.Native.Nat.{ℕ}
use Rattle.std.proofs.Common.{MutBor}
use Rattle.model.specs.declared.Seconds.{Seconds}
use Rattle.walk.specs.Laws.{Absorbs}

module _ {A : Type 0} where
  -- The same place, where k stands.
  abbrev pub put : A → MutBor A → MutBor A
  put k r = record { ref_ptr = r.ref_ptr; ghost_name = r.ghost_name; now = k }

  abbrev pub in_place : (ℕ → ℕ → List Seconds → A → A) → ℕ → ℕ → List Seconds → MutBor A → MutBor A
  in_place f q l ts r = put (f q l ts r.now) r

  pub absorbs_in_place : {Good : A → Type 0} {f : ℕ → ℕ → List Seconds → A → A} → Absorbs Good f → Absorbs (λ (r : MutBor A). Good r.now) (in_place f)
  absorbs_in_place a = record {
    good = λ q l ts r g. a.good q l ts r.now g;
    after = λ q l ts r g us. ap (λ (k : A). put k r) (a.after q l ts r.now g us);
    stays = λ q l q' l' ts r g same us. ap (λ (k : A). put k r) (a.stays q l q' l' ts r.now g (λ vs. ap (λ (s : MutBor A). s.now) (same vs)) us);
  }

-- the same of what holds one thing and no more
module _ {A B : Type 0} (wrap : A → B) (held : B → A) (whole : (a : A) → held (wrap a) ≡ a) where
  pub absorbs_wrapped : {Good : A → Type 0} {f : ℕ → ℕ → List Seconds → A → A} → Absorbs Good f → Absorbs (λ (b : B). Good (held b)) (λ q l ts b. wrap (f q l ts (held b)))
  absorbs_wrapped {Good} {f} a = record {
    good = λ q l ts b g. subst Good (sym (whole _)) (a.good q l ts (held b) g);
    after = λ q l ts b g us. ap wrap (ap (f q l us) (whole _) ∙ a.after q l ts (held b) g us);
    stays = λ q l q' l' ts b g same us. ap wrap (ap (f q l us) (whole _) ∙ a.stays q l q' l' ts (held b) g (λ vs. sym (whole _) ∙ ap held (same vs)) us);
  }
