-- `walk::climb` meets its contract: what is lent is walked through as what stands there.
-- Assumes nothing.
use mathlib.Core.Path.{refl, ◌∙◌, ap}
use Rattle.std.proofs.Common.{rules}
use Rattle.walk.proofs.Lent.{walk_lent, walk_wrapped}
use Rattle.walk.proofs.climb.Goals as goal

pub returns-clause-walked : goal.returns-clause-walked
returns-clause-walked g c =
    let w = c.climb_where.ensures.walked in
    record {
      before = w.before;
      is = λ greatest js h.
          let e = w.is greatest js h ∙ walk_wrapped (λ k. record { kept = k }) _ _ _ (λ q l ts r. refl) js _ _ ∙ ap (λ k. record { kept = k }) (walk_lent _ (g.K.Keep.update c.args.budget) js _ _) in
          search (rules, e);
    }

pub returns-clause-good : goal.returns-clause-good
returns-clause-good g c =
    let r = c.requires.ready in
    let e = c.climb_where.ensures.walked.is r.greatest r.js r.held ∙ walk_wrapped (λ k. record { kept = k }) _ _ _ (λ q l ts r. refl) r.js _ _ ∙ ap (λ k. record { kept = k }) (walk_lent _ (g.K.Keep.update c.args.budget) r.js _ _) in
    search (rules, e)
