-- `codec::pack_widths` meets its contract: before each turn the word stands above the fields still to come.
-- Assumes nothing.
use Rattle.std.proofs.Common.{rules, ◌≡◌, ◌⊎◌, inl, inr, ⊎_elim, length}
use Rattle.codec.proofs.Fields.{nothing_packed, one_packed, packed_small, all_packed}
use Rattle.codec.proofs.pack_widths.Goals as goal

pub loop-width-init : goal.loop-width-init
loop-width-init g c = search (rules, nothing_packed)

pub loop-width-preserved : goal.loop-width-preserved
loop-width-preserved g c =
    let next = c.in-Some.ensures.steps in
    one_packed _ _ c.requires.fill c.requires.fit next.0 next.1 c.from.ensures c.loop-width.invariant

pub overflow_add-word : goal.overflow_add-word
overflow_add-word g c = record { fits = packed_small _ _ c.requires.fill c.requires.fit _ _ _ (loop-width-preserved g c) }

pub returns : goal.returns
returns g c =
    let none : (length c.loop-width.width-iterator.a.rest.now ≡ 0) ⊎ (length c.loop-width.width-iterator.b.rest.now ≡ 0) =
    ⊎_elim (λ first. inl first.1.0) (λ second. inr second.1.0) c.in-None.ensures.steps in
    all_packed _ _ _ _ _ none c.loop-width.invariant
