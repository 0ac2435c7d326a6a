-- Any two outcomes that the public contract of this crate allows are equal: the answer, and the bytes of the lent buffer.
-- Past a sound profile both speak of the same list of zones; beside a refused one the zones do not matter.
-- Assumes nothing.
use mathlib.Core.Path.{◌≡◌, ap}
use mathlib.Core.List.{List}
use Prim.Native.Nat.{ℕ}
use lib.ListN.{length}
use Rattle.std.specs.Prelude.{Result}
use Rattle.model.specs.declared.Job.{Job}
use Rattle.model.specs.declared.Profile.{Profile}
use Rattle.model.specs.declared.Refusal.{Refusal}
use Rattle.model.specs.Model.{jobs_of}
use Rattle.model.proofs.FrontPut.{puts_rows_one}
use Rattle.zone_walk.specs.Zone.{Zone}
use Rattle.zones.specs.Zones.{ZonesOf, rows_of, Listed}
use Rattle.zones.proofs.Rising.{zones_one_list}
use Rattle.zones.proofs.list_zones.Reads as list-zones-contract

-- Jobs have one list of zones.
pub zones_one : (js : List Job) {ys zs : List Zone} → ZonesOf js ys → ZonesOf js zs → ys ≡ zs
zones_one js {ys} {zs} a b = zones_one_list ys zs a.rising b.rising (λ z i. b.all z (a.only z i)) (λ z i. a.all z (b.only z i))

pub listed_one : (p : Profile) (old : List ℕ) {r s : Result ℕ Refusal} {new other-new : List ℕ} → Listed p old r new → Listed p old s other-new → (r ≡ s) × (new ≡ other-new)
listed_one p old one other =
    puts_rows_one p old (λ sound. let same = zones_one (jobs_of p) (one.are sound) (other.are sound) in (ap length same, ap rows_of same)) one.puts other.puts

-- Any two outcomes that a function's own contract allows for the same arguments are equal: `Post` is what the checker makes of its
-- clauses, so a contract that says less breaks this.

pub list_zones_one_outcome : (κs : _) (a : _) (r s : Result ℕ Refusal) (e e' : _) → list-zones-contract.Post κs a r e → list-zones-contract.Post κs a s e' → (r ≡ s) × (e.1.0.now ≡ e'.1.0.now)
list_zones_one_outcome κs a r s e e' one other = listed_one _ _ one other
