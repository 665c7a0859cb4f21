use Rattle.std.specs.List.{AllWithin}
use Rattle.fab_base.specs.Principals.{ActsFor}
use Rattle.fab_places.proofs.policies.acts_for_one.Given as goal

abbrev pub invariant-loop-other : goal.invariant-loop-other
invariant-loop-other l = AllWithin (λ q. ¬ ActsFor l.acts l.p q) l.others 0 l.other-index
