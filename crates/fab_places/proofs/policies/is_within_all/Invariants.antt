use Rattle.std.proofs.Common.{◌∷◌}
use Rattle.std.specs.List.{AllWithin}
use Rattle.fab_base.specs.Labels.{ActsForOne}
use Rattle.fab_places.proofs.policies.is_within_all.Given as goal

abbrev pub invariant-loop-policy : goal.invariant-loop-policy
invariant-loop-policy l = AllWithin (λ policy. ActsForOne l.acts l.p (policy.owner ∷ policy.others)) l.policies 0 l.policy-index
