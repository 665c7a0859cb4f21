use Rattle.std.proofs.Common.{◌∷◌}
use Rattle.std.specs.List.{AllWithin}
use Rattle.fab_base.specs.Labels.{ActsForOne}
use Rattle.fab_labels.proofs.policies.all_within.Given as goal

abbrev pub invariant-loop-m : goal.invariant-loop-m
invariant-loop-m l = AllWithin (λ m. ActsForOne l.acts m (l.policy.owner ∷ l.policy.others)) l.members 0 l.m-index
