use Rattle.std.proofs.Common.{Any}
use Rattle.std.specs.List.{AllWithin}
use Rattle.fab_base.specs.Labels.{Covers}
use Rattle.fab_labels.proofs.policies.are_covered.Given as goal

abbrev pub invariant-loop-i : goal.invariant-loop-i
invariant-loop-i l = AllWithin (λ i. Any (λ j. Covers l.acts j i) l.by) l.policies 0 l.i-index
