use Rattle.std.specs.List.{AllWithin}
use Rattle.fab_base.specs.Labels.{Covers}
use Rattle.fab_labels.proofs.policies.is_covered.Given as goal

abbrev pub invariant-loop-j : goal.invariant-loop-j
invariant-loop-j l = AllWithin (λ j. ¬ Covers l.acts j l.i) l.by 0 l.j-index
