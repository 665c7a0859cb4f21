use Rattle.std.specs.List.{AllWithin}
use Rattle.fab_base.specs.Labels.{Covers}
use Rattle.fab_labels.proofs.policies.first_cover.Given as goal

abbrev pub invariant-loop-k : goal.invariant-loop-k
invariant-loop-k l = AllWithin (λ j. ¬ Covers l.acts j l.i) l.by 0 l.k
