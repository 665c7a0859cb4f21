use Rattle.std.proofs.Common.{◌≡◌, ◌++◌, drop}
use Rattle.fab_infer.specs.Fill.{of_labels}
use Rattle.fab_infer.proofs.HoldingPlaces.{in_all}
use Rattle.fab_infer.proofs.held.+held.Given as goal

abbrev pub invariant-put_block-loop-statement : goal.invariant-put_block-loop-statement
invariant-put_block-loop-statement l = l.out ++ in_all (of_labels l.declared.labels.now) (drop l.statement-index l.block) ≡ l.initial.out ++ in_all (of_labels l.declared.labels.now) l.block
