use Rattle.std.proofs.Common.{◌≡◌, ◌++◌, drop}
use Rattle.std.specs.List.{flat_map}
use Rattle.fab_tree.specs.Limits.{declared_in}
use Rattle.fab_numbers.proofs.locals.+gather.Given as goal

abbrev pub invariant-gather_block-loop-statement : goal.invariant-gather_block-loop-statement
invariant-gather_block-loop-statement l = l.locals.items ++ flat_map declared_in (drop l.statement-index l.block) ≡ l.initial.locals.items ++ flat_map declared_in l.block
