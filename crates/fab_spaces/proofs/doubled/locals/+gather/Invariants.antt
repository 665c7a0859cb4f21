use Rattle.std.proofs.Common.{◌≡◌, ◌++◌, drop}
use Rattle.std.specs.List.{flat_map}
use Rattle.fab_tree.specs.Limits.{declared_in}
use Rattle.fab_rules.specs.Known.{shown}
use Rattle.fab_spaces.proofs.doubled.locals.+gather.Given as goal

abbrev pub invariant-gather_block-loop-statement : goal.invariant-gather_block-loop-statement
invariant-gather_block-loop-statement l =
    shown l.locals.items ++ flat_map declared_in (drop l.statement-index l.block) ≡ shown l.initial.locals.items ++ flat_map declared_in l.block
