use Rattle.std.proofs.Common.{take}
use Rattle.std.specs.List.{flat_map}
use Rattle.fab_settings.specs.Numbers.{AllFit, in_statement}
use Rattle.fab_fitting.proofs.bodies.+block.Given as goal

abbrev pub invariant-read_block-loop-statement : goal.invariant-read_block-loop-statement
invariant-read_block-loop-statement l = AllFit (flat_map in_statement (take l.statement-index l.statements))
