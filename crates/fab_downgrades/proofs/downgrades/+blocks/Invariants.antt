use Rattle.std.proofs.Common.{◌≡◌, ◌++◌, drop, map}
use Rattle.fab_downgrades.specs.Downgraded.{all_in, downgraded_in}
use Rattle.fab_downgrades.proofs.downgrades.+blocks.Given as goal

abbrev pub invariant-put_block-loop-statement : goal.invariant-put_block-loop-statement
invariant-put_block-loop-statement l =
    l.out ++ all_in (map downgraded_in (drop l.statement-index l.statements)) ≡ l.initial.out ++ all_in (map downgraded_in l.statements)
