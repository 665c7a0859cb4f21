use Rattle.std.proofs.Common.{◌≡◌, ◌++◌, ◌*◌}
use Rattle.std.specs.Prelude.{replicate}
use Rattle.fab_print.proofs.piece.put_indent.Given as goal

abbrev pub invariant-levels : goal.invariant-levels
invariant-levels l = l.out ≡ l.fn.out ++ replicate (2 * l.counter) 32
