use Rattle.std.proofs.Common.{◌≡◌, suc, ◌++◌, drop}
use Rattle.fab_language.specs.Numbers.{asked_from}
use Rattle.fab_numbers.proofs.sessions.asked.Given as goal

abbrev pub invariant-loop-index : goal.invariant-loop-index
invariant-loop-index l = l.made ++ asked_from l.tables l.worker (suc l.index) (drop l.index l.requests) ≡ asked_from l.tables l.worker 1 l.requests
