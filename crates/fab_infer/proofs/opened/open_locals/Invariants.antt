use Rattle.std.proofs.Common.{◌≡◌, ◌+◌, ◌≤◌, drop, map}
use Rattle.fab_language.specs.MethodNumbers.{in_turn}
use Rattle.fab_holes.specs.Open.{opened_local}
use Rattle.fab_infer.proofs.Turns.{made_behind}
use Rattle.fab_infer.proofs.opened.open_locals.Given as goal

abbrev pub invariant-loop-local : goal.invariant-loop-local
invariant-loop-local l = record {
  made : made_behind (opened_local l.count) l.out.items (drop l.local-index l.locals) l.hole ≡ in_turn (map (opened_local l.count) l.locals) l.initial.hole;
  bound : l.hole ≤ l.initial.hole + l.local-index;
}
