use Rattle.std.proofs.Common.{◌≡◌, ◌*◌, ◌≤◌, drop, map}
use Rattle.fab_language.specs.MethodNumbers.{in_turn}
use Rattle.fab_holes.specs.Open.{opened_method}
use Rattle.fab_infer.proofs.Turns.{made_behind}
use Rattle.fab_infer.proofs.opened.open_methods.Given as goal

abbrev pub invariant-loop-method : goal.invariant-loop-method
invariant-loop-method l = record {
  made : made_behind (opened_method l.count) l.out.items (drop l.method-index l.methods) l.hole ≡ in_turn (map (opened_method l.count) l.methods) 0;
  bound : l.hole ≤ 256 * l.method-index;
}
