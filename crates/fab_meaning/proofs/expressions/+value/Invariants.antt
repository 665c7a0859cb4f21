use Rattle.std.proofs.Common.{◌≡◌, drop, map}
use Rattle.fab_language.specs.Meaning.{chained, operate}
use Rattle.fab_tree.specs.declared.expression.Operator.{Operator}
use Rattle.fab_erasure.specs.Erased.{Part}
use Rattle.fab_meaning.specs.Settings.{others_of}
use Rattle.fab_meaning.proofs.expressions.+value.Given as goal

abbrev pub invariant-chained-loop-other : goal.invariant-chained-loop-other
invariant-chained-loop-other l = record {
  same : chained operate (map (λ (u : Operator × Part). (u.0, u.1.run)) (others_of l.setting l.method (drop l.other-index l.others))) l.v l.state.state
      ≡ chained operate (map (λ (u : Operator × Part). (u.0, u.1.run)) (others_of l.setting l.method l.others)) l.initial.v l.initial.state.state;
  base : l.state.base ≡ l.initial.state.base;
  fuel : l.state.state.fuel ≡ l.initial.state.state.fuel;
}
