use Rattle.std.proofs.Common.{◌≡◌, drop}
use Rattle.fab_meaning.specs.Settings.{values}
use Rattle.fab_meaning.proofs.Arguments.{values_behind}
use Rattle.fab_meaning.proofs.expressions.values.Given as goal

abbrev pub invariant-loop-argument : goal.invariant-loop-argument
invariant-loop-argument l = record {
  same : values_behind l.setting l.method l.all (drop l.argument-index l.arguments) l.state.state ≡ values l.setting l.method l.arguments l.initial.state.state;
  base : l.state.base ≡ l.initial.state.base;
  fuel : l.state.state.fuel ≡ l.initial.state.state.fuel;
}
