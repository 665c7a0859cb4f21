use Rattle.std.proofs.Common.{◌≡◌, ◌≤◌, length}
use Rattle.fab_base.specs.FlatMap.{FlatMap}
use Rattle.fab_base.specs.declared.object.Tid.{Tid}
use Rattle.fab_language.specs.Meaning.{failed}
use Rattle.fab_left.specs.Left.{AllStem, Means, Place}
use Rattle.fab_left.specs.Steps.{ended}
use Rattle.fab_stack.specs.Stacks.{entries_of}
use Rattle.fab_stack.specs.Stepping.{IsMatched}
use Rattle.fab_stack.proofs.stepping.unwind.Given as goal

abbrev pub invariant-down : goal.invariant-down
invariant-down l = record {
  same : (m : Means) (first : Place) (more : FlatMap) → ended m first (entries_of l.initial.stack.items l.initial.state.base.saved) failed l.initial.state.state more ≡ ended m first (entries_of l.stack.items l.state.base.saved) failed l.state.state more;
  stem : (tid : Tid) (known : FlatMap) → AllStem tid known (entries_of l.initial.stack.items l.initial.state.base.saved) l.initial.state.state → AllStem tid known (entries_of l.stack.items l.state.base.saved) l.state.state;
  matched : IsMatched l.stack.items l.state;
  base : l.state.base ≡ l.initial.state.base;
  fuel : l.state.state.fuel ≡ l.initial.state.state.fuel;
  room : length l.stack.items ≤ length l.initial.stack.items;
}

abbrev pub decreases-down : goal.decreases-down
decreases-down l = length l.stack.items
