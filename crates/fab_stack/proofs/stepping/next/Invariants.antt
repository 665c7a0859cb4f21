use Rattle.std.proofs.Common.{[], ◌∷◌, ◌++◌, ◌≤◌}
use Rattle.fab_base.specs.FlatMap.{FlatMap}
use Rattle.fab_left.specs.Left.{AllStem, Place}
use Rattle.fab_stack.specs.Stacks.{entries_of, in_hand}
use Rattle.fab_stack.specs.Stepping.{GoesOn, IsMatched, IsSameAttempt, bound}
use Rattle.fab_stack.proofs.stepping.next.Given as goal

abbrev pub invariant-on : goal.invariant-on
invariant-on g l = record {
  same : (first : Place) (known : FlatMap) → AllStem l.initial.state.base.tid known (entries_of l.initial.stack.items l.initial.state.base.saved ++ in_hand l.initial.hand ∷ []) l.initial.state.state
      → GoesOn (g.A.Acts.means l.acts l.program l.initial.state.base.tid) first l.initial.state.base.tid known (entries_of l.initial.stack.items l.initial.state.base.saved ++ in_hand l.initial.hand ∷ []) l.initial.state.state
      (entries_of l.stack.items l.state.base.saved ++ in_hand l.hand ∷ []) l.state.state;
  matched : IsMatched l.stack.items l.state;
  attempt : IsSameAttempt l.state.base l.initial.state.base;
  shorter : bound l.stack.items l.state ≤ bound l.initial.stack.items l.initial.state;
}

abbrev pub decreases-on : goal.decreases-on
decreases-on g l = bound l.stack.items l.state
