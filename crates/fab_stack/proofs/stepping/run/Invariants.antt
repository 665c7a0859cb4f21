use Rattle.fab_base.specs.FlatMap.{FlatMap}
use Rattle.fab_left.specs.Left.{AllStem, at_start}
use Rattle.fab_stack.specs.Stacks.{entries_of}
use Rattle.fab_stack.specs.Stepping.{GoesOn, IsMatched, IsSameAttempt, bound}
use Rattle.fab_stack.proofs.stepping.run.Given as goal

abbrev pub invariant-loop-way : goal.invariant-loop-way
invariant-loop-way g l = record {
  same : (known : FlatMap) → AllStem l.initial.state.base.tid known (entries_of l.initial.stack.items l.initial.state.base.saved) l.initial.state.state
      → GoesOn (g.A.Acts.means l.acts l.program l.initial.state.base.tid) (at_start l.first) l.initial.state.base.tid known (entries_of l.initial.stack.items l.initial.state.base.saved) l.initial.state.state (entries_of l.stack.items l.state.base.saved) l.state.state;
  matched : IsMatched l.stack.items l.state;
  attempt : IsSameAttempt l.state.base l.initial.state.base;
}

abbrev pub decreases-loop-way : goal.decreases-loop-way
decreases-loop-way g l = bound l.stack.items l.state
