use Rattle.fab_trace.proofs.Told.{AreTold}
use Rattle.fab_trace.proofs.events.put_events.Given as goal

abbrev pub invariant-loop-index : goal.invariant-loop-index
invariant-loop-index l = AreTold l.start l.log l.places l.index l.fn.out l.out
