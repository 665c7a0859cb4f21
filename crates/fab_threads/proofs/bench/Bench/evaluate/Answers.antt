use Rattle.std.proofs.Common.{sym, subst}
use Rattle.fab_tree.specs.declared.resolved.Resolved.{Resolved}
use Rattle.fab_threads.specs.Rounds.{AreKept}
use Rattle.fab_threads.proofs.bench.Bench.evaluate.Goals as goal

pub invariant_of-self : goal.invariant_of-self
invariant_of-self g c = subst (λ (p : Resolved). AreKept p c.self.inside.kept.items) (sym c.evaluate_among.ensures.program) c.self.invariant
