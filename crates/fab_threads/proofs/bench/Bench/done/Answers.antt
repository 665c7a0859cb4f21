use Rattle.std.specs.Option.{option_copied}
use Rattle.std.proofs.Common.{subst}
use Rattle.fab_tree.specs.declared.resolved.Resolved.{Resolved}
use Rattle.fab_threads.proofs.Keeping.{IsKept}
use Rattle.fab_threads.proofs.bench.Bench.done.Goals as goal

pub returns : goal.returns
returns c = subst (λ (p : Resolved). IsKept p (option_copied c.done.result)) c.self.view_is c.done.ensures.program
