use Rattle.std.proofs.Common.{subst}
use Rattle.fab_tree.specs.declared.resolved.Resolved.{Resolved}
use Rattle.fab_threads.specs.Rounds.{IsLeft}
use Rattle.fab_threads.proofs.alone.left_over.Goals as goal

pub returns-then-len-before-clause-left : goal.returns-then-len-before-clause-left
returns-then-len-before-clause-left g c =
    subst (λ (p : Resolved). IsLeft p (g.X.Turning.over c.walk.new.held) c.in_ok-left.left) c.loop.invariant.2 c.in_ok-left.ensures.left
