use Rattle.std.proofs.Common.{◌++◌, ◌∙◌}
use Rattle.fab_base.specs.declared.message.Message.TheVariants.{Boot}
use Rattle.fab_commit.specs.Coordinators.{commits_of}
use Rattle.fab_worker.proofs.Sending.{in_a_row}
use Rattle.fab_worker.proofs.recovery.wake_sends.Goals as goal

pub returns : goal.returns
returns c =
    c.in_ok-all.ensures ∙ (λ i. c.in_ok-commits.ensures.sends i ++ c.in_ok-boots.ensures.sends i)
    ∙ in_a_row (commits_of c.args.decided.now) c.args.stores.now (Boot c.args.boot)
