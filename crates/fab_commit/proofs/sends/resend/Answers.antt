use Rattle.std.proofs.Common.{ℕ, ◌++◌, map, arith, sym, ◌∙◌}
use Rattle.fab_base.specs.MessageSpelling.{spelled}
use Rattle.fab_base.specs.declared.message.Message.TheVariants.{Commit}
use Rattle.fab_commit.proofs.Again.{commits_more}
use Rattle.fab_commit.proofs.sends.resend.Goals as goal

-- one decision more
pub loop-decision-preserved : goal.loop-decision-preserved
loop-decision-preserved c =
    c.in_ok-add_commits.ensures
    ∙ (λ j. c.loop-decision.invariant j ++ map (λ (s : ℕ). (s, spelled (Commit (c.decision-item.is j).tid))) (c.decision-item.is j).stores)
    ∙ sym (commits_more c.args.decided.now c.loop-decision.decision-index c.decision-item.result (omega arith))
