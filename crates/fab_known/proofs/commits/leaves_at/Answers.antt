use Rattle.std.proofs.Common.{◌++◌, List, map, arith, sym, ap, ◌∙◌}
use Rattle.std.proofs.lemmas.List.{take_all}
use Rattle.fab_release.specs.Replay.{leaves_at}
use Rattle.fab_known.specs.Commits.{commitment_of}
use Rattle.fab_known.specs.declared.commits.Commitment.{Commitment}
use Rattle.fab_known.proofs.Messaging.{left_by, left_more}
use Rattle.fab_known.proofs.commits.leaves_at.Goals as goal

-- one commit more
pub loop-commit-preserved : goal.loop-commit-preserved
loop-commit-preserved c = λ sight P.
    c.in_ok-add_left.ensures
    ∙ (λ j. c.loop-commit.invariant sight P j ++ left_by c.args.store c.args.tid (c.commit-item.is j))
    ∙ sym (left_more sight P c.args.store c.args.tid c.args.commits.now c.loop-commit.commit-index c.commit-item.result (omega arith))

pub returns : goal.returns
returns c = λ sight P.
    c.loop-commit.invariant sight P
    ∙ ap (λ (cs : List Commitment). leaves_at sight P c.args.store c.args.tid (map commitment_of cs)) (take_all c.loop-commit.commit-index c.args.commits.now (omega arith))
