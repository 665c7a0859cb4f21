use Rattle.std.proofs.Common.{sym, ◌∙◌, ap, subst, inl}
use Rattle.std.specs.Prelude.{IfOk, OnErr, None, false}
use Rattle.fab_node.specs.Standing.{GivenModel}
use Rattle.fab_core.specs.Honest.{honest_in}
use Rattle.fab_replay.specs.Kept.{IsCutOff, IsOnWay, IsPossible}
use Rattle.fab_replay.specs.Running.{AreSure, IsEnded, failed_by}
use Rattle.fab_replay.proofs.Accepted.{are_numbered, few_events}
use Rattle.fab_replay.proofs.Ends.{are_marked, front_marks, marks_of, on_way, schedule_way, still_sure}
use Rattle.fab_replay.proofs.whole.over.Goals as goal

pub run-requires-clause-few : goal.run-requires-clause-few
run-requires-clause-few g c = few_events c.args.core.given c.is_a_run.ensures.given c.args.program.now c.requires.program

pub answer-answer-requires-clause-numbered : goal.answer-answer-requires-clause-numbered
answer-answer-requires-clause-numbered g c = are_numbered c.args.core.given c.is_a_run.ensures.given c.args.program.now c.requires.program

pub finished-requires-clause-on_way : goal.finished-requires-clause-on_way
finished-requires-clause-on_way g c κs within =
    subst (λ (x : GivenModel). IsOnWay x c.args.wanted.now c.run.new.core.moves) (sym c.in-Ok.ensures.given)
    (on_way c.args.core.given c.run.new.core.moves c.args.wanted.now c.requires.scheduled (schedule_way c.args.core.given c.run.new.core.moves c.in-Ok.ran c.in-Ok.ensures.ran))

pub finished-requires-clause-marked : goal.finished-requires-clause-marked
finished-requires-clause-marked g c κs within =
    let M = g.M.Journals in
    are_marked (M.seen c.args.journals.now).may_fail c.args.core.given c.run.new.core.moves (failed_by c.in-Ok.ran) c.args.core.journals c.run.new.core.journals c.requires.unfailed
    c.in-Ok.ensures.journals (marks_of c.args.core.given c.run.new.core.moves c.in-Ok.ran c.in-Ok.ensures.ran)

pub finished-requires-clause-sure : goal.finished-requires-clause-sure
finished-requires-clause-sure g c κs within =
    let M = g.M.Journals in
    subst (λ (x : GivenModel). AreSure (M.seen c.args.journals.now).may_fail x c.run.new.core.journals) (sym c.in-Ok.ensures.given)
    (still_sure (M.seen c.args.journals.now).may_fail c.args.core.given c.run.new.core.moves (failed_by c.in-Ok.ran) c.args.core.journals c.run.new.core.journals c.requires.unfailed
    c.in-Ok.ensures.journals)

pub finished-requires-in-Err-clause-on_way : goal.finished-requires-in-Err-clause-on_way
finished-requires-in-Err-clause-on_way g c κs within =
    subst (λ (x : GivenModel). IsOnWay x c.args.wanted.now c.run.new.core.moves) (sym c.in-Err.ensures.given)
    (on_way c.args.core.given c.run.new.core.moves c.args.wanted.now c.requires.scheduled (inl c.in-Err.ensures.memory))

pub finished-requires-in-Err-clause-marked : goal.finished-requires-in-Err-clause-marked
finished-requires-in-Err-clause-marked g c κs within =
    let M = g.M.Journals in
    are_marked (M.seen c.args.journals.now).may_fail c.args.core.given c.run.new.core.moves (λ n. false) c.args.core.journals c.run.new.core.journals c.requires.unfailed
    c.in-Err.ensures.still (front_marks c.args.core.given c.run.new.core.moves c.in-Err.ensures.memory)

pub finished-requires-in-Err-clause-sure : goal.finished-requires-in-Err-clause-sure
finished-requires-in-Err-clause-sure g c κs within =
    let M = g.M.Journals in
    subst (λ (x : GivenModel). AreSure (M.seen c.args.journals.now).may_fail x c.run.new.core.journals) (sym c.in-Err.ensures.given)
    (still_sure (M.seen c.args.journals.now).may_fail c.args.core.given c.run.new.core.moves (λ n. false) c.args.core.journals c.run.new.core.journals c.requires.unfailed
    c.in-Err.ensures.still)
