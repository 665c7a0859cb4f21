use Rattle.std.proofs.Common.{Some, ◌∙◌, subst, sym}
use Rattle.fab_base.specs.declared.object.Object.{Object}
use Rattle.fab_eval.specs.Answered.{answered}
use Rattle.fab_core.specs.Cores.{world}
use Rattle.fab_core.specs.Telling.{TellsJob}
use Rattle.fab_replay.proofs.Resting.{last_unmade, went_told}
use Rattle.fab_replay.proofs.running.went_on.Goals as goal

pub answer_behind-requires : goal.answer_behind-requires
answer_behind-requires g c = c.in-Some.ensures.program ∙ c.requires

pub go_on-requires : goal.go_on-requires
go_on-requires g c =
    last_unmade c.args.evaluators.now c.args.worker c.in-Some.done.now.job c.in-Some-answer_behind.answer.now.0 c.in-Some.ensures.job c.in-Some-answer_behind.ensures.1

pub returns-in_ok-object-in-Some-answer_behind-clause-last : goal.returns-in_ok-object-in-Some-answer_behind-clause-last
returns-in_ok-object-in-Some-answer_behind-clause-last g c =
    let core = c.args.core.now in
    let job = c.in-Some.done.now.job in
    let a = c.in-Some-answer_behind.answer.now in
    let Told : Object → Type 0 = λ x. TellsJob core.given (world core) c.args.worker (Some (answered a.0 a.1 x job)) in
    let object = c.in_ok-object-in-Some-answer_behind in
    went_told core.given core.moves c.args.worker c.args.evaluators.now c.go_on.new.self job a.0 a.1 object.object c.go_on.result c.in-Some.ensures.job
    (subst Told (sym object.ensures) c.in-Some-answer_behind.ensures.0) c.go_on.ensures.last
