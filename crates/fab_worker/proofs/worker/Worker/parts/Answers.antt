use Rattle.std.proofs.Common.{◌≡◌, IfOk, ap, subst, ◌∙◌}
use Rattle.fab_eval.specs.Outcomes.{meant_of}
use Rattle.fab_world.specs.Attempts.{parts_of}
use Rattle.fab_attempts.specs.Known.{AreKnown, ArePartsOver}
use Rattle.fab_attempts.specs.Sessions.{IsProgramOf}
use Rattle.fab_worker.specs.Models.{WorkerModel, tid_at}
use Rattle.fab_worker.proofs.Ending.{parts_come, parts_over_answers, over_come}
use Rattle.fab_worker.proofs.worker.Worker.parts.Goals as goal

pub returns-clause-parts : goal.returns-clause-parts
returns-clause-parts c =
    let done = c.args.done.now in
    let answers = c.deref.ensures.value ∙ ap (λ (w : WorkerModel). w.attempt.answers) c.self.view_is in
    let touches = c.as_slice-touches.ensures ∙ done.touches_meant in
    parts_come c.args.self.now done.job c.requires.job done.outcome done.outcome_meant c.args.value c.args.writes.now c.args.creates.now c.requires.ended
    c.parts_from.result _ _ answers touches c.parts_from.ensures

pub returns-clause-over : goal.returns-clause-over
returns-clause-over c =
    let x = c.args.self.now in
    let done = c.args.done.now in
    let program = subst (λ (w : WorkerModel). IsProgramOf w.program w.node w.rights) c.self.view_is c.self.invariant.program in
    let known = subst (λ (w : WorkerModel). AreKnown w.program (tid_at w) w.attempt.answers) c.self.view_is c.self.invariant.answers in
    over_come (ArePartsOver x.program (tid_at x) x.attempt.answers) (parts_of x.attempt.answers (meant_of done.job)) c.parts_from.result
    (parts_over_answers x done.job c.requires.job program known) (returns-clause-parts c)
