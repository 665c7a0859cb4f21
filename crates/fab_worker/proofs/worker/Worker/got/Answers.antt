use Rattle.std.proofs.Common.{◌≡◌, ◌==◌, true, sym, ap, subst, ◌∙◌, arith}
use Rattle.std.proofs.lemmas.Bool.Decides.{nat_tests}
use Rattle.std.proofs.lemmas.Bool.{and_from}
use Rattle.fab_rights.specs.Computed.{is_well_formed}
use Rattle.fab_protocol.specs.Versions.{names_of}
use Rattle.fab_attempts.specs.Sessions.{IsProgramOf}
use Rattle.fab_worker.specs.Models.{WorkerModel}
use Rattle.fab_worker.proofs.Answered.{IsUnanswered, can_answer, stage_unanswered}
use Rattle.fab_worker.proofs.Needed.{unrecorded_fits}
use Rattle.fab_worker.proofs.worker.Worker.got.Goals as goal

pub returns-then-is_made_before-clause-fits : goal.returns-then-is_made_before-clause-fits
returns-then-is_made_before-clause-fits c =
    let x = c.args.self.now in
    let program = subst (λ (w : WorkerModel). IsProgramOf w.program w.node w.rights) c.self.view_is c.self.invariant.program in
    let new = subst (λ (w : WorkerModel). IsUnanswered (names_of w.attempt.answers) w.attempt.phase) c.self.view_is (stage_unanswered _ _ _ _ _ c.self.invariant.stage) in
    let formed : is_well_formed x.rights c.args.object ≡ true =
    ap (λ (w : WorkerModel). is_well_formed w.rights c.args.object) (sym c.self.view_is) ∙ sym c.well_formed-2.ensures.computed ∙ c.if-well_formed.true in
    let same : (c.args.object.class == c.args.oid.class) ≡ true = grind (arith, nat_tests, c.if-object-oid.true) in
    let can = can_answer x c.args.oid c.args.version c.args.object program (and_from _ _ formed same) (sym c.is_made_before.ensures ∙ c.if-is_made_before.true) new
    c.requires.room.answers c.requires.fetching in
    unrecorded_fits x c.unrecorded.result _ _ c.unrecorded.ensures can tt
