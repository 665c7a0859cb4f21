use Rattle.std.proofs.Common.{◌≡◌, sym, subst, ◌∙◌}
use Rattle.std.specs.List.{AllByRecursion}
use Rattle.fab_attempts.specs.Known.{AreKnown}
use Rattle.fab_worker.specs.Models.{WorkerModel, tid_at}
use Rattle.fab_worker.proofs.Ending.{is_unanswered}
use Rattle.fab_worker.proofs.Needed.{unrecorded_fits, found_fits}
use Rattle.fab_worker.proofs.worker.Worker.needs.Goals as goal

pub returns-in-Some-clause-fits : goal.returns-in-Some-clause-fits
returns-in-Some-clause-fits c =
    let x = c.args.self.now in
    let done = c.args.done.now in
    let known = subst (λ (w : WorkerModel). AllByRecursion (AreKnown w.program (tid_at w)) w.attempt.caches) c.self.view_is c.self.invariant.caches in
    let new = is_unanswered x done.job c.requires.job done.outcome done.outcome_meant c.args.site c.args.oid c.requires.outcome in
    let found = found_fits x c.args.oid c.in-Some.row c.in_ok-touches.told known (sym c.in_ok-row.ensures ∙ c.in-Some.is) new c.requires.room.answers c.requires.evaluating in
    unrecorded_fits x c.unrecorded.result _ _ c.unrecorded.ensures found tt

pub returns-clause-fits : goal.returns-clause-fits
returns-clause-fits c =
    let x = c.args.self.now in
    let done = c.args.done.now in
    let new = is_unanswered x done.job c.requires.job done.outcome done.outcome_meant c.args.site c.args.oid c.requires.outcome in
    unrecorded_fits x c.unrecorded-2.result _ _ c.unrecorded-2.ensures (new, c.requires.evaluating) tt
