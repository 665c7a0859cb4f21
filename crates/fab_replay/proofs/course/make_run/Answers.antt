use Rattle.std.proofs.Common.{inl}
use Rattle.fab_replay.specs.Kept.{IsCutShort}
use Rattle.fab_core.specs.Starts.{given_by}
use Rattle.fab_replay.proofs.Starting.{none_made}
use Rattle.fab_replay.proofs.Viewing.{any_err}
use Rattle.fab_replay.proofs.course.make_run.Goals as goal

pub returns-in_err-nodes-clause-memory : goal.returns-in_err-nodes-clause-memory
returns-in_err-nodes-clause-memory g c =
    let M = g.M.Journals in
    any_err c.from_residual.result (inl (none_made (given_by c.args.program.value c.args.rights) (M.seen c.args.journals.now)))

pub returns-in_err-bundle-clause-memory : goal.returns-in_err-bundle-clause-memory
returns-in_err-bundle-clause-memory g c =
    let M = g.M.Journals in
    any_err c.from_residual-in_err-bundle.result (inl (none_made (given_by c.args.program.value c.args.rights) (M.seen c.args.journals.now)))
