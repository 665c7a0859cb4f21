use Rattle.std.proofs.Common.{ap, ◌∙◌, ◌++◌}
use Rattle.fab_protocol.specs.Versions.{Rows}
use Rattle.fab_release.specs.Replay.{enters, row_at}
use Rattle.fab_public.specs.Settings.{public_at, sight_at}
use Rattle.fab_known.proofs.Tabling.{alike_behind}
use Rattle.fab_public.proofs.steps.decide.Goals as goal

pub returns-clause-kept : goal.returns-clause-kept
returns-clause-kept c = λ k is.
    let s = c.args.setting.now in record {
      roots = is.roots;
      workers = c.in_ok-told.ensures.kept k.worker is.workers;
      stores = is.stores;
      table = λ o version.
          c.in_ok-put_all.ensures o version
          ∙ ap (λ (rows : Rows). row_at (rows ++ c.args.kept.now.table) o version) (c.in_ok-told.ensures.leaves k.worker is.workers)
          ∙ alike_behind (enters (sight_at s) (public_at s) c.args.commit (k.worker c.args.worker).stage) c.args.kept.now.table k.table is.table o version;
    }

pub returns-clause-sent : goal.returns-clause-sent
returns-clause-sent c = λ k is. c.in_ok-told.ensures.sent k.worker is.workers
