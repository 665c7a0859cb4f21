use Rattle.std.proofs.Common.{List, ap, subst, ◌∙◌}
use Rattle.fab_protocol.specs.Versions.{Rows}
use Rattle.fab_release.specs.Replay.{WorkerSeen, applies, leaves_at}
use Rattle.fab_world.specs.Machine.{with_at}
use Rattle.fab_public.specs.declared.states.Watched.{Watched}
use Rattle.fab_public.specs.Settings.{public_at, sight_at}
use Rattle.fab_public.specs.States.{AreStored, kept_at, unwatched, worker_of}
use Rattle.fab_public.proofs.steps.apply.Goals as goal

pub returns-clause-kept : goal.returns-clause-kept
returns-clause-kept c = λ k is.
    let sight = sight_at c.args.setting.now in
    let P = public_at c.args.setting.now in
    let s = c.args.store in
    let t = c.args.tid in record {
      roots = is.roots;
      workers = is.workers;
      stores = subst (λ (rows : Rows). AreStored sight P c.apply.new.stores.items (with_at k.store s (applies sight P rows (k.store s))))
          (c.in_ok-rows.ensures
          ∙ ap (λ (ws : List Watched). leaves_at sight P s t (kept_at (λ n. unwatched) worker_of ws t.worker).commits) c.deref.ensures.value
          ∙ ap (λ (v : WorkerSeen). leaves_at sight P s t v.commits) (is.workers.same t.worker))
          (c.in_ok-apply.ensures k.store is.roots is.stores);
      table = is.table;
    }
