use Rattle.std.proofs.Common.{◌∙◌}
use Rattle.fab_release.specs.Replay.{WorkerSeen, got_by, run}
use Rattle.fab_public.specs.Settings.{public_at, sight_at}
use Rattle.fab_public.specs.States.{IsWatched, unwatched, worker_of}
use Rattle.fab_public.proofs.Asking.{got_alike}
use Rattle.fab_public.proofs.Outcomes.{on_ok_where}
use Rattle.fab_public.proofs.Standing.{changed_at}
use Rattle.fab_public.proofs.Watching.{watched_still}
use Rattle.fab_public.proofs.workers.get.Goals as goal

pub returns : goal.returns
returns c =
    let s = c.args.setting.now in
    let sight = sight_at s in
    let P = public_at s in
    let n = c.args.worker in
    on_ok_where c.get.result c.get.ensures.seen
    (λ h k rows is alike. changed_at (λ m. unwatched) worker_of (IsWatched P) c.make_room.new.workers.items k n c.from.result c.index_mut.result.now c.get.new.self
    (λ (v : WorkerSeen). got_by sight P rows c.args.version (run sight P n v).ending v) (c.in_ok-make_room.ensures.kept k is) c.in_ok-make_room.ensures.made c.from.ensures c.index_mut.ensures.value
    (λ f. h f.by ∙ got_alike sight P c.args.table.now rows c.args.version (run sight P n (worker_of c.index_mut.result.now)).ending (worker_of c.index_mut.result.now) alike)
    (watched_still P c.index_mut.result.now c.get.new.self c.get.ensures.caches c.get.ensures.by))
