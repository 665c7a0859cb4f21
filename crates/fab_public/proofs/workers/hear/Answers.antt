use Rattle.std.proofs.Common.{ap, ◌∙◌}
use Rattle.std.proofs.lemmas.Result.{on_ok_weaker}
use Rattle.fab_release.specs.Replay.{WorkerSeen, worker_hears, worker_says}
use Rattle.fab_sent.specs.Messages.{all_spelled}
use Rattle.fab_public.specs.Settings.{public_at, sight_at}
use Rattle.fab_public.specs.States.{IsWatched, unwatched, worker_of}
use Rattle.fab_public.proofs.Outcomes.{if_ok_weaker}
use Rattle.fab_public.proofs.Standing.{changed_at, seen_at}
use Rattle.fab_public.proofs.Watching.{watched_still}
use Rattle.fab_public.proofs.workers.hear.Goals as goal

pub returns-clause-kept : goal.returns-clause-kept
returns-clause-kept c =
    let s = c.args.setting.now in
    on_ok_weaker c.hear.result
    (λ h k is. changed_at (λ n. unwatched) worker_of (IsWatched (public_at s)) c.make_room.new.workers.items k c.args.worker c.from.result c.index_mut.result.now c.hear.new.self
    (worker_hears (sight_at s) (public_at s) c.args.worker c.args.sender c.args.message) (c.in_ok-make_room.ensures.kept k is) c.in_ok-make_room.ensures.made c.from.ensures c.index_mut.ensures.value
    (λ f. h) (watched_still (public_at s) c.index_mut.result.now c.hear.new.self c.hear.ensures.caches c.hear.ensures.by))
    c.hear.ensures.seen

pub returns-clause-sent : goal.returns-clause-sent
returns-clause-sent c =
    let s = c.args.setting.now in
    if_ok_weaker c.hear.result
    (λ sent h k is. h
    ∙ ap (λ (v : WorkerSeen). all_spelled (worker_says (sight_at s) (public_at s) c.args.worker c.args.sender c.args.message v))
    (seen_at (λ n. unwatched) worker_of (IsWatched (public_at s)) c.make_room.new.workers.items k c.args.worker c.from.result c.index_mut.result.now
    (c.in_ok-make_room.ensures.kept k is) c.in_ok-make_room.ensures.made c.from.ensures c.index_mut.ensures.value))
    c.hear.ensures.sent
