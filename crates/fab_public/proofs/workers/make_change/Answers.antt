use Rattle.std.proofs.Common.{ap, ◌∙◌}
use Rattle.fab_release.specs.Replay.{WorkerSeen}
use Rattle.fab_sent.specs.Messages.{all_spelled}
use Rattle.fab_public.specs.Changes.{changed, told_by}
use Rattle.fab_public.specs.Settings.{public_at, sight_at}
use Rattle.fab_public.specs.States.{IsWatched, unwatched, worker_of}
use Rattle.fab_public.proofs.Outcomes.{if_ok_under, on_ok_both}
use Rattle.fab_public.proofs.Standing.{changed_at, fits_at, seen_at}
use Rattle.fab_public.proofs.Watching.{still_watched}
use Rattle.fab_public.proofs.workers.make_change.Goals as goal

pub returns-clause-kept : goal.returns-clause-kept
returns-clause-kept c =
    let s = c.args.setting.now in
    on_ok_both {C = IsWatched (public_at s) c.index_mut.result.now} c.make.result (λ f. c.make.ensures.kept f.by) (λ f. c.make.ensures.caching f.caching)
    (λ turns stays k is. changed_at (λ n. unwatched) worker_of (IsWatched (public_at s)) c.make_room.new.workers.items k c.args.worker c.from.result c.index_mut.result.now c.make.new.self
    (changed (sight_at s) (public_at s) c.args.worker c.args.change) (c.in_ok-make_room.ensures.kept k is) c.in_ok-make_room.ensures.made c.from.ensures c.index_mut.ensures.value
    turns (still_watched (public_at s) c.index_mut.result.now c.make.new.self c.make.ensures.by stays))

pub returns-clause-sent : goal.returns-clause-sent
returns-clause-sent c =
    let s = c.args.setting.now in
    if_ok_under c.make.result c.make.ensures.sent
    (λ sent h k is. h (fits_at (λ n. unwatched) worker_of (IsWatched (public_at s)) c.make_room.new.workers.items k c.args.worker c.from.result c.index_mut.result.now
    (c.in_ok-make_room.ensures.kept k is) c.in_ok-make_room.ensures.made c.from.ensures c.index_mut.ensures.value).by
    ∙ ap (λ (v : WorkerSeen). all_spelled (told_by (sight_at s) (public_at s) c.args.worker c.args.change v))
    (seen_at (λ n. unwatched) worker_of (IsWatched (public_at s)) c.make_room.new.workers.items k c.args.worker c.from.result c.index_mut.result.now
    (c.in_ok-make_room.ensures.kept k is) c.in_ok-make_room.ensures.made c.from.ensures c.index_mut.ensures.value))
