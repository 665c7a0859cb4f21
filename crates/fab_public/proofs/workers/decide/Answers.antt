use Rattle.std.proofs.Common.{ap, ◌∙◌}
use Rattle.fab_release.specs.Replay.{WorkerSeen, closes, decided, enters}
use Rattle.fab_sent.specs.Messages.{all_spelled}
use Rattle.fab_public.specs.Settings.{public_at, sight_at}
use Rattle.fab_public.specs.States.{IsWatched, unwatched, worker_of}
use Rattle.fab_public.proofs.Outcomes.{if_ok_weaker, on_ok_both}
use Rattle.fab_public.proofs.Standing.{changed_at, seen_at}
use Rattle.fab_public.proofs.Watching.{still_watched}
use Rattle.fab_public.proofs.workers.decide.Goals as goal

pub returns-clause-kept : goal.returns-clause-kept
returns-clause-kept c =
    let s = c.args.setting.now in
    on_ok_both c.decide.result c.decide.ensures.kept c.decide.ensures.caching
    (λ turns stays k is. changed_at (λ n. unwatched) worker_of (IsWatched (public_at s)) c.make_room.new.workers.items k c.args.worker c.from.result c.index_mut.result.now c.decide.new.self
    (decided (sight_at s) (public_at s) c.args.worker c.args.commit) (c.in_ok-make_room.ensures.kept k is) c.in_ok-make_room.ensures.made c.from.ensures c.index_mut.ensures.value (λ f. turns f.caching)
    (still_watched (public_at s) c.index_mut.result.now c.decide.new.self c.decide.ensures.by (λ f. stays f.caching)))

pub returns-clause-sent : goal.returns-clause-sent
returns-clause-sent c =
    let s = c.args.setting.now in
    if_ok_weaker c.decide.result
    (λ told h k is. h
    ∙ ap (λ (v : WorkerSeen). all_spelled (closes (sight_at s) (public_at s) c.args.worker c.args.commit v.stage v))
    (seen_at (λ n. unwatched) worker_of (IsWatched (public_at s)) c.make_room.new.workers.items k c.args.worker c.from.result c.index_mut.result.now
    (c.in_ok-make_room.ensures.kept k is) c.in_ok-make_room.ensures.made c.from.ensures c.index_mut.ensures.value))
    c.decide.ensures.sent

pub returns-clause-leaves : goal.returns-clause-leaves
returns-clause-leaves c =
    let s = c.args.setting.now in
    if_ok_weaker c.decide.result
    (λ told h k is. h
    ∙ ap (λ (v : WorkerSeen). enters (sight_at s) (public_at s) c.args.commit v.stage)
    (seen_at (λ n. unwatched) worker_of (IsWatched (public_at s)) c.make_room.new.workers.items k c.args.worker c.from.result c.index_mut.result.now
    (c.in_ok-make_room.ensures.kept k is) c.in_ok-make_room.ensures.made c.from.ensures c.index_mut.ensures.value))
    c.decide.ensures.left
