use Rattle.std.proofs.Common.{List, sym, subst}
use Rattle.fab_public.specs.declared.states.Watched.{Watched}
use Rattle.fab_public.specs.Settings.{public_at}
use Rattle.fab_public.specs.States.{AreWatched, IsWatched, unwatched, worker_of}
use Rattle.fab_public.proofs.Standing.{one_more}
use Rattle.fab_public.proofs.workers.make_room.Goals as goal

pub loop-workers-preserved : goal.loop-workers-preserved
loop-workers-preserved c = λ k is.
    let P = public_at c.args.setting.now in
    subst (λ (ws : List Watched). AreWatched P ws k) (sym c.in_ok-push.ensures.items)
    (one_more (λ n. unwatched) worker_of (IsWatched P) c.loop-workers.workers.items k c.in_ok-unwatched.field-0
    c.in_ok-unwatched.ensures.seen (record { caching = c.in_ok-unwatched.ensures.caching; by = c.in_ok-unwatched.ensures.by }) (c.loop-workers.invariant k is))
