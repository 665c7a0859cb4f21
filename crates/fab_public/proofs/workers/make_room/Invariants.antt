use Rattle.std.proofs.Common.{ℕ, ◌+◌, ◌-◌, vec_len}
use Rattle.fab_release.specs.Replay.{WorkerSeen}
use Rattle.fab_public.specs.Settings.{public_at}
use Rattle.fab_public.specs.States.{AreWatched}
use Rattle.fab_public.proofs.workers.make_room.Given as goal

abbrev pub invariant-loop-workers : goal.invariant-loop-workers
invariant-loop-workers l = (k : ℕ → WorkerSeen) → AreWatched (public_at l.setting) l.initial.workers.items k → AreWatched (public_at l.setting) l.workers.items k

abbrev pub decreases-loop-workers : goal.decreases-loop-workers
decreases-loop-workers l = l.worker + 1 - vec_len l.workers
