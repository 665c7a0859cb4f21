use Rattle.std.proofs.Common.{◌≡◌, ℕ, ◌<◌, ◌++◌, drop}
use Rattle.fab_release.specs.Replay.{Rebuilt, public, sent_behind}
use Rattle.fab_sent.specs.Messages.{messages_in}
use Rattle.fab_public.specs.Settings.{public_at, sight_at}
use Rattle.fab_public.specs.States.{IsKept}
use Rattle.fab_public.proofs.whole.replay.Given as goal

abbrev pub invariant-loop-entry : goal.invariant-loop-entry
invariant-loop-entry l =
    (k : Rebuilt) × IsKept (sight_at l.fn.setting) (public_at l.fn.setting) l.kept k × ((n d : ℕ) → n < 64 → d < 64
    → messages_in l.sent n d ++ sent_behind (sight_at l.fn.setting) (public_at l.fn.setting) k (drop l.entry-index l.released) n d ≡ public (sight_at l.fn.setting) (public_at l.fn.setting) l.released n d)
