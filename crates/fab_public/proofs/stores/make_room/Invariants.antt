use Rattle.std.proofs.Common.{◌≡◌, ℕ, ◌+◌, ◌-◌, vec_len}
use Rattle.fab_release.specs.Replay.{StoreSeen, shown_roots}
use Rattle.fab_public.specs.Settings.{public_at, sight_at}
use Rattle.fab_public.specs.States.{AreStored}
use Rattle.fab_public.proofs.stores.make_room.Given as goal

abbrev pub invariant-loop-stores : goal.invariant-loop-stores
invariant-loop-stores l = (k : ℕ → StoreSeen) → l.roots ≡ shown_roots (sight_at l.setting) (public_at l.setting)
    → AreStored (sight_at l.setting) (public_at l.setting) l.initial.stores.items k → AreStored (sight_at l.setting) (public_at l.setting) l.stores.items k

abbrev pub decreases-loop-stores : goal.decreases-loop-stores
decreases-loop-stores l = l.store + 1 - vec_len l.stores
