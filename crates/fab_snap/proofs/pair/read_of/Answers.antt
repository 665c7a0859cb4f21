use Rattle.std.proofs.Common.{refl}
use Rattle.fab_snap.proofs.Rises.{turns, starts_itself}
use Rattle.fab_snap.proofs.pair.read_of.Goals as goal

pub enter_as-requires : goal.enter_as-requires
enter_as-requires c x = turns _ _ x x refl (starts_itself _) (λ h. h)
