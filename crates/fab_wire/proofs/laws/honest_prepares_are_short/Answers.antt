use Rattle.fab_wire.proofs.Lengths.{honest_short}
use Rattle.fab_wire.proofs.laws.honest_prepares_are_short.Goals as goal

pub returns : goal.returns
returns c = honest_short
