use Rattle.fab_laws.proofs.Fuel.{value_spends, block_spends, call_spends}
use Rattle.fab_laws.proofs.laws.fuel_never_rises.Goals as goal

pub returns : goal.returns
returns c = record { values = value_spends; blocks = block_spends; calls = call_spends }
