use Rattle.std.proofs.Common.{refl}
use Rattle.fab_attempts.proofs.Parts.{writes_are_parts}
use Rattle.fab_attempts.proofs.laws.outcomes_are_parts.Goals as goal

pub returns : goal.returns
returns c = record { writes = writes_are_parts; creates = λ answers meant. refl }
