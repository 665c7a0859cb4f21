use Rattle.fab_wire.proofs.WholeLaws.{read_found, read_again}
use Rattle.fab_wire.proofs.laws.what_is_read_is_spelled.Goals as goal

pub returns : goal.returns
returns c = λ bytes m. (read_found bytes m, read_again bytes m)
