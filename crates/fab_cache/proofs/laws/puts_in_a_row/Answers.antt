use Rattle.fab_cache.proofs.Behind.{last_in_a_row}
use Rattle.fab_cache.proofs.laws.puts_in_a_row.Goals as goal

pub returns : goal.returns
returns c = last_in_a_row
