use Rattle.fab_reading.proofs.NumberRules.{numeral_at}
use Rattle.fab_reading.proofs.numbers.numeral.Goals as goal

pub returns-in-Some-small_number : goal.returns-in-Some-small_number
returns-in-Some-small_number c = numeral_at c.in-Some.ensures c.in-Some-small_number.ensures
