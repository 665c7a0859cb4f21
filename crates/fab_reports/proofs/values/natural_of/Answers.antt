use Rattle.std.proofs.Common.{arith}
use Rattle.std.proofs.lemmas.Int.{ints}
use Rattle.fab_reports.proofs.Words.{IsWithin, number_within}
use Rattle.fab_reports.proofs.NameLaws.{natural_is}
use Rattle.fab_reports.proofs.values.natural_of.Goals as goal

pub overflow_cast-value : goal.overflow_cast-value
overflow_cast-value c =
    let w : IsWithin 0 2147483647 c.in_ok-number.number =
    number_within 0 2147483647 (omega arith) c.args.ends.now c.args.bytes.now c.in_ok-number.number c.in_ok-number.end c.in_ok-number.rest.now c.in_ok-number.ensures in
    omega (arith, ints, w.1)

pub returns : goal.returns
returns c =
    let w : IsWithin 0 2147483647 c.in_ok-number.number =
    number_within 0 2147483647 (omega arith) c.args.ends.now c.args.bytes.now c.in_ok-number.number c.in_ok-number.end c.in_ok-number.rest.now c.in_ok-number.ensures in
    natural_is c.args.ends.now c.args.bytes.now c.in_ok-number.number c.in_ok-number.end c.in_ok-number.rest.now _ c.in_ok-number.ensures (omega (arith, ints, w.1))
