use Rattle.std.proofs.Common.{arith}
use Rattle.std.proofs.lemmas.Int.{ints}
use Rattle.fab_reports.proofs.Words.{IsWithin, number_within}
use Rattle.fab_reports.proofs.NameLaws.{negative_is}
use Rattle.fab_reports.proofs.values.negative_of.Goals as goal

pub overflow_cast-value : goal.overflow_cast-value
overflow_cast-value c =
    let w : IsWithin 1 2147483648 c.in_ok-number.number =
    number_within 1 2147483648 (omega arith) c.args.ends.now c.in_ok-_sign.rest.now c.in_ok-number.number c.in_ok-number.end c.in_ok-number.rest.now c.in_ok-number.ensures in
    omega (arith, ints, w.0, w.1, c.from.ensures)

pub returns : goal.returns
returns c =
    let w : IsWithin 1 2147483648 c.in_ok-number.number =
    number_within 1 2147483648 (omega arith) c.args.ends.now c.in_ok-_sign.rest.now c.in_ok-number.number c.in_ok-number.end c.in_ok-number.rest.now c.in_ok-number.ensures in
    negative_is c.args.ends.now c.args.bytes.now c.in_ok-_sign._sign c.in_ok-_sign.rest.now c.in_ok-number.number c.in_ok-number.end c.in_ok-number.rest.now _
    c.in_ok-_sign.ensures c.in_ok-number.ensures (omega (arith, ints, w.0, w.1, c.from.ensures))
