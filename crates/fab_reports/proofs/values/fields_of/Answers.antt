use Rattle.std.proofs.Common.{◌≡◌, true, not, eqb, arith}
use Rattle.std.proofs.lemmas.Bool.Decides.{nat_tests}
use Rattle.std.proofs.lemmas.Result.{err_from_is_err_and}
use Rattle.fab_reports.specs.Reading.{fields_at}
use Rattle.fab_reports.proofs.Loops.{field_on, field_wrong, fields_end, front_none}
use Rattle.fab_reports.proofs.values.fields_of.Goals as goal

pub fields-init : goal.fields-init
fields-init c = record { going = rw c.new-fields.ensures (front_none (fields_at c.args.end c.args.bytes.now)); are_bytes = λ i. omega (arith, c.type_inv.bytes i) }

pub returns-in_err-value : goal.returns-in_err-value
returns-in_err-value c =
    let p = err_from_is_err_and c.from_residual.result c.from_residual.ensures.1 in
    rw (p.1, p.2)
    (field_wrong c.in_err-value.field-0.0 c.fields.fields c.fields.last c.fields.rest.now (fields_at c.args.end c.args.bytes.now) c.fields.invariant.are_bytes c.fields-test.true c.in_err-value.ensures c.fields.invariant.going)

pub fields-smaller : goal.fields-smaller
fields-smaller c =
    (field_on c.fields.fields c.fields.last c.fields.rest.now c.in_ok-value.value c.in_ok-value.next c.in_ok-value.after.now (fields_at c.args.end c.args.bytes.now) c.fields.invariant.are_bytes c.fields-test.true c.in_ok-value.ensures
    c.fields.invariant.going).1

pub fields-preserved : goal.fields-preserved
fields-preserved c =
    let on = field_on c.fields.fields c.fields.last c.fields.rest.now c.in_ok-value.value c.in_ok-value.next c.in_ok-value.after.now (fields_at c.args.end c.args.bytes.now) c.fields.invariant.are_bytes c.fields-test.true c.in_ok-value.ensures
    c.fields.invariant.going in
    record { going = rw c.in_ok-push.ensures.ok on.0; are_bytes = on.2 }

pub returns : goal.returns
returns c =
    let over : not (eqb c.fields.last 32) ≡ true = grind (arith, nat_tests, c.fields-test.false) in
    fields_end c.fields.fields c.fields.last c.fields.rest.now (fields_at c.args.end c.args.bytes.now) over c.fields.invariant.going
