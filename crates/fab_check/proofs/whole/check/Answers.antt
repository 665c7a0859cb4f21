use Rattle.std.proofs.Common.{subst}
use Rattle.fab_labelling.specs.Refusals.{IsFirstRefusal}
use Rattle.fab_check.proofs.Least.{first_is, same_refusal}
use Rattle.fab_check.proofs.whole.check.Goals as goal

pub returns-in-Some-clause-refused : goal.returns-in-Some-clause-refused
returns-in-Some-clause-refused c = λ rule at source target e.
    let r = c.args.start.now in
    let f = c.in-Some.field-0 in
    subst (IsFirstRefusal r) (same_refusal f rule at source target (cc) (cc) (cc) (cc)) (rw c.in-Some.is at (first_is r c.in_ok-rule.field-0 c.in_ok-rule.ensures))

pub returns-in_ok-pcs_of-in-None-clause-right : goal.returns-in_ok-pcs_of-in-None-clause-right
returns-in_ok-pcs_of-in-None-clause-right c = rw c.in-None.is at (first_is c.args.start.now c.in_ok-rule.field-0 c.in_ok-rule.ensures)
