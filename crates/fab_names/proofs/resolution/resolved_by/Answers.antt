use Rattle.std.proofs.Common.{◌≡◌, ℕ, List, Result, Err, subst}
use Rattle.fab_language.specs.declared.rule.Fault.{Fault}
use Rattle.fab_language.specs.declared.rule.NameRule.{NameRule}
use Rattle.fab_language.specs.Faults.{faults, IsFirst}
use Rattle.fab_names.specs.declared.error.NameError.{NameError}
use Rattle.fab_names.specs.declared.error.NameError.TheVariants.{Refused}
use Rattle.fab_names.proofs.resolution.resolved_by.Goals as goal

-- the fault that is told is the one that was found
told : {A : Type 0} (xs : List Fault) (x : Fault) (rule : NameRule) (at : ℕ) → IsFirst xs x → ◌≡◌ {A = Result A NameError} (Err (Refused x.rule x.at)) (Err (Refused rule at)) → IsFirst xs (record { rule = rule; at = at })
told xs x rule at first e =
    let r : x.rule ≡ rule = cc in
    let a : x.at ≡ at = cc in
    subst (λ y. IsFirst xs y) (λ i. record { rule = r i; at = a i }) first

pub returns-in-Some-clause-refused : goal.returns-in-Some-clause-refused
returns-in-Some-clause-refused c rule at e =
    let found = rw c.in-Some.is at c.in_ok-rule.ensures in
    told (faults c.args.tables.now) c.in-Some.field-0 rule at found e
