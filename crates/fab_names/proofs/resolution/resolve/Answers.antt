use Rattle.std.proofs.Common.{◌≡◌, [], ℕ, IfOk, Err, subst}
use Rattle.fab_language.specs.declared.rule.NameRule.{NameRule}
use Rattle.fab_language.specs.Faults.{faults, IsFirst}
use Rattle.fab_language.specs.Numbers.{resolved}
use Rattle.fab_names.specs.declared.error.NameError.TheVariants.{Refused}
use Rattle.fab_names.proofs.resolution.resolve.Goals as goal

pub returns-clause-right : goal.returns-clause-right
returns-clause-right c = subst (λ s. IfOk c.resolved_by.result (λ _. faults s ≡ [])) c.in_ok-tables.ensures c.resolved_by.ensures.right

pub returns-clause-resolved : goal.returns-clause-resolved
returns-clause-resolved c = subst (λ s. IfOk c.resolved_by.result (λ r. r ≡ resolved s)) c.in_ok-tables.ensures c.resolved_by.ensures.resolved

pub returns-clause-refused : goal.returns-clause-refused
returns-clause-refused c =
    subst (λ s. (rule : NameRule) (at : ℕ) → c.resolved_by.result ≡ Err (Refused rule at) → IsFirst (faults s) (record { rule = rule; at = at })) c.in_ok-tables.ensures c.resolved_by.ensures.refused
