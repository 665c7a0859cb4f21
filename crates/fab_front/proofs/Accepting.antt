-- What a text has that comes to a bundle, and what is so of an answer.
use Rattle.std.proofs.Common.{◌≡◌, ◌≤◌, ℕ, List, [], None, Result, Ok as Fine, Err, IfOk, length, sym, subst}
use Rattle.fab_tree.specs.declared.start.Start.{Start}
use Rattle.fab_tree.specs.declared.resolved.Resolved.{Resolved}
use Rattle.fab_tree.specs.Limits.{first_passed}
use Rattle.fab_language.specs.Faults.{faults}
use Rattle.fab_language.specs.Numbers.{resolved}
use Rattle.fab_flows.specs.Numbers.{HasPrincipals}
use Rattle.fab_flows.proofs.Declared.{has_principals}
use Rattle.fab_front.specs.declared.texts.Outcome.TheVariants as outcome
use Rattle.fab_front.specs.declared.status.Status.{Status}
use Rattle.fab_front.specs.Front.{Front, whole}

-- a bundle is within the limits, and its text isn't too long
pub within : {text : List ℕ} {s : Start} → Front text (outcome.Bundle s) → first_passed s ≡ None
within (whole l x k t p) = p

pub short : {text : List ℕ} {s : Start} → Front text (outcome.Bundle s) → length text ≤ 4194304
short (whole l x k t p) = l

-- what is so of a status and a text is so of what was answered
pub if_told : {E : Type 0} (P : Status → List ℕ → Type 0) (s : Status) (l : List ℕ) (o : Result (Status × List ℕ) E) → IfOk o (λ r. (r.0 ≡ s) × (r.1 ≡ l)) → P s l
    → IfOk o (λ r. P r.0 r.1)
if_told P s l (Fine r) h w = subst (λ x. P x r.1) (sym h.0) (subst (λ x. P s x) (sym h.1) w)
if_told P s l (Err e) h w = tt

-- a bundle within the limits whose names are right has principals behind its numbers
pub held : (s : Start) (r : Resolved) → first_passed s ≡ None → faults s ≡ [] → r ≡ resolved s → HasPrincipals r
held s r within right is = subst HasPrincipals (sym is) (has_principals s within right)
