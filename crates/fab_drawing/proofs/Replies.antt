-- From what calls answer to replies.
use Rattle.std.proofs.Common.{◌≡◌, ℕ, List, Result, Ok as Fine, Err, IfOk, sym, subst}
use Rattle.fab_reports.specs.declared.error.TraceError.{TraceError}
use Rattle.fab_reports.specs.declared.error.TraceError.TheVariants as errors
use Rattle.fab_reports.specs.declared.line.Line.{Line}
use Rattle.fab_reports.specs.Reports.{IsBadPlace}
use Rattle.fab_reports.specs.Answers.{RefusesRightly}
use Rattle.fab_drawing.specs.declared.ending.Ending.{Ending}

-- what is so of an ending and a text is so of what was answered
pub if_ended : {E : Type 0} (P : Ending → List ℕ → Type 0) (e : Ending) (l : List ℕ) (o : Result (Ending × List ℕ) E) → IfOk o (λ r. (r.0 ≡ e) × (r.1 ≡ l)) → P e l
    → IfOk o (λ r. P r.0 r.1)
if_ended P e l (Fine r) h w = subst (λ x. P x r.1) (sym h.0) (subst (λ x. P e x) (sym h.1) w)
if_ended P e l (Err x) h w = tt

pub if_so : {E : Type 0} (P Q : Ending → List ℕ → Type 0) (o : Result (Ending × List ℕ) E) → ((e : Ending) (l : List ℕ) → P e l → Q e l) → IfOk o (λ r. P r.0 r.1)
    → IfOk o (λ r. Q r.0 r.1)
if_so P Q (Fine r) f h = f r.0 r.1 h
if_so P Q (Err x) f h = tt

-- the place at which bytes go wrong
pub bad_by : {bytes : List ℕ} {e : TraceError} {at : ℕ} → e ≡ errors.Bad at → RefusesRightly bytes (Err e) → IsBadPlace bytes at
bad_by {bytes = bytes} is p = subst (λ x. RefusesRightly bytes (Err x)) is p
