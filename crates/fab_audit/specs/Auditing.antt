-- What is audited, and what an audit answers: what is so of the text, and nothing else.
use Rattle.std.specs.Prelude.{◌≡◌, ◌⊎◌, ℕ, List, Result, Ok, Err}
use Rattle.fab_base.specs.declared.token.Token.{Token}
use Rattle.fab_base.specs.Tokens.{Lexes}
use Rattle.fab_tree.specs.declared.resolved.Resolved.{Resolved}
use Rattle.fab_tree.specs.declared.start.Start.{Start}
use Rattle.fab_tree.specs.Syntax.{IsText}
use Rattle.fab_language.specs.Numbers.{resolved}
use Rattle.fab_rights.specs.declared.rights.Rights.{Rights}
use Rattle.fab_settings.specs.Settings.{IsAcceptedWith}
use Rattle.fab_audit.specs.Right.{Says}
use Rattle.fab_audit.specs.declared.verdict.Verdict.{Verdict}
use Rattle.fab_audit.specs.declared.verdict.AuditError.{AuditError}
use Rattle.fab_audit.specs.declared.verdict.AuditError.TheVariants as e

-- an accepted bundle with these rights, which is what a text stands for
pub record IsBundle (r : Resolved) (rights : Rights) : Type 0 where
  pub start : Start
  pub numbers : resolved start ≡ r
  pub accepted : IsAcceptedWith start rights
  pub text : List ℕ
  pub tokens : List Token
  pub cut : Lexes 0 text tokens
  pub spelled : IsText tokens start

-- the two are the same, unless memory ran out in one
abbrev pub AreSame : Result Verdict AuditError → Result Verdict AuditError → Type 0
AreSame x result = (x ≡ Err e.Memory) ⊎ ((result ≡ Err e.Memory) ⊎ (result ≡ x))

-- this is so of the text, and whatever else is so of it is the same
pub record IsAudit (r : Resolved) (rights : Rights) (text : List ℕ) (result : Result Verdict AuditError) : Type 0 where
  pub says : Says r rights text result
  pub only : (x : Result Verdict AuditError) → Says r rights text x → AreSame x result

abbrev pub IsVerdict : Resolved → Rights → List ℕ → Verdict → Type 0
IsVerdict r rights text verdict = IsAudit r rights text (Ok verdict)
