-- The text of an audit: a report, and journals behind it. Which bytes are one, and where bytes stop being one.
use Rattle.std.specs.Prelude.{◌≡◌, ◌==◌, ◌≤◌, ℕ, true, List, [], ◌∷◌, ◌++◌, length, take, codes, if◌then◌else◌, Result, Ok, Err}
use Rattle.std.specs.List.{flat_map, list_any}
use Rattle.fab_tree.specs.declared.resolved.Resolved.{Resolved}
use Rattle.fab_language.specs.Words.{hex, line, node_text, spaced}
use Rattle.fab_reports.specs.declared.line.Line.{Line}
use Rattle.fab_reports.specs.Lines.{AreBytes}
use Rattle.fab_reports.specs.Reports.{IsReport}
use Rattle.fab_reports.specs.declared.error.TraceError.{TraceError}
use Rattle.fab_reports.specs.declared.error.TraceError.TheVariants as errors
use Rattle.fab_evidence.specs.declared.shown.Evidence.{Evidence}
use Rattle.fab_evidence.specs.declared.shown.ShownJournal.{ShownJournal}

-- the line of a journal
abbrev pub journal_line : Resolved → ShownJournal → List ℕ
journal_line r journal = line (codes "journal" ++ spaced (node_text r journal.node ∷ hex journal.bytes ∷ []))

abbrev pub journals_text : Resolved → List ShownJournal → List ℕ
journals_text r journals = flat_map (journal_line r) journals

-- those of a list that stand behind this one
abbrev pub behind : ℕ → List ℕ → List ℕ
behind n [] = []
behind n (m ∷ more) = if m == n then more else behind n more

-- each journal is of one of these nodes, and the next is of one behind it
abbrev pub AreOf : List ℕ → List ShownJournal → Type 0
AreOf nodes [] = Unit {0}
AreOf nodes (journal ∷ more) = (list_any (λ n. n == journal.node) nodes ≡ true) × AreBytes journal.bytes × AreOf (behind journal.node nodes) more

-- the report of these lines, and these journals of these nodes
pub record IsAuditText (r : Resolved) (nodes : List ℕ) (text : List ℕ) (lines : List Line) (journals : List ShownJournal) : Type 0 where
  pub report : List ℕ
  pub is : IsReport report lines
  pub order : AreOf nodes journals
  pub spelled : text ≡ report ++ journals_text r journals

-- bytes with which the text of some audit begins
pub record BeginsAuditText (r : Resolved) (nodes : List ℕ) (front : List ℕ) : Type 0 where
  pub more : List ℕ
  pub lines : List Line
  pub journals : List ShownJournal
  pub whole : IsAuditText r nodes (front ++ more) lines journals

-- The place at which bytes that are no such text go wrong: the length of their longest front with which one begins.
pub record IsBadAudit (r : Resolved) (nodes : List ℕ) (text : List ℕ) (at : ℕ) : Type 0 where
  pub unread : (lines : List Line) (journals : List ShownJournal) → IsAuditText r nodes text lines journals → ⊥
  pub within : at ≤ length text
  pub begins : BeginsAuditText r nodes (take at text)
  pub longest : (n : ℕ) → n ≤ length text → BeginsAuditText r nodes (take n text) → n ≤ at

-- ---- what is answered

-- whatever lines and journals the text is of are answered, unless memory ran out
abbrev pub AreOkUnlessMemory : List Line → List ShownJournal → Result Evidence TraceError → Type 0
AreOkUnlessMemory lines journals (Ok x) = (x.lines ≡ lines) × (x.journals ≡ journals)
AreOkUnlessMemory lines journals (Err errors.Memory) = Unit {0}
AreOkUnlessMemory lines journals (Err (errors.Bad at)) = ⊥

abbrev pub AnswersAudit : Resolved → List ℕ → List ℕ → Result Evidence TraceError → Type 0
AnswersAudit r nodes text result =
    (lines : List Line) (journals : List ShownJournal) → IsAuditText r nodes text lines journals → AreOkUnlessMemory lines journals result

-- a text that is refused is none of an audit, and goes wrong there
abbrev pub RefusesRightly : Resolved → List ℕ → List ℕ → Result Evidence TraceError → Type 0
RefusesRightly r nodes text (Ok x) = Unit {0}
RefusesRightly r nodes text (Err errors.Memory) = Unit {0}
RefusesRightly r nodes text (Err (errors.Bad at)) = IsBadAudit r nodes text at
