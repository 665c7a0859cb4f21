-- When the text of an audit is right, and otherwise its first line that isn't so.
use Rattle.std.specs.Prelude.{◌≡◌, ℕ, suc, ◌==◌, false, List, ◌++◌, map, length, Option, Some, Result, Ok, Err, if◌then◌else◌}
use Rattle.std.specs.List.{AllByRecursion}
use Rattle.fab_tree.specs.declared.resolved.Resolved.{Resolved}
use Rattle.fab_rights.specs.declared.rights.Rights.{Rights}
use Rattle.fab_world.specs.Machine.{Move, content}
use Rattle.fab_world.specs.Serial.{IsRun}
use Rattle.fab_settings.specs.Settings.{setting_of}
use Rattle.fab_shown.specs.Shown.{report_of, world_behind}
use Rattle.fab_reports.specs.declared.line.Line.{Line}
use Rattle.fab_evidence.specs.declared.shown.Difference.{Difference}
use Rattle.fab_evidence.specs.declared.shown.ShownJournal.{ShownJournal}
use Rattle.fab_evidence.specs.First.{Row, first_from, rows_of, up_to_barred}
use Rattle.fab_evidence.specs.Marks.{told_in}
use Rattle.fab_evidence.specs.Texts.{IsAuditText, IsBadAudit, journals_text}
use Rattle.fab_audit.specs.Runs.{front_of, has_failed, honest_nodes, moves_of}
use Rattle.fab_audit.specs.declared.verdict.Verdict.{Verdict}
use Rattle.fab_audit.specs.declared.verdict.Verdict.TheVariants as v
use Rattle.fab_audit.specs.declared.verdict.AuditError.{AuditError}
use Rattle.fab_audit.specs.declared.verdict.AuditError.TheVariants as e

-- ---- a right text

-- the bytes that a node's journal holds behind a run
abbrev pub journal_behind : Resolved → Rights → List Move → ℕ → List ℕ
journal_behind r rights moves n = content (setting_of r rights) (world_behind r rights moves) n

-- a journal is that of the run; nothing is said of one in which a call failed
abbrev pub IsKept : Resolved → Rights → List Move → ShownJournal → Type 0
IsKept r rights moves journal = has_failed moves journal.node ≡ false → journal.bytes ≡ journal_behind r rights moves journal.node

-- The events of the report are a run of the bundle, with the marks that its lines give; the report is the one of that run; and so are the journals.
pub record IsRight (r : Resolved) (rights : Rights) (text : List ℕ) : Type 0 where
  pub lines : List Line
  pub journals : List ShownJournal
  pub moves : List Move
  pub form : IsAuditText r (honest_nodes r rights) text lines journals
  pub told : moves_of r rights lines ≡ Some moves
  pub run : IsRun (setting_of r rights) moves
  pub reported : form.report ≡ report_of r rights moves
  pub kept : AllByRecursion (IsKept r rights moves) journals

-- ---- the first wrong line

-- what belongs in the place of a journal
abbrev pub kept_journal : Resolved → Rights → List Move → ShownJournal → ShownJournal
kept_journal r rights moves journal =
    if has_failed moves journal.node then journal else record { node = journal.node; bytes = journal_behind r rights moves journal.node }

-- the report of a run, and what belongs in the places of these journals
abbrev pub kept_text : Resolved → Rights → List Move → List ShownJournal → List ℕ
kept_text r rights moves journals = report_of r rights moves ++ journals_text r (map (kept_journal r rights moves) journals)

-- The lines that belong in the places of a text's. If an event may not come, these are the lines up to it, and it isn't enabled.
abbrev pub kept_rows : Resolved → Rights → List Line → List ShownJournal → List Row
kept_rows r rights lines journals =
    let front = front_of r rights lines in
    if length front == length (told_in r rights lines) then rows_of (kept_text r rights front journals)
    else up_to_barred (suc (length front)) (rows_of (report_of r rights front))

abbrev pub first_wrong : Resolved → Rights → List ℕ → List Line → List ShownJournal → Option Difference
first_wrong r rights text lines journals = first_from 1 (rows_of text) (kept_rows r rights lines journals)

-- it is the text of an audit, and this is its first line that isn't so
pub record IsWrong (r : Resolved) (rights : Rights) (text : List ℕ) (difference : Difference) : Type 0 where
  pub lines : List Line
  pub journals : List ShownJournal
  pub form : IsAuditText r (honest_nodes r rights) text lines journals
  pub first : first_wrong r rights text lines journals ≡ Some difference

-- ---- what an audit answers

-- what an answer says of a text; want of memory says nothing
abbrev pub Says : Resolved → Rights → List ℕ → Result Verdict AuditError → Type 0
Says r rights text (Ok v.Right) = IsRight r rights text
Says r rights text (Ok (v.Wrong difference)) = IsWrong r rights text difference
Says r rights text (Err e.Memory) = Unit {0}
Says r rights text (Err (e.Trace at)) = IsBadAudit r (honest_nodes r rights) text at
