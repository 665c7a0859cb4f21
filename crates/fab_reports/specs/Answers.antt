-- What reading a report answers.
use Rattle.std.specs.Prelude.{◌≡◌, ℕ, List, Result, Ok, Err}
use Rattle.fab_reports.specs.declared.line.Line.{Line}
use Rattle.fab_reports.specs.declared.error.TraceError.{TraceError}
use Rattle.fab_reports.specs.declared.error.TraceError.TheVariants as errors
use Rattle.fab_reports.specs.Reports.{IsReport, IsBadPlace}

-- these lines, unless memory ran out
abbrev pub AreOkUnlessMemory : List Line → Result (List Line) TraceError → Type 0
AreOkUnlessMemory lines (Ok found) = found ≡ lines
AreOkUnlessMemory lines (Err errors.Memory) = Unit {0}
AreOkUnlessMemory lines (Err (errors.Bad at)) = ⊥

-- whatever lines the bytes are the report of are answered, unless memory ran out
abbrev pub AnswersReport : List ℕ → Result (List Line) TraceError → Type 0
AnswersReport bytes result = (lines : List Line) → IsReport bytes lines → AreOkUnlessMemory lines result

-- bytes that are refused are no report, and go wrong there
abbrev pub RefusesRightly : List ℕ → Result (List Line) TraceError → Type 0
RefusesRightly bytes (Ok lines) = Unit {0}
RefusesRightly bytes (Err errors.Memory) = Unit {0}
RefusesRightly bytes (Err (errors.Bad at)) = IsBadPlace bytes at
