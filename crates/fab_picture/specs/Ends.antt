-- What stands at the foot of a node's line: commits and outcomes of a worker, objects of a store.
use Rattle.std.specs.Prelude.{ℕ, ◌+◌, ◌==◌, List, [], ◌∷◌, ◌++◌, codes, count_by, flat_map}
use Rattle.std.specs.Fmt.{decimal, signed_decimal}
use Rattle.fab_tree.specs.declared.resolved.Resolved.{Resolved}
use Rattle.fab_language.specs.Words.{stop_text}
use Rattle.fab_trace.specs.Report.{denial_text}
use Rattle.fab_reports.specs.declared.line.Attempt.{Attempt}
use Rattle.fab_reports.specs.declared.line.ShownName.{ShownName}
use Rattle.fab_reports.specs.declared.line.ShownName.TheVariants.{Root, Unnamed}
use Rattle.fab_reports.specs.declared.line.ShownValue.{ShownValue}
use Rattle.fab_reports.specs.declared.line.ShownValue.TheVariants as v
use Rattle.fab_reports.specs.declared.line.ShownEnding.{ShownEnding}
use Rattle.fab_reports.specs.declared.line.ShownEnding.TheVariants as o
use Rattle.fab_reports.specs.declared.line.ShownCommit.{ShownCommit}
use Rattle.fab_reports.specs.declared.line.ShownOutcome.{ShownOutcome}
use Rattle.fab_reports.specs.declared.line.ShownObject.{ShownObject}
use Rattle.fab_reports.specs.declared.line.Line.{Line}
use Rattle.fab_reports.specs.declared.line.Line.TheVariants as l
use Rattle.fab_picture.specs.declared.foot.Foot.{Foot}
use Rattle.fab_marks.specs.declared.shape.Shape.{Shape}
use Rattle.fab_marks.specs.declared.shape.Shape.TheVariants.{Note}
use Rattle.fab_marks.specs.Nodes.{number_of}
use Rattle.fab_marks.specs.Labels.{label_length, made_text, short}

abbrev pub attempt : Attempt → List ℕ
attempt t = decimal t.boot ++ codes "." ++ decimal t.number

abbrev pub shown_name : Resolved → ShownName → List ℕ
shown_name r (Root text) = text
shown_name r (Unnamed oid) = made_text r oid

abbrev pub shown_value : Resolved → ShownValue → List ℕ
shown_value r (v.Number n) = signed_decimal n
shown_value r v.Null = codes "null"
shown_value r (v.Object name) = shown_name r name

abbrev pub ending_text : Resolved → ShownEnding → List ℕ
ending_text r (o.Committed t result) = codes "committed " ++ attempt t ++ codes " " ++ shown_value r result
ending_text r o.Failed = codes "failed"
ending_text r o.Conflict = codes "conflict"
ending_text r (o.Silent node) = codes "silent " ++ node
ending_text r (o.Denied node denial) = codes "denied " ++ node ++ codes " " ++ denial_text denial
ending_text r (o.Stopped stop) = codes "stopped " ++ stop_text stop
ending_text r o.NodeDown = codes "down"
ending_text r o.Unfinished = codes "open"

-- a commit's number, its request and its attempt; a request and how it ended; an object, its version and its values
abbrev pub commit_text : ℕ → ShownCommit → List ℕ
commit_text number c = codes "commit " ++ decimal number ++ codes ": request " ++ decimal c.request ++ codes " as " ++ attempt c.attempt

abbrev pub outcome_text : Resolved → ShownOutcome → List ℕ
outcome_text r x = codes "request " ++ decimal x.request ++ codes ": " ++ ending_text r x.ending

abbrev pub values_text : Resolved → List ShownValue → List ℕ
values_text r = flat_map (λ v. codes " " ++ shown_value r v)

abbrev pub held_text : Resolved → ShownObject → List ℕ
held_text r x = shown_name r x.name ++ codes " v" ++ decimal x.version ++ codes ":" ++ values_text r x.fields

abbrev pub foot_at : ℕ → List ℕ → Foot
foot_at node text = record { node = node; text = text }

abbrev pub feet_in : Resolved → Line → List Foot
feet_in r l.Head = []
feet_in r (l.Event number event) = []
feet_in r (l.Commit number c) = foot_at (number_of r c.worker) (commit_text number c) ∷ []
feet_in r (l.Outcome x) = foot_at (number_of r x.worker) (outcome_text r x) ∷ []
feet_in r (l.Object x) = foot_at (number_of r x.store) (held_text r x) ∷ []
feet_in r (l.End events) = []

-- those of a report, in order
abbrev pub feet : Resolved → List Line → List Foot
feet r = flat_map (feet_in r)

-- Each stands below those of its node in front of it, from this row on.
abbrev pub note_at : ℕ → List Foot → Foot → Shape
note_at first front x = Note (record { column = x.node; row = first + count_by (λ y. y.node == x.node) front }) (short label_length x.text) x.text

abbrev pub notes : ℕ → List Foot → List Foot → List Shape
notes first front [] = []
notes first front (x ∷ xs) = note_at first front x ∷ notes first (front ++ x ∷ []) xs
