-- The lines that the report of a run shows.
use Rattle.std.specs.Prelude.{ℕ, suc, List, [], ◌∷◌, ◌++◌, map, codes, Option, Some, None, option_map, find}
use Rattle.fab_base.specs.declared.object.Oid.{Oid}
use Rattle.fab_base.specs.declared.object.Object.{Object}
use Rattle.fab_base.specs.declared.object.Tid.{Tid}
use Rattle.fab_base.specs.declared.object.Value.{Value}
use Rattle.fab_base.specs.declared.object.Value.TheVariants.{Int, Null, Ref}
use Rattle.fab_base.specs.FlatMap.{is_same}
use Rattle.fab_tree.specs.declared.resolved.Resolved.{Resolved}
use Rattle.fab_language.specs.Words.{node_text, class_text}
use Rattle.fab_net.specs.declared.event.Event.{Event}
use Rattle.fab_net.specs.declared.event.Event.TheVariants as ne
use Rattle.fab_net.specs.declared.event.Inner.{Inner}
use Rattle.fab_net.specs.declared.event.Inner.TheVariants as ni
use Rattle.fab_net.specs.declared.note.Commit.{Commit}
use Rattle.fab_net.specs.declared.note.Logged.{Logged}
use Rattle.fab_net.specs.declared.outcome.ReqOutcome.{ReqOutcome}
use Rattle.fab_net.specs.declared.outcome.ReqOutcome.TheVariants as no
use Rattle.fab_trace.specs.Report.{target_behind, commits_in}
use Rattle.fab_reports.specs.declared.line.ShownName.{ShownName}
use Rattle.fab_reports.specs.declared.line.ShownName.TheVariants.{Root, Unnamed}
use Rattle.fab_reports.specs.declared.line.ShownValue.{ShownValue}
use Rattle.fab_reports.specs.declared.line.ShownValue.TheVariants as v
use Rattle.fab_reports.specs.declared.line.ShownInner.{ShownInner}
use Rattle.fab_reports.specs.declared.line.ShownInner.TheVariants as i
use Rattle.fab_reports.specs.declared.line.ShownEvent.{ShownEvent}
use Rattle.fab_reports.specs.declared.line.ShownEvent.TheVariants as e
use Rattle.fab_reports.specs.declared.line.Attempt.{Attempt}
use Rattle.fab_reports.specs.declared.line.ShownCommit.{ShownCommit}
use Rattle.fab_reports.specs.declared.line.ShownEnding.{ShownEnding}
use Rattle.fab_reports.specs.declared.line.ShownEnding.TheVariants as o
use Rattle.fab_reports.specs.declared.line.ShownOutcome.{ShownOutcome}
use Rattle.fab_reports.specs.declared.line.ShownObject.{ShownObject}
use Rattle.fab_reports.specs.declared.line.Line.{Line}
use Rattle.fab_reports.specs.Reports.{listed}

-- ---- events

abbrev pub inner_of : Resolved → Inner → List ℕ → ShownInner
inner_of r (ni.Begin n) bytes = i.Begin (node_text r n)
inner_of r (ni.Resume n) bytes = i.Resume (node_text r n)
inner_of r (ni.Deliver a b) bytes = i.Deliver (node_text r a) (node_text r b) bytes
inner_of r (ni.Idle n s) bytes = i.Idle (node_text r n) (node_text r s)
inner_of r (ni.Recover n) bytes = i.Recover (node_text r n)

-- with the target of a post
abbrev pub event_of : Resolved → Event → ℕ → List ℕ → ShownEvent
event_of r (ne.Begin n) target bytes = e.Inner (inner_of r (ni.Begin n) bytes)
event_of r (ne.Resume n) target bytes = e.Inner (inner_of r (ni.Resume n) bytes)
event_of r (ne.Deliver a b) target bytes = e.Inner (inner_of r (ni.Deliver a b) bytes)
event_of r (ne.Idle n s) target bytes = e.Inner (inner_of r (ni.Idle n s) bytes)
event_of r (ne.Recover n) target bytes = e.Inner (inner_of r (ni.Recover n) bytes)
event_of r (ne.Post h) target bytes = e.Post (node_text r h) (node_text r target) bytes
event_of r (ne.Crash n) target bytes = e.Crash (node_text r n)
event_of r (ne.CrashIn keep event) target bytes = e.CrashIn keep (inner_of r event bytes)

-- each event of a log, behind those before
abbrev pub events_of : Resolved → List Logged → List Logged → List ShownEvent
events_of r before [] = []
events_of r before (x ∷ log) = event_of r x.event (target_behind r before x.event) x.bytes ∷ events_of r (before ++ x ∷ []) log

-- ---- names and values

abbrev pub name_or : Oid → Option (List ℕ) → ShownName
name_or oid None = Unnamed oid
name_or oid (Some text) = Root text

abbrev pub name_of : Resolved → Oid → ShownName
name_of r oid = name_or oid (option_map (λ x. x.name.text) (find (λ x. is_same x.oid oid) r.roots))

abbrev pub value_of : Resolved → Value → ShownValue
value_of r (Int n) = v.Number n
value_of r Null = v.Null
value_of r (Ref oid) = v.Object (name_of r oid)

-- no result is shown as a root's name would be
abbrev pub result_of : Resolved → Option Value → ShownValue
result_of r None = v.Object (Root (codes "none"))
result_of r (Some value) = value_of r value

-- ---- requests and objects

abbrev pub attempt_of : Tid → Attempt
attempt_of t = record { boot = t.boot; number = t.number }

abbrev pub commit_of : Resolved → Commit → ShownCommit
commit_of r c = record { worker = node_text r c.worker; request = c.request; attempt = attempt_of c.tid }

abbrev pub ending_of : Resolved → ReqOutcome → ShownEnding
ending_of r (no.Committed t value) = o.Committed (attempt_of t) (result_of r value)
ending_of r no.Failed = o.Failed
ending_of r no.Conflict = o.Conflict
ending_of r (no.Silent n) = o.Silent (node_text r n)
ending_of r (no.Denied n denial) = o.Denied (node_text r n) denial
ending_of r (no.Stopped limit) = o.Stopped limit
ending_of r no.NodeDown = o.NodeDown
ending_of r no.Unfinished = o.Unfinished

-- of node n, the requests behind so many
abbrev pub outcomes_of : Resolved → ℕ → ℕ → List ReqOutcome → List ShownOutcome
outcomes_of r n k [] = []
outcomes_of r n k (x ∷ xs) = record { worker = node_text r n; request = suc k; ending = ending_of r x } ∷ outcomes_of r n (suc k) xs

-- one list for each node, from number n on
abbrev pub all_outcomes : Resolved → ℕ → List (List ReqOutcome) → List ShownOutcome
all_outcomes r n [] = []
all_outcomes r n (xs ∷ more) = outcomes_of r n 0 xs ++ all_outcomes r (suc n) more

abbrev pub object_of : Resolved → ℕ → Oid × ℕ × Object → ShownObject
object_of r s row =
    record { store = node_text r s; name = name_of r row.0; class = class_text r row.0.class; version = row.1; fields = map (value_of r) row.2.fields }

abbrev pub all_objects : Resolved → ℕ → List (List (Oid × ℕ × Object)) → List ShownObject
all_objects r s [] = []
all_objects r s (rows ∷ more) = map (object_of r s) rows ++ all_objects r (suc s) more

-- ---- the whole

abbrev pub lines_of_report : Resolved → List Logged → List (List (Oid × ℕ × Object)) → List (List ReqOutcome) → List Line
lines_of_report r log held outcomes = listed (events_of r [] log) (map (commit_of r) (commits_in log)) (all_outcomes r 0 outcomes) (all_objects r 0 held)
