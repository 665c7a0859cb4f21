-- The words by which events, endings and lines are told apart, each with what ends it.
use Rattle.std.specs.Prelude.{ℕ, List, [], ◌∷◌, codes}
use Rattle.fab_base.specs.declared.object.Stop.{Stop}
use Rattle.fab_base.specs.declared.object.Stop.TheVariants as s
use Rattle.fab_language.specs.Words.{line, stop_text}
use Rattle.fab_net.specs.declared.outcome.Denial.{Denial}
use Rattle.fab_net.specs.declared.outcome.Denial.TheVariants as d
use Rattle.fab_trace.specs.Report.{denial_text}
use Rattle.fab_reports.specs.declared.kinds.InnerKind.{InnerKind}
use Rattle.fab_reports.specs.declared.kinds.InnerKind.TheVariants as i
use Rattle.fab_reports.specs.declared.kinds.EventKind.{EventKind}
use Rattle.fab_reports.specs.declared.kinds.EventKind.TheVariants as e
use Rattle.fab_reports.specs.declared.kinds.EndingKind.{EndingKind}
use Rattle.fab_reports.specs.declared.kinds.EndingKind.TheVariants as o
use Rattle.fab_reports.specs.declared.kinds.LineKind.{LineKind}
use Rattle.fab_reports.specs.declared.kinds.LineKind.TheVariants as l

abbrev pub inner_kind_text : InnerKind → List ℕ
inner_kind_text i.Begin = codes "begin "
inner_kind_text i.Resume = codes "resume "
inner_kind_text i.Deliver = codes "deliver "
inner_kind_text i.Idle = codes "idle "
inner_kind_text i.Recover = codes "recover "

abbrev pub inner_kinds : List InnerKind
inner_kinds = i.Begin ∷ i.Resume ∷ i.Deliver ∷ i.Idle ∷ i.Recover ∷ []

abbrev pub event_kind_text : EventKind → List ℕ
event_kind_text (e.Inner kind) = inner_kind_text kind
event_kind_text e.Post = codes "post "
event_kind_text e.Crash = codes "crash "
event_kind_text e.CrashIn = codes "crashin "

abbrev pub event_kinds : List EventKind
event_kinds = e.Inner i.Begin ∷ e.Inner i.Resume ∷ e.Inner i.Deliver ∷ e.Inner i.Idle ∷ e.Inner i.Recover ∷ e.Post ∷ e.Crash ∷ e.CrashIn ∷ []

abbrev pub ending_kind_text : EndingKind → List ℕ
ending_kind_text o.Committed = codes "committed "
ending_kind_text o.Failed = line (codes "failed")
ending_kind_text o.Conflict = line (codes "conflict")
ending_kind_text o.Silent = codes "silent "
ending_kind_text o.Denied = codes "denied "
ending_kind_text o.Stopped = codes "stopped "
ending_kind_text o.NodeDown = line (codes "down")
ending_kind_text o.Unfinished = line (codes "open")

abbrev pub ending_kinds : List EndingKind
ending_kinds = o.Committed ∷ o.Failed ∷ o.Conflict ∷ o.Silent ∷ o.Denied ∷ o.Stopped ∷ o.NodeDown ∷ o.Unfinished ∷ []

abbrev pub denial_kind_text : Denial → List ℕ
denial_kind_text denial = line (denial_text denial)

abbrev pub denial_kinds : List Denial
denial_kinds = d.Rights ∷ d.IllFormed ∷ []

abbrev pub stop_kind_text : Stop → List ℕ
stop_kind_text stop = line (stop_text stop)

abbrev pub stop_kinds : List Stop
stop_kinds = s.Fuel ∷ s.Depth ∷ s.Reads ∷ s.Writes ∷ []

abbrev pub line_kind_text : LineKind → List ℕ
line_kind_text l.Event = codes "event "
line_kind_text l.Commit = codes "commit "
line_kind_text l.Outcome = codes "outcome "
line_kind_text l.Object = codes "object "
line_kind_text l.End = codes "end "

-- what may stand behind a line of a kind: lines of this kind and of those that come later
abbrev pub kinds_from : LineKind → List LineKind
kinds_from l.Event = l.Event ∷ l.Commit ∷ l.Outcome ∷ l.Object ∷ l.End ∷ []
kinds_from l.Commit = l.Commit ∷ l.Outcome ∷ l.Object ∷ l.End ∷ []
kinds_from l.Outcome = l.Outcome ∷ l.Object ∷ l.End ∷ []
kinds_from l.Object = l.Object ∷ l.End ∷ []
kinds_from l.End = []
