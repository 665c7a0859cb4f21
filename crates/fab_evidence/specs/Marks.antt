-- What the lines of a report tell of a run: its events, each with a mark where a call of the journal counts as having failed in it.
use Rattle.std.specs.Prelude.{ℕ, ◌==◌, Bool, true, false, not, ◌&&◌, List, [], ◌∷◌, Option}
use Rattle.std.specs.List.{list_any}
use Rattle.std.specs.Option.{option_map}
use Rattle.fab_tree.specs.declared.resolved.Resolved.{Resolved}
use Rattle.fab_language.specs.Words.{has_number}
use Rattle.fab_net.specs.declared.event.Event.{Event}
use Rattle.fab_net.specs.declared.event.Event.TheVariants as ne
use Rattle.fab_net.specs.Events.{node_of}
use Rattle.fab_rights.specs.declared.rights.Rights.{Rights}
use Rattle.fab_rights.specs.Computed.{is_worker}
use Rattle.fab_reports.specs.declared.line.ShownEvent.{ShownEvent}
use Rattle.fab_reports.specs.declared.line.ShownEnding.{ShownEnding}
use Rattle.fab_reports.specs.declared.line.ShownEnding.TheVariants as o
use Rattle.fab_reports.specs.declared.line.Line.{Line}
use Rattle.fab_reports.specs.declared.line.Line.TheVariants as l
use Rattle.fab_evidence.specs.declared.shown.Told.{Told}
use Rattle.fab_evidence.specs.Named.{name_at, named_event, node_named}

-- the events of lines, in their order
abbrev pub events_in : List Line → List ShownEvent
events_in [] = []
events_in (l.Event number event ∷ more) = event ∷ events_in more
events_in (l.Head ∷ more) = events_in more
events_in (l.Commit number commit ∷ more) = events_in more
events_in (l.Outcome outcome ∷ more) = events_in more
events_in (l.Object object ∷ more) = events_in more
events_in (l.End count ∷ more) = events_in more

-- ---- marks

-- an event of this node: a post is its sender's, and a delivery its receiver's
abbrev pub is_of : Resolved → ℕ → ShownEvent → Bool
is_of r n event = has_number n (node_named r (name_at event))

abbrev pub is_unfinished : ShownEnding → Bool
is_unfinished o.Unfinished = true
is_unfinished _ = false

-- a line that says of a request of this node that it is open
abbrev pub is_open_of : Resolved → ℕ → Line → Bool
is_open_of r n (l.Outcome x) = is_unfinished x.ending && has_number n (node_named r x.worker)
is_open_of r n _ = false

-- it is a worker, and a line says that a request of it is open
abbrev pub is_waiting : Resolved → Rights → List Line → ℕ → Bool
is_waiting r rights lines n = is_worker rights n && list_any (is_open_of r n) lines

-- Whether an event that was cut before its first byte counts as one in which a call of the journal failed: it is its node's last one, and no line
-- says that the node has a request open.
abbrev pub is_marked : Resolved → Rights → List Line → Event → List ShownEvent → Bool
is_marked r rights lines (ne.CrashIn keep event) later =
    (keep == 0) && not (list_any (is_of r (node_of event)) later) && not (is_waiting r rights lines (node_of event))
is_marked r rights lines _ later = false

-- ---- what is told

-- of each event what it is, with its mark; nothing of one with a name that is no node's
abbrev pub told_from : Resolved → Rights → List Line → List ShownEvent → List (Option Told)
told_from r rights lines [] = []
told_from r rights lines (x ∷ later) =
    option_map (λ event. record { event = event; marked = is_marked r rights lines event later }) (named_event r x) ∷ told_from r rights lines later

abbrev pub told_in : Resolved → Rights → List Line → List (Option Told)
told_in r rights lines = told_from r rights lines (events_in lines)
