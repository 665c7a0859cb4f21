-- What is shown of a run of a bundle: its log, how the requests of each node ended, and what honest stores hold; and the report of these.
use Rattle.std.specs.Prelude.{ℕ, ◌+◌, not, ◌&&◌, if◌then◌else◌, List, [], map, length, count_by, is_some}
use Rattle.std.specs.List.{range_with_len}
use Rattle.fab_net.specs.declared.note.Logged.{Logged}
use Rattle.fab_net.specs.declared.outcome.ReqOutcome.{ReqOutcome}
use Rattle.fab_tree.specs.declared.resolved.Resolved.{Resolved}
use Rattle.fab_rights.specs.declared.rights.Rights.{Rights}
use Rattle.fab_rights.specs.Computed.{is_node, is_store}
use Rattle.fab_protocol.specs.Versions.{Rows}
use Rattle.fab_attempts.specs.Sessions.{requests_of}
use Rattle.fab_world.specs.Machine.{Move, World, at_start, held_at, logs, outcome}
use Rattle.fab_world.specs.Serial.{world_of}
use Rattle.fab_settings.specs.Settings.{is_hostile_node, setting_of}
use Rattle.fab_trace.specs.Report.{report}
use Rattle.fab_reports.specs.declared.line.Line.{Line}
use Rattle.fab_reports.specs.Printed.{lines_of_report}

-- what a run of the bundle logs, and where it leads
abbrev pub log_of : Resolved → Rights → List Move → List Logged
log_of r rights moves = logs (setting_of r rights) (at_start (setting_of r rights)) moves

abbrev pub world_behind : Resolved → Rights → List Move → World
world_behind r rights moves = world_of (setting_of r rights) moves

-- ---- outcomes

-- how many workers and stores a bundle has: so many of its principals have a number
abbrev pub node_count : Resolved → ℕ
node_count r = count_by (λ principal. is_some principal.node) r.nodes

-- of each request of a node's session, in order
abbrev pub outcomes_at : Resolved → Rights → World → ℕ → List ReqOutcome
outcomes_at r rights w n = map (λ k. outcome (setting_of r rights) w n (k + 1)) (range_with_len 0 (length (requests_of r n)))

-- a list for each worker and store, by number
abbrev pub all_outcomes : Resolved → Rights → World → List (List ReqOutcome)
all_outcomes r rights w = map (outcomes_at r rights w) (range_with_len 0 (node_count r))

-- ---- what is held

-- at an honest store; nothing elsewhere
abbrev pub held_here : Resolved → Rights → World → ℕ → Rows
held_here r rights w n = if is_node rights n && not (is_hostile_node r n) && is_store rights n then held_at (setting_of r rights) w n else []

abbrev pub all_held : Resolved → Rights → World → List Rows
all_held r rights w = map (held_here r rights w) (range_with_len 0 (node_count r))

-- ---- the report

abbrev pub report_of : Resolved → Rights → List Move → List ℕ
report_of r rights moves =
    report r (log_of r rights moves) (all_held r rights (world_behind r rights moves)) (all_outcomes r rights (world_behind r rights moves))

-- the lines that it shows
abbrev pub lines_of : Resolved → Rights → List Move → List Line
lines_of r rights moves =
    lines_of_report r (log_of r rights moves) (all_held r rights (world_behind r rights moves)) (all_outcomes r rights (world_behind r rights moves))
