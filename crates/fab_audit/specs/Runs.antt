-- The run that the lines of a report tell: its moves, and how far they can go.
use Rattle.std.specs.Prelude.{ℕ, ◌==◌, Bool, not, ◌&&◌, List, [], ◌∷◌, Option, Some, None, if◌then◌else◌}
use Rattle.std.specs.List.{filter, list_any}
use Rattle.std.specs.Option.{option_map}
use Rattle.fab_tree.specs.declared.resolved.Resolved.{Resolved}
use Rattle.fab_net.specs.Events.{node_at}
use Rattle.fab_rights.specs.declared.rights.Rights.{Rights}
use Rattle.fab_rights.specs.Computed.{nodes_in}
use Rattle.fab_world.specs.Machine.{Move, Setting, World, at_start, enabled, form_of, step}
use Rattle.fab_settings.specs.Settings.{is_hostile_node, setting_of}
use Rattle.fab_reports.specs.declared.line.Line.{Line}
use Rattle.fab_evidence.specs.declared.shown.Told.{Told}
use Rattle.fab_evidence.specs.Marks.{told_in}

-- the nodes that aren't hostile, in the order of their numbers
abbrev pub honest_nodes : Resolved → Rights → List ℕ
honest_nodes r rights = filter (λ n. not (is_hostile_node r n)) (nodes_in rights)

abbrev pub move_of : Told → Move
move_of x = record { event = x.event; marked = x.marked }

-- the moves of all events, if each names nodes
abbrev pub all_moves : List (Option Told) → Option (List Move)
all_moves [] = Some []
all_moves (None ∷ more) = None
all_moves (Some x ∷ more) = option_map (λ moves. move_of x ∷ moves) (all_moves more)

abbrev pub moves_of : Resolved → Rights → List Line → Option (List Move)
moves_of r rights lines = all_moves (told_in r rights lines)

-- those that may come one after the other, up to the first that may not come or names no node
abbrev pub front_from : Setting → World → List (Option Told) → List Move
front_from S w [] = []
front_from S w (None ∷ more) = []
front_from S w (Some x ∷ more) = if enabled S w (form_of (move_of x)) then move_of x ∷ front_from S (step S w (move_of x)) more else []

abbrev pub front_of : Resolved → Rights → List Line → List Move
front_of r rights lines = front_from (setting_of r rights) (at_start (setting_of r rights)) (told_in r rights lines)

-- a call of the journal of this node failed
abbrev pub has_failed : List Move → ℕ → Bool
has_failed moves n = list_any (λ move. move.marked && (node_at move.event == n)) moves
