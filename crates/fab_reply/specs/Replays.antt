-- What runs of a bundle come to, and what they leave of the journals.
use Rattle.std.specs.Prelude.{◌≡◌, ◌<◌, ◌||◌, ℕ, Bool, true, IsTrue, List, Option, Some, None}
use Rattle.fab_tree.specs.declared.start.Start.{Start}
use Rattle.fab_language.specs.Numbers.{resolved}
use Rattle.fab_rights.specs.declared.rights.Rights.{Rights}
use Rattle.fab_rights.specs.Computed.{has_bit}
use Rattle.fab_places.specs.declared.masks.Seen.{Seen}
use Rattle.fab_settings.specs.Settings.{is_hostile_node}
use Rattle.fab_trusted.specs.declared.rows.Guard.{Guard}
use Rattle.fab_trusted.specs.Robust.{IsFirstUnkept, IsRobust, guards}
use Rattle.fab_trusted.specs.Trusts.{IsTrustedBy}
use Rattle.fab_world.specs.Machine.{Move}
use Rattle.fab_world.specs.Serial.{IsRun}
use Rattle.fab_node.specs.Standing.{GivenModel}
use Rattle.fab_core.specs.Cores.{setting}
use Rattle.fab_core.specs.Starts.{given_by}
use Rattle.fab_command.specs.declared.command.Command.{Command}
use Rattle.fab_command.specs.declared.command.Telling.{Telling}
use Rattle.fab_command.specs.declared.command.Command.TheVariants.{Audit, Check, Evaluate, Flows, Format, Infer, Replay, Run, Trust, View}
use Rattle.fab_command.specs.declared.command.Telling.TheVariants as telling
use Rattle.fab_front.specs.Named.{are_node_names, is_named}
use Rattle.fab_front.specs.Refused.{HasReadable}
use Rattle.fab_replay.specs.Reading.{IsReadingOf}
use Rattle.fab_replay.specs.declared.replayed.Told.{Told}
use Rattle.fab_replay.specs.declared.replayed.Told.TheVariants as told
use Rattle.fab_replay.specs.declared.replayed.Replayed.{Replayed}
use Rattle.fab_replay.specs.declared.replayed.Wanted.{Wanted}
use Rattle.fab_replay.specs.declared.replayed.Wanted.TheVariants.{Report, Run as ByNodes, Trust as Trusted, View as Viewed}
use Rattle.fab_replay.specs.Replays.{Tells, is_scheduled}

-- what the nodes of a bundle are given
abbrev pub given_of : Start → Rights → GivenModel
given_of s rights = given_by (resolved s) rights

-- there are moves of a run of the bundle's schedule of which the answer tells, with the text that is wanted
pub record ReplaysTo (s : Start) (rights : Rights) (wanted : Wanted) (answer : Replayed) : Type 0 where
  pub moves : List Move
  pub run : IsRun (setting (given_of s rights)) moves
  pub told : Tells (given_of s rights) wanted moves answer
  pub scheduled : IsTrue (is_scheduled wanted)

-- what is to be told of a run that the nodes make by themselves: of `watch` its report, and what is read of the root of this name
abbrev pub IsToldOf : Start → Telling → Told → Type 0
IsToldOf s telling.Report told.Report = Unit {0}
IsToldOf s telling.Summary told.Summary = Unit {0}
IsToldOf s (telling.Reads root times) (told.Reads reading counts) = IsReadingOf (resolved s) root times reading
IsToldOf s telling.Report told.Summary = ⊥
IsToldOf s telling.Report (told.Reads reading counts) = ⊥
IsToldOf s telling.Summary told.Report = ⊥
IsToldOf s telling.Summary (told.Reads reading counts) = ⊥
IsToldOf s (telling.Reads root times) told.Report = ⊥
IsToldOf s (telling.Reads root times) told.Summary = ⊥

-- there are moves of a run that the bundle's nodes make by themselves of which the answer tells so
pub record RunsTo (s : Start) (rights : Rights) (x : Telling) (answer : Replayed) : Type 0 where
  pub wanted : Told
  pub asked : IsToldOf s x wanted
  pub moves : List Move
  pub run : IsRun (setting (given_of s rights)) moves
  pub told : Tells (given_of s rights) (ByNodes wanted) moves answer

-- the words are names of nodes, and these are those nodes and the hostile ones
pub record AreNamed (s : Start) (names : List (List ℕ)) (nodes : ℕ) : Type 0 where
  pub names_are : are_node_names (resolved s) names ≡ true
  pub nodes_are : (n : ℕ) → n < 64 → has_bit nodes n ≡ (is_named (resolved s) names n || is_hostile_node (resolved s) n)

-- the declassifications are robust, the words are names of nodes, and these labels and classes exclude those nodes and the hostile ones
pub record AreDistrusted (s : Start) (names : List (List ℕ)) (nodes : ℕ) (part : Seen) : Type 0 where
  pub named : AreNamed s names nodes
  pub robust : IsRobust (resolved s)
  pub trusts : IsTrustedBy (resolved s) nodes (has_bit part.labels) (has_bit part.classes)

-- what a command wants: `replay` the report of the schedule's run, `run` and `watch` what they tell of a run that the nodes make by themselves, `view` what was sent
-- in the schedule's run into the set of the nodes that it names and of the hostile ones, and `trust`, of a robust bundle, trusted replay without that set
abbrev pub Wants : Start → Command → Wanted → Type 0
Wants s Replay Report = Unit {0}
Wants s Replay (ByNodes x) = ⊥
Wants s Replay (Viewed nodes seen part) = ⊥
Wants s Replay (Trusted nodes part) = ⊥
Wants s (Run x) Report = ⊥
Wants s (Run x) (ByNodes y) = IsToldOf s x y
Wants s (Run x) (Viewed nodes seen part) = ⊥
Wants s (Run x) (Trusted nodes part) = ⊥
Wants s (View names) Report = ⊥
Wants s (View names) (ByNodes x) = ⊥
Wants s (View names) (Viewed nodes seen part) = AreNamed s names nodes
Wants s (View names) (Trusted nodes part) = ⊥
Wants s (Trust names) Report = ⊥
Wants s (Trust names) (ByNodes x) = ⊥
Wants s (Trust names) (Viewed nodes seen part) = ⊥
Wants s (Trust names) (Trusted nodes part) = AreDistrusted s names nodes part
Wants s Check wanted = ⊥
Wants s Evaluate wanted = ⊥
Wants s (Flows a b) wanted = ⊥
Wants s Format wanted = ⊥
Wants s Infer wanted = ⊥
Wants s Audit wanted = ⊥

-- such runs are made as this command may want, by who makes these
abbrev pub CanMake : (Wanted → Bool) → Option Command → Type 0
CanMake makes None = Unit {0}
CanMake makes (Some command) = (s : Start) (wanted : Wanted) → Wants s command wanted → IsTrue (makes wanted)

-- these are the nodes of the command's set, if it has one; the root of `watch` may be read
abbrev pub IsSetOf : Start → Command → ℕ → Type 0
IsSetOf s (View names) nodes = AreNamed s names nodes
IsSetOf s (Trust names) nodes = AreNamed s names nodes
IsSetOf s (Run (telling.Reads root times)) nodes = HasReadable s root
IsSetOf s _ nodes = Unit {0}

-- `trust` asks for robust declassifications
abbrev pub KeepsRobust : Command → Start → Type 0
KeepsRobust (Trust names) s = IsRobust (resolved s)
KeepsRobust _ s = Unit {0}

-- this is the first that isn't
abbrev pub IsUnrobust : Command → Start → Guard → Type 0
IsUnrobust (Trust names) s x = IsFirstUnkept (resolved s) (guards (resolved s)) x
IsUnrobust _ s x = ⊥
