-- Which line of a node is used, by its counts.
use Rattle.std.proofs.Common.{◌≡◌, ℕ, ◌<◌, ◌≤◌, ◌==◌, Bool, true, false, not, List, Option, Some, None, refl, sym, ap, ◌∙◌}
use Rattle.std.specs.Prelude.{slice_get, slice_index_or, option_map, if◌then◌else◌}
use Rattle.std.specs.List.{filter}
use Rattle.std.proofs.lemmas.Bool.{and_parts, le-leb, lt-leb}
use Rattle.std.proofs.lemmas.Option.{slice_get-map}
use Rattle.fab_tree.specs.declared.resolved.Crash.{Crash}
use Rattle.fab_world.specs.Machine.{Move, is_running}
use Rattle.fab_world.specs.Crashing.{CrashLine, crashes_by, crashes_of, events_of, if_after}
use Rattle.fab_settings.specs.Settings.{lines_of}
use Rattle.fab_node.specs.Standing.{GivenModel, IsGiven}
use Rattle.fab_core.specs.Cores.{setting, world_by}
use Rattle.fab_core.proofs.Tables.{node_below}
use Rattle.fab_exchange.specs.Dues.{crashes, line_in, line_of}
use Rattle.fab_exchange.specs.Exchanges.{AreCounts, none_yet}
use Rattle.fab_exchange.specs.declared.counting.Count.{Count}

module _ (g : GivenModel) (moves : List Move) (n : ℕ) where
  abbrev runs : Bool
  runs = is_running (setting g) (world_by g moves) n

  abbrev next_line : Option CrashLine
  next_line = slice_get (lines_of g.program n) (crashes_of n moves)

  -- none of a node that isn't up
  pub line_down : runs ≡ false → line_of g moves n ≡ None
  unfolding line_of
  line_down down = ap (λ b. if b then if_after (events_of n moves) next_line else None) down

  -- of one that is up, the next that is left, where the events are there
  pub line_up : runs ≡ true → (counts : List Count) → AreCounts moves counts → n < 64 → (count : Count) → count ≡ slice_index_or counts n none_yet
      → (found : Option Crash) → found ≡ slice_get (filter (λ (c : Crash). c.node == n) g.program.crashes) count.crashes
      → if_after count.events (option_map line_in found) ≡ line_of g moves n
  unfolding line_of
  line_up up counts are near count is found there =
      let same : count ≡ record { events = events_of n moves; crashes = crashes_of n moves } = is ∙ are.each n near in
      let lined : option_map line_in found ≡ next_line =
      ap (option_map line_in) (there ∙ ap (λ (c : Count). slice_get (filter (λ (x : Crash). x.node == n) g.program.crashes) c.crashes) same)
      ∙ sym (slice_get-map line_in (filter (λ (x : Crash). x.node == n) g.program.crashes) (crashes_of n moves)) in
      ap (if_after count.events) lined ∙ ap (λ (c : Count). if_after c.events next_line) same
      ∙ sym (ap (λ b. if b then if_after (events_of n moves) next_line else None) up)

-- a line makes a crash where it keeps nothing
pub line_crashes : (g : GivenModel) (moves : List Move) (n : ℕ) → crashes g moves n ≡ crashes_by (setting g) (lines_of g.program) (line_of g moves n)
unfolding crashes line_of
line_crashes g moves n = refl

-- of a node that is up, its number is below 64
pub running_low : (g : GivenModel) (moves : List Move) (n : ℕ) → IsGiven g → is_running (setting g) (world_by g moves) n ≡ true → n < 64
running_low g moves n given up = node_below g.rights n given.accepted.workers given.accepted.stores (and_parts _ _ (and_parts _ _ up).0).0

-- a line is used behind its events, and not before
pub used_if : (events : ℕ) (line : CrashLine) → line.after ≤ events → if_after events (Some line) ≡ Some line
used_if events line there = ap (λ b. if b then Some line else None) (le-leb line.after events there)

pub unused_if : (events : ℕ) (line : CrashLine) → events < line.after → if_after events (Some line) ≡ None
unused_if events line before = ap (λ b. if b then Some line else None) (lt-leb line.after events before)

pub not_twice : (b : Bool) → not (not b) ≡ b
not_twice true = refl
not_twice false = refl
