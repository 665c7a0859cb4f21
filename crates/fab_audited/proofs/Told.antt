-- What the lines of a run tell is the run with the marks that they give.
use Rattle.std.proofs.Common.{◌≡◌, ℕ, ◌==◌, ◌||◌, ◌&&◌, not, List, [], ◌∷◌, ◌++◌, Option, Some, option_map, refl, ap, ◌∙◌}
use Rattle.std.specs.List.{list_any}
use Rattle.fab_tree.specs.declared.resolved.Resolved.{Resolved}
use Rattle.fab_language.specs.Words.{has_number, node_text}
use Rattle.fab_net.specs.declared.event.Event.{Event}
use Rattle.fab_net.specs.declared.event.Event.TheVariants as ne
use Rattle.fab_net.specs.declared.event.Inner.{Inner}
use Rattle.fab_net.specs.declared.event.Inner.TheVariants as ni
use Rattle.fab_net.specs.declared.note.Logged.{Logged}
use Rattle.fab_net.specs.Events.{node_at, node_of}
use Rattle.fab_rights.specs.declared.rights.Rights.{Rights}
use Rattle.fab_world.specs.Machine.{Move, Setting, World, logged, logs, step}
use Rattle.fab_trace.specs.Report.{target_behind}
use Rattle.fab_reports.specs.declared.line.Line.{Line}
use Rattle.fab_reports.specs.declared.line.ShownEvent.{ShownEvent}
use Rattle.fab_reports.specs.Printed.{event_of, events_of, inner_of}
use Rattle.fab_reports.specs.Showable.{IsEventIn, IsInnerIn, IsLogIn, IsNode}
use Rattle.fab_evidence.specs.Marks.{is_marked, is_of, is_waiting, told_from}
use Rattle.fab_evidence.specs.Named.{name_at, name_in, node_named}
use Rattle.fab_audit.proofs.Events.{event_told}
use Rattle.fab_audit.specs.Runs.{all_moves}
use Rattle.fab_audited.proofs.Ruled.{rule, ruled}

module _ (r : Resolved) (tells : (n : ℕ) → IsNode r n → node_named r (node_text r n) ≡ Some n) where
  -- ---- the node of an event is told by its line

  inner_of_node : (e : Inner) (bytes : List ℕ) → IsInnerIn r e → node_named r (name_in (inner_of r e bytes)) ≡ Some (node_of e)
  inner_of_node (ni.Begin n) bytes h = tells n h
  inner_of_node (ni.Resume n) bytes h = tells n h
  inner_of_node (ni.Deliver a b) bytes h = tells b h.1
  inner_of_node (ni.Idle n x) bytes h = tells n h.0
  inner_of_node (ni.Recover n) bytes h = tells n h

  event_of_node : (event : Event) (target : ℕ) (bytes : List ℕ) → IsEventIn r event target
      → node_named r (name_at (event_of r event target bytes)) ≡ Some (node_at event)
  event_of_node (ne.Begin n) target bytes h = tells n h
  event_of_node (ne.Resume n) target bytes h = tells n h
  event_of_node (ne.Deliver a b) target bytes h = tells b h.1
  event_of_node (ne.Idle n x) target bytes h = tells n h.0
  event_of_node (ne.Recover n) target bytes h = tells n h
  event_of_node (ne.Post n) target bytes h = tells n h.0
  event_of_node (ne.Crash n) target bytes h = tells n h
  event_of_node (ne.CrashIn keep e) target bytes h = inner_of_node e bytes h.1

  module _ (S : Setting) where
    -- whether a later event is of this node
    later_of : (n : ℕ) (w : World) (before : List Logged) (moves : List Move) → IsLogIn r before (logs S w moves)
        → list_any (is_of r n) (events_of r before (logs S w moves)) ≡ list_any (λ move. n == node_at move.event) moves
    later_of n w before [] h = refl
    later_of n w before (move ∷ moves) h =
        let x : Logged = logged S w move in
        let one = event_of_node move.event (target_behind r before move.event) x.bytes h.0.0 in
        let more = later_of n (step S w move) (before ++ x ∷ []) moves h.1 in
        λ j. has_number n (one j) || more j

    -- ---- the marks are those of the rule

    module _ (rights : Rights) (lines : List Line) where
      mark_of : (event : Event) (w : World) (before : List Logged) (moves : List Move) → IsLogIn r before (logs S w moves)
          → is_marked r rights lines event (events_of r before (logs S w moves)) ≡ rule (is_waiting r rights lines) event moves
      mark_of (ne.CrashIn keep e) w before moves h =
          ap (λ b. (keep == 0) && not b && not (is_waiting r rights lines (node_of e))) (later_of (node_of e) w before moves h)
      mark_of event w before moves h = refl

      pub moves_told : (w : World) (before : List Logged) (moves : List Move) → IsLogIn r before (logs S w moves)
          → all_moves (told_from r rights lines (events_of r before (logs S w moves))) ≡ Some (ruled (is_waiting r rights lines) moves)
      moves_told w before [] h = refl
      moves_told w before (move ∷ moves) h =
          let x : Logged = logged S w move in
          let later : List ShownEvent = events_of r (before ++ x ∷ []) (logs S (step S w move) moves) in
          let told = event_told r tells move.event (target_behind r before move.event) x.bytes h.0.0 in
          let mark = mark_of move.event (step S w move) (before ++ x ∷ []) moves h.1 in
          let more = moves_told (step S w move) (before ++ x ∷ []) moves h.1 in
          ap
          (λ (o : Option Event).
          all_moves (option_map (λ (event : Event). record { event = event; marked = is_marked r rights lines event later }) o ∷ told_from r rights lines later))
          told
          ∙ (λ j. option_map (λ (rest : List Move). record { event = move.event; marked = mark j } ∷ rest) (more j))
