-- The first mark of moves, and the nodes that have marks.
use Rattle.std.specs.Prelude.{◌≡◌, ◌==◌, ◌&&◌, ◌||◌, ℕ, Bool, true, false, cond, find, List, [], ◌∷◌, ◌++◌, Option, Some, None, option_map}
use Rattle.std.proofs.Common.{refl, sym, ap, ◌∙◌, eq-eqb}
use Rattle.fab_net.specs.declared.event.Event.{Event}
use Rattle.fab_net.specs.declared.note.Logged.{Logged}
use Rattle.fab_world.specs.Machine.{Setting, World, Move, at_start, logged, logs, step}
use Rattle.fab_node.specs.Standing.{GivenModel}
use Rattle.fab_core.specs.Cores.{marked, setting}
use Rattle.fab_net.specs.Events.{node_at}
use Rattle.fab_replay.specs.Kept.{has_mark}
use Rattle.fab_replay.specs.Replays.{first_mark, moves_of}
use Rattle.fab_replay.proofs.Moves.{failed_node}

-- the node of the first one has one
pub first_has : (moves : List Move) (n : ℕ) → first_mark moves ≡ Some n → has_mark moves n ≡ true
first_has [] n h = absurd (cc)
first_has (x ∷ moves) n h = by x.marked h (first_has moves n)
  where
    by : (b : Bool) → option_map (λ (move : Move). node_at move.event) (cond b (Some x) (find (λ move. move.marked) moves)) ≡ Some n
        → (first_mark moves ≡ Some n → has_mark moves n ≡ true) → ((b && (node_at x.event == n)) || has_mark moves n) ≡ true
    by true e later = let same : node_at x.event ≡ n = cc in ap (λ c. c || has_mark moves n) (eq-eqb (node_at x.event) n same)
    by false e later = later e

-- where there is none, no node has one
pub none_has : (moves : List Move) (n : ℕ) → first_mark moves ≡ None → has_mark moves n ≡ false
none_has [] n h = refl
none_has (x ∷ moves) n h = by x.marked h (none_has moves n)
  where
    by : (b : Bool) → option_map (λ (move : Move). node_at move.event) (cond b (Some x) (find (λ move. move.marked) moves)) ≡ None
        → (first_mark moves ≡ None → has_mark moves n ≡ false) → ((b && (node_at x.event == n)) || has_mark moves n) ≡ false
    by true e later = absurd (cc)
    by false e later = later e

-- events of a schedule have none
pub first_unmarked : (events : List Event) → first_mark (moves_of events) ≡ None
first_unmarked [] = refl
first_unmarked (event ∷ events) = first_unmarked events

-- with a mark at the end it is that event's node
pub first_marked : (events : List Event) (event : Event) → first_mark (moves_of events ++ marked event ∷ []) ≡ Some (node_at event)
first_marked [] event = ap Some (failed_node event)
first_marked (x ∷ events) event = first_marked events event

-- the log has the same
pub first_logged : (S : Setting) (w : World) (moves : List Move) → option_map (λ (x : Logged). node_at x.event) (find (λ x. x.marked) (logs S w moves)) ≡ first_mark moves
first_logged S w [] = refl
first_logged S w (x ∷ moves) = by x.marked (first_logged S (step S w x) moves)
  where
    by : (b : Bool) → option_map (λ (x : Logged). node_at x.event) (find (λ x. x.marked) (logs S (step S w x) moves)) ≡ first_mark moves
        → option_map (λ (x : Logged). node_at x.event) (cond b (Some (logged S w x)) (find (λ x. x.marked) (logs S (step S w x) moves)))
        ≡ option_map (λ (move : Move). node_at move.event) (cond b (Some x) (find (λ move. move.marked) moves))
    by true later = refl
    by false later = later

pub first_of_log : (g : GivenModel) (moves : List Move) (log : List Logged) (found told : Option ℕ) → log ≡ logs (setting g) (at_start (setting g)) moves
    → found ≡ option_map (λ (x : Logged). node_at x.event) (find (λ x. x.marked) log) → found ≡ told → first_mark moves ≡ told
first_of_log g moves log found told logged is same =
    sym (first_logged (setting g) (at_start (setting g)) moves)
    ∙ ap (λ xs. option_map (λ (x : Logged). node_at x.event) (find (λ x. x.marked) xs)) (sym logged)
    ∙ sym is
    ∙ same
