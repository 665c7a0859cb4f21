-- What contracts see of a core behind an event.
use Rattle.std.specs.Prelude.{◌≡◌, ◌<◌, ◌≤◌, ℕ, IsTrue, List, [], ◌∷◌, ◌++◌, map, Option, Result, Ok, Err}
use Rattle.std.proofs.Common.{refl, sym, ap, ◌∙◌, subst}
use Rattle.fab_eval.specs.declared.done.Done.{Done}
use Rattle.fab_net.specs.declared.event.Event.{Event}
use Rattle.fab_net.specs.declared.event.Inner.{Inner}
use Rattle.fab_net.specs.declared.event.Inner.TheVariants as i
use Rattle.fab_net.specs.declared.note.Logged.{Logged}
use Rattle.fab_world.specs.Machine.{Move, enabled, form_of, may, node_of}
use Rattle.fab_world.specs.Serial.{attempts}
use Rattle.fab_node.specs.Standing.{GivenModel, JournalModel, NodeModel}
use Rattle.fab_core.specs.declared.applied.Applied.{Applied}
use Rattle.fab_core.specs.Cores.{CoreModel, HasPlaces, InnerHasDone, move_of, setting, unmarked, world, world_by}
use Rattle.fab_net.specs.Events.{uncut, node_at}
use Rattle.fab_core.specs.Moved.{IsCaused, IsCut, IsMoved, move_by}
use Rattle.fab_core.specs.Places.{AreOthers, journals_of}
use Rattle.fab_core.proofs.Tables.{form_is}

abbrev pub seen : GivenModel → List Logged → List (Option NodeModel) → CoreModel
seen g log nodes = record { given = g; moves = map move_of log; journals = journals_of nodes }

pub node_is : (e : Inner) → node_at (uncut e) ≡ node_of e
node_is (i.Begin n) = refl
node_is (i.Resume n) = refl
node_is (i.Deliver a b) = refl
node_is (i.Idle n s) = refl
node_is (i.Recover n) = refl

module _ (old : CoreModel) (g : GivenModel) (log : List Logged) (nodes : List (Option NodeModel)) (view : seen g log nodes ≡ old) where
  -- what is asked of the value is asked of what it is seen of
  pub enabled_in : (move : Move) → IsTrue (enabled (setting old.given) (world old) (form_of move)) → IsTrue (enabled (setting g) (world_by g (map move_of log)) (form_of move))
  enabled_in move h = subst (λ (m : CoreModel). IsTrue (enabled (setting m.given) (world m) (form_of move))) (sym view) h

  pub may_in : (e : Inner) → IsTrue (enabled (setting old.given) (world old) (form_of (unmarked (uncut e)))) → IsTrue (may (setting g) (world_by g (map move_of log)) e)
  may_in e h =
      subst (λ f. IsTrue (enabled (setting g) (world_by g (map move_of log)) f)) (form_is e) (enabled_in (unmarked (uncut e)) h)

  pub done_in : (e : Inner) (over : Option Done) → InnerHasDone old.given (world old) e over → InnerHasDone g (world_by g (map move_of log)) e over
  done_in e over h = subst (λ (m : CoreModel). InnerHasDone m.given (world m) e over) (sym view) h

  pub few_in : attempts old.moves < 4000000000 → attempts (map move_of log) < 4000000000
  few_in h = subst (λ (m : CoreModel). attempts m.moves < 4000000000) (sym view) h

  -- it goes on by one move
  pub moved_on : {E : Type 0} (event : Event) (applied : Applied) (new_log : List Logged) (new : List (Option NodeModel))
      → map move_of new_log ≡ map move_of log ++ move_by applied event ∷ []
      → IsCaused (node_at event) (IsCut {E = E} (Ok applied)) (journals_of nodes) (journals_of new)
      → IsMoved {E = E} event (Ok applied) old (seen g new_log new)
  moved_on {E} event applied new_log new moves cause =
      subst (λ (m : CoreModel). IsMoved {E = E} event (Ok applied) m (seen g new_log new)) view
      (record { given = refl; moves = moves; memory = tt; cause = cause })

  -- or stays
  pub refused : {E : Type 0} (event : Event) (problem : E) (new_log : List Logged) (new : List (Option NodeModel)) → new_log ≡ log
      → IsCaused (node_at event) ⊥ (journals_of nodes) (journals_of new) → IsMoved {E = E} event (Err problem) old (seen g new_log new)
  refused {E} event problem new_log new same cause =
      subst (λ (m : CoreModel). IsMoved {E = E} event (Err problem) m (seen g new_log new)) view
      (record { given = refl; moves = tt; memory = ap (map move_of) same; cause = cause })

pub places_kept : (n : ℕ) (old new : List (Option NodeModel)) (journals places : ℕ) → AreOthers n old new → HasPlaces old journals places → HasPlaces new journals places
places_kept n old new journals places others h = record { none = h.none; enough = subst (λ k. k ≤ places) (sym others.many) h.enough }

-- what is told of another fact that comes to the same
pub cause_as : (n : ℕ) (P Q : Type 0) (old new : List (Option JournalModel)) → (Q → P) → (P → Q) → IsCaused n P old new → IsCaused n Q old new
cause_as n P Q old new back on h = record {
  others = h.others;
  later = h.later;
  risen = λ q. h.risen (back q);
  same = λ q. h.same (λ p. q (on p));
  sure = h.sure;
  never = λ s q. h.never s (back q);
}
