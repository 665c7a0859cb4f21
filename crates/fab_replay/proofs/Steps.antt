-- One event of a schedule: what was known before its test is known behind it.
use Rattle.std.specs.Prelude.{◌≡◌, Bool, true, false, List, Option, Result, IfOk}
use Rattle.std.proofs.Common.{sym, ◌∙◌, subst}
use Rattle.fab_eval.specs.declared.done.Done.{Done}
use Rattle.fab_net.specs.declared.event.Event.{Event}
use Rattle.fab_world.specs.Machine.{Move, enabled, form_of}
use Rattle.fab_node.specs.Standing.{GivenModel}
use Rattle.fab_core.specs.Cores.{CoreModel, setting, unmarked, world}
use Rattle.fab_replay.specs.Running.{ComesBy, ComesWith, IsBarred, MayCome}
use Rattle.fab_replay.specs.declared.running.Came.{Came}

-- what holds of what is given and of the moves holds of equal ones
in_both : (P : GivenModel → List Move → Type 0) (g h : GivenModel) (ms ns : List Move) → g ≡ h → ms ≡ ns → P h ns → P g ms
in_both P g h ms ns e d p = subst (λ xs. P g xs) (sym d) (subst (λ x. P x ns) (sym e) p)

module _ (old new : CoreModel) (event : Event) (given : new.given ≡ old.given) (moves : new.moves ≡ old.moves) where
  pub still_may : (may : Bool) → may ≡ enabled (setting old.given) (world old) (form_of (unmarked event)) → may ≡ true → MayCome new.given new.moves event
  still_may may e t = in_both (λ g ms. MayCome g ms event) new.given old.given new.moves old.moves given moves (record { may = sym e ∙ t })

  pub still_with : (over other : Option Done) → other ≡ over → ComesWith old.given old.moves event over → ComesWith new.given new.moves event other
  still_with over other e h =
      in_both (λ g ms. ComesWith g ms event other) new.given old.given new.moves old.moves given moves (subst (ComesWith old.given old.moves event) (sym e) h)

  pub came_after : {E : Type 0} (result : Result Came E) (last : List Move) → IfOk result (ComesBy new.given event new.moves last) → IfOk result (ComesBy old.given event old.moves last)
  came_after result last h = in_both (λ g ms. IfOk result (ComesBy g event ms last)) old.given new.given old.moves new.moves (sym given) (sym moves) h

  pub is_barred : (may : Bool) → may ≡ enabled (setting old.given) (world old) (form_of (unmarked event)) → may ≡ false → IsBarred old.given event old.moves new.moves
  is_barred may e f = record { barred = sym e ∙ f; moves = moves }
