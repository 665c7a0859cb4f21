-- The events that are told, one after the other.
use Rattle.std.specs.Prelude.{◌≡◌, suc, ◌+◌, ◌<◌, ◌≤◌, Bool, true, false, List, [], ◌∷◌, ◌++◌, length, Option, Some, None, if◌then◌else◌}
use Rattle.std.proofs.Common.{refl, sym, ap, ◌∙◌, subst, arith, append_assoc, length-append}
use Rattle.std.proofs.lemmas.Bool.{eq-eqb, ne_eqb}
use Rattle.std.proofs.lemmas.List.{append-nil}
use Rattle.fab_world.specs.Machine.{Move, at_start, enabled, form_of, step}
use Rattle.fab_world.specs.Serial.{attempts}
use Rattle.fab_node.specs.Standing.{GivenModel}
use Rattle.fab_core.specs.Cores.{CoreModel, setting, world_by}
use Rattle.fab_core.proofs.Histories.{runs_more}
use Rattle.fab_evidence.specs.declared.shown.Told.{Told}
use Rattle.fab_audit.specs.Runs.{front_from, move_of}
use Rattle.fab_audit.specs.Steps.{AreSure, ComesAsTold, RunsAsTold}
use Rattle.fab_audit.proofs.Fronts.{few_attempts}

-- so far: all events before those that are left came
pub record SoFar (old now : CoreModel) (told rest : List (Option Told)) : Type 0 where
  pub given : now.given ≡ old.given
  pub more : front_from (setting now.given) (at_start (setting now.given)) told ≡ now.moves ++ front_from (setting now.given) (world_by now.given now.moves) rest
  pub counted : length now.moves + length rest ≡ length told
  pub few : length told ≤ 4194304
  pub sure : AreSure now.journals

pub none_yet : (old : CoreModel) (told : List (Option Told)) → old.moves ≡ [] → length told ≤ 4194304 → AreSure old.journals → SoFar old old told told
none_yet old told none few sure = record {
  given = refl;
  more = ap (λ ms. ms ++ front_from (setting old.given) (world_by old.given ms) told) (sym none);
  counted = let no : length old.moves ≡ 0 = ap length none in omega (arith, no);
  few = few;
  sure = sure;
}

-- so few events are few attempts
pub few_so_far : (old now : CoreModel) (told rest : List (Option Told)) → SoFar old now told rest → attempts now.moves < 4000000000
few_so_far old now told rest h =
    let least = few_attempts now.moves in
    let counted = h.counted in
    let few = h.few in
    omega (arith, least, counted, few)

module _ (g : GivenModel) (now : List Move) (x : Told) (after : List (Option Told)) where
  abbrev Front : Bool → List Move
  Front may = if may then move_of x ∷ front_from (setting g) (step (setting g) (world_by g now) (move_of x)) after else []

  -- what is left begins with the next one, if it may come
  came_front : enabled (setting g) (world_by g now) (form_of (move_of x)) ≡ true
      → now ++ front_from (setting g) (world_by g now) (Some x ∷ after) ≡ (now ++ move_of x ∷ []) ++ front_from (setting g) (world_by g (now ++ move_of x ∷ [])) after
  came_front may =
      let S = setting g in
      ap (λ b. now ++ Front b) may ∙ sym (append_assoc now (move_of x ∷ []) (front_from S (step S (world_by g now) (move_of x)) after))
      ∙ ap (λ w. (now ++ move_of x ∷ []) ++ front_from S w after) (sym (runs_more S (at_start S) now (move_of x)))

  -- and nothing is left if it may not
  barred_front : enabled (setting g) (world_by g now) (form_of (move_of x)) ≡ false → now ++ front_from (setting g) (world_by g now) (Some x ∷ after) ≡ now
  barred_front may = ap (λ b. now ++ Front b) may ∙ append-nil now

module _ (old now new : CoreModel) (told rest after : List (Option Told)) (h : SoFar old now told rest) where
  pub goes_on : (x : Told) → rest ≡ Some x ∷ after → ComesAsTold now.given now.moves new.moves x.event x.marked true → new.given ≡ now.given → AreSure new.journals
      → SoFar old new told after
  goes_on x parts came given sure =
      let moves : new.moves ≡ now.moves ++ move_of x ∷ [] = came.1 in
      let left = subst (λ xs. front_from (setting now.given) (at_start (setting now.given)) told ≡ now.moves ++ front_from (setting now.given) (world_by now.given now.moves) xs) parts h.more
      ∙ came_front now.given now.moves x after came.0 in
      let there = subst (λ (ms : List Move). front_from (setting now.given) (at_start (setting now.given)) told ≡ ms ++ front_from (setting now.given) (world_by now.given ms) after) (sym moves) left in
      let long : length new.moves ≡ length now.moves + 1 = ap length moves ∙ length-append now.moves (move_of x ∷ []) in
      let rest_long : length rest ≡ suc (length after) = ap length parts in
      let counted = h.counted in
      record {
        given = given ∙ h.given;
        more = subst (λ (g : GivenModel). front_from (setting g) (at_start (setting g)) told ≡ new.moves ++ front_from (setting g) (world_by g new.moves) after) (sym given) there;
        counted = omega (arith, long, rest_long, counted);
        few = h.few;
        sure = sure;
      }

  -- what may not come ends it
  ended_at : front_from (setting now.given) (at_start (setting now.given)) told ≡ now.moves → (length rest ≡ 0 → ⊥) → RunsAsTold now.given told now.moves false
  ended_at all more = record {
    moves_are = sym all;
    all_is = sym (ne_eqb (length now.moves) (length told) (λ e. more (let counted = h.counted in omega (arith, e, counted))));
  }

  pub barred_at : (x : Told) → rest ≡ Some x ∷ after → ComesAsTold now.given now.moves new.moves x.event x.marked false → new.given ≡ now.given
      → RunsAsTold new.given told new.moves false
  barred_at x parts came given =
      let left = subst (λ xs. front_from (setting now.given) (at_start (setting now.given)) told ≡ now.moves ++ front_from (setting now.given) (world_by now.given now.moves) xs) parts h.more
      ∙ barred_front now.given now.moves x after came.0 in
      let some : length rest ≡ 0 → ⊥ = λ e. let rest_long : length rest ≡ suc (length after) = ap length parts in omega (arith, e, rest_long) in
      subst (λ (g : GivenModel). RunsAsTold g told new.moves false) (sym given) (subst (λ ms. RunsAsTold now.given told ms false) (sym came.1) (ended_at left some))

  pub unnamed_at : rest ≡ None ∷ after → RunsAsTold now.given told now.moves false
  unnamed_at parts =
      let left = subst (λ xs. front_from (setting now.given) (at_start (setting now.given)) told ≡ now.moves ++ front_from (setting now.given) (world_by now.given now.moves) xs) parts h.more
      ∙ append-nil now.moves in
      ended_at left (λ e. let rest_long : length rest ≡ suc (length after) = ap length parts in omega (arith, e, rest_long))

-- all came
pub ended : (old now : CoreModel) (told rest : List (Option Told)) → SoFar old now told rest → rest ≡ [] → RunsAsTold now.given told now.moves true
ended old now told rest h none =
    let counted = h.counted in
    let no : length rest ≡ 0 = ap length none in
    record {
      moves_are = sym (subst (λ xs. front_from (setting now.given) (at_start (setting now.given)) told ≡ now.moves ++ front_from (setting now.given) (world_by now.given now.moves) xs) none h.more
          ∙ append-nil now.moves);
      all_is = sym (eq-eqb (length now.moves) (length told) (omega (arith, no, counted)));
    }
