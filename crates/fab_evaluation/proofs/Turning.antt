-- One request more was run.
use Rattle.std.proofs.Common.{◌≡◌, List, [], ◌∷◌, ◌++◌, ap, ◌∙◌, sym, append_assoc}
use Rattle.fab_base.specs.FlatMap.{FlatMap}
use Rattle.fab_tree.specs.declared.resolved.Request.{Request}
use Rattle.fab_tree.specs.declared.resolved.Resolved.{Resolved}
use Rattle.fab_language.specs.declared.ending.Ending.{Ending}
use Rattle.fab_language.specs.Evaluation.{in_turn, map_behind, meant}
use Rattle.fab_evaluation.specs.declared.single.Single.{Single}
use Rattle.fab_evaluation.specs.Singles.{IsSingle}

module _ (program : Resolved) (known new : FlatMap) (left after : List Request) (request : Request) (endings ends : List Ending) (single : Single)
    (split : left ≡ request ∷ after) (ran : IsSingle program known request single) (put : new ≡ map_behind program known request)
    (pushed : ends ≡ endings ++ single.ending ∷ []) where
  pub endings_next : ends ++ (in_turn program new after).endings ≡ endings ++ (in_turn program known left).endings
  endings_next =
      ap (λ l. l ++ (in_turn program new after).endings) pushed
      ∙ append_assoc endings (single.ending ∷ []) (in_turn program new after).endings
      ∙ ap (λ e. endings ++ e ∷ (in_turn program new after).endings) ran.ending
      ∙ ap (λ m. endings ++ (meant program known request).ending ∷ (in_turn program m after).endings) put
      ∙ ap (λ l. endings ++ (in_turn program known l).endings) (sym split)

  pub map_next : (in_turn program new after).map ≡ (in_turn program known left).map
  map_next = ap (λ m. (in_turn program m after).map) put ∙ ap (λ l. (in_turn program known l).map) (sym split)
