use Rattle.std.proofs.Common.{◌≡◌, [], ◌∷◌, ◌++◌, ◌+◌, List, ℕ, ap, ◌∙◌, length}
use Rattle.std.proofs.lemmas.List.{length-append}
use Rattle.fab_infer.specs.Spreading.{list_at}
use Rattle.fab_infer.proofs.Targets.{empty_more}
use Rattle.fab_infer.proofs.closing.targets.Goals as goal

pub loop-preserved : goal.loop-preserved
loop-preserved c =
    let one : c.push.new.self.items ≡ c.loop.lists.items ++ [] ∷ [] = c.in_ok-push.ensures.items ∙ ap (λ (xs : List ℕ). c.loop.lists.items ++ xs ∷ []) c.new.ensures in
    record {
      many = ap (λ (l : List (List ℕ)). length l) one ∙ length-append c.loop.lists.items ([] ∷ []) ∙ ap (λ n. n + 1) c.loop.invariant.many;
      empty = λ h. ap (λ (l : List (List ℕ)). list_at l h) one ∙ empty_more c.loop.lists.items h c.loop.invariant.empty;
    }
