-- Requests that aren't copied.
use Rattle.std.proofs.Common.{◌≡◌, ℕ, ◌+◌, ◌<◌, List, [], ◌∷◌, ◌++◌, length, get_or, drop, Bor, sym, ap, ◌∙◌}
use Rattle.std.proofs.lemmas.List.{map-append, drop_more}
use Rattle.fab_tree.specs.declared.resolved.Request.{Request}
use Rattle.fab_evaluation.specs.Asking.{asked}

-- one more at the end
pub asked_push : (requests : List (Bor Request)) (one : Bor Request) → asked (requests ++ one ∷ []) ≡ asked requests ++ one.now ∷ []
asked_push requests one = map-append (λ (r : Bor Request). r.now) requests (one ∷ [])

-- those that are left, and the next of them
pub asked_next : (requests : List (Bor Request)) (i : ℕ) (one : Bor Request) → i < length requests → one ≡ get_or requests i one → asked (drop i requests) ≡ one.now ∷ asked (drop (i + 1) requests)
asked_next requests i one lt is = ap asked (drop_more requests i one lt) ∙ ap (λ (x : Bor Request). x.now ∷ asked (drop (i + 1) requests)) (sym is)
