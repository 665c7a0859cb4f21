-- A bundle has at most one first refusal.
use Rattle.std.proofs.Common.{◌≡◌, ◌∙◌, ℕ, Some, slice_get, unwrap_or, sym, ap, arith, inl, inr}
use Rattle.fab_tree.specs.declared.resolved.Resolved.{Resolved}
use Rattle.fab_labelling.specs.declared.rule.Refusal.{Refusal}
use Rattle.fab_labelling.specs.Obligations.{Owed, owed}
use Rattle.fab_labelling.specs.Refusals.{told, IsNoLater, IsFirstRefusal}

pub unwrap_same : (x y : Owed) → Some x ≡ Some y → x ≡ y
unwrap_same x y is = ap (λ o. unwrap_or o x) is

-- of two, each no later than the other, place and rule are the same, and so is where they stand
same_index : (x y : Owed) (i j : ℕ) → IsNoLater x i y j → IsNoLater y j x i → i ≡ j
same_index x y i j (inl before) (inl after) = absurd (omega (arith, before, after))
same_index x y i j (inl before) (inr here) = absurd (omega (arith, before, here.0))
same_index x y i j (inr here) (inl after) = absurd (omega (arith, here.0, after))
same_index x y i j (inr (place, inl before)) (inr (there, inl after)) = absurd (omega (arith, before, after))
same_index x y i j (inr (place, inl before)) (inr (there, inr back)) = absurd (omega (arith, before, back.0))
same_index x y i j (inr (place, inr front)) (inr (there, inl after)) = absurd (omega (arith, front.0, after))
same_index x y i j (inr (place, inr front)) (inr (there, inr back)) = omega (arith, front.1, back.1)

pub one_refusal : (r : Resolved) (a b : Refusal) → IsFirstRefusal r a → IsFirstRefusal r b → a ≡ b
one_refusal r a b h g =
    let e : h.i ≡ g.i = same_index h.x g.x h.i g.i (h.first g.x g.i g.is g.broken) (g.first h.x h.i h.is h.broken) in
    h.tells ∙ ap (told r) (unwrap_same h.x g.x (sym h.is ∙ ap (slice_get (owed r)) e ∙ g.is)) ∙ sym g.tells
