-- The objects of roots have names of their own.
use Rattle.std.proofs.Common.{◌≡◌, ◌+◌, ◌<◌, ℕ, zero, suc, false, List, [], ◌∷◌, Option, Some, None, slice_get, subst, refl, sym, ap, ◌∙◌, arith}
use Rattle.std.specs.List.{IsDistinct, AllByRecursion}
use Rattle.std.specs.Map.{keys_of}
use Rattle.fab_base.specs.declared.object.Oid.{Oid}
use Rattle.fab_base.specs.FlatMap.{is_same}
use Rattle.fab_tree.specs.declared.start.Root.{Root as WrittenRoot}
use Rattle.fab_tree.specs.declared.start.Start.{Start}
use Rattle.fab_tree.specs.declared.resolved.Root.{Root}
use Rattle.fab_tree.specs.declared.resolved.Resolved.{Resolved}
use Rattle.fab_language.specs.Numbers.{resolved, roots_from}
use Rattle.fab_language.specs.Evaluation.{rows_of}
use Rattle.fab_lines.specs.Numbered.{AreNumbered}
use Rattle.fab_lines.proofs.Roots.{NumberedFrom, behind_first, same_number, not_same}
use Rattle.fab_evaluation.specs.Roots.{IsResolved}

-- ---- names

apart : (o : Oid) (k : ℕ) (roots : List Root) → NumberedFrom k roots → o.number < k → AllByRecursion (λ p. is_same o p ≡ false) (keys_of (rows_of roots))
apart o k [] h l = tt
apart o k (x ∷ xs) h l =
    let at : x.oid.number ≡ k + 0 = h 0 x refl in
    (not_same (is_same o x.oid) (λ s. let e : o.number ≡ x.oid.number = same_number o x.oid s in omega (arith, at, e, l)), apart o (suc k) xs (behind_first k x xs h) (omega (arith, l)))

distinct_from : (k : ℕ) (roots : List Root) → NumberedFrom k roots → IsDistinct is_same (keys_of (rows_of roots))
unfolding IsDistinct
distinct_from k [] h = tt
distinct_from k (x ∷ xs) h =
    let at : x.oid.number ≡ k + 0 = h 0 x refl in
    (apart x.oid (suc k) xs (behind_first k x xs h) (omega (arith, at)), distinct_from (suc k) xs (behind_first k x xs h))

pub distinct : (roots : List Root) → AreNumbered roots → IsDistinct is_same (keys_of (rows_of roots))
distinct roots h = distinct_from 0 roots (λ n x e. let a = h n x e in omega (arith, a))

abbrev number_or : Option Root → ℕ
number_or None = 0
number_or (Some x) = x.oid.number

first_is : (s : Start) (k : ℕ) (y : WrittenRoot) (ys : List WrittenRoot) (x : Root) → slice_get (roots_from s k (y ∷ ys)) 0 ≡ Some x → x.oid.number ≡ k
first_is s k y ys x e = sym (ap number_or e)

numbered_from : (s : Start) (k : ℕ) (roots : List WrittenRoot) (n : ℕ) (x : Root) → slice_get (roots_from s k roots) n ≡ Some x → x.oid.number ≡ k + n
numbered_from s k [] n x e = absurd (cc)
numbered_from s k (y ∷ ys) zero x e = let a = first_is s k y ys x e in omega (arith, a)
numbered_from s k (y ∷ ys) (suc n) x e = let a = numbered_from s (suc k) ys n x e in omega (arith, a)

-- the roots of a bundle stand at their numbers
pub numbered : (s : Start) → AreNumbered (resolved s).roots
numbered s n x e = let a = numbered_from s 0 s.roots n x e in omega (arith, a)

-- ---- the roots of a bundle with numbers for names

pub are_numbered : (q r : Resolved) → q ≡ r → IsResolved r → AreNumbered q.roots
are_numbered q r e h = subst (λ z. AreNumbered z.roots) (sym (e ∙ h.is)) (numbered h.start)
