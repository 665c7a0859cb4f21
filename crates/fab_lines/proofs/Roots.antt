-- Roots found by their numbers.
use Rattle.std.proofs.Common.{◌≡◌, ◌+◌, ◌<◌, ℕ, zero, suc, Bool, true, false, List, [], ◌∷◌, Option, Some, None, find, slice_get, cond, if◌then◌else◌, refl, sym, ap, ◌∙◌, arith}
use Rattle.std.proofs.lemmas.Slice.Eq.{bytes_eq-Decides}
use Rattle.fab_base.specs.declared.object.Oid.{Oid}
use Rattle.fab_base.specs.FlatMap.{is_same, parts_of}
use Rattle.fab_tree.specs.declared.resolved.Root.{Root}
use Rattle.fab_lines.specs.Numbered.{AreNumbered}

same_parts : (a b : Oid) → parts_of a ≡ parts_of b → a.number ≡ b.number
same_parts a b e = cc

pub same_number : (a b : Oid) → is_same a b ≡ true → a.number ≡ b.number
same_number a b h = same_parts a b ((bytes_eq-Decides (parts_of a) (parts_of b)).0 h)

pub not_same : (b : Bool) → (b ≡ true → ⊥) → b ≡ false
not_same true h = absurd (h refl)
not_same false h = refl

-- each root behind so many others has its number
abbrev pub NumberedFrom : ℕ → List Root → Type 0
NumberedFrom k roots = (n : ℕ) (x : Root) → slice_get roots n ≡ Some x → x.oid.number ≡ k + n

pub behind_first : (k : ℕ) (x : Root) (xs : List Root) → NumberedFrom k (x ∷ xs) → NumberedFrom (suc k) xs
behind_first k x xs h n y e = let a = h (suc n) y e in omega (arith, a)

none_before : (o : Oid) (k : ℕ) (roots : List Root) → NumberedFrom k roots → o.number < k → find (λ x. is_same x.oid o) roots ≡ None
none_before o k [] h l = refl
none_before o k (x ∷ xs) h l =
    let at : x.oid.number ≡ k + 0 = h 0 x refl in
    let apart : is_same x.oid o ≡ false = not_same (is_same x.oid o) (λ s. let e : x.oid.number ≡ o.number = same_number x.oid o s in omega (arith, at, e, l)) in
    rw apart (none_before o (suc k) xs (behind_first k x xs h) (omega (arith, l)))

abbrev if_same : Oid → Option Root → Option Root
if_same o None = None
if_same o (Some x) = if is_same x.oid o then Some x else None

found_from : (o : Oid) (k i : ℕ) (roots : List Root) → NumberedFrom k roots → o.number ≡ k + i → find (λ x. is_same x.oid o) roots ≡ if_same o (slice_get roots i)
found_from o k i [] h e = refl
found_from o k zero (x ∷ xs) h e = ap (cond (is_same x.oid o) (Some x)) (none_before o (suc k) xs (behind_first k x xs h) (omega (arith, e)))
found_from o k (suc i) (x ∷ xs) h e =
    let at : x.oid.number ≡ k + 0 = h 0 x refl in
    let apart : is_same x.oid o ≡ false = not_same (is_same x.oid o) (λ s. let f : x.oid.number ≡ o.number = same_number x.oid o s in omega (arith, at, e, f)) in
    rw apart (found_from o (suc k) i xs (behind_first k x xs h) (omega (arith, e)))

-- a root of this name stands at the name's number, or there is none
pub found : (o : Oid) (roots : List Root) → AreNumbered roots → find (λ x. is_same x.oid o) roots ≡ if_same o (slice_get roots o.number)
found o roots h = found_from o 0 o.number roots (λ n x e. let a = h n x e in omega (arith, a)) (omega arith)

pub none_found : (o : Oid) (roots : List Root) → AreNumbered roots → None ≡ slice_get roots o.number → None ≡ find (λ x. is_same x.oid o) roots
none_found o roots h e = sym (found o roots h ∙ ap (if_same o) (sym e))

pub one_found : (o : Oid) (roots : List Root) (x : Root) → AreNumbered roots → Some x ≡ slice_get roots o.number → is_same x.oid o ≡ true → Some x ≡ find (λ y. is_same y.oid o) roots
one_found o roots x h e s = sym (found o roots h ∙ ap (if_same o) (sym e) ∙ ap (λ b. if b then Some x else None) s)

pub other_found : (o : Oid) (roots : List Root) (x : Root) → AreNumbered roots → Some x ≡ slice_get roots o.number → is_same x.oid o ≡ false → None ≡ find (λ y. is_same y.oid o) roots
other_found o roots x h e s = sym (found o roots h ∙ ap (if_same o) (sym e) ∙ ap (λ b. if b then Some x else None) s)
