-- The order of names: that it is total, and that names which it doesn't tell apart are one.
use Rattle.std.proofs.Common.{◌≡◌, ◌≢◌, ℕ, Bool, true, false, nat_eq, List, [], ◌∷◌, length, get_or, refl, sym, ◌∙◌, ap, inl, inr, ◌⊎◌, arith}
use Rattle.std.specs.Cmp.{IsTotalOrder}
use Rattle.std.specs.Cmp.Lexicographic.{slice_cmp, lists_ties, bytes_decides}
use Rattle.std.specs.Ordering.{nat_cmp, is_lt, is_eq, ordering_reverse, ordering_then, eq_by_cmp}
use Rattle.std.specs.declared.cmp.Ordering.{Ordering}
use Rattle.std.specs.declared.cmp.Ordering.TheVariants.{Less, Equal, Greater}
use Rattle.std.proofs.lemmas.Cmp.{nat_list_cmp_total, on_total, tied_itself}
use Rattle.std.proofs.lemmas.Bool.{true≢false}
use Rattle.std.proofs.lemmas.Bool.Decides.{nat_tests}
use Rattle.fab_base.specs.declared.object.Oid.{Oid}
use Rattle.fab_base.specs.FlatMap.{parts_of, precedes, is_before, is_same}
use Rattle.fab_base.proofs.Names.{same_flips}

-- names by their parts
abbrev pub name_cmp : Oid → Oid → Ordering
name_cmp o p = slice_cmp nat_cmp (parts_of o) (parts_of p)

pub name_cmp_total : IsTotalOrder name_cmp
name_cmp_total = on_total parts_of nat_list_cmp_total

pub precedes_is : (xs ys : List ℕ) → length xs ≡ length ys → precedes xs ys ≡ is_lt (slice_cmp nat_cmp xs ys)
precedes_is [] [] e = refl
precedes_is [] (y ∷ ys) e = absurd (omega arith)
precedes_is (x ∷ xs) [] e = absurd (omega arith)
precedes_is (x ∷ xs) (y ∷ ys) e = grind (arith, nat_tests, precedes_is xs ys (omega arith))

pub before_is : (o p : Oid) → is_before o p ≡ is_lt (name_cmp o p)
before_is o p = precedes_is (parts_of o) (parts_of p) refl

nat_ties : (x y : ℕ) → nat_eq x y ≡ eq_by_cmp nat_cmp x y
nat_ties x y = grind (arith, nat_tests)

pub same_is : (o p : Oid) → is_same o p ≡ eq_by_cmp name_cmp o p
same_is o p = lists_ties nat_cmp nat_ties (parts_of o) (parts_of p)

abbrev of_parts : List ℕ → Oid
of_parts xs = record { store = get_or xs 0 0; class = get_or xs 1 0; worker = get_or xs 2 0; boot = get_or xs 3 0; number = get_or xs 4 0; site = get_or xs 5 0; index = get_or xs 6 0 }

-- names that are alike are one
pub one_name : (o p : Oid) → is_same o p ≡ true → o ≡ p
one_name o p h = ap of_parts ((bytes_decides (parts_of o) (parts_of p)).0 h)

lt_less : (r : Ordering) → is_lt r ≡ true → r ≡ Less
lt_less Less h = refl
lt_less Equal h = cc
lt_less Greater h = cc

pub less_from_before : (o p : Oid) → is_before o p ≡ true → name_cmp o p ≡ Less
less_from_before o p h = lt_less (name_cmp o p) (sym (before_is o p) ∙ h)

pub before_from_less : (o p : Oid) → name_cmp o p ≡ Less → is_before o p ≡ true
before_from_less o p h = before_is o p ∙ ap is_lt h

pub greater_from_before : (o p : Oid) → is_before o p ≡ true → name_cmp p o ≡ Greater
greater_from_before o p h = name_cmp_total.antisymm p o ∙ ap ordering_reverse (less_from_before o p h)

pub before_from_greater : (o p : Oid) → name_cmp o p ≡ Greater → is_before p o ≡ true
before_from_greater o p h = before_from_less p o (name_cmp_total.antisymm p o ∙ ap ordering_reverse h)

pub not_itself : (o : Oid) → is_before o o ≡ false
not_itself o = before_is o o ∙ ap is_lt (tied_itself name_cmp_total o)

pub not_back : (o p : Oid) → is_before o p ≡ true → is_before p o ≡ false
not_back o p h = before_is p o ∙ ap is_lt (greater_from_before o p h)

pub before_trans : (o p q : Oid) → is_before o p ≡ true → is_before p q ≡ true → is_before o q ≡ true
before_trans o p q h k = before_from_less o q (name_cmp_total.trans o p q (less_from_before o p h) (less_from_before p q k))

-- of two names one is before the other, or they are one
pub cases_name : (o p : Oid) → (is_before o p ≡ true) ⊎ ((o ≡ p) ⊎ (is_before p o ≡ true))
cases_name o p = by_cmp (name_cmp o p) refl
  where
    by_cmp : (r : Ordering) → name_cmp o p ≡ r → (is_before o p ≡ true) ⊎ ((o ≡ p) ⊎ (is_before p o ≡ true))
    by_cmp Less h = inl (before_from_less o p h)
    by_cmp Equal h = inr (inl (one_name o p (same_is o p ∙ ap is_eq h)))
    by_cmp Greater h = inr (inr (before_from_greater o p h))

-- names of which neither is before the other are one
pub same_name : (o p : Oid) → is_before o p ≡ false → is_before p o ≡ false → o ≡ p
same_name o p h k = by_cases (cases_name o p)
  where
    by_cases : (is_before o p ≡ true) ⊎ ((o ≡ p) ⊎ (is_before p o ≡ true)) → o ≡ p
    by_cases (inl e) = absurd (true≢false (sym e ∙ h))
    by_cases (inr (inl e)) = e
    by_cases (inr (inr e)) = absurd (true≢false (sym e ∙ k))

pub differ : (o p : Oid) → is_before o p ≡ true → is_same o p ≡ false
differ o p h = same_is o p ∙ ap is_eq (less_from_before o p h)

pub differ_back : (o p : Oid) → is_before o p ≡ true → is_same p o ≡ false
differ_back o p h = same_flips p o ∙ differ o p h

pub apart_names : (o p : Oid) → o ≢ p → is_same o p ≡ false
apart_names o p h = by_test (is_same o p) refl
  where
    by_test : (b : Bool) → is_same o p ≡ b → is_same o p ≡ false
    by_test true e = absurd (h (one_name o p e))
    by_test false e = e

-- ---- the derived comparison
abbrev pub derived_cmp : Oid → Oid → Ordering
derived_cmp o p =
    ordering_then (nat_cmp o.store p.store) (ordering_then (nat_cmp o.class p.class) (ordering_then (nat_cmp o.worker p.worker)
    (ordering_then (nat_cmp o.boot p.boot) (ordering_then (nat_cmp o.number p.number) (ordering_then (nat_cmp o.site p.site) (nat_cmp o.index p.index))))))

then_equal : (r : Ordering) → r ≡ ordering_then r Equal
then_equal Less = refl
then_equal Equal = refl
then_equal Greater = refl

pub derived_is : (o p : Oid) → derived_cmp o p ≡ name_cmp o p
derived_is o p =
    ap (λ r. ordering_then (nat_cmp o.store p.store) (ordering_then (nat_cmp o.class p.class) (ordering_then (nat_cmp o.worker p.worker)
    (ordering_then (nat_cmp o.boot p.boot) (ordering_then (nat_cmp o.number p.number) (ordering_then (nat_cmp o.site p.site) r)))))) (then_equal (nat_cmp o.index p.index))

pub derived_equal : (o p : Oid) → derived_cmp o p ≡ Equal → o ≡ p
derived_equal o p h = one_name o p (same_is o p ∙ ap is_eq (sym (derived_is o p) ∙ h))

pub derived_itself : (o : Oid) → derived_cmp o o ≡ Equal
derived_itself o = derived_is o o ∙ tied_itself name_cmp_total o
