-- Lists of names that have none in common, and names that stand once.
use Rattle.std.proofs.Common.{◌≡◌, false, ◌||◌, IsFalse, List, [], ◌∷◌, ◌++◌, refl, sym, ◌∙◌}
use Rattle.std.specs.List.{AllByRecursion}
use Rattle.std.proofs.lemmas.Bool.{or_parts, or_from}
use Rattle.std.proofs.lemmas.List.Folds.{list_any-append}
use Rattle.fab_base.specs.declared.object.Oid.{Oid}
use Rattle.fab_base.specs.FlatMap.{is_among, is_same}
use Rattle.fab_base.proofs.Names.{same_flips}
use Rattle.fab_base.proofs.Lists.{all_along}
use Rattle.fab_protocol.specs.Tables.{OnlyOnce}

pub among_append : (o : Oid) (xs ys : List Oid) → is_among o (xs ++ ys) ≡ (is_among o xs || is_among o ys)
among_append o xs ys = list_any-append (λ p. is_same p o) xs ys

-- a name isn't among these exactly where none of them is the same
pub none_among : (o : Oid) (os : List Oid) → is_among o os ≡ false → AllByRecursion (λ p. IsFalse (is_same p o)) os
none_among o [] h = tt
none_among o (p ∷ ps) h = let g = or_parts (is_same p o) (is_among o ps) h in (g.0, none_among o ps g.1)

pub among_none : (o : Oid) (os : List Oid) → AllByRecursion (λ p. IsFalse (is_same p o)) os → is_among o os ≡ false
among_none o [] h = refl
among_none o (p ∷ ps) h = or_from (is_same p o) (is_among o ps) h.0 (among_none o ps h.1)

-- none of the ones is among the others
abbrev pub Avoid : List Oid → List Oid → Type 0
Avoid xs ys = AllByRecursion (λ x. IsFalse (is_among x ys)) xs

one_avoids : (y : Oid) (ys xs : List Oid) → Avoid xs (y ∷ ys) → is_among y xs ≡ false
one_avoids y ys [] h = refl
one_avoids y ys (x ∷ xs) h =
    or_from (is_same x y) (is_among y xs) (same_flips x y ∙ (or_parts (is_same y x) (is_among x ys) h.0).0) (one_avoids y ys xs h.1)

pub avoid_flips : (xs ys : List Oid) → Avoid xs ys → Avoid ys xs
avoid_flips xs [] h = tt
avoid_flips xs (y ∷ ys) h = (
  one_avoids y ys xs h,
  avoid_flips xs ys
      (all_along (λ x. IsFalse (is_among x (y ∷ ys))) (λ x. IsFalse (is_among x ys)) (λ x g. (or_parts (is_same y x) (is_among x ys) g).1) xs h),
)

pub once_append : (xs ys : List Oid) → OnlyOnce xs → OnlyOnce ys → Avoid ys xs → OnlyOnce (xs ++ ys)
once_append xs ys h g avoid = along xs h (avoid_flips ys xs avoid)
  where
    along : (zs : List Oid) → OnlyOnce zs → Avoid zs ys → OnlyOnce (zs ++ ys)
    along [] k a = g
    along (z ∷ zs) k a = (among_append z zs ys ∙ or_from (is_among z zs) (is_among z ys) k.0 a.0, along zs k.1 a.1)

pub once_parts : (xs ys : List Oid) → OnlyOnce (xs ++ ys) → OnlyOnce xs × OnlyOnce ys
once_parts [] ys h = (tt, h)
once_parts (x ∷ xs) ys h =
    let g = once_parts xs ys h.1 in
    (((or_parts (is_among x xs) (is_among x ys) (sym (among_append x xs ys) ∙ h.0)).0, g.0), g.1)
