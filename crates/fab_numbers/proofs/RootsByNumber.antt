-- The root of a name, found among the roots with numbers for names.
use Rattle.std.proofs.Common.{◌≡◌, ℕ, zero, suc, ◌+◌, ◌<◌, ◌≤◌, Bool, true, false, cond, List, [], ◌∷◌, length, get_or, Option, Some, None, slice_get, refl, sym, ap, ◌∙◌, arith}
use Rattle.std.specs.Prelude.{option_map}
use Rattle.fab_base.specs.declared.object.Value.TheVariants as values
use Rattle.fab_tree.specs.declared.name.Name.{Name}
use Rattle.fab_tree.specs.declared.start.Root.{Root}
use Rattle.fab_tree.specs.declared.start.Start.{Start}
use Rattle.fab_tree.specs.declared.resolved.Root.{Root as NumberedRoot}
use Rattle.fab_language.specs.Names.{named, number_of, is_same_name, root_name}
use Rattle.fab_language.specs.Numbers.{reference_to, root_of, roots_from}

-- the root of a name has the number of the name, counted from where the roots begin
root_at : (s : Start) (n : ℕ) (roots : List Root) (x : Name)
    → slice_get (roots_from s n roots) (number_of root_name roots x) ≡ option_map (root_of s (n + number_of root_name roots x)) (named root_name roots x)
root_at s n [] x = refl
root_at s n (y ∷ ys) x = by (is_same_name y.name x) (root_at s (suc n) ys x)
  where
    by : (b : Bool) → slice_get (roots_from s (suc n) ys) (number_of root_name ys x) ≡ option_map (root_of s (suc n + number_of root_name ys x)) (named root_name ys x)
        → slice_get (root_of s n y ∷ roots_from s (suc n) ys) (cond b zero (suc (number_of root_name ys x)))
        ≡ option_map (root_of s (n + cond b zero (suc (number_of root_name ys x)))) (cond b (Some y) (named root_name ys x))
    by true later = let same : n ≡ n + zero = omega arith in ap (λ m. Some (root_of s m y)) same
    by false later =
        let same : suc n + number_of root_name ys x ≡ n + suc (number_of root_name ys x) = omega arith in
        later ∙ ap (λ m. option_map (root_of s m) (named root_name ys x)) same

none_at : (roots : List NumberedRoot) (i : ℕ) → length roots ≤ i → slice_get roots i ≡ None
none_at [] i h = refl
none_at (x ∷ roots) zero h = absurd (omega arith)
none_at (x ∷ roots) (suc i) h = none_at roots i (omega arith)

some_at : (roots : List NumberedRoot) (i : ℕ) (x : NumberedRoot) → i < length roots → x ≡ get_or roots i x → slice_get roots i ≡ Some x
some_at [] i x h e = absurd (omega arith)
some_at (y ∷ roots) zero x h e = ap Some (sym e)
some_at (y ∷ roots) (suc i) x h e = some_at roots i x (omega arith) e

module _ (s : Start) (x : Name) (roots : List NumberedRoot) (is : roots ≡ roots_from s 0 s.roots) (i : ℕ) (at : i ≡ number_of root_name s.roots x) where
  found : slice_get roots i ≡ option_map (root_of s i) (named root_name s.roots x)
  found =
      let same : 0 + number_of root_name s.roots x ≡ i = omega (arith, at) in
      (λ j. slice_get (is j) (at j)) ∙ root_at s 0 s.roots x ∙ ap (λ k. option_map (root_of s k) (named root_name s.roots x)) same

  some_found : (r : Option Root) (root : NumberedRoot) → Some root ≡ option_map (root_of s i) r → values.Ref root.oid ≡ reference_to s i r
  some_found None root e = cc
  some_found (Some y) root e = let same : root ≡ root_of s i y = cc in ap (λ (z : NumberedRoot). values.Ref z.oid) same

  none_found : (r : Option Root) → None ≡ option_map (root_of s i) r → values.Null ≡ reference_to s i r
  none_found None e = refl
  none_found (Some y) e = cc

  pub refers : (root : NumberedRoot) → i < length roots → root ≡ get_or roots i root → values.Ref root.oid ≡ reference_to s (number_of root_name s.roots x) (named root_name s.roots x)
  refers root below e = some_found (named root_name s.roots x) root (sym (some_at roots i root below e) ∙ found) ∙ ap (λ k. reference_to s k (named root_name s.roots x)) at

  pub refers_to_none : length roots ≤ i → values.Null ≡ reference_to s (number_of root_name s.roots x) (named root_name s.roots x)
  refers_to_none past = none_found (named root_name s.roots x) (sym (none_at roots i past) ∙ found) ∙ ap (λ k. reference_to s k (named root_name s.roots x)) at
