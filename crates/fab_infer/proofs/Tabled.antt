-- Rows of labels, and what they say of the least label of a hole.
use Rattle.std.proofs.Common.{◌≡◌, ◌↔◌, ℕ, zero, suc, ◌+◌, ◌<◌, ◌≤◌, List, [], ◌∷◌, ◌++◌, length, Option, Some, None, refl, sym, ap, ◌∙◌, subst, arith, IsBitSet, IsTrue, bit_and, get_or}
use Rattle.std.specs.Prelude.{slice_get}
use Rattle.std.proofs.lemmas.Bool.{eq-eqb, eqb-true}
use Rattle.std.proofs.lemmas.List.{length-append}
use Rattle.fab_tree.specs.declared.resolved.Resolved.{Resolved}
use Rattle.fab_holes.specs.Least.{Fits, IsLowest, IsLeast, AreLeast}
use Rattle.fab_infer.specs.declared.rows.Row.{Row}
use Rattle.fab_infer.specs.Masks.{IsBelow, AreBelow, IsRow, AreRows, IsTable, fits_in, fits_row}
use Rattle.fab_infer.proofs.Subsets.{same_part}

inside : {A : Type 0} (xs : List A) (i : ℕ) (x : A) → slice_get xs i ≡ Some x → i < length xs
inside [] i x e = absurd (cc)
inside (y ∷ ys) zero x e = omega arith
inside (y ∷ ys) (suc i) x e = let h = inside ys i x e in omega (arith, h)

outside : {A : Type 0} (xs : List A) (i : ℕ) → slice_get xs i ≡ None → length xs ≤ i
outside [] i e = omega arith
outside (y ∷ ys) zero e = absurd (cc)
outside (y ∷ ys) (suc i) e = let h = outside ys i e in omega (arith, h)

module _ (r : Resolved) where
  row_from : (k : ℕ) (rows : List Row) (i : ℕ) (row : Row) → AreRows r k rows → slice_get rows i ≡ Some row → IsRow r (k + i) row
  row_from k [] i row all e = absurd (cc)
  row_from k (x ∷ rows) zero row all e = let same : x ≡ row = cc in subst (λ z. IsRow r (k + 0) z) same (subst (λ z. IsRow r z x) (by (k + 0) refl) all.0)
    where
      by : (m : ℕ) → m ≡ k + 0 → k ≡ m
      by m e = omega (arith, e)
  row_from k (x ∷ rows) (suc i) row all e = subst (λ z. IsRow r z row) (by (suc k + i) (k + suc i) refl refl) (row_from (suc k) rows i row all.1 e)
    where
      by : (a b : ℕ) → a ≡ suc k + i → b ≡ k + suc i → a ≡ b
      by a b e f = omega (arith, e, f)

  row_at : (rows : List Row) (k : ℕ) (row : Row) → IsTable r rows → slice_get rows k ≡ Some row → IsRow r k row
  row_at rows k row table e = subst (λ z. IsRow r z row) (by (0 + k) refl) (row_from 0 rows k row table.each e)
    where
      by : (m : ℕ) → m ≡ 0 + k → m ≡ k
      by m e = omega (arith, e)

  -- one more row
  pub rows_more : (k : ℕ) (rows : List Row) (row : Row) → AreRows r k rows → IsRow r (k + length rows) row → AreRows r k (rows ++ row ∷ [])
  rows_more k [] row all is = (subst (λ z. IsRow r z row) (by (k + 0) refl) is, tt)
    where
      by : (m : ℕ) → m ≡ k + 0 → m ≡ k
      by m e = omega (arith, e)
  rows_more k (x ∷ rows) row all is = (all.0, rows_more (suc k) rows row all.1 (subst (λ z. IsRow r z row) (by (k + suc (length rows)) (suc k + length rows) refl refl) is))
    where
      by : (a b : ℕ) → a ≡ k + suc (length rows) → b ≡ suc k + length rows → a ≡ b
      by a b e f = omega (arith, e, f)

  -- a label fits where all that lies below is among those that flow to it
  pub fits_is : (rows : List Row) (below h k : ℕ) (row : Row) → IsTable r rows → IsBelow r h below → slice_get rows k ≡ Some row → ((l : ℕ) → IsBitSet below l → IsBitSet row.below l) ↔ Fits r h k
  fits_is rows below h k row table is e =
      let here = row_at rows k row table e in
      let within = inside rows k row e in (
        λ all. (subst (λ n. k < n) table.many within, λ l lies. ((here.below l).0 (all l ((is l).1 lies))).1),
        λ fits l bit. let lies = (is l).0 bit in (here.below l).1 (lies.0, fits.1 l lies),
      )

  pub none_fits : (rows : List Row) (h k : ℕ) → IsTable r rows → slice_get rows k ≡ None → Fits r h k → ⊥
  none_fits rows h k table e fits = let past = outside rows k e in let many = table.many in let within = fits.0 in absurd (omega (arith, past, many, within))

  -- a label is lowest where it fits and all that fit are among those to which it flows
  pub lowest_is : (rows : List Row) (fitting h k : ℕ) (row : Row) → IsTable r rows → ((m : ℕ) → IsBitSet fitting m ↔ Fits r h m) → slice_get rows k ≡ Some row
      → (IsBitSet fitting k × ((l : ℕ) → IsBitSet fitting l → IsBitSet row.above l)) ↔ IsLowest r h k
  lowest_is rows fitting h k row table is e =
      let here = row_at rows k row table e in (
        λ both. ((is k).0 both.0, λ m fits. ((here.above m).0 (both.1 m ((is m).1 fits))).1),
        λ lowest. ((is k).1 lowest.0, λ l bit. let fits = (is l).0 bit in (here.above l).1 (fits.0, lowest.1 l fits)),
      )

  pub none_lowest : (rows : List Row) (h k : ℕ) → IsTable r rows → slice_get rows k ≡ None → IsLowest r h k → ⊥
  none_lowest rows h k table e lowest = none_fits rows h k table e lowest.0

  -- where none of the labels is lowest none is least
  pub none_least : (rows : List Row) (h : ℕ) → IsTable r rows → ((j : ℕ) → j < length rows → IsLowest r h j → ⊥) → (k : ℕ) → IsLeast r h k → ⊥
  none_least rows h table none k least = none k (subst (λ n. k < n) (sym table.many) least.0.0.0) least.0

  -- ---- masks of holes in turn

  pub below_at : (h : ℕ) (masks : List ℕ) (i mask : ℕ) → AreBelow r h masks → slice_get masks i ≡ Some mask → IsBelow r (h + i) mask
  below_at h [] i mask all e = absurd (cc)
  below_at h (m ∷ ms) zero mask all e = let same : m ≡ mask = cc in subst (λ z. IsBelow r (h + 0) z) same (subst (λ z. IsBelow r z m) (by (h + 0) refl) all.0)
    where
      by : (m : ℕ) → m ≡ h + 0 → h ≡ m
      by m e = omega (arith, e)
  below_at h (m ∷ ms) (suc i) mask all e = subst (λ z. IsBelow r z mask) (by (suc h + i) (h + suc i) refl refl) (below_at (suc h) ms i mask all.1 e)
    where
      by : (a b : ℕ) → a ≡ suc h + i → b ≡ h + suc i → a ≡ b
      by a b e f = omega (arith, e, f)

  pub below_index : (h : ℕ) (masks : List ℕ) (i : ℕ) → AreBelow r h masks → i < length masks → (n : ℕ) → n ≡ h + i → IsBelow r n (get_or masks i 0)
  below_index h [] i all within n e = absurd (omega (arith, within))
  below_index h (m ∷ ms) zero all within n e = let same : h ≡ n = omega (arith, e) in subst (λ z. IsBelow r z m) same all.0
  below_index h (m ∷ ms) (suc i) all within n e = below_index (suc h) ms i all.1 (omega (arith, within)) n (omega (arith, e))

  -- the labels that a mask gives are those that fit
  pub fitting_is : (rows : List Row) (below fitting h : ℕ) → IsTable r rows → IsBelow r h below → ((k : ℕ) → IsBitSet fitting k ↔ ((k < length rows) × IsTrue (fits_in rows below k)))
      → (k : ℕ) → IsBitSet fitting k ↔ Fits r h k
  fitting_is rows below fitting h table is marks k = by (slice_get rows k) refl
    where
      by : (o : Option Row) → slice_get rows k ≡ o → IsBitSet fitting k ↔ Fits r h k
      by None e = (
        λ bit. let past = outside rows k e in let within = ((marks k).0 bit).0 in absurd (omega (arith, past, within)),
        λ fits. absurd (none_fits rows h k table e fits),
      )
      by (Some row) e =
          let f = fits_is rows below h k row table is e in
          let part = same_part below row.below in (
            λ bit. f.0 (part.0 (eqb-true (bit_and below row.below) below (subst (λ o. IsTrue (fits_row below o)) e ((marks k).0 bit).1))),
            λ fits. (marks k).1 (inside rows k row e, subst (λ o. IsTrue (fits_row below o)) (sym e) (eq-eqb (bit_and below row.below) below (part.1 (f.1 fits)))),
          )

  -- one more least label
  pub least_more : (h : ℕ) (ks : List ℕ) (k n : ℕ) → AreLeast r h ks → n ≡ h + length ks → IsLeast r n k → AreLeast r h (ks ++ k ∷ [])
  least_more h [] k n all e is = let same : n ≡ h = omega (arith, e) in (subst (λ z. IsLeast r z k) same is, tt)
  least_more h (x ∷ ks) k n all e is = (all.0, least_more (suc h) ks k n all.1 (omega (arith, e)) is)

pub long_push : (xs : List ℕ) (x : ℕ) (ys : List ℕ) → ys ≡ xs ++ x ∷ [] → length ys ≡ length xs + 1
long_push xs x ys e = let l = length-append xs (x ∷ []) in ap (λ (zs : List ℕ). length zs) e ∙ omega (arith, l)

pub row_push : (xs : List Row) (x : Row) (ys : List Row) → ys ≡ xs ++ x ∷ [] → length ys ≡ length xs + 1
row_push xs x ys e = let l = length-append xs (x ∷ []) in ap (λ (zs : List Row). length zs) e ∙ omega (arith, l)
