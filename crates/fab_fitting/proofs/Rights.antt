-- Rights of one bundle are the same.
use Rattle.std.proofs.Common.{◌≡◌, ◌↔◌, ℕ, suc, ◌*◌, ◌^◌, List, [], ◌∷◌, map, slice_get, IsSomeAnd, IsBitSet, inl, inr, refl, sym, ap, ◌∙◌, arith}
use Rattle.std.specs.Int.{bit_at}
use Rattle.std.proofs.lemmas.Bool.{cases_eq}
use Rattle.std.proofs.Math.Pow.{pow_pos}
use Rattle.std.proofs.lemmas.Nat.Bits.{and_pow, bit_at-lt, same_from_bits}
use Rattle.fab_tree.specs.declared.resolved.Resolved.{Resolved}
use Rattle.fab_rights.specs.declared.rights.ClassRights.{ClassRights}
use Rattle.fab_rights.specs.declared.rights.Shape.{Shape}
use Rattle.fab_rights.specs.declared.rights.Rights.{Rights}
use Rattle.fab_places.specs.Places.{AreRights}

-- ---- masks

-- a bit that two masks have or lack together is the same number
same_bit : (a b n : ℕ) → (IsBitSet a n ↔ IsBitSet b n) → bit_at a n ≡ bit_at b n
same_bit a b n same = elim (cases_eq (bit_at a n) 0) [
  | inl none ↦ elim (cases_eq (bit_at b n) 0) [ inl empty ↦ none ∙ sym empty | inr some ↦ absurd (unset a n none (same.1 (set b n some))) ]
  | inr some ↦ elim (cases_eq (bit_at b n) 0) [
    | inl none ↦ absurd (unset b n none (same.0 (set a n some)))
    | inr other ↦ omega (arith, bit_at-lt a n, bit_at-lt b n, some, other)
  ]
]
  where
    unset : (mask n : ℕ) → bit_at mask n ≡ 0 → IsBitSet mask n → ⊥
    unset mask n none bit = bit (and_pow mask n ∙ ap (λ b. b * 2 ^ n) none ∙ omega arith)

    set : (mask n : ℕ) → (bit_at mask n ≡ 0 → ⊥) → IsBitSet mask n
    set mask n some none =
        let one : bit_at mask n ≡ 1 = omega (arith, bit_at-lt mask n, some) in
        let no : 1 * 2 ^ n ≡ 0 = sym (ap (λ b. b * 2 ^ n) one) ∙ sym (and_pow mask n) ∙ none in
        absurd (omega (arith, pow_pos n, no))

-- masks with the same bits are the same
pub same_mask : (a b : ℕ) → ((n : ℕ) → IsBitSet a n ↔ IsBitSet b n) → a ≡ b
same_mask a b same = same_from_bits a b (λ n. same_bit a b n (same n))

-- two facts that hold where one holds
both_ways : {A B C : Type 0} → A ↔ C → B ↔ C → A ↔ B
both_ways one two = (λ a. two.1 (one.0 a), λ b. one.1 (two.0 b))

-- ---- classes

-- the masks of the classes have the same bits
abbrev AreAlike : (ClassRights → ℕ) → List ClassRights → List ClassRights → Type 0
AreAlike mask xs ys = (n c : ℕ) → IsSomeAnd (slice_get xs c) (λ x. IsBitSet (mask x) n) ↔ IsSomeAnd (slice_get ys c) (λ y. IsBitSet (mask y) n)

same_class : (x y : ClassRights) → x.fetchers ≡ y.fetchers → x.writers ≡ y.writers → x.holders ≡ y.holders → x.fields ≡ y.fields → x ≡ y
same_class x y f w h k =
    ap (λ (n : ℕ). record x { fetchers = n }) f
    ∙ ap (λ (n : ℕ). record x { fetchers = y.fetchers; writers = n }) w
    ∙ ap (λ (n : ℕ). record y { holders = n; fields = x.fields }) h
    ∙ ap (λ (ks : List Shape). record y { fields = ks }) k

-- classes whose masks have the same bits, and whose fields are of the same kinds
same_classes : (xs ys : List ClassRights) → map (λ x. x.fields) xs ≡ map (λ y. y.fields) ys
    → AreAlike (λ x. x.fetchers) xs ys → AreAlike (λ x. x.writers) xs ys → AreAlike (λ x. x.holders) xs ys → xs ≡ ys
same_classes [] [] kinds f w h = refl
same_classes [] (y ∷ ys) kinds f w h = absurd (cc)
same_classes (x ∷ xs) [] kinds f w h = absurd (cc)
same_classes (x ∷ xs) (y ∷ ys) kinds f w h =
    let fields : x.fields ≡ y.fields = cc in
    let others : map (λ (z : ClassRights). z.fields) xs ≡ map (λ (z : ClassRights). z.fields) ys = cc in
    let here = same_class x y (same_mask x.fetchers y.fetchers (λ n. f n 0)) (same_mask x.writers y.writers (λ n. w n 0)) (same_mask x.holders y.holders (λ n. h n 0)) fields in
    let rest = same_classes xs ys others (λ n c. f n (suc c)) (λ n c. w n (suc c)) (λ n c. h n (suc c)) in
    cc

-- ---- rights

same_rights : (a b : Rights) → a.workers ≡ b.workers → a.stores ≡ b.stores → a.classes ≡ b.classes → a ≡ b
same_rights a b w s c =
    ap (λ (n : ℕ). record a { workers = n }) w
    ∙ ap (λ (n : ℕ). record b { stores = n; classes = a.classes }) s
    ∙ ap (λ (cs : List ClassRights). record b { classes = cs }) c

pub one_rights : (r : Resolved) (a b : Rights) → AreRights r a → AreRights r b → a ≡ b
one_rights r a b x y =
    same_rights a b
    (same_mask a.workers b.workers (λ n. both_ways (x.workers n) (y.workers n)))
    (same_mask a.stores b.stores (λ n. both_ways (x.stores n) (y.stores n)))
    (same_classes a.classes b.classes (x.shapes ∙ sym y.shapes)
    (λ n c. both_ways (x.fetched n c) (y.fetched n c)) (λ n c. both_ways (x.written n c) (y.written n c)) (λ n c. both_ways (x.held n c) (y.held n c)))
