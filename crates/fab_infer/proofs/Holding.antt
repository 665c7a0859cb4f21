-- Holes, their places and the masks of what lies below them.
use Rattle.std.proofs.Common.{◌≡◌, ◌↔◌, ℕ, zero, suc, ◌+◌, ◌<◌, ◌≤◌, ◌==◌, nat_lt, not, Bool, true, false, cond, if◌then◌else◌, List, [], ◌∷◌, map, filter, length, replicate, refl, ap, ◌∙◌, subst, arith, IsBitSet, bit_or, get_or}
use Rattle.std.specs.Prelude.{slice_set}
use Rattle.std.specs.List.{flat_map}
use Rattle.std.proofs.lemmas.List.{length-append}
use Rattle.fab_tree.specs.declared.resolved.Local.{Local}
use Rattle.fab_tree.specs.declared.resolved.Method.{Method}
use Rattle.fab_tree.specs.declared.resolved.Resolved.{Resolved}
use Rattle.fab_language.specs.MethodNumbers.{in_turn}
use Rattle.fab_holes.specs.Chosen.{places_in, places_of}
use Rattle.fab_holes.specs.Least.{LiesBelow}
use Rattle.fab_holes.specs.Open.{with_label, opened, opened_local, opened_method}
use Rattle.fab_holes.specs.Passes.{mask_at, with_more}
use Rattle.fab_infer.specs.Masks.{AreBelow}
use Rattle.fab_infer.specs.Spreading.{is_gain}

-- there are as many holes as places of them
module _ (n : ℕ) where
  abbrev stays : Local → Bool
  stays x = nat_lt x.label.number n

  many_locals : (xs : List Local) (h : ℕ) → (in_turn (map (opened_local n) xs) h).1 ≡ h + length (places_in n xs)
  many_locals [] h = omega arith
  many_locals (x ∷ xs) h =
      elim (stays x) as (λ b. (in_turn (map (opened_local n) xs) (if◌then◌else◌ {A = Local × ℕ} b (x, h) (with_label (n + h) x, suc h)).1).1
      ≡ h + length (map (λ (y : Local). y.label.at) (cond (not b) (x ∷ filter (λ (y : Local). not (stays y)) xs) (filter (λ (y : Local). not (stays y)) xs)))) [
        | true ↦ many_locals xs h
        | false ↦ let e = many_locals xs (suc h) in omega (arith, e)
      ]

  pub many_holes : (ms : List Method) (h : ℕ) → (in_turn (map (opened_method n) ms) h).1 ≡ h + length (flat_map (λ (m : Method). places_in n m.locals) ms)
  many_holes [] h = omega arith
  many_holes (m ∷ ms) h =
      many_holes ms (in_turn (map (opened_local n) m.locals) h).1
      ∙ by (in_turn (map (opened_local n) m.locals) h).1 (length (places_in n m.locals)) (length (flat_map (λ (x : Method). places_in n x.locals) ms)) (length (flat_map (λ (x : Method). places_in n x.locals) (m ∷ ms)))
      (many_locals m.locals h) (length-append (places_in n m.locals) (flat_map (λ (x : Method). places_in n x.locals) ms))
    where
      by : (next here rest all : ℕ) → next ≡ h + here → all ≡ here + rest → next + rest ≡ h + all
      by next here rest all e f = omega (arith, e, f)

-- no mask has a bit at first
pub no_mask : (many h : ℕ) → mask_at (replicate many 0) h ≡ 0
no_mask zero h = refl
no_mask (suc many) zero = refl
no_mask (suc many) (suc h) = no_mask many h

pub long_zeros : (many : ℕ) → length {A = ℕ} (replicate many 0) ≡ many
long_zeros zero = refl
long_zeros (suc many) = ap suc (long_zeros many)

-- the mask of a hole that is there, and of one that isn't
pub mask_some : (ms : List ℕ) (h m : ℕ) → true ≡ nat_lt h (length ms) → m ≡ get_or ms h m → m ≡ mask_at ms h
mask_some [] h m inside e = absurd (search (arith, inside))
mask_some (x ∷ ms) zero m inside e = e
mask_some (x ∷ ms) (suc h) m inside e = mask_some ms h m (search (arith, inside)) e

pub mask_none : (ms : List ℕ) (h : ℕ) → false ≡ nat_lt h (length ms) → 0 ≡ mask_at ms h
mask_none [] h past = refl
mask_none (x ∷ ms) zero past = absurd (search (arith, past))
mask_none (x ∷ ms) (suc h) past = mask_none ms h (search (arith, past))

-- a mask that gains
pub set_more : (ms : List ℕ) (h more : ℕ) → h < length ms → slice_set ms h (bit_or (get_or ms h 0) more) ≡ with_more ms h more
set_more [] h more inside = absurd (omega (arith, inside))
set_more (m ∷ ms) zero more inside = refl
set_more (m ∷ ms) (suc h) more inside = ap (λ l. m ∷ l) (set_more ms h more (omega (arith, inside)))

pub set_none : (ms : List ℕ) (h more : ℕ) → length ms ≤ h → ms ≡ with_more ms h more
set_none [] h more past = refl
set_none (m ∷ ms) zero more past = absurd (omega (arith, past))
set_none (m ∷ ms) (suc h) more past = ap (λ l. m ∷ l) (set_none ms h more (omega (arith, past)))

pub gained : (ms : List ℕ) (h more : ℕ) → h < length ms → not (get_or (slice_set ms h (bit_or (get_or ms h 0) more)) h 0 == get_or ms h 0) ≡ is_gain ms h more
gained [] h more inside = absurd (omega (arith, inside))
gained (m ∷ ms) zero more inside = refl
gained (m ∷ ms) (suc h) more inside = gained ms h more (omega (arith, inside))

pub not_gained : (ms : List ℕ) (h more : ℕ) → length ms ≤ h → false ≡ is_gain ms h more
not_gained [] h more past = refl
not_gained (m ∷ ms) zero more past = absurd (omega (arith, past))
not_gained (m ∷ ms) (suc h) more past = not_gained ms h more (omega (arith, past))

-- masks in turn
pub are_below : (r : Resolved) (h : ℕ) (masks : List ℕ) → ((i l : ℕ) → IsBitSet (mask_at masks i) l ↔ LiesBelow r l (h + i)) → AreBelow r h masks
are_below r h [] each = tt
are_below r h (m ∷ ms) each = (
  λ l. subst (λ (z : ℕ). IsBitSet m l ↔ LiesBelow r l z) (same (h + 0) refl) (each 0 l),
  are_below r (suc h) ms (λ i l. subst (λ (z : ℕ). IsBitSet (mask_at ms i) l ↔ LiesBelow r l z) (next (h + suc i) (suc h + i) i refl refl) (each (suc i) l)),
)
  where
    same : (m : ℕ) → m ≡ h + 0 → m ≡ h
    same m e = omega (arith, e)

    next : (a b i : ℕ) → a ≡ h + suc i → b ≡ suc h + i → a ≡ b
    next a b i e f = omega (arith, e, f)

-- the opened methods, and how many holes there are
pub holes_counted : (r : Resolved) (n holes : ℕ) (ms : List Method) → n ≡ length r.labels → (ms, holes) ≡ in_turn (map (opened_method n) r.methods) 0 → holes ≡ length (places_of r)
holes_counted r n holes ms e is =
    let all = many_holes n r.methods 0 in
    ap (λ (t : List Method × ℕ). t.1) is ∙ all ∙ omega arith ∙ ap (λ (k : ℕ). length (flat_map (λ (m : Method). places_in k m.locals) r.methods)) e

pub methods_opened : (r : Resolved) (n holes : ℕ) (ms : List Method) → n ≡ length r.labels → (ms, holes) ≡ in_turn (map (opened_method n) r.methods) 0 → ms ≡ (opened r).methods
methods_opened r n holes ms e is = ap (λ (t : List Method × ℕ). t.0) is ∙ ap (λ (k : ℕ). (in_turn (map (opened_method k) r.methods) 0).0) e
