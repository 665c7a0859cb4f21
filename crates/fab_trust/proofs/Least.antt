-- The first guard that isn't kept so far is the first of all.
use Rattle.std.proofs.Common.{◌≡◌, ◌⊎◌, inl, inr, ℕ, zero, suc, ◌+◌, ◌<◌, ◌≤◌, Bool, true, false, nat_lt, if◌then◌else◌, List, [], ◌∷◌, ◌++◌, length, drop, get_or, slice_get, Option, Some, None, refl, sym, ap, ◌∙◌, subst, append_assoc, append-nil, true≢false, arith}
use Rattle.std.specs.List.{AllByRecursion, flat_map}
use Rattle.fab_base.proofs.Lists.{front_at}
use Rattle.fab_tree.specs.declared.resolved.Method.{Method}
use Rattle.fab_tree.specs.declared.resolved.Resolved.{Resolved}
use Rattle.fab_labelling.specs.Sites.{pcs_of}
use Rattle.fab_trusted.specs.declared.rows.Guard.{Guard}
use Rattle.fab_trusted.specs.Robust.{IsFirstUnkept, Keeps, guards}
use Rattle.fab_trust.specs.Noted.{is_kept, method_guards, noted, sooner}
use Rattle.fab_trust.proofs.Deciding.{kept_is}
use Rattle.fab_trust.proofs.Guarding.{guards_are}

at_front : (ys zs : List Guard) (j : ℕ) (y : Guard) → slice_get ys j ≡ Some y → slice_get (ys ++ zs) j ≡ Some y
at_front [] zs j y h = absurd (cc)
at_front (w ∷ ys) zs zero y h = h
at_front (w ∷ ys) zs (suc j) y h = at_front ys zs j y h

at_last : (ys : List Guard) (x : Guard) → slice_get (ys ++ x ∷ []) (length ys) ≡ Some x
at_last [] x = refl
at_last (w ∷ ys) x = at_last ys x

at_cases : (ys : List Guard) (x : Guard) (j : ℕ) (y : Guard) → slice_get (ys ++ x ∷ []) j ≡ Some y → (slice_get ys j ≡ Some y) ⊎ ((j ≡ length ys) × (x ≡ y))
at_cases [] x zero y h = inr (refl, cc)
at_cases [] x (suc j) y h = absurd (cc)
at_cases (w ∷ ys) x zero y h = inl h
at_cases (w ∷ ys) x (suc j) y h = elim (at_cases ys x j y h) [ inl e ↦ inl e | inr e ↦ let i = e.0 in inr (omega (arith, i), e.1) ]

inside : (ys : List Guard) (j : ℕ) (y : Guard) → slice_get ys j ≡ Some y → j < length ys
inside [] j y h = absurd (cc)
inside (w ∷ ys) zero y h = omega arith
inside (w ∷ ys) (suc j) y h = let l = inside ys j y h in omega (arith, l)

before : (m n : ℕ) → nat_lt m n ≡ true → m < n
before m n h = grind arith

not_before : (m n : ℕ) → nat_lt m n ≡ false → (n < m) ⊎ (n ≡ m)
not_before m n h = grind arith

module _ (r : Resolved) where
  -- what was found of these
  abbrev pub Found : List Guard → Option Guard → Type 0
  Found gs None = AllByRecursion (Keeps r) gs
  Found gs (Some g) = IsFirstUnkept r gs g

  each : (gs : List Guard) → AllByRecursion (Keeps r) gs → (h : Guard) (j : ℕ) → slice_get gs j ≡ Some h → Keeps r h
  each [] all h j e = absurd (cc)
  each (g ∷ gs) all h zero e = let same : g ≡ h = cc in subst (Keeps r) same all.0
  each (g ∷ gs) all h (suc j) e = each gs all.1 h j e

  all_more : (gs : List Guard) (g : Guard) → AllByRecursion (Keeps r) gs → Keeps r g → AllByRecursion (Keeps r) (gs ++ g ∷ [])
  all_more [] g all k = (k, tt)
  all_more (h ∷ gs) g all k = (all.0, all_more gs g all.1 k)

  abbrev NoLater : Guard → ℕ → Guard → ℕ → Type 0
  NoLater g i h j = (g.at < h.at) ⊎ ((g.at ≡ h.at) × (i ≤ j))

  -- one more that is kept
  stays : (gs : List Guard) (g f : Guard) → IsFirstUnkept r gs f → Keeps r g → IsFirstUnkept r (gs ++ g ∷ []) f
  stays gs g f u k = record {
    i = u.i;
    is = at_front gs (g ∷ []) u.i f u.is;
    broken = u.broken;
    first = λ h j is not. elim (at_cases gs g j h is) [ inl old ↦ u.first h j old not | inr new ↦ absurd (not (subst (Keeps r) new.1 k)) ];
  }

  -- the first that isn't
  begins : (gs : List Guard) (g : Guard) → AllByRecursion (Keeps r) gs → ¬ Keeps r g → IsFirstUnkept r (gs ++ g ∷ []) g
  begins gs g all broken = record {
    i = length gs;
    is = at_last gs g;
    broken = broken;
    first = λ h j is not. elim (at_cases gs g j h is) [
      | inl old ↦ absurd (not (each gs all h j old))
      | inr new ↦ let e = new.0 in inr (ap (λ (x : Guard). x.at) new.1, omega (arith, e))
    ];
  }

  -- one that comes before it
  replaces : (gs : List Guard) (g f : Guard) → IsFirstUnkept r gs f → ¬ Keeps r g → g.at < f.at → IsFirstUnkept r (gs ++ g ∷ []) g
  replaces gs g f u broken less = record {
    i = length gs;
    is = at_last gs g;
    broken = broken;
    first = λ h j is not. elim (at_cases gs g j h is) [
      | inl old ↦ inl (elim (u.first h j old not) [ inl a ↦ omega (arith, a, less) | inr b ↦ let e = b.0 in omega (arith, e, less) ])
      | inr new ↦ let e = new.0 in inr (ap (λ (x : Guard). x.at) new.1, omega (arith, e))
    ];
  }

  -- one that comes behind it
  remains : (gs : List Guard) (g f : Guard) → IsFirstUnkept r gs f → (f.at < g.at) ⊎ (f.at ≡ g.at) → IsFirstUnkept r (gs ++ g ∷ []) f
  remains gs g f u later = record {
    i = u.i;
    is = at_front gs (g ∷ []) u.i f u.is;
    broken = u.broken;
    first = λ h j is not. elim (at_cases gs g j h is) [
      | inl old ↦ u.first h j old not
      | inr new ↦ subst (λ (x : Guard). NoLater f u.i x j) new.1
          (elim later [ inl a ↦ inl a | inr e ↦ let l = inside gs u.i f u.is in let k = new.0 in inr (e, omega (arith, l, k)) ])
    ];
  }

  one_more : (gs : List Guard) (first : Option Guard) (g : Guard) → Found gs first → Found (gs ++ g ∷ []) (if is_kept r g then first else sooner first g)
  one_more gs first g found = by first found (is_kept r g) refl
    where
      not_kept : is_kept r g ≡ false → ¬ Keeps r g
      not_kept e k = true≢false (sym ((kept_is r g).1 k) ∙ e)

      by_place : (f : Guard) → IsFirstUnkept r gs f → ¬ Keeps r g → (b : Bool) → nat_lt g.at f.at ≡ b → Found (gs ++ g ∷ []) (if b then Some g else Some f)
      by_place f u broken true e = replaces gs g f u broken (before g.at f.at e)
      by_place f u broken false e = remains gs g f u (not_before g.at f.at e)

      by : (first : Option Guard) → Found gs first → (b : Bool) → is_kept r g ≡ b → Found (gs ++ g ∷ []) (if b then first else sooner first g)
      by None all true e = all_more gs g all ((kept_is r g).0 e)
      by None all false e = begins gs g all (not_kept e)
      by (Some f) u true e = stays gs g f u ((kept_is r g).0 e)
      by (Some f) u false e = by_place f u (not_kept e) (nat_lt g.at f.at) refl

  all_found : (front gs : List Guard) (first : Option Guard) → Found front first → Found (front ++ gs) (noted r first gs)
  all_found front [] first found = subst (λ (xs : List Guard). Found xs first) (sym (append-nil front)) found
  all_found front (g ∷ gs) first found =
      subst (λ (xs : List Guard). Found xs (noted r (if is_kept r g then first else sooner first g) gs)) (append_assoc front (g ∷ []) gs)
      (all_found (front ++ g ∷ []) gs (if is_kept r g then first else sooner first g) (one_more front first g found))

  -- the first of all that aren't kept
  pub found_of : (gs : List Guard) → Found gs (noted r None gs)
  found_of gs = all_found [] gs None tt

  -- guards in two parts
  pub noted_parts : (first : Option Guard) (xs ys : List Guard) → noted r first (xs ++ ys) ≡ noted r (noted r first xs) ys
  noted_parts first [] ys = refl
  noted_parts first (x ∷ xs) ys = noted_parts (if is_kept r x then first else sooner first x) xs ys

  -- ---- going through them

  -- one more of what is gone through
  pub step : {A : Type 0} (f : A → List Guard) (xs : List A) (i : ℕ) (d : A) (found next whole : Option Guard) → i < length xs → next ≡ noted r found (f (get_or xs i d))
      → noted r found (flat_map f (drop i xs)) ≡ whole → noted r next (flat_map f (drop (i + 1) xs)) ≡ whole
  step {A} f xs i d found next whole within is so_far =
      ap (λ (n : Option Guard). noted r n (flat_map f (drop (i + 1) xs))) is
      ∙ sym (noted_parts found (f (get_or xs i d)) (flat_map f (drop (i + 1) xs)))
      ∙ ap (λ (ys : List A). noted r found (flat_map f ys)) (sym (front_at xs i d within))
      ∙ so_far

  -- ---- the whole

  -- what was found of the guards, gone through method by method
  pub found_by : (pcs : List (List ℕ)) (ms : List Method) (first : Option Guard) → pcs ≡ pcs_of r → ms ≡ r.methods → first ≡ noted r None (flat_map (method_guards pcs) ms)
      → Found (guards r) first
  found_by pcs ms first pcs_are methods_are is =
      subst (Found (guards r))
      (sym (is ∙ ap (λ (p : List (List ℕ)). noted r None (flat_map (method_guards p) ms)) pcs_are
      ∙ ap (λ (xs : List Method). noted r None (flat_map (method_guards (pcs_of r)) xs)) methods_are ∙ ap (noted r None) (guards_are r)))
      (found_of (guards r))

  -- what is told of it
  pub told : (gs : List Guard) (g : Guard) (at source principal : ℕ) → IsFirstUnkept r gs g
      → g.at ≡ at → g.source ≡ source → g.principal ≡ principal → IsFirstUnkept r gs (record { at = at; source = source; principal = principal })
  told gs g at source principal u a s p = subst (λ (x : Guard). IsFirstUnkept r gs x) (λ i. record { at = a i; source = s i; principal = p i }) u
