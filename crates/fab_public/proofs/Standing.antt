-- Items by number: one more, and one that is changed.
use Rattle.std.proofs.Common.{◌≡◌, ◌≢◌, ℕ, zero, suc, ◌<◌, Bool, true, false, ◌==◌, if◌then◌else◌, List, [], ◌∷◌, ◌++◌, length, get_or, Option, Some, IfSome, refl, sym, ap, subst, ◌∙◌, arith}
use Rattle.std.specs.Prelude.{slice_get, slice_set}
use Rattle.std.specs.Option.{option_map_or}
use Rattle.std.proofs.lemmas.Bool.Decides.{nat_tests}
use Rattle.fab_world.specs.Machine.{with_at}
use Rattle.fab_public.specs.States.{Stands, kept_at}

item_at : {A : Type 0} (xs : List A) (i : ℕ) (x : A) → i < length xs → x ≡ get_or xs i x → slice_get xs i ≡ Some x
item_at [] i x h e = absurd (omega arith)
item_at (z ∷ xs) zero x h e = ap Some (sym e)
item_at (z ∷ xs) (suc i) x h e = item_at xs i x (omega arith) e

-- ---- what holds of each

each_more : {A : Type 0} (Fits : A → Type 0) (xs : List A) (x : A) → Fits x → ((n : ℕ) → IfSome (slice_get xs n) Fits) → (n : ℕ) → IfSome (slice_get (xs ++ x ∷ []) n) Fits
each_more Fits [] x f h zero = f
each_more Fits [] x f h (suc n) = tt
each_more Fits (y ∷ xs) x f h zero = h zero
each_more Fits (y ∷ xs) x f h (suc n) = each_more Fits xs x f (λ m. h (suc m)) n

each_set : {A : Type 0} (Fits : A → Type 0) (xs : List A) (i : ℕ) (y : A) → Fits y → ((n : ℕ) → IfSome (slice_get xs n) Fits) → (n : ℕ) → IfSome (slice_get (slice_set xs i y) n) Fits
each_set Fits [] i y f h n = h n
each_set Fits (x ∷ xs) zero y f h zero = f
each_set Fits (x ∷ xs) zero y f h (suc n) = h (suc n)
each_set Fits (x ∷ xs) (suc i) y f h zero = h zero
each_set Fits (x ∷ xs) (suc i) y f h (suc n) = each_set Fits xs i y f (λ m. h (suc m)) n

-- ---- what is seen of each

room_more : {A B : Type 0} (start : ℕ → B) (see : A → B) (xs : List A) (x : A) → see x ≡ start (length xs) → (n : ℕ) → kept_at start see (xs ++ x ∷ []) n ≡ kept_at start see xs n
room_more start see [] x e zero = e
room_more start see [] x e (suc n) = refl
room_more start see (y ∷ xs) x e zero = refl
room_more start see (y ∷ xs) x e (suc n) = room_more (λ m. start (suc m)) see xs x e n

set_same : {A B : Type 0} (start : ℕ → B) (see : A → B) (xs : List A) (i : ℕ) (y : A) → i < length xs → kept_at start see (slice_set xs i y) i ≡ see y
set_same start see [] i y h = absurd (omega arith)
set_same start see (x ∷ xs) zero y h = refl
set_same start see (x ∷ xs) (suc i) y h = set_same (λ m. start (suc m)) see xs i y (omega arith)

set_other : {A B : Type 0} (start : ℕ → B) (see : A → B) (xs : List A) (i n : ℕ) (y : A) → n ≢ i → kept_at start see (slice_set xs i y) n ≡ kept_at start see xs n
set_other start see [] i n y h = refl
set_other start see (x ∷ xs) zero zero y h = absurd (h refl)
set_other start see (x ∷ xs) zero (suc n) y h = refl
set_other start see (x ∷ xs) (suc i) zero y h = refl
set_other start see (x ∷ xs) (suc i) (suc n) y h = set_other (λ m. start (suc m)) see xs i n y (λ e. h (ap suc e))

module _ {A B : Type 0} (start : ℕ → B) (see : A → B) (Fits : A → Type 0) (items : List A) (seen : ℕ → B) where
  -- one more of which nothing is known
  pub one_more : (x : A) → see x ≡ start (length items) → Fits x → Stands start see Fits items seen → Stands start see Fits (items ++ x ∷ []) seen
  one_more x e fits is = record { same = λ n. room_more start see items x e n ∙ is.same n; each = each_more Fits items x fits is.each }

  pub seen_at : (w i : ℕ) (x : A) → Stands start see Fits items seen → w < length items → i ≡ w → x ≡ get_or items i x → see x ≡ seen w
  seen_at w i x is within here stands =
      sym (ap (λ (o : Option A). option_map_or see o (start w)) (item_at items w x within (stands ∙ ap (λ j. get_or items j x) here))) ∙ is.same w

  pub fits_at : (w i : ℕ) (x : A) → Stands start see Fits items seen → w < length items → i ≡ w → x ≡ get_or items i x → Fits x
  fits_at w i x is within here stands =
      subst (λ (o : Option A). IfSome o Fits) (item_at items w x within (stands ∙ ap (λ j. get_or items j x) here)) (is.each w)

  -- the item of one number is changed
  pub changed_at : (w i : ℕ) (x y : A) (f : B → B) → Stands start see Fits items seen → w < length items → i ≡ w → x ≡ get_or items i x
      → (Fits x → see y ≡ f (see x)) → (Fits x → Fits y) → Stands start see Fits (slice_set items i y) (with_at seen w (f (seen w)))
  changed_at w i x y f is within here stands changes stays = record {
    same = λ n. ap (λ j. kept_at start see (slice_set items j y) n) here ∙ by n (n == w) refl;
    each = each_set Fits items i y (stays fits) is.each;
  }
    where
      fits : Fits x
      fits = fits_at w i x is within here stands

      by : (n : ℕ) (b : Bool) → (n == w) ≡ b → kept_at start see (slice_set items w y) n ≡ (if b then f (seen w) else seen n)
      by n true e = ap (kept_at start see (slice_set items w y)) number ∙ set_same start see items w y within ∙ changes fits ∙ ap f (seen_at w i x is within here stands)
        where
          number : n ≡ w
          number = grind (arith, nat_tests)
      by n false e = set_other start see items w n y other ∙ is.same n
        where
          other : n ≢ w
          other = λ g. grind (arith, nat_tests)
