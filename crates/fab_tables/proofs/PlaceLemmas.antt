-- Where the first name of a text stands, as names are pushed.
use Rattle.std.proofs.Common.{◌≡◌, ℕ, ◌≤◌, suc, Bool, true, false, cond, not, List, [], ◌∷◌, ◌++◌, length, map, Option, Some, None, refl, sym, subst, ap, ◌∙◌, arith, slice_get, Bor}
use Rattle.std.specs.List.{position}
use Rattle.std.specs.Map.{update}
use Rattle.std.specs.Option.{is_none, is_some, unwrap_or, option_map, option_and_then, option_copied}
use Rattle.std.specs.Str.{bytes_eq}
use Rattle.std.proofs.lemmas.Bool.Decides.{nat_tests}
use Rattle.std.proofs.lemmas.List.{map-append, length-map}
use Rattle.std.proofs.lemmas.Slice.Eq.{bytes_eq-Decides}
use Rattle.fab_tree.specs.declared.name.Name.{Name}
use Rattle.fab_language.specs.Names.{named, number_of, is_same_name}
use Rattle.fab_tables.specs.Places.{texts_of, place_of}

-- ---- the first place that passes

module _ {A : Type 0} (p : A → Bool) where
  pub place_cons : (x : A) (xs : List A) → position p (x ∷ xs) ≡ cond (p x) (Some 0) (option_map suc (position p xs))
  place_cons x xs = grind (arith, nat_tests)

  abbrev past : Bool → ℕ → Option ℕ
  past b n = cond b (Some n) None

  -- with one more behind
  place_push : (xs : List A) (y : A) → position p (xs ++ y ∷ []) ≡ cond (is_none (position p xs)) (past (p y) (length xs)) (position p xs)
  place_push [] y = grind (arith, nat_tests)
  place_push (x ∷ xs) y = place_cons x (xs ++ y ∷ []) ∙ ap (λ o. cond (p x) (Some 0) (option_map suc o)) (place_push xs y) ∙ by (p x) (position p xs) ∙ ap (λ o. cond (is_none o) (past (p y) (suc (length xs))) o) (sym (place_cons x xs))
    where
      by : (b : Bool) (o : Option ℕ) → cond b (Some 0) (option_map suc (cond (is_none o) (past (p y) (length xs)) o)) ≡ cond (is_none (cond b (Some 0) (option_map suc o))) (past (p y) (suc (length xs))) (cond b (Some 0) (option_map suc o))
      by true o = refl
      by false None = last (p y)
        where
          last : (b : Bool) → option_map suc (past b (length xs)) ≡ past b (suc (length xs))
          last true = refl
          last false = refl
      by false (Some n) = refl

-- ---- a table, as a function from texts to places

abbrev pub Finds : (List ℕ → Option ℕ) → List (List ℕ) → Type 0
Finds find names = (q : List ℕ) → find q ≡ place_of names q

-- a text that is there already
pub pushed_again : (find : List ℕ → Option ℕ) (names : List (List ℕ)) (k : List ℕ) → Finds find names → is_none (place_of names k) ≡ false → Finds find (names ++ k ∷ [])
pushed_again find names k h there q = h q ∙ by (bytes_eq k q) refl ∙ sym (place_push (λ t. bytes_eq t q) names k)
  where
    by : (b : Bool) → bytes_eq k q ≡ b → place_of names q ≡ cond (is_none (place_of names q)) (cond b (Some (length names)) None) (place_of names q)
    by true e = let same : k ≡ q = (bytes_eq-Decides k q).0 e in ap (λ b. cond b (Some (length names)) (place_of names q)) (sym (ap (λ t. is_none (place_of names t)) (sym same) ∙ there))
    by false e = other (place_of names q)
      where
        other : (o : Option ℕ) → o ≡ cond (is_none o) None o
        other None = refl
        other (Some n) = refl

-- a new one, which gets the next place
pub pushed_new : (find new : List ℕ → Option ℕ) (names : List (List ℕ)) (k : List ℕ) (n : ℕ) → Finds find names → is_none (place_of names k) ≡ true → n ≡ length names → ((q : List ℕ) → new q ≡ update bytes_eq find k (Some n) q) → Finds new (names ++ k ∷ [])
pushed_new find new names k n h fresh next u q = u q ∙ by (bytes_eq k q) refl ∙ sym (place_push (λ t. bytes_eq t q) names k)
  where
    by : (b : Bool) → bytes_eq k q ≡ b → cond b (Some n) (find q) ≡ cond (is_none (place_of names q)) (cond b (Some (length names)) None) (place_of names q)
    by true e =
        let same : k ≡ q = (bytes_eq-Decides k q).0 e in
        ap Some next ∙ ap (λ b. cond b (Some (length names)) (place_of names q)) (sym (ap (λ t. is_none (place_of names t)) (sym same) ∙ fresh))
    by false e = h q ∙ other (place_of names q)
      where
        other : (o : Option ℕ) → o ≡ cond (is_none o) None o
        other None = refl
        other (Some m) = refl

-- ---- the place of a name is its number, where it has one

module _ {A : Type 0} (name : A → Name) (x : Name) where
  abbrev pub place : List A → Option ℕ
  place items = place_of (texts_of name items) x.text

  cons : (y : A) (ys : List A) → place (y ∷ ys) ≡ cond (is_same_name (name y) x) (Some 0) (option_map suc (place ys))
  cons y ys = place_cons (λ t. bytes_eq t x.text) (name y).text (texts_of name ys)

  -- the same by a scan
  pub place_items : (items : List A) → position (λ y. is_same_name (name y) x) items ≡ place items
  place_items [] = refl
  place_items (y ∷ ys) =
      place_cons (λ z. is_same_name (name z) x) y ys ∙ ap (λ o. cond (is_same_name (name y) x) (Some 0) (option_map suc o)) (place_items ys) ∙ sym (cons y ys)

  pub number_at : (items : List A) → unwrap_or (place items) (length items) ≡ number_of name items x
  number_at [] = grind arith
  number_at (y ∷ ys) = ap (λ o. unwrap_or o (suc (length ys))) (cons y ys) ∙ by (is_same_name (name y) x) (place ys) (number_at ys)
    where
      by : (b : Bool) (o : Option ℕ) → unwrap_or o (length ys) ≡ number_of name ys x → unwrap_or (cond b (Some 0) (option_map suc o)) (suc (length ys)) ≡ cond b 0 (suc (number_of name ys x))
      by true o h = refl
      by false None h = ap suc h
      by false (Some n) h = ap suc h

  pub item_at : (items : List A) → option_and_then (slice_get items) (place items) ≡ named name items x
  item_at [] = grind arith
  item_at (y ∷ ys) = ap (option_and_then (slice_get (y ∷ ys))) (cons y ys) ∙ by (is_same_name (name y) x) (place ys) (item_at ys)
    where
      by : (b : Bool) (o : Option ℕ) → option_and_then (slice_get ys) o ≡ named name ys x → option_and_then (slice_get (y ∷ ys)) (cond b (Some 0) (option_map suc o)) ≡ cond b (Some y) (named name ys x)
      by true o h = refl
      by false None h = h
      by false (Some n) h = h

  pub number_within : (items : List A) → number_of name items x ≤ length items
  number_within [] = omega arith
  number_within (y ∷ ys) = by (is_same_name (name y) x) (number_within ys)
    where
      by : (b : Bool) → number_of name ys x ≤ length ys → cond b 0 (suc (number_of name ys x)) ≤ suc (length ys)
      by true h = omega arith
      by false h = omega (arith, h)

-- ---- one more text behind those that a table has

-- the texts that are borrowed
abbrev pub read : List (Bor (List ℕ)) → List (List ℕ)
read ns = map (λ n. n.now) ns

module _ (find : List ℕ → Option ℕ) (ns kept after : List (Bor (List ℕ))) (k : Bor (List ℕ)) (r : Option (Bor ℕ)) (h : Finds find (read ns)) (was : option_copied r ≡ find k.now) (same : kept ≡ ns) (push : after ≡ kept ++ k ∷ []) where
  seen : is_none (place_of (read ns) k.now) ≡ not (is_some r)
  seen = ap is_none (sym (was ∙ h k.now)) ∙ by r
    where
      by : (o : Option (Bor ℕ)) → is_none (option_copied o) ≡ not (is_some o)
      by None = refl
      by (Some x) = refl

  pushed : read ns ++ k.now ∷ [] ≡ read after
  pushed = sym (ap read (push ∙ ap (λ l. l ++ k ∷ []) same) ∙ map-append (λ n. n.now) ns (k ∷ []))

  pub again : is_some r ≡ true → Finds find (read after)
  again there = subst (Finds find) pushed (pushed_again find (read ns) k.now h (seen ∙ ap not there))

  pub once : (new : List ℕ → Option ℕ) (n : ℕ) → is_some r ≡ false → n ≡ length kept → ((q : List ℕ) → new q ≡ update bytes_eq find k.now (Some n) q) → Finds new (read after)
  once new n fresh next u =
      let count : n ≡ length (read ns) = next ∙ ap length same ∙ sym (length-map ns (λ n. n.now)) in
      subst (Finds new) pushed (pushed_new find new (read ns) k.now n h (seen ∙ ap not fresh) count u)
