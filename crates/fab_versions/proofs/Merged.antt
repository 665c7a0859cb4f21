-- Rows in the order of names, and others put among them.
use Rattle.std.proofs.Common.{◌≡◌, ◌⊎◌, inl, inr, Bool, true, false, cond, if◌then◌else◌, IsTrue, List, [], ◌∷◌, ◌++◌, Option, Some, None, unwrap_or, refl, sym, subst, ap, ◌∙◌, append-nil, append_assoc}
use Rattle.std.specs.Option.{option_or}
use Rattle.fab_base.specs.declared.object.Oid.{Oid}
use Rattle.fab_base.specs.FlatMap.{is_before, is_same}
use Rattle.fab_base.proofs.Names.{same_self}
use Rattle.fab_base.proofs.NameOrder.{one_name, cases_name}
use Rattle.fab_protocol.specs.Tables.{row_of, placed, placed_all, ascends}
use Rattle.fab_protocol.proofs.TableLaws.{leads, parted, row_here, row_past, headed, row_of_before, row_of_behind, row_of_placed, ascends_placed, ascends_placed_all, ascends_parts, placed_behind}

module _ {R : Type 0} (name : R → Oid) where
  -- ---- rows are told by the row of each name

  -- behind a row there is none of its name
  behind : (x : R) (xs : List R) (o : Oid) → IsTrue (ascends name (x ∷ xs)) → name x ≡ o → row_of name xs o ≡ None
  behind x xs o h e =
      let g = parted name x xs h in
      row_of_before name xs o (subst (λ p. IsTrue (leads name p xs)) e g.0) g.1

  heads : (x y : R) (xs ys : List R) → IsTrue (ascends name (x ∷ xs)) → IsTrue (ascends name (y ∷ ys))
      → ((o : Oid) → row_of name (x ∷ xs) o ≡ row_of name (y ∷ ys) o) → Some x ≡ Some y
  heads x y xs ys h g same = by_cases (cases_name (name x) (name y))
    where
      mine : Some x ≡ row_of name (y ∷ ys) (name x)
      mine = sym (row_here name x xs (name x) (same_self (name x))) ∙ same (name x)

      other : Some y ≡ row_of name (x ∷ xs) (name y)
      other = sym (row_here name y ys (name y) (same_self (name y))) ∙ sym (same (name y))

      by_cases : (is_before (name x) (name y) ≡ true) ⊎ ((name x ≡ name y) ⊎ (is_before (name y) (name x) ≡ true)) → Some x ≡ Some y
      by_cases (inl e) = let no : Some x ≡ None = mine ∙ row_of_before name (y ∷ ys) (name x) e g in cc
      by_cases (inr (inl e)) = mine ∙ row_here name y ys (name x) (ap (λ n. is_same n (name x)) (sym e) ∙ same_self (name x))
      by_cases (inr (inr e)) = let no : Some y ≡ None = other ∙ row_of_before name (x ∷ xs) (name y) e h in cc

  tails : (x y : R) (xs ys : List R) → IsTrue (ascends name (x ∷ xs)) → IsTrue (ascends name (y ∷ ys)) → x ≡ y
      → (o : Oid) → row_of name (x ∷ xs) o ≡ row_of name (y ∷ ys) o → row_of name xs o ≡ row_of name ys o
  tails x y xs ys h g e o same = by_test (is_same (name x) o) refl
    where
      by_test : (b : Bool) → is_same (name x) o ≡ b → row_of name xs o ≡ row_of name ys o
      by_test true k = behind x xs o h (one_name (name x) o k) ∙ sym (behind y ys o g (sym (ap name e) ∙ one_name (name x) o k))
      by_test false k = sym (row_past name x xs o k) ∙ same ∙ row_past name y ys o (ap (λ r. is_same (name r) o) (sym e) ∙ k)

  pub one_table : (xs ys : List R) → IsTrue (ascends name xs) → IsTrue (ascends name ys)
      → ((o : Oid) → row_of name xs o ≡ row_of name ys o) → xs ≡ ys
  one_table [] [] h g same = refl
  one_table [] (y ∷ ys) h g same = let no : None ≡ Some y = same (name y) ∙ row_here name y ys (name y) (same_self (name y)) in cc
  one_table (x ∷ xs) [] h g same = let no : None ≡ Some x = sym (same (name x)) ∙ row_here name x xs (name x) (same_self (name x)) in cc
  one_table (x ∷ xs) (y ∷ ys) h g same =
      let e : x ≡ y = ap (λ s. unwrap_or s x) (heads x y xs ys h g same) in
      let rest : xs ≡ ys = one_table xs ys (parted name x xs h).1 (parted name y ys g).1 (λ o. tails x y xs ys h g e o (same o)) in
      ap (λ r. r ∷ xs) e ∙ ap (λ rs. y ∷ rs) rest

  -- ---- some rows beside others

  -- the row of a name is the one beside, or else the one among the others
  pub merged_row : (beside rows : List R) (o : Oid) → IsTrue (ascends name beside)
      → row_of name (placed_all name beside rows) o ≡ option_or (row_of name beside o) (row_of name rows o)
  merged_row [] rows o h = refl
  merged_row (b ∷ beside) rows o h =
      merged_row beside (placed name b rows) o (parted name b beside h).1
      ∙ ap (option_or (row_of name beside o)) (row_of_placed name b rows o)
      ∙ by_test (is_same (name b) o) refl
    where
      by_test : (s : Bool) → is_same (name b) o ≡ s → option_or (row_of name beside o) (if s then Some b else row_of name rows o)
          ≡ option_or (cond s (Some b) (row_of name beside o)) (row_of name rows o)
      by_test true e = ap (λ r. option_or r (Some b)) (behind b beside o h (one_name (name b) o e))
      by_test false e = refl

  -- a row that is put beside is put into the whole
  pub put_beside : (r : R) (beside rows : List R) → IsTrue (ascends name beside) → IsTrue (ascends name rows)
      → placed_all name (placed name r beside) rows ≡ placed name r (placed_all name beside rows)
  put_beside r beside rows h g =
      one_table (placed_all name (placed name r beside) rows) (placed name r (placed_all name beside rows))
      (ascends_placed_all name (placed name r beside) rows g)
      (ascends_placed name r (placed_all name beside rows) (ascends_placed_all name beside rows g))
      (λ o.
      merged_row (placed name r beside) rows o (ascends_placed name r beside h)
      ∙ ap (λ s. option_or s (row_of name rows o)) (row_of_placed name r beside o)
      ∙ over (is_same (name r) o) (row_of name beside o) (row_of name rows o)
      ∙ ap (λ s. if is_same (name r) o then Some r else s) (sym (merged_row beside rows o h))
      ∙ sym (row_of_placed name r (placed_all name beside rows) o))
    where
      over : (b : Bool) (x y : Option R) → option_or (if b then Some r else x) y ≡ (if b then Some r else option_or x y)
      over true x y = refl
      over false x y = refl

  -- so is one that is put among the others, where none of its name stands beside
  pub put_among : (r : R) (beside rows : List R) → IsTrue (ascends name beside) → IsTrue (ascends name rows) → row_of name beside (name r) ≡ None
      → placed_all name beside (placed name r rows) ≡ placed name r (placed_all name beside rows)
  put_among r beside rows h g none =
      one_table (placed_all name beside (placed name r rows)) (placed name r (placed_all name beside rows))
      (ascends_placed_all name beside (placed name r rows) (ascends_placed name r rows g))
      (ascends_placed name r (placed_all name beside rows) (ascends_placed_all name beside rows g))
      (λ o.
      merged_row beside (placed name r rows) o h
      ∙ ap (option_or (row_of name beside o)) (row_of_placed name r rows o)
      ∙ over o (is_same (name r) o) refl
      ∙ ap (λ s. if is_same (name r) o then Some r else s) (sym (merged_row beside rows o h))
      ∙ sym (row_of_placed name r (placed_all name beside rows) o))
    where
      over : (o : Oid) (b : Bool) → is_same (name r) o ≡ b → option_or (row_of name beside o) (if b then Some r else row_of name rows o)
          ≡ (if b then Some r else option_or (row_of name beside o) (row_of name rows o))
      over o true e = ap (λ s. option_or s (Some r)) (ap (row_of name beside) (sym (one_name (name r) o e)) ∙ none)
      over o false e = refl

  -- ---- rows in their order

  -- rows in the order of their names go one behind the other
  one_by_one : (xs ys : List R) → IsTrue (ascends name (xs ++ ys)) → placed_all name ys xs ≡ xs ++ ys
  one_by_one xs [] h = sym (append-nil xs)
  one_by_one xs (y ∷ ys) h =
      let here : placed name y xs ≡ xs ++ y ∷ [] =
      ap (placed name y) (sym (append-nil xs)) ∙ placed_behind name y xs [] (ascends_parts name xs ys y h).0 in
      let same : (xs ++ y ∷ []) ++ ys ≡ xs ++ y ∷ ys = append_assoc xs (y ∷ []) ys in
      ap (placed_all name ys) here ∙ one_by_one (xs ++ y ∷ []) ys (subst (λ zs. IsTrue (ascends name zs)) (sym same) h) ∙ same

  -- put into an empty table they are the table
  pub placed_again : (rows : List R) → IsTrue (ascends name rows) → placed_all name rows [] ≡ rows
  placed_again rows h = one_by_one [] rows h

  -- ---- the last of rows in their order

  pub ascends_front : (xs ys : List R) → IsTrue (ascends name (xs ++ ys)) → IsTrue (ascends name xs)
  ascends_front [] ys h = refl
  ascends_front (x ∷ xs) ys h =
      let g = parted name x (xs ++ ys) h in
      headed name x xs (led xs g.0) (ascends_front xs ys g.1)
    where
      led : (zs : List R) → IsTrue (leads name (name x) (zs ++ ys)) → IsTrue (leads name (name x) zs)
      led [] k = refl
      led (z ∷ zs) k = k

  module _ (xs : List R) (r : R) (h : IsTrue (ascends name (xs ++ r ∷ []))) where
    pub last_placed : xs ++ r ∷ [] ≡ placed name r xs
    last_placed = sym (ap (placed name r) (sym (append-nil xs)) ∙ placed_behind name r xs [] (ascends_parts name xs [] r h).0)

    pub last_alone : row_of name xs (name r) ≡ None
    last_alone = ap (λ l. row_of name l (name r)) (sym (append-nil xs)) ∙ row_of_behind name xs [] (name r) (ascends_parts name xs [] r h).0
