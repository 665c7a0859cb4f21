-- Where no name is declared twice, the name of a worker or store tells its number.
use Rattle.std.proofs.Common.{◌≡◌, ℕ, suc, ◌==◌, Bool, true, false, cond, ◌||◌, List, [], ◌∷◌, ◌++◌, length, Option, Some, None, is_some, find, option_map, refl, sym, ap, ◌∙◌, arith}
use Rattle.std.specs.List.{AllByRecursion, flat_map, list_any, filter}
use Rattle.std.specs.Option.{option_and_then}
use Rattle.std.specs.Str.{bytes_eq}
use Rattle.std.proofs.lemmas.Bool.{eqb-true, false≢true, or_parts}
use Rattle.std.proofs.lemmas.Slice.Eq.{bytes_eq-Decides}
use Rattle.fab_base.proofs.Lists.{left_nil, right_nil}
use Rattle.fab_tree.specs.declared.declaration.Node.{Node}
use Rattle.fab_tree.specs.declared.resolved.Principal.{Principal}
use Rattle.fab_tree.specs.declared.start.Start.{Start}
use Rattle.fab_tree.specs.Limits.{is_node}
use Rattle.fab_language.specs.declared.rule.Fault.{Fault}
use Rattle.fab_language.specs.declared.rule.NameRule.TheVariants.{Doubled}
use Rattle.fab_language.specs.Arity.{miscounted}
use Rattle.fab_language.specs.Doubled.{doubled, in_class, in_method, is_workers, repeats, repeats_behind}
use Rattle.fab_language.specs.Faults.{faults}
use Rattle.fab_language.specs.Names.{class_name, is_same_name, label_name, method_name, node_name, root_name, session_name}
use Rattle.fab_language.specs.Numbers.{principal_of, principals_from, resolved}
use Rattle.fab_language.specs.Roles.{misplaced}
use Rattle.fab_language.specs.Types.{mistyped}
use Rattle.fab_language.specs.Unknown.{unknown}
use Rattle.fab_language.specs.Words.{has_number, node_text, text_or}
use Rattle.fab_reports.specs.Showable.{IsNode}
use Rattle.fab_named.proofs.Numbered.{IsAmong}
use Rattle.fab_evidence.specs.Named.{node_named}

-- ---- names that are declared once

-- what no element of a list meets, with one more at its end
any_parts : {A : Type 0} (test : A → Bool) (xs : List A) (x : A) → list_any test (xs ++ x ∷ []) ≡ false → (list_any test xs ≡ false) × (test x ≡ false)
any_parts test [] x e = (refl, (or_parts (test x) false e).0)
any_parts test (y ∷ ys) x e =
    let p = or_parts (test y) (list_any test (ys ++ x ∷ [])) e in
    let q = any_parts test ys x p.1 in
    (ap (λ b. b || list_any test ys) p.0 ∙ q.0, q.1)

-- where there is no fault, no earlier one has the name
none_before : (b : Bool) (x : Fault) (rest : List Fault) → cond b (x ∷ []) [] ++ rest ≡ [] → b ≡ false
none_before true x rest e = absurd (omega (arith, ap length e))
none_before false x rest e = refl

-- x has another name than each of these
abbrev IsOther : Node → List Node → Type 0
IsOther x xs = AllByRecursion (λ y. bytes_eq x.name.text y.name.text ≡ false) xs

-- who stands in front has another name than each behind
other_behind : (x : Node) (front xs : List Node) → ((test : Node → Bool) → list_any test front ≡ false → test x ≡ false)
    → repeats_behind node_name front xs ≡ [] → IsOther x xs
other_behind x front [] in_front e = tt
other_behind x front (y ∷ ys) in_front e =
    let b = list_any (λ z. is_same_name (node_name z) (node_name y)) front in
    let f : Fault = record { rule = Doubled; at = (node_name y).at } in
    let behind = right_nil (cond b (f ∷ []) []) (repeats_behind node_name (front ++ y ∷ []) ys) e in (
      in_front (λ z. is_same_name (node_name z) (node_name y)) (none_before b f (repeats_behind node_name (front ++ y ∷ []) ys) e),
      other_behind x (front ++ y ∷ []) ys (λ test none. in_front test (any_parts test front y none).0) behind,
    )

-- ---- the name of a number, and the number of a name

-- the number of the first that has this name, if there is one and it has a number
abbrev number_in : List Principal → List ℕ → Option ℕ
number_in [] text = None
number_in (x ∷ xs) text = cond (bytes_eq x.name.text text) x.node (number_in xs text)

named_is : (xs : List Principal) (text : List ℕ) → option_and_then (λ x. x.node) (find (λ x. bytes_eq x.name.text text) xs) ≡ number_in xs text
named_is [] text = refl
named_is (x ∷ xs) text = by (named_is xs text) (bytes_eq x.name.text text)
  where
    by : option_and_then (λ (y : Principal). y.node) (find (λ y. bytes_eq y.name.text text) xs) ≡ number_in xs text → (b : Bool)
        → option_and_then (λ (y : Principal). y.node) (cond b (Some x) (find (λ y. bytes_eq y.name.text text) xs)) ≡ cond b x.node (number_in xs text)
    by later true = refl
    by later false = later

-- the name of the first that has this number
abbrev text_in : List Principal → ℕ → List ℕ
text_in xs n = text_or [] (option_map (λ x. x.name.text) (find (λ x. has_number n x.node) xs))

-- what holds of each name holds of that
of_text : (P : List ℕ → Type 0) (xs : List Node) (k n : ℕ) → AllByRecursion (λ x. P x.name.text) xs → IsAmong (principals_from k xs) n → P (text_in (principals_from k xs) n)
of_text P [] k n h is = absurd (false≢true is)
of_text P (x ∷ xs) k n h is = by (is_node x.role) is (λ j. of_text P xs j n h.1)
  where
    at : (b : Bool) → is_some (cond b (Some (principal_of k x)) (find (λ y. has_number n y.node) (principals_from (suc k) xs))) ≡ true
        → ((j : ℕ) → IsAmong (principals_from j xs) n → P (text_in (principals_from j xs) n))
        → P (text_or [] (option_map (λ (y : Principal). y.name.text) (cond b (Some (principal_of k x)) (find (λ y. has_number n y.node) (principals_from (suc k) xs)))))
    at true g later = h.0
    at false g later = later (suc k) g

    by : (b : Bool) → is_some (cond (has_number n (cond b (Some k) None)) (Some (principal_of k x)) (find (λ y. has_number n y.node) (principals_from (cond b (suc k) k) xs))) ≡ true
        → ((j : ℕ) → IsAmong (principals_from j xs) n → P (text_in (principals_from j xs) n))
        → P (text_or [] (option_map (λ (y : Principal). y.name.text) (cond (has_number n (cond b (Some k) None)) (Some (principal_of k x)) (find (λ y. has_number n y.node) (principals_from (cond b (suc k) k) xs)))))
    by true g later = at (n == k) g later
    by false g later = later k g

-- the name that is told, that of the first if b
abbrev told : Principal → List Principal → ℕ → Bool → List ℕ
told x xs n b = text_or [] (option_map (λ y. y.name.text) (cond b (Some x) (find (λ y. has_number n y.node) xs)))

-- the number of the name of a number is that number, where no name repeats one in front of it
number_back : (xs front : List Node) (k n : ℕ) → repeats_behind node_name front xs ≡ [] → IsAmong (principals_from k xs) n
    → number_in (principals_from k xs) (text_in (principals_from k xs) n) ≡ Some n
number_back [] front k n e is = absurd (false≢true is)
number_back (x ∷ xs) front k n e is = by (is_node x.role) is (λ j. number_back xs (front ++ x ∷ []) j n behind)
  where
    behind : repeats_behind node_name (front ++ x ∷ []) xs ≡ []
    behind =
        let b = list_any (λ z. is_same_name (node_name z) (node_name x)) front in
        let f : Fault = record { rule = Doubled; at = (node_name x).at } in
        right_nil (cond b (f ∷ []) []) (repeats_behind node_name (front ++ x ∷ []) xs) e

    others : IsOther x xs
    others = other_behind x (front ++ x ∷ []) xs (λ test none. (any_parts test front x none).1) behind

    -- the name that is found behind is another one
    skips : (d : Option ℕ) (j : ℕ) → IsAmong (principals_from j xs) n
        → (IsAmong (principals_from j xs) n → number_in (principals_from j xs) (text_in (principals_from j xs) n) ≡ Some n)
        → cond (bytes_eq x.name.text (text_in (principals_from j xs) n)) d (number_in (principals_from j xs) (text_in (principals_from j xs) n)) ≡ Some n
    skips d j g later =
        ap (λ b. cond b d (number_in (principals_from j xs) (text_in (principals_from j xs) n))) (of_text (λ t. bytes_eq x.name.text t ≡ false) xs j n others g)
        ∙ later g

    at : (b : Bool) → (n == k) ≡ b → is_some (cond b (Some (principal_of k x)) (find (λ y. has_number n y.node) (principals_from (suc k) xs))) ≡ true
        → ((j : ℕ) → IsAmong (principals_from j xs) n → number_in (principals_from j xs) (text_in (principals_from j xs) n) ≡ Some n)
        → cond (bytes_eq x.name.text (told (principal_of k x) (principals_from (suc k) xs) n b)) (Some k) (number_in (principals_from (suc k) xs) (told (principal_of k x) (principals_from (suc k) xs) n b)) ≡ Some n
    at true same g later =
        ap (λ b. cond b (Some k) (number_in (principals_from (suc k) xs) x.name.text)) ((bytes_eq-Decides x.name.text x.name.text).1 refl) ∙ ap Some (sym (eqb-true n k same))
    at false same g later = skips (Some k) (suc k) g (later (suc k))

    by : (b : Bool) → is_some (cond (has_number n (cond b (Some k) None)) (Some (principal_of k x)) (find (λ y. has_number n y.node) (principals_from (cond b (suc k) k) xs))) ≡ true
        → ((j : ℕ) → IsAmong (principals_from j xs) n → number_in (principals_from j xs) (text_in (principals_from j xs) n) ≡ Some n)
        → cond (bytes_eq x.name.text (told (principal_of k x) (principals_from (cond b (suc k) k) xs) n (has_number n (cond b (Some k) None)))) (cond b (Some k) None)
        (number_in (principals_from (cond b (suc k) k) xs) (told (principal_of k x) (principals_from (cond b (suc k) k) xs) n (has_number n (cond b (Some k) None)))) ≡ Some n
    by true g later = at (n == k) refl g later
    by false g later = skips None k g (later k)

-- ---- a bundle without faults

module _ (s : Start) (right : faults s ≡ []) where
  -- no worker, store or other principal repeats a name
  once : repeats node_name s.program.nodes ≡ []
  once =
      let a = repeats node_name s.program.nodes in
      let b = repeats label_name s.program.labels in
      let c = repeats class_name s.program.classes in
      let d = flat_map in_class s.program.classes in
      let f = repeats method_name s.program.methods in
      let g = flat_map in_method s.program.methods in
      let h = repeats root_name s.roots in
      let i = repeats session_name (filter (is_workers s) s.sessions) in
      let two = unknown s ++ doubled s in
      let three = two ++ misplaced s in
      let front = left_nil two (misplaced s) (left_nil three (miscounted s) (left_nil (three ++ miscounted s) (mistyped s) right)) in
      let all : doubled s ≡ [] = right_nil (unknown s) (doubled s) front in
      let seven = left_nil (a ++ b ++ c ++ d ++ f ++ g ++ h) i all in
      let six = left_nil (a ++ b ++ c ++ d ++ f ++ g) h seven in
      let five = left_nil (a ++ b ++ c ++ d ++ f) g six in
      let four = left_nil (a ++ b ++ c ++ d) f five in
      left_nil a b (left_nil (a ++ b) c (left_nil (a ++ b ++ c) d four))

  -- the name of a worker or store tells its number
  pub number_told : (n : ℕ) → IsNode (resolved s) n → node_named (resolved s) (node_text (resolved s) n) ≡ Some n
  number_told n is = named_is (resolved s).nodes (node_text (resolved s) n) ∙ number_back s.program.nodes [] 0 n once is
