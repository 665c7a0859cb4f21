-- Which names were noted, and what is left of the names that are declared twice.
use Rattle.std.proofs.Common.{◌≡◌, ℕ, ◌+◌, ◌<◌, suc, Bool, true, false, List, [], ◌∷◌, ◌++◌, length, get_or, take, drop, filter, Option, refl, sym, subst, ap, ◌∙◌, Bor, if◌then◌else◌, not, ◌||◌, drop-cons, add-one}
use Rattle.std.specs.BTreeMap.{is_at}
use Rattle.std.specs.BTreeSet.{BTreeSet, insert_key}
use Rattle.std.specs.Cmp.Lexicographic.{slice_cmp}
use Rattle.std.specs.List.{list_any}
use Rattle.std.specs.Ordering.{is_eq, nat_cmp, match_ordering}
use Rattle.std.specs.declared.cmp.Ordering.{Ordering}
use Rattle.std.specs.declared.cmp.Ordering.TheVariants.{Less, Equal, Greater}
use Rattle.std.specs.Str.{bytes_eq}
use Rattle.std.proofs.lemmas.List.{append-nil, take_more}
use Rattle.std.proofs.lemmas.List.Elements.{filter-append}
use Rattle.std.proofs.lemmas.List.Folds.{list_any-append}
use Rattle.std.proofs.lemmas.Map.Text.{is_eq-slice_cmp}
use Rattle.std.proofs.lemmas.Slice.Eq.{bytes_eq-Decides}
use Rattle.fab_tree.specs.declared.name.Name.{Name}
use Rattle.fab_language.specs.declared.rule.Fault.{Fault}
use Rattle.fab_language.specs.declared.rule.NameRule.TheVariants.{Doubled}
use Rattle.fab_language.specs.Doubled.{repeats_behind}
use Rattle.fab_rules.specs.First.{first_from}
use Rattle.fab_rules.proofs.Firsts.{in_parts}
use Rattle.fab_spaces.specs.Repeats.{is_noted}

-- ---- tests

same_test : (a b : Bool) → (a ≡ true → b ≡ true) → (b ≡ true → a ≡ true) → a ≡ b
same_test true b f g = sym (f refl)
same_test false true f g = g refl
same_test false false f g = refl

flips : (a b : List ℕ) → bytes_eq a b ≡ bytes_eq b a
flips a b =
    same_test (bytes_eq a b) (bytes_eq b a)
    (λ h. (bytes_eq-Decides b a).1 (sym ((bytes_eq-Decides a b).0 h)))
    (λ h. (bytes_eq-Decides a b).1 (sym ((bytes_eq-Decides b a).0 h)))

once : (a r : Bool) → (a || r) ≡ (a || (a || r))
once true r = refl
once false r = refl

exchanged : (a b r : Bool) → (a || (b || r)) ≡ (b || (a || r))
exchanged true true r = refl
exchanged true false r = refl
exchanged false b r = refl

last : (a r : Bool) → (a || r) ≡ (r || (a || false))
last true true = refl
last true false = refl
last false true = refl
last false false = refl

unless : {A : Type 0} (b : Bool) (xs ys : List A) → (if not b then xs else ys) ≡ (if b then ys else xs)
unless true xs ys = refl
unless false xs ys = refl

-- ---- the set of names

abbrev in_order : Bor (List ℕ) → Bor (List ℕ) → Ordering
in_order x y = slice_cmp nat_cmp x.now y.now

is_there : (k : Bor (List ℕ)) (ks : List (Bor (List ℕ))) → list_any (is_at (in_order k)) ks ≡ list_any (λ y. bytes_eq y.now k.now) ks
is_there k [] = refl
is_there k (x ∷ xs) = ap (λ b. b || list_any (is_at (in_order k)) xs) (is_eq-slice_cmp k.now x.now ∙ flips k.now x.now) ∙ ap (λ b. bytes_eq x.now k.now || b) (is_there k xs)

module _ (q : List ℕ) (k : Bor (List ℕ)) where
  abbrev among : List (Bor (List ℕ)) → Bool
  among = list_any (λ y. bytes_eq y.now q)

  one_there : (x : Bor (List ℕ)) (o : Ordering) → in_order k x ≡ o → is_eq o ≡ true → bytes_eq k.now q ≡ bytes_eq x.now q
  one_there x o e h = ap (λ t. bytes_eq t q) ((bytes_eq-Decides k.now x.now).0 (sym (is_eq-slice_cmp k.now x.now) ∙ ap is_eq e ∙ h))

  placed : (ks : List (Bor (List ℕ))) → among (insert_key in_order ks k) ≡ (bytes_eq k.now q || among ks)
  placed [] = refl
  placed (x ∷ xs) = by (placed xs) (in_order k x) refl
    where
      by : among (insert_key in_order xs k) ≡ (bytes_eq k.now q || among xs) → (o : Ordering) → in_order k x ≡ o → among (match_ordering o (k ∷ x ∷ xs) (x ∷ xs) (x ∷ insert_key in_order xs k)) ≡ (bytes_eq k.now q || among (x ∷ xs))
      by r Less e = refl
      by r Equal e = let h = one_there x Equal e refl in once (bytes_eq x.now q) (among xs) ∙ ap (λ b. b || among (x ∷ xs)) (sym h)
      by r Greater e = ap (λ b. bytes_eq x.now q || b) r ∙ exchanged (bytes_eq x.now q) (bytes_eq k.now q) (among xs)

-- one more name
module _ (old new : BTreeSet (Bor (List ℕ))) (k : Bor (List ℕ)) (text : List ℕ) (same : k.now ≡ text) where
  pub one_more : new.keys ≡ insert_key in_order old.keys k → (q : List ℕ) → is_noted new q ≡ (bytes_eq text q || is_noted old q)
  one_more h q = ap (list_any (λ y. bytes_eq y.now q)) h ∙ placed q k old.keys ∙ ap (λ t. bytes_eq t q || is_noted old q) same

  pub told : (is_new : Bool) (first result : Option Fault) (fs : List Fault) → is_new ≡ not (list_any (is_at (in_order k)) old.keys) → result ≡ first_from first (if is_new then [] else fs) → result ≡ first_from first (if is_noted old text then fs else [])
  told is_new first result fs n r =
      r ∙ ap (λ b. first_from first (if b then [] else fs)) (n ∙ ap not (is_there k old.keys ∙ ap (is_noted old) same)) ∙ ap (first_from first) (unless (is_noted old text) [] fs)

-- what a name comes to
abbrev if_noted : BTreeSet (Bor (List ℕ)) → Name → List Fault
if_noted seen x = if is_noted seen x.text then record { rule = Doubled; at = x.at } ∷ [] else []

-- of two names that are one
pub renamed : (old new : BTreeSet (Bor (List ℕ))) (first next : Option Fault) (x y : Name) → x ≡ y → next ≡ first_from first (if_noted old x) → ((q : List ℕ) → is_noted new q ≡ (bytes_eq x.text q || is_noted old q)) → (next ≡ first_from first (if_noted old y)) × ((q : List ℕ) → is_noted new q ≡ (bytes_eq y.text q || is_noted old q))
renamed old new first next x y e n m = (n ∙ ap (λ z. first_from first (if_noted old z)) e, λ q. m q ∙ ap (λ z. bytes_eq z.text q || is_noted old q) e)

-- ---- what is declared

-- the names of those in front are noted, and what is left of the names that are declared twice
pub record Goes {A : Type 0} (name : A → Name) (seen : BTreeSet (Bor (List ℕ))) (front rest : List A) (first whole : Option Fault) : Type 0 where
  pub noted : (q : List ℕ) → is_noted seen q ≡ list_any (λ y. bytes_eq (name y).text q) front
  pub left : first_from first (repeats_behind name front rest) ≡ whole

module _ {A : Type 0} (name : A → Name) where
  goes_on : (old new : BTreeSet (Bor (List ℕ))) (x : A) (front rest : List A) (first next whole : Option Fault) → Goes name old front (x ∷ rest) first whole → next ≡ first_from first (if_noted old (name x)) → ((q : List ℕ) → is_noted new q ≡ (bytes_eq (name x).text q || is_noted old q)) → Goes name new (front ++ x ∷ []) rest next whole
  goes_on old new x front rest first next whole h n m = record {
    noted = λ q.
        m q ∙ ap (λ b. bytes_eq (name x).text q || b) (h.noted q) ∙ last (bytes_eq (name x).text q) (list_any (λ y. bytes_eq (name y).text q) front)
        ∙ sym (list_any-append (λ y. bytes_eq (name y).text q) front (x ∷ []));
    left =
        ap (λ a. first_from a (repeats_behind name (front ++ x ∷ []) rest)) (n ∙ ap (λ (b : Bool). first_from first (if b then record { rule = Doubled; at = (name x).at } ∷ [] else [])) (h.noted (name x).text))
        ∙ sym (in_parts first (if list_any (λ y. bytes_eq (name y).text (name x).text) front then record { rule = Doubled; at = (name x).at } ∷ [] else []) (repeats_behind name (front ++ x ∷ []) rest)) ∙ h.left;
  }

  -- in a loop over all
  module _ (xs : List A) (i : ℕ) (x : A) (within : i < length xs) (is : x ≡ get_or xs i x) where
    rest_is : drop i xs ≡ x ∷ drop (i + 1) xs
    rest_is = drop-cons xs i x within ∙ ap (λ y. y ∷ drop (suc i) xs) (sym is) ∙ rw add-one refl

    front_is : take i xs ++ x ∷ [] ≡ take (i + 1) xs
    front_is = ap (λ y. take i xs ++ y ∷ []) is ∙ sym (take_more xs i x within)

    pub next_item : (old new : BTreeSet (Bor (List ℕ))) (first next whole : Option Fault) → Goes name old (take i xs) (drop i xs) first whole → next ≡ first_from first (if_noted old (name x)) → ((q : List ℕ) → is_noted new q ≡ (bytes_eq (name x).text q || is_noted old q)) → Goes name new (take (i + 1) xs) (drop (i + 1) xs) next whole
    next_item old new first next whole h n m =
        subst (λ l. Goes name new l (drop (i + 1) xs) next whole) front_is
        (goes_on old new x (take i xs) (drop (i + 1) xs) first next whole (subst (λ l. Goes name old (take i xs) l first whole) rest_is h) n m)

    -- where some alone count
    module _ (p : A → Bool) where
      rest_kept : (b : Bool) → p x ≡ b → filter p (drop i xs) ≡ (if b then x ∷ filter p (drop (i + 1) xs) else filter p (drop (i + 1) xs))
      rest_kept b e = ap (filter p) rest_is ∙ ap (λ (b : Bool). if b then x ∷ filter p (drop (i + 1) xs) else filter p (drop (i + 1) xs)) e

      front_kept : (b : Bool) → p x ≡ b → filter p (take (i + 1) xs) ≡ filter p (take i xs) ++ (if b then x ∷ [] else [])
      front_kept b e = sym (ap (filter p) front_is) ∙ filter-append p (take i xs) (x ∷ []) ∙ ap (λ (b : Bool). filter p (take i xs) ++ (if b then x ∷ [] else [])) e

      pub next_kept : (old new : BTreeSet (Bor (List ℕ))) (first next whole : Option Fault)
          → p x ≡ true → Goes name old (filter p (take i xs)) (filter p (drop i xs)) first whole → next ≡ first_from first (if_noted old (name x))
          → ((q : List ℕ) → is_noted new q ≡ (bytes_eq (name x).text q || is_noted old q)) → Goes name new (filter p (take (i + 1) xs)) (filter p (drop (i + 1) xs)) next whole
      next_kept old new first next whole e h n m =
          subst (λ l. Goes name new l (filter p (drop (i + 1) xs)) next whole) (sym (front_kept true e))
          (goes_on old new x (filter p (take i xs)) (filter p (drop (i + 1) xs)) first next whole (subst (λ l. Goes name old (filter p (take i xs)) l first whole) (rest_kept true e) h) n m)

      pub next_left_out : (seen : BTreeSet (Bor (List ℕ))) (first whole : Option Fault) → p x ≡ false → Goes name seen (filter p (take i xs)) (filter p (drop i xs)) first whole → Goes name seen (filter p (take (i + 1) xs)) (filter p (drop (i + 1) xs)) first whole
      next_left_out seen first whole e h =
          subst (λ l. Goes name seen l (filter p (drop (i + 1) xs)) first whole) (sym (append-nil (filter p (take i xs))) ∙ sym (front_kept false e))
          (subst (λ l. Goes name seen (filter p (take i xs)) l first whole) (rest_kept false e) h)

-- of the set and the fault that a choice left
pub chosen : {A : Type 0} (name : A → Name) (seen kept : BTreeSet (Bor (List ℕ))) (front rest : List A) (first next whole : Option Fault) → kept ≡ seen → next ≡ first → Goes name seen front rest first whole → Goes name kept front rest next whole
chosen name seen kept front rest first next whole e f h = subst (λ s. Goes name s front rest next whole) (sym e) (subst (λ a. Goes name seen front rest a whole) (sym f) h)
