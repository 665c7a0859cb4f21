-- The number of a name is that of the first that has it.
use Rattle.std.proofs.Common.{◌≡◌, ◌≢◌, ℕ, zero, suc, ◌<◌, Bool, true, false, cond, List, [], ◌∷◌, map, filter, Some, IsSome, slice_get, refl, sym, ap, ◌∙◌, subst, arith}
use Rattle.std.proofs.lemmas.Slice.Eq.{bytes_eq-Decides}
use Rattle.fab_tree.specs.declared.name.Name.{Name}
use Rattle.fab_tree.specs.declared.declaration.Node.{Node}
use Rattle.fab_tree.specs.declared.program.Method.{Method}
use Rattle.fab_tree.specs.declared.start.Root.{Root}
use Rattle.fab_tree.specs.declared.start.Start.{Start}
use Rattle.fab_tree.specs.declared.resolved.Principal.{Principal}
use Rattle.fab_tree.specs.Limits.{is_node}
use Rattle.fab_language.specs.Names.{named, number_of, is_same_name, node_name}
use Rattle.fab_language.specs.Uses.{nodes_before}
use Rattle.fab_language.specs.MethodNumbers.{method_of, methods_of}
use Rattle.fab_language.specs.Numbers.{principal_of, principals_from, roots_from}
use Rattle.fab_language.proofs.Named.{same_text, before_cons}
use Rattle.fab_numbers.specs.FirstNames.{IsFirst}

other_text : (x y : Name) → is_same_name x y ≡ false → x.text ≢ y.text
other_text x y e h = let t = (bytes_eq-Decides x.text y.text).1 h in absurd (cc)

-- ---- the first of a list

first_here : (x y : Name) (names : List Name) → y.text ≡ x.text → IsFirst (y ∷ names) 0 x
first_here x y names same = record { name = y; there = refl; same = same; first = λ k z below e. absurd (omega (arith, below)) }

first_behind : (x y : Name) (names : List Name) (n : ℕ) → y.text ≢ x.text → IsFirst names n x → IsFirst (y ∷ names) (suc n) x
first_behind x y names n other h = record { name = h.name; there = h.there; same = h.same; first = by }
  where
    by : (k : ℕ) (z : Name) → k < suc n → slice_get (y ∷ names) k ≡ Some z → z.text ≢ x.text
    by zero z below e = let s : y ≡ z = cc in subst (λ w. w.text ≢ x.text) s other
    by (suc k) z below e = h.first k z (omega (arith, below)) e

module _ {A : Type 0} (name : A → Name) (x : Name) where
  pub is_first : (items : List A) → IsSome (named name items x) → IsFirst (map name items) (number_of name items x) x
  is_first [] h = absurd (cc)
  is_first (y ∷ ys) h = by (is_same_name (name y) x) refl h (is_first ys)
    where
      by : (b : Bool) → is_same_name (name y) x ≡ b → IsSome (cond b (Some y) (named name ys x)) → (IsSome (named name ys x) → IsFirst (map name ys) (number_of name ys x) x) → IsFirst (name y ∷ map name ys) (cond b 0 (suc (number_of name ys x))) x
      by true e g later = first_here x (name y) (map name ys) (same_text (name y) x e)
      by false e g later = first_behind x (name y) (map name ys) (number_of name ys x) (other_text (name y) x e) (later g)

  -- what the items become has the same names
  pub first_of : {B : Type 0} (after : B → Name) (items : List A) (made : List B) → map after made ≡ map name items → IsSome (named name items x) → IsFirst (map after made) (number_of name items x) x
  first_of after items made same h = subst (λ l. IsFirst l (number_of name items x) x) (sym same) (is_first items h)

-- ---- names that stay

pub names_of_map : {A B : Type 0} (name : A → Name) (after : B → Name) (f : A → B) → ((y : A) → after (f y) ≡ name y) → (items : List A) → map after (map f items) ≡ map name items
names_of_map name after f same [] = refl
names_of_map name after f same (y ∷ ys) = ap (λ n. n ∷ map after (map f ys)) (same y) ∙ ap (λ l. name y ∷ l) (names_of_map name after f same ys)

pub names_of_principals : (n : ℕ) (nodes : List Node) → map (λ y. y.name) (principals_from n nodes) ≡ map node_name nodes
names_of_principals n [] = refl
names_of_principals n (x ∷ xs) = ap (λ l. x.name ∷ l) (names_of_principals (cond (is_node x.role) (suc n) n) xs)

pub names_of_roots : (s : Start) (n : ℕ) (roots : List Root) → map (λ y. y.name) (roots_from s n roots) ≡ map (λ y. y.name) roots
names_of_roots s n [] = refl
names_of_roots s n (x ∷ xs) = ap (λ l. x.name ∷ l) (names_of_roots s (suc n) xs)

pub names_of_methods : (s : Start) (n : ℕ) (ms : List Method) → map (λ y. y.name) (methods_of s ms n).0 ≡ map (λ y. y.name) ms
names_of_methods s n [] = refl
names_of_methods s n (m ∷ ms) = ap (λ l. m.name ∷ l) (names_of_methods s (method_of s m n).1 ms)

-- ---- nodes among themselves

abbrev nodes_in : List Node → List Node
nodes_in nodes = filter (λ z. is_node z.role) nodes

abbrev principals_in : List Principal → List Principal
principals_in ps = filter (λ z. is_node z.role) ps

pub names_of_nodes : (n : ℕ) (nodes : List Node) → map (λ z. z.name) (principals_in (principals_from n nodes)) ≡ map node_name (nodes_in nodes)
names_of_nodes n [] = refl
names_of_nodes n (x ∷ xs) = by (is_node x.role) (principals_from (cond (is_node x.role) (suc n) n) xs) (names_of_nodes (cond (is_node x.role) (suc n) n) xs)
  where
    by : (b : Bool) (ps : List Principal) → map (λ z. z.name) (principals_in ps) ≡ map node_name (nodes_in xs) → map (λ z. z.name) (cond b (principal_of n x ∷ principals_in ps) (principals_in ps)) ≡ map node_name (cond b (x ∷ nodes_in xs) (nodes_in xs))
    by true ps h = ap (λ l. x.name ∷ l) h
    by false ps h = h

pub first_node : (x : Name) (y : Node) (nodes : List Node) → named node_name nodes x ≡ Some y → is_node y.role ≡ true → IsFirst (map node_name (nodes_in nodes)) (nodes_before (number_of node_name nodes x) nodes) x
first_node x y [] e of = absurd (cc)
first_node x y (z ∷ zs) e of = by (is_same_name z.name x) refl e (λ h. first_node x y zs h of)
  where
    behind : (b : Bool) → z.name.text ≢ x.text → IsFirst (map node_name (nodes_in zs)) (nodes_before (number_of node_name zs x) zs) x → IsFirst (map node_name (cond b (z ∷ nodes_in zs) (nodes_in zs))) (cond b (suc (nodes_before (number_of node_name zs x) zs)) (nodes_before (number_of node_name zs x) zs)) x
    behind true other h = first_behind x z.name (map node_name (nodes_in zs)) (nodes_before (number_of node_name zs x) zs) other h
    behind false other h = h

    here : (b : Bool) → b ≡ true → z.name.text ≡ x.text → IsFirst (map node_name (cond b (z ∷ nodes_in zs) (nodes_in zs))) 0 x
    here true g same = first_here x z.name (map node_name (nodes_in zs)) same
    here false g same = absurd (cc)

    by : (b : Bool) → is_same_name z.name x ≡ b → cond b (Some z) (named node_name zs x) ≡ Some y → (named node_name zs x ≡ Some y → IsFirst (map node_name (nodes_in zs)) (nodes_before (number_of node_name zs x) zs) x) → IsFirst (map node_name (nodes_in (z ∷ zs))) (nodes_before (cond b 0 (suc (number_of node_name zs x))) (z ∷ zs)) x
    by true g h later = let s : z ≡ y = cc in here (is_node z.role) (ap (λ w. is_node w.role) s ∙ of) (same_text z.name x g)
    by false g h later = subst (λ k. IsFirst (map node_name (nodes_in (z ∷ zs))) k x) (sym (before_cons (number_of node_name zs x) z zs)) (behind (is_node z.role) (other_text z.name x g) (later h))
