-- The places of holes among the locals that statements declare.
use Rattle.std.proofs.Common.{◌≡◌, ℕ, true, false, cond, if◌then◌else◌, List, [], ◌∷◌, ◌++◌, map, filter, Option, Some, None, refl, sym, ap, ◌∙◌, append_assoc}
use Rattle.std.specs.List.{flat_map}
use Rattle.std.proofs.lemmas.List.{append-nil}
use Rattle.fab_tree.specs.declared.name.Name.{Name}
use Rattle.fab_tree.specs.declared.declaration.Sort.{Sort}
use Rattle.fab_tree.specs.declared.expression.Expression.{Expression}
use Rattle.fab_tree.specs.declared.statement.Right.{Right}
use Rattle.fab_tree.specs.declared.statement.Statement.{Statement, roll-Statement, map-Statement, fold-roll-Statement}
use Rattle.fab_tree.specs.declared.statement.Statement.TheOpen as o
use Rattle.fab_tree.specs.declared.statement.Statement.TheVariants as made
use Rattle.fab_tree.specs.declared.program.Parameter.{Parameter}
use Rattle.fab_tree.specs.declared.start.Start.{Start}
use Rattle.fab_tree.specs.Limits.{declared_in, declared_step, joined}
use Rattle.fab_holes.specs.Holes.{is_hole}
use Rattle.fab_infer.specs.Fill.{hole_at, places_among}

-- behind a list, part by part
pub in_parts : (out xs ys : List ℕ) → out ++ (xs ++ ys) ≡ (out ++ xs) ++ ys
in_parts out xs ys = sym (append_assoc out xs ys)

pub in_none : (out : List ℕ) → out ++ [] ≡ out
in_none out = append-nil out

module _ (s : Start) where
  pub places_cons : (p : Parameter) (ps : List Parameter) → places_among s (p ∷ ps) ≡ hole_at s p.label ++ places_among s ps
  places_cons p ps = elim (is_hole s p.label) as (λ b. map (λ (q : Parameter). q.label.at) (cond b (p ∷ filter (λ (q : Parameter). is_hole s q.label) ps) (filter (λ (q : Parameter). is_hole s q.label) ps))
      ≡ (if b then p.label.at ∷ [] else []) ++ places_among s ps) [ true ↦ refl | false ↦ refl ]

  pub places_append : (ps qs : List Parameter) → places_among s (ps ++ qs) ≡ places_among s ps ++ places_among s qs
  places_append [] qs = refl
  places_append (p ∷ ps) qs =
      places_cons p (ps ++ qs)
      ∙ ap (λ (l : List ℕ). hole_at s p.label ++ l) (places_append ps qs)
      ∙ in_parts (hole_at s p.label) (places_among s ps) (places_among s qs)
      ∙ ap (λ (l : List ℕ). l ++ places_among s qs) (sym (places_cons p ps))

  abbrev pub in_one : Statement → List ℕ
  in_one x = places_among s (declared_in x)

  abbrev pub in_all : List Statement → List ℕ
  in_all xs = places_among s (flat_map declared_in xs)

  pub all_cons : (x : Statement) (xs : List Statement) → in_all (x ∷ xs) ≡ in_one x ++ in_all xs
  all_cons x xs = places_append (declared_in x) (flat_map declared_in xs)

  declared_is : (x : Statement) (y : o.Statement-F Statement) → x ≡ roll-Statement y → declared_in x ≡ declared_step (map-Statement Statement (List Parameter) declared_in y)
  declared_is x y is = ap declared_in is ∙ fold-roll-Statement (List Parameter) declared_step y

  joined_all : (xs : List Statement) → joined (map declared_in xs) ≡ flat_map declared_in xs
  joined_all [] = refl
  joined_all (x ∷ xs) = ap (λ (l : List Parameter). declared_in x ++ l) (joined_all xs)

  pub of_declare : (x : Statement) (t : Sort) (n l : Name) (e : Expression) (at : ℕ) → x ≡ made.Declare t n l e at → in_one x ≡ hole_at s l
  of_declare x t n l e at is =
      ap (places_among s) (declared_is x (o.Declare t n l e at) (is ∙ sym (made.rolls-Declare t n l e at)))
      ∙ places_cons (record { sort = t; name = n; label = l }) [] ∙ append-nil (hole_at s l)

  pub of_assign : (x : Statement) (n : Name) (r : Right) → x ≡ made.Assign n r → in_one x ≡ []
  of_assign x n r is = ap (places_among s) (declared_is x (o.Assign n r) (is ∙ sym (made.rolls-Assign n r)))

  pub of_write : (x : Statement) (n f : Name) (e : Expression) → x ≡ made.Write n f e → in_one x ≡ []
  of_write x n f e is = ap (places_among s) (declared_is x (o.Write n f e) (is ∙ sym (made.rolls-Write n f e)))

  pub of_call : (x : Statement) (n : Name) (es : List Expression) → x ≡ made.Call n es → in_one x ≡ []
  of_call x n es is = ap (places_among s) (declared_is x (o.Call n es) (is ∙ sym (made.rolls-Call n es)))

  pub of_fail : (x : Statement) (at : ℕ) → x ≡ made.Fail at → in_one x ≡ []
  of_fail x at is = ap (places_among s) (declared_is x (o.Fail at) (is ∙ sym (made.rolls-Fail at)))

  pub of_if_none : (x : Statement) (e : Expression) (xs : List Statement) (otherwise : Option (List Statement)) → x ≡ made.If e xs otherwise → otherwise ≡ None → in_one x ≡ in_all xs
  of_if_none x e xs otherwise is none =
      ap (places_among s) (declared_is x (o.If e xs None) (is ∙ ap (made.If e xs) none ∙ sym (made.rolls-If e xs None)) ∙ joined_all xs)

  pub of_if_some : (x : Statement) (e : Expression) (xs ys : List Statement) (otherwise : Option (List Statement)) → x ≡ made.If e xs otherwise → otherwise ≡ Some ys → in_one x ≡ in_all xs ++ in_all ys
  of_if_some x e xs ys otherwise is some =
      ap (places_among s) (declared_is x (o.If e xs (Some ys)) (is ∙ ap (made.If e xs) some ∙ sym (made.rolls-If e xs (Some ys))) ∙ (λ i. joined_all xs i ++ joined_all ys i))
      ∙ places_append (flat_map declared_in xs) (flat_map declared_in ys)

  pub of_while : (x : Statement) (e : Expression) (xs : List Statement) → x ≡ made.While e xs → in_one x ≡ in_all xs
  of_while x e xs is = ap (places_among s) (declared_is x (o.While e xs) (is ∙ sym (made.rolls-While e xs)) ∙ joined_all xs)

  pub of_atomic : (x : Statement) (l : Name) (xs ys : List Statement) (at : ℕ) → x ≡ made.Atomic l xs ys at → in_one x ≡ in_all xs ++ in_all ys
  of_atomic x l xs ys at is =
      ap (places_among s) (declared_is x (o.Atomic l xs ys at) (is ∙ sym (made.rolls-Atomic l xs ys at)) ∙ (λ i. joined_all xs i ++ joined_all ys i))
      ∙ places_append (flat_map declared_in xs) (flat_map declared_in ys)

-- one part, and two
pub of_one : (out more xs ys whole : List ℕ) → whole ≡ ys → xs ≡ ys → more ≡ out ++ xs → more ≡ out ++ whole
of_one out more xs ys whole is e next = next ∙ ap (λ (l : List ℕ). out ++ l) (e ∙ sym is)

pub of_two : (out more last xs ys us vs whole : List ℕ) → whole ≡ us ++ vs → xs ≡ us → ys ≡ vs → more ≡ out ++ xs → last ≡ more ++ ys → last ≡ out ++ whole
of_two out more last xs ys us vs whole is e f next second =
    second ∙ ap (λ (l : List ℕ). l ++ ys) next ∙ append_assoc out xs ys ∙ (λ i. out ++ (e i ++ f i)) ∙ ap (λ (l : List ℕ). out ++ l) (sym is)
