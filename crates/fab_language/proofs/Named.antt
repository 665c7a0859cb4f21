-- Names of one text, names that are found, and what is a node.
use Rattle.std.proofs.Common.{◌≡◌, ℕ, zero, suc, ◌+◌, ◌<◌, Bool, true, false, cond, List, [], ◌∷◌, length, take, Some, refl, ap, ◌∙◌, arith}
use Rattle.std.proofs.lemmas.List.Sums.{sum_by-cons}
use Rattle.std.proofs.lemmas.Slice.Eq.{bytes_eq-Decides}
use Rattle.fab_tree.specs.declared.name.Name.{Name}
use Rattle.fab_tree.specs.declared.declaration.Node.{Node}
use Rattle.fab_tree.specs.declared.declaration.Role.{Role}
use Rattle.fab_tree.specs.declared.declaration.Role.TheVariants as r
use Rattle.fab_tree.specs.Limits.{is_node}
use Rattle.fab_language.specs.Names.{named, number_of, is_same_name, is_honest_worker, is_hostile}
use Rattle.fab_language.specs.Unknown.{if_found}
use Rattle.fab_language.specs.Uses.{nodes_before}

pub same_text : (x y : Name) → is_same_name x y ≡ true → x.text ≡ y.text
same_text x y e = (bytes_eq-Decides x.text y.text).0 e

-- a name that is found has a number among them
pub number_below : {A : Type 0} (name : A → Name) (items : List A) (x : Name) → if_found (named name items x) x ≡ [] → number_of name items x < length items
number_below name [] x e = absurd (omega (arith, ap length e))
number_below name (y ∷ ys) x e =
    (elim (is_same_name (name y) x) as (λ v. if_found (cond v (Some y) (named name ys x)) x ≡ [] → cond v zero (suc (number_of name ys x)) < suc (length ys))
    [ true ↦ λ f. omega arith | false ↦ λ f. let below = number_below name ys x f in omega arith ]) e

-- one node more before the others
pub before_cons : (k : ℕ) (z : Node) (zs : List Node) → nodes_before (suc k) (z ∷ zs) ≡ cond (is_node z.role) (suc (nodes_before k zs)) (nodes_before k zs)
before_cons k z zs = sum_by-cons (λ (w : Node). cond (is_node w.role) 1 0) z (take k zs) ∙ by (is_node z.role)
  where
    by : (b : Bool) → cond b 1 0 + nodes_before k zs ≡ cond b (suc (nodes_before k zs)) (nodes_before k zs)
    by true = omega arith
    by false = omega arith

pub honest_worker_node : (role : Role) → is_honest_worker role ≡ true → is_node role ≡ true
honest_worker_node r.Principal h = h
honest_worker_node (r.Worker hostile) h = refl
honest_worker_node (r.Store hostile) h = refl

pub hostile_node : (role : Role) → is_hostile role ≡ true → is_node role ≡ true
hostile_node r.Principal h = h
hostile_node (r.Worker hostile) h = refl
hostile_node (r.Store hostile) h = refl
