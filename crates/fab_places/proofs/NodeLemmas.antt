-- Places of workers and stores among principals, and masks of them.
use Rattle.std.proofs.Common.{◌≡◌, ℕ, suc, ◌+◌, ◌<◌, ◌≤◌, ◌↔◌, Bool, true, not, cond, ltb, List, [], ◌∷◌, length, get_or, Option, Some, None, unwrap_or, option_map, IsSomeAnd, IfSome, inl, inr, refl, sym, ap, ◌∙◌, subst, arith, IsBitSet}
use Rattle.std.specs.List.{position_or_len}
use Rattle.std.proofs.lemmas.Bool.{cases_Bool, cases_lt, eqb-true, false≢true, ltb-false}
use Rattle.std.proofs.lemmas.Option.{slice_get_past}
use Rattle.std.proofs.lemmas.List.Sums.{prefix_len-le-length, passes_at_first}
use Rattle.fab_base.specs.declared.label.Policy.{Policy}
use Rattle.fab_base.specs.Principals.{Delegations}
use Rattle.fab_tree.specs.declared.declaration.Role.{Role}
use Rattle.fab_tree.specs.declared.resolved.Principal.{Principal}
use Rattle.fab_tree.specs.declared.resolved.Resolved.{Resolved}
use Rattle.fab_language.specs.Flows.{delegations_of}
use Rattle.fab_labelling.specs.Readers.{IsNode, is_numbered, place_from, principal_of}
use Rattle.fab_labelling.specs.Placement.{role_of}
use Rattle.fab_places.specs.Places.{HasNumbers}
use Rattle.fab_places.proofs.LawLemmas.{WithinAll}

-- ---- places

abbrev pub has_number : ℕ → Principal → Bool
has_number n x = is_numbered n x.node

place_is : (n p : ℕ) (xs : List Principal) → place_from p n xs ≡ p + position_or_len (has_number n) xs
place_is n p [] = omega arith
place_is n p (x ∷ xs) = elim (cases_Bool (has_number n x)) [
  | inl has ↦ rw has (omega arith)
  | inr lacks ↦ rw lacks (omega (arith, place_is n (suc p) xs))
]

-- the place is the first that has the number, or the end
pub principal_is : (r : Resolved) (n : ℕ) → principal_of r n ≡ position_or_len (has_number n) r.nodes
principal_is r n = omega (arith, place_is n 0 r.nodes)

pub principal_within : (r : Resolved) (n : ℕ) → principal_of r n ≤ length r.nodes
principal_within r n = let found = prefix_len-le-length (λ x. not (has_number n x)) r.nodes in omega (arith, principal_is r n, found)

or_end : (k end : ℕ) → k ≤ end → unwrap_or (cond (ltb k end) (Some k) None) end ≡ k
or_end k end within = elim (cases_Bool (ltb k end)) [ inl below ↦ rw below refl | inr past ↦ rw past (omega (arith, ltb-false k end past)) ]

-- as a search finds it
pub principal_found : (r : Resolved) (n : ℕ) (found : Option ℕ) → found ≡ cond (ltb (position_or_len (has_number n) r.nodes) (length r.nodes)) (Some (position_or_len (has_number n) r.nodes)) None
    → unwrap_or found (length r.nodes) ≡ principal_of r n
principal_found r n found is =
    ap (λ (o : Option ℕ). unwrap_or o (length r.nodes)) is ∙ or_end (position_or_len (has_number n) r.nodes) (length r.nodes) (prefix_len-le-length (λ x. not (has_number n x)) r.nodes) ∙ sym (principal_is r n)

numbered_is : (n : ℕ) (o : Option ℕ) → is_numbered n o ≡ true → o ≡ Some n
numbered_is n None is = absurd (false≢true is)
numbered_is n (Some m) is = ap (λ (k : ℕ). Some k) (sym (eqb-true n m is))

-- whoever has a role is there
pub role_is_node : (r : Resolved) (n : ℕ) (Q : Role → Type 0) → IsSomeAnd (role_of r n) Q → IsNode r n
role_is_node r n Q has = elim (cases_lt (principal_of r n) (length r.nodes)) [
  | inl below ↦ below
  | inr past ↦ absurd (subst (λ (o : Option Principal). IsSomeAnd (option_map (λ x. x.role) o) Q) (slice_get_past r.nodes (principal_of r n) past) has)
]

-- some principal, where there is one
some_of : (xs : List Principal) (k : ℕ) → k < length xs → Principal
some_of [] k within = absurd (omega arith)
some_of (x ∷ xs) k within = x

-- who is there has a number that a mask holds
pub numbered : (r : Resolved) (n : ℕ) → HasNumbers r → IsNode r n → n < 64
numbered r n numbers node =
    let e = some_of r.nodes (principal_of r n) node in
    let at = position_or_len (has_number n) r.nodes in
    let below : at < length r.nodes = omega (arith, principal_is r n, node) in
    let passes : has_number n (get_or r.nodes at e) ≡ true = passes_at_first (has_number n) r.nodes e below in
    subst (λ (o : Option ℕ). IfSome o (λ m. m < 64)) (numbered_is n (get_or r.nodes at e).node passes) (numbers at e below)

-- ---- masks

-- the nodes among the principals that are within all of these policies
pub nodes_within : (r : Resolved) (d : Delegations) (policies : List Policy) (principals nodes : ℕ) → d ≡ delegations_of r
    → ((p : ℕ) → IsBitSet principals p ↔ ((p < d.count) × WithinAll d p policies))
    → ((n : ℕ) → IsBitSet nodes n ↔ ((n < 64) × IsBitSet principals (principal_of r n)))
    → (n : ℕ) → IsBitSet nodes n ↔ ((n < 64) × IsNode r n × WithinAll d (principal_of r n) policies)
nodes_within r d policies principals nodes of within among n =
    let count : d.count ≡ length r.nodes = ap (λ (w : Delegations). w.count) of in (
      λ bit.
          let node = (among n).0 bit in
          let principal = (within (principal_of r n)).0 node.1 in
          (node.0, omega (arith, count, principal.0), principal.1),
      λ (small, node, all). (among n).1 (small, (within (principal_of r n)).1 (omega (arith, count, node), all)),
    )
