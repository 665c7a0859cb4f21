-- What a well labelled bundle owes of stores: where objects are made, and where roots stand.
use Rattle.std.proofs.Common.{ℕ, List, [], ◌∷◌, ◌++◌, map, length, Option, Some, subst}
use Rattle.std.specs.Prelude.{slice_get}
use Rattle.std.specs.List.{AllByRecursion, flat_map}
use Rattle.std.proofs.lemmas.List.Elements.{recursion_from_All}
use Rattle.fab_base.proofs.Lists.{all_append, all_split, all_flat, all_along}
use Rattle.fab_tree.specs.declared.resolved.Right.{Right}
use Rattle.fab_tree.specs.declared.resolved.Right.TheVariants as rights
use Rattle.fab_tree.specs.declared.resolved.Statement.{Statement, ind-Statement, roll-Statement, fold-roll-Statement, map-Statement}
use Rattle.fab_tree.specs.declared.resolved.Statement.TheOpen as s
use Rattle.fab_tree.specs.declared.resolved.Local.{Local}
use Rattle.fab_tree.specs.declared.resolved.Method.{Method}
use Rattle.fab_tree.specs.declared.resolved.Root.{Root}
use Rattle.fab_tree.specs.declared.resolved.Resolved.{Resolved}
use Rattle.fab_labelling.specs.declared.rule.LabelRule.TheVariants.{Write, Atomic}
use Rattle.fab_labelling.specs.Obligations.{Owed, part, under, all_flow, to_each, label_of_local, right_labels, right_owes, Owes, in_order, statement_step, statement_owes, block_owes, return_owes, failure_of, authority_of, method_owes, root_owes, session_owes, owed}
use Rattle.fab_labelling.specs.Claims.{Holds, IsWellLabelled}
use Rattle.fab_laws.specs.Kinds.{Kind, parameter_kinds, class_kinds, local_kinds, Claim, each_given, kind_of, right_claims, all_of, statement_claims_step, statement_claims, block_claims, method_claims, claims_of}
use Rattle.fab_shapes.proofs.Lists.{in_each}
use Rattle.fab_held.specs.Held.{IsHeld, MakesHeld}

module _ (r : Resolved) where
  abbrev Kept : Owed → Type 0
  Kept x = Holds r x.claim

  abbrev AllKept : List Owed → Type 0
  AllKept = AllByRecursion Kept

  abbrev AllMade : List Claim → Type 0
  AllMade = AllByRecursion (MakesHeld r)

  -- no objects are made where values are given
  given_made : (takers kinds : List Kind) → AllMade (each_given takers kinds)
  given_made takers [] = tt
  given_made [] (k ∷ ks) = (tt, given_made [] ks)
  given_made (taker ∷ takers) (k ∷ ks) = (tt, given_made takers ks)

  -- over the locals of a method, and its authority
  module _ (locals : List Local) (authority : List ℕ) (kinds : List Kind) where
    right_made : (w : Right) (pc : List ℕ) (failure : Option ℕ) → AllKept (right_owes r.classes r.methods locals authority pc failure w) → AllMade (right_claims r.classes r.methods kinds w)
    right_made (rights.Plain e) pc failure h = tt
    right_made (rights.Call x es) pc failure h = (tt, given_made (parameter_kinds (slice_get r.methods x.number)) (map (kind_of r.classes r.methods kinds) es))
    right_made (rights.New x store es site at) pc failure h = (h.0, (tt, given_made (class_kinds r.classes x.number) (map (kind_of r.classes r.methods kinds) es)))
    right_made (rights.Downgrade d e from to site at) pc failure h = tt

    abbrev owes : Statement → Owes r.classes r.methods locals authority
    owes = statement_owes r.classes r.methods locals authority

    abbrev claims : Statement → List Claim
    claims = statement_claims r.classes r.methods kinds

    -- where a statement keeps what it owes, its objects are made at stores that may hold them
    pub record Stands (x : Statement) : Type 0 where
      pub makes : (pc : List ℕ) (failure : Option ℕ) → AllKept (owes x pc failure) → AllMade (claims x)

    abbrev Known : Type 0
    Known = (x : Statement) × Stands x

    abbrev plain : List Known → List Statement
    plain ks = map (λ (k : Known). k.0) ks

    abbrev all_owe : List Statement → Owes r.classes r.methods locals authority
    all_owe xs = in_order r.classes r.methods locals authority (map owes xs)

    abbrev all_claims : List Statement → List Claim
    all_claims xs = all_of r.classes r.methods kinds (map claims xs)

    each : (ks : List Known) (pc : List ℕ) (failure : Option ℕ) → AllKept (all_owe (plain ks) pc failure) → AllMade (all_claims (plain ks))
    each [] pc failure h = tt
    each (k ∷ ks) pc failure h =
        let p = all_split Kept (owes k.0 pc failure) (all_owe (plain ks) pc failure) h in
        all_append (MakesHeld r) (claims k.0) (all_claims (plain ks)) (k.1.makes pc failure p.0) (each ks pc failure p.1)

    abbrev pieces : s.Statement-F Known → s.Statement-F Statement
    pieces y = map-Statement Known Statement (λ k. k.0) y

    layer : (y : s.Statement-F Known) (pc : List ℕ) (failure : Option ℕ)
        → AllKept (statement_step r.classes r.methods locals authority (map-Statement Statement (Owes r.classes r.methods locals authority) owes (pieces y)) pc failure)
        → AllMade (statement_claims_step r.classes r.methods kinds (map-Statement Statement (List Claim) claims (pieces y)))
    layer (s.Assign x w at) pc failure h =
        let flowing = to_each (all_flow Write at (pc ++ right_labels r.classes r.methods locals authority w)) (label_of_local (slice_get locals x)) in
        (tt, right_made w pc failure (all_split Kept (right_owes r.classes r.methods locals authority pc failure w) flowing h).0)
    layer (s.Write x field e site) pc failure h = (tt, tt)
    layer (s.Call x es) pc failure h = (tt, given_made (parameter_kinds (slice_get r.methods x.number)) (map (kind_of r.classes r.methods kinds) es))
    layer (s.If e a b) pc failure h =
        let inside = under pc (part r.classes locals e).labels in
        let tested = (part r.classes locals e).owes pc failure in
        let p = all_split Kept (tested ++ all_owe (plain a) inside failure) (all_owe (plain b) inside failure) h in
        let q = all_split Kept tested (all_owe (plain a) inside failure) p.0 in
        all_append (MakesHeld r) (all_claims (plain a)) (all_claims (plain b)) (each a inside failure q.1) (each b inside failure p.1)
    layer (s.While e a) pc failure h =
        let inside = under pc (part r.classes locals e).labels in
        each a inside failure (all_split Kept ((part r.classes locals e).owes pc failure) (all_owe (plain a) inside failure) h).1
    layer (s.Atomic x a b at) pc failure h =
        let inside = under pc (x.number ∷ []) in
        let begun = all_flow Atomic at pc x.number in
        let p = all_split Kept (begun ++ all_owe (plain a) inside (Some x.number)) (all_owe (plain b) inside failure) h in
        let q = all_split Kept begun (all_owe (plain a) inside (Some x.number)) p.0 in
        all_append (MakesHeld r) (all_claims (plain a)) (all_claims (plain b)) (each a inside (Some x.number) q.1) (each b inside failure p.1)
    layer (s.Fail at) pc failure h = tt

    statements : (x : Statement) → Stands x
    statements = ind-Statement Stands (λ x y is. record {
      makes =
          subst (λ z. (pc : List ℕ) (failure : Option ℕ) → AllKept (owes (roll-Statement z) pc failure) → AllMade (claims (roll-Statement z))) is
          (rw (fold-roll-Statement (Owes r.classes r.methods locals authority) (statement_step r.classes r.methods locals authority) (pieces y), fold-roll-Statement (List Claim) (statement_claims_step r.classes r.methods kinds) (pieces y)) (layer y));
    })

    block_made : (xs : List Statement) (pc : List ℕ) (failure : Option ℕ) → AllKept (block_owes r.classes r.methods locals authority xs pc failure) → AllMade (block_claims r.classes r.methods kinds xs)
    block_made [] pc failure h = tt
    block_made (x ∷ xs) pc failure h =
        let p = all_split Kept (owes x pc failure) (all_owe xs pc failure) h in
        all_append (MakesHeld r) (claims x) (all_claims xs) ((statements x).makes pc failure p.0) (block_made xs pc failure p.1)

  method_made : (m : Method) → AllKept (method_owes r.classes r.methods m) → AllMade (method_claims r.classes r.methods m)
  method_made m h =
      let pc = m.begin.number ∷ [] in
      let body = block_owes r.classes r.methods m.locals (authority_of m) m.body pc (failure_of m) in
      let result = return_owes r.classes r.methods m.locals (authority_of m) m.returns m.result pc (failure_of m) in
      (tt, block_made m.locals (authority_of m) (local_kinds m) m.body pc (failure_of m) (all_split Kept body result h).0)

  -- ---- the whole

  module _ (well : IsWellLabelled r) where
    methods_and_roots : AllKept (flat_map (method_owes r.classes r.methods) r.methods) × AllKept (map root_owes r.roots)
    methods_and_roots =
        let methods = flat_map (method_owes r.classes r.methods) r.methods in
        let sessions = flat_map (session_owes (length r.nodes)) r.sessions in
        all_split Kept methods (map root_owes r.roots) (all_split Kept (methods ++ map root_owes r.roots) sessions (recursion_from_All Kept (owed r) well)).0

    pub all_made : AllMade (claims_of r)
    all_made =
        all_flat (MakesHeld r) (method_claims r.classes r.methods) r.methods
        (all_along (λ m. AllKept (method_owes r.classes r.methods m)) (λ m. AllMade (method_claims r.classes r.methods m)) method_made r.methods
        (in_each Kept (method_owes r.classes r.methods) r.methods methods_and_roots.0))

    each_root : (xs : List Root) → AllKept (map root_owes xs) → AllByRecursion (λ x. IsHeld r x.oid) xs
    each_root [] h = tt
    each_root (x ∷ xs) h = (h.0, each_root xs h.1)

    pub roots_held : AllByRecursion (λ x. IsHeld r x.oid) r.roots
    roots_held = each_root r.roots methods_and_roots.1
