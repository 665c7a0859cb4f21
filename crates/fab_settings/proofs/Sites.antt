-- Objects are made at sites below a limit if each site of the text is below it.
use Rattle.std.proofs.Common.{ℕ, ◌+◌, ◌<◌, ◌≤◌, List, [], ◌∷◌, ◌++◌, map, length, subst, sym, arith}
use Rattle.std.specs.Prelude.{slice_get}
use Rattle.std.specs.List.{AllByRecursion, flat_map, enumerate_from}
use Rattle.fab_base.proofs.Lists.{all_append, all_split, all_flat, all_along}
use Rattle.fab_tree.specs.declared.resolved.Right.{Right}
use Rattle.fab_tree.specs.declared.resolved.Right.TheVariants as rights
use Rattle.fab_tree.specs.declared.resolved.Statement.{Statement, ind-Statement, roll-Statement, fold-roll-Statement, map-Statement}
use Rattle.fab_tree.specs.declared.resolved.Statement.TheOpen as s
use Rattle.fab_tree.specs.declared.resolved.Method.{Method}
use Rattle.fab_tree.specs.declared.resolved.Resolved.{Resolved}
use Rattle.fab_tree.specs.declared.start.Start.{Start}
use Rattle.fab_tree.specs.Sites.{site_places}
use Rattle.fab_language.specs.Numbers.{resolved}
use Rattle.fab_numbers.specs.SiteOrder.{Sites, of_expression, of_right, of_statement_step, of_statement, of_result, of_method, of_methods}
use Rattle.fab_numbers.specs.SiteOrder as order
use Rattle.fab_numbers.proofs.SitesInOrder.{methods_orders}
use Rattle.fab_laws.specs.Kinds.{Kind, parameter_kinds, class_kinds, local_kinds, Claim, given, counted, made, each_given, kind_of, right_claims, all_of, statement_claims_step, statement_claims, block_claims, method_claims, claims_of}
use Rattle.fab_shapes.proofs.Lists.{in_each}

module _ (limit : ℕ) where
  -- objects are made at a site below the limit
  abbrev pub MakesBelow : Claim → Type 0
  MakesBelow (given taker kind) = Unit {0}
  MakesBelow (counted places values) = Unit {0}
  MakesBelow (made store class site) = site < limit

  abbrev pub IsBelow : ℕ × ℕ → Type 0
  IsBelow t = t.0 < limit

  abbrev AllMade : List Claim → Type 0
  AllMade = AllByRecursion MakesBelow

  abbrev AllBelow : Sites → Type 0
  AllBelow = AllByRecursion IsBelow

  -- what is counted up stays below
  counted_below : (k : ℕ) (places : List ℕ) → k + length places ≤ limit → AllBelow (enumerate_from k places)
  counted_below k [] h = tt
  counted_below k (x ∷ xs) h = (omega (arith, h), counted_below (k + 1) xs (omega (arith, h)))

  given_made : (takers kinds : List Kind) → AllMade (each_given takers kinds)
  given_made takers [] = tt
  given_made [] (k ∷ ks) = (tt, given_made [] ks)
  given_made (taker ∷ takers) (k ∷ ks) = (tt, given_made takers ks)

  module _ (r : Resolved) (kinds : List Kind) where
    right_made : (w : Right) → AllBelow (of_right w) → AllMade (right_claims r.classes r.methods kinds w)
    right_made (rights.Plain e) h = tt
    right_made (rights.Call x es) h = (tt, given_made (parameter_kinds (slice_get r.methods x.number)) (map (kind_of r.classes r.methods kinds) es))
    right_made (rights.New x store es site at) h = (h.0, (tt, given_made (class_kinds r.classes x.number) (map (kind_of r.classes r.methods kinds) es)))
    right_made (rights.Downgrade d e from to site at) h = tt

    abbrev claims : Statement → List Claim
    claims = statement_claims r.classes r.methods kinds

    pub record Stands (x : Statement) : Type 0 where
      pub makes : AllBelow (of_statement x) → AllMade (claims x)

    abbrev Known : Type 0
    Known = (x : Statement) × Stands x

    abbrev plain : List Known → List Statement
    plain ks = map (λ (k : Known). k.0) ks

    abbrev all_sites : List Statement → Sites
    all_sites xs = order.all_of (map of_statement xs)

    abbrev all_claims : List Statement → List Claim
    all_claims xs = all_of r.classes r.methods kinds (map claims xs)

    each : (ks : List Known) → AllBelow (all_sites (plain ks)) → AllMade (all_claims (plain ks))
    each [] h = tt
    each (k ∷ ks) h =
        let p = all_split IsBelow (of_statement k.0) (all_sites (plain ks)) h in
        all_append MakesBelow (claims k.0) (all_claims (plain ks)) (k.1.makes p.0) (each ks p.1)

    abbrev pieces : s.Statement-F Known → s.Statement-F Statement
    pieces y = map-Statement Known Statement (λ k. k.0) y

    layer : (y : s.Statement-F Known) → AllBelow (of_statement_step (map-Statement Statement Sites of_statement (pieces y)))
        → AllMade (statement_claims_step r.classes r.methods kinds (map-Statement Statement (List Claim) claims (pieces y)))
    layer (s.Assign x w at) h = (tt, right_made w h)
    layer (s.Write x field e site) h = (tt, tt)
    layer (s.Call x es) h = (tt, given_made (parameter_kinds (slice_get r.methods x.number)) (map (kind_of r.classes r.methods kinds) es))
    layer (s.If e a b) h =
        let p = all_split IsBelow (of_expression e ++ all_sites (plain a)) (all_sites (plain b)) h in
        let q = all_split IsBelow (of_expression e) (all_sites (plain a)) p.0 in
        all_append MakesBelow (all_claims (plain a)) (all_claims (plain b)) (each a q.1) (each b p.1)
    layer (s.While e a) h = each a (all_split IsBelow (of_expression e) (all_sites (plain a)) h).1
    layer (s.Atomic x a b at) h =
        let p = all_split IsBelow (all_sites (plain a)) (all_sites (plain b)) h in
        all_append MakesBelow (all_claims (plain a)) (all_claims (plain b)) (each a p.0) (each b p.1)
    layer (s.Fail at) h = tt

    statements : (x : Statement) → Stands x
    statements = ind-Statement Stands (λ x y is. record {
      makes =
          subst (λ z. AllBelow (of_statement (roll-Statement z)) → AllMade (claims (roll-Statement z))) is
          (rw (
            fold-roll-Statement Sites of_statement_step (pieces y),
            fold-roll-Statement (List Claim) (statement_claims_step r.classes r.methods kinds) (pieces y),
          ) (layer y));
    })

    block_made : (xs : List Statement) → AllBelow (flat_map of_statement xs) → AllMade (block_claims r.classes r.methods kinds xs)
    block_made [] h = tt
    block_made (x ∷ xs) h =
        let p = all_split IsBelow (of_statement x) (flat_map of_statement xs) h in
        all_append MakesBelow (claims x) (all_claims xs) ((statements x).makes p.0) (block_made xs p.1)

  module _ (r : Resolved) where
    method_made : (m : Method) → AllBelow (of_method m) → AllMade (method_claims r.classes r.methods m)
    method_made m h = (tt, block_made r (local_kinds m) m.body (all_split IsBelow (flat_map of_statement m.body) (of_result m.result) h).0)

    all_made : AllBelow (of_methods r.methods) → AllMade (claims_of r)
    all_made h =
        all_flat MakesBelow (method_claims r.classes r.methods) r.methods
        (all_along (λ m. AllBelow (of_method m)) (λ m. AllMade (method_claims r.classes r.methods m)) method_made r.methods (in_each IsBelow of_method r.methods h))

  pub made_below : (s : Start) → length (site_places s.program) ≤ limit → AllByRecursion MakesBelow (claims_of (resolved s))
  made_below s h =
      all_made (resolved s)
      (subst AllBelow (sym ((methods_orders s s.program.methods).order 0)) (counted_below 0 (site_places s.program) (omega (arith, h))))
