-- What statements claim is met.
use Rattle.std.proofs.Common.{◌≡◌, ℕ, suc, List, [], ◌∷◌, ◌++◌, map, Option, Some, None, refl, sym, ap, ◌∙◌, subst}
use Rattle.std.specs.List.{AllByRecursion, flat_map}
use Rattle.fab_base.proofs.Lists.{all_append, left_nil, right_nil, all_split}
use Rattle.fab_tree.specs.declared.name.Name.{Name}
use Rattle.fab_tree.specs.declared.declaration.Sort.{Sort}
use Rattle.fab_tree.specs.declared.expression.Expression.{Expression}
use Rattle.fab_tree.specs.declared.statement.Right.{Right}
use Rattle.fab_tree.specs.declared.statement.Statement.{Statement, roll-Statement, map-Statement, ind-Statement, fold-roll-Statement}
use Rattle.fab_tree.specs.declared.statement.Statement.TheOpen as o
use Rattle.fab_tree.specs.declared.program.Parameter.{Parameter}
use Rattle.fab_tree.specs.declared.program.Returns.{Returns}
use Rattle.fab_tree.specs.declared.start.Start.{Start}
use Rattle.fab_tree.specs.declared.resolved.Statement.{Statement as NumberedStatement, roll-Statement as roll-NumberedStatement, map-Statement as map-NumberedStatement, fold-roll-Statement as fold-roll-NumberedStatement}
use Rattle.fab_tree.specs.declared.resolved.Statement.TheVariants as ns
use Rattle.fab_tree.specs.declared.resolved.Statement.TheOpen as nso
use Rattle.fab_tree.specs.declared.resolved.Right.TheVariants as nr
use Rattle.fab_tree.specs.Limits.{joined, declared_in, declared_step}
use Rattle.fab_language.specs.Arity as a
use Rattle.fab_language.specs.Heads.{Locals, Head, Walk, declare, assign, write, call, in_row, walk_step, walk, heads_in}
use Rattle.fab_language.specs.Kinds.{kind_of_sort, kind_of_field, field_of}
use Rattle.fab_language.specs.Names.{named, local_name}
use Rattle.fab_language.specs.Types.{given_to, local_kind}
use Rattle.fab_language.specs.Types as t
use Rattle.fab_language.specs.Unknown.{in_sort, in_label, in_local}
use Rattle.fab_language.specs.Unknown as u
use Rattle.fab_language.specs.Uses.{label_use, local_use, local_number, field_number, method_use}
use Rattle.fab_language.specs.MethodNumbers.{Numbered, in_turn, expression_of, expressions_of, right_of, statement_step, statement_of, block_of}
use Rattle.fab_language.proofs.NumberedForms.{statement_numbers}
use Rattle.fab_laws.specs.Kinds as n
use Rattle.fab_shapes.proofs.Agreement.{Holds, sort_holds}
use Rattle.fab_shapes.proofs.Locals.{classes_in, IsDeclared, IsKnown, local_kinds, kind_of_first, local_holds, field_holds}
use Rattle.fab_shapes.proofs.Methods.{Met, HasHeading, methods_in, given_fits, right_fits, call_fits}

-- no rule is broken in a head, with the locals that are known there
pub record IsRight (s : Start) (returns : Option Returns) (h : Locals × Head) : Type 0 where
  pub declared : u.in_head s h.0 h.1 ≡ []
  pub counted : a.in_head s h.1 ≡ []
  pub typed : t.in_head s h.0 returns h.1 ≡ []

-- among these locals it is the one that its name stands for
abbrev pub IsFirst : List Parameter → Parameter → Type 0
IsFirst locals p = named local_name locals p.name ≡ Some p

module _ (s : Start) (classes : AllByRecursion (IsDeclared s) s.program.classes) (headings : AllByRecursion (HasHeading s) s.program.methods) (locals : List Parameter) (returns : Option Returns) where
  abbrev kinds : List n.Kind
  kinds = local_kinds s locals

  abbrev claims_step : nso.Statement-F (List n.Claim) → List n.Claim
  claims_step = n.statement_claims_step (classes_in s) (methods_in s) kinds

  abbrev pub claims_of : NumberedStatement → List n.Claim
  claims_of = n.statement_claims (classes_in s) (methods_in s) kinds

  abbrev block_claims : List NumberedStatement → List n.Claim
  block_claims xs = n.all_of (classes_in s) (methods_in s) kinds (map claims_of xs)

  claims_are : (x : NumberedStatement) (y : nso.Statement-F NumberedStatement) → x ≡ roll-NumberedStatement y → claims_of x ≡ claims_step (map-NumberedStatement NumberedStatement (List n.Claim) claims_of y)
  claims_are x y is = ap claims_of is ∙ fold-roll-NumberedStatement (List n.Claim) claims_step y

  met_by : (x : NumberedStatement) (y : nso.Statement-F NumberedStatement) → x ≡ roll-NumberedStatement y → AllByRecursion Met (claims_step (map-NumberedStatement NumberedStatement (List n.Claim) claims_of y)) → AllByRecursion Met (claims_of x)
  met_by x y is h = subst (AllByRecursion Met) (sym (claims_are x y is)) h

  -- ---- what is shown of each: what is known behind it, and that its claims are met

  abbrev AreKnown : Locals → Type 0
  AreKnown known = AllByRecursion (IsKnown s locals) known

  abbrev AreRight : List (Locals × Head) → Type 0
  AreRight hs = AllByRecursion (IsRight s returns) hs

  abbrev Fits : Walk → List Parameter → Numbered NumberedStatement → Type 0
  Fits w ps made = (known : Locals) (k : ℕ) → AreKnown known → AllByRecursion (IsFirst locals) ps → AreRight (w known).heads → AreKnown (w known).behind × AllByRecursion Met (claims_of (made k).0)

  abbrev StatementFits : Statement → Type 0
  StatementFits x = Fits (walk x) (declared_in x) (statement_of s locals x)

  abbrev BlockFits : Walk → List Parameter → Numbered (List NumberedStatement) → Type 0
  BlockFits w ps made = (known : Locals) (k : ℕ) → AreKnown known → AllByRecursion (IsFirst locals) ps → AreRight (w known).heads → AreKnown (w known).behind × AllByRecursion Met (block_claims (made k).0)

  -- a statement, whose parts are some for which this is known
  module _ (S : Type 0) (statement : S → Statement) (of_statement : (k : S) → StatementFits (statement k)) where
    abbrev pieces : o.Statement-F S → o.Statement-F Statement
    pieces = map-Statement S Statement statement

    abbrev walked : List S → Walk
    walked ks = in_row (map walk (map statement ks))

    abbrev declares : List S → List Parameter
    declares ks = joined (map declared_in (map statement ks))

    abbrev made : List S → Numbered (List NumberedStatement)
    made ks = in_turn (map (statement_of s locals) (map statement ks))

    block_layer : (ks : List S) → BlockFits (walked ks) (declares ks) (made ks)
    block_layer [] known k h f r = (h, tt)
    block_layer (x ∷ xs) known k h f r =
        let ps = all_split (IsFirst locals) (declared_in (statement x)) (declares xs) f in
        let hs = all_split (IsRight s returns) (walk (statement x) known).heads (walked xs (walk (statement x) known).behind).heads r in
        let here = of_statement x known k h ps.0 hs.0 in
        let rest = block_layer xs (walk (statement x) known).behind (statement_of s locals (statement x) k).1 here.0 ps.1 hs.1 in
        (rest.0, all_append Met (claims_of (statement_of s locals (statement x) k).0) (block_claims (made xs (statement_of s locals (statement x) k).1).0) here.1 rest.1)

    -- the locals, heads and claims of two blocks
    two_met : (known : Locals) (xs ys : List S) (k : ℕ) → AreKnown known → AllByRecursion (IsFirst locals) (declares xs ++ declares ys) → AreRight ((walked xs known).heads ++ (walked ys known).heads)
        → AllByRecursion Met (block_claims (made xs k).0 ++ block_claims (made ys (made xs k).1).0)
    two_met known xs ys k h f r =
        let ps = all_split (IsFirst locals) (declares xs) (declares ys) f in
        let hs = all_split (IsRight s returns) (walked xs known).heads (walked ys known).heads r in
        all_append Met (block_claims (made xs k).0) (block_claims (made ys (made xs k).1).0)
        (block_layer xs known k h ps.0 hs.0).1 (block_layer ys known (made xs k).1 h ps.1 hs.1).1

    abbrev walk_layer : o.Statement-F S → Walk
    walk_layer y = walk_step (map-Statement Statement Walk walk (pieces y))

    abbrev declared_layer : o.Statement-F S → List Parameter
    declared_layer y = declared_step (map-Statement Statement (List Parameter) declared_in (pieces y))

    abbrev made_layer : o.Statement-F S → Numbered NumberedStatement
    made_layer y = statement_step s locals (map-Statement Statement (Numbered NumberedStatement) (statement_of s locals) (pieces y))

    declare_layer : (d : Sort) (x l : Name) (e : Expression) (at : ℕ) → Fits (walk_layer (o.Declare d x l e at)) (declared_layer (o.Declare d x l e at)) (made_layer (o.Declare d x l e at))
    declare_layer d x l e at known k h f r =
        let head : IsRight s returns (known, declare d x l e) = r.0 in
        let p : Parameter = record { sort = d; name = x; label = l } in
        let declared : in_sort s d ≡ [] = left_nil (in_sort s d) (in_label s l) (left_nil (in_sort s d ++ in_label s l) (u.in_expression s known e) head.declared) in
        let v = nr.Plain (expression_of s locals e k).0 in
        let holds : Holds s (kind_of_sort s d) (n.kind_at kinds (local_number locals x)) = subst (Holds s (kind_of_sort s d)) (sym (kind_of_first s classes locals x p f.0)) (sort_holds s d declared) in (
          all_append (IsKnown s locals) known (p ∷ []) h (record { itself = f.0; declared = declared }, tt),
          met_by (ns.Assign (local_number locals x) v at) (nso.Assign (local_number locals x) v at) (sym (ns.rolls-Assign (local_number locals x) v at)) (
            given_fits s classes headings locals known h (kind_of_sort s d) (n.kind_at kinds (local_number locals x)) e k holds
                (right_nil (in_sort s d ++ in_label s l) (u.in_expression s known e) head.declared)
                (left_nil (t.in_expression s known e) (given_to (kind_of_sort s d) (t.typed s known e)) head.typed)
                (right_nil (t.in_expression s known e) (given_to (kind_of_sort s d) (t.typed s known e)) head.typed),
            tt,
          ),
        )

    assign_layer : (x : Name) (w : Right) → Fits (walk_layer (o.Assign x w)) (declared_layer (o.Assign x w)) (made_layer (o.Assign x w))
    assign_layer x w known k h f r =
        let head : IsRight s returns (known, assign x w) = r.0 in
        let v = (right_of s locals w k).0 in (
          h,
          met_by (ns.Assign (local_number locals x) v x.at) (nso.Assign (local_number locals x) v x.at) (sym (ns.rolls-Assign (local_number locals x) v x.at))
              (right_fits s classes headings locals known h w (local_kind s known x) (n.kind_at kinds (local_number locals x)) k
              (local_holds s classes locals known h x (left_nil (in_local s known x) (u.in_right s known w) head.declared))
              (right_nil (in_local s known x) (u.in_right s known w) head.declared)
              head.counted
              head.typed),
        )

    write_layer : (x y : Name) (e : Expression) → Fits (walk_layer (o.Write x y e)) (declared_layer (o.Write x y e)) (made_layer (o.Write x y e))
    write_layer x y e known k h f r =
        let head : IsRight s returns (known, write x y e) = r.0 in
        let v = (expression_of s locals e (suc k)).0 in
        let taker = kind_of_field s (field_of s known x y) in
        let reach = t.in_reach s known x x.at in
        let field = field_number s locals x y in
        let front = left_nil (reach ++ t.in_expression s known e) (given_to taker (t.typed s known e)) head.typed in (
          h,
          met_by (ns.Write (local_use locals x) field v k) (nso.Write (local_use locals x) field v k) (sym (ns.rolls-Write (local_use locals x) field v k)) (
            given_fits s classes headings locals known h taker (n.field_kind (classes_in s) (n.kind_at kinds (local_number locals x)) field) e (suc k)
                (field_holds s classes locals known h x y x.at (left_nil (u.in_reach s known x y) (u.in_expression s known e) head.declared) (left_nil reach (t.in_expression s known e) front))
                (right_nil (u.in_reach s known x y) (u.in_expression s known e) head.declared)
                (right_nil reach (t.in_expression s known e) front)
                (right_nil (reach ++ t.in_expression s known e) (given_to taker (t.typed s known e)) head.typed),
            tt,
          ),
        )

    call_layer : (x : Name) (es : List Expression) → Fits (walk_layer (o.Call x es)) (declared_layer (o.Call x es)) (made_layer (o.Call x es))
    call_layer x es known k h f r =
        let head : IsRight s returns (known, call x es) = r.0 in
        let v = (expressions_of s locals es k).0 in
        let c = call_fits s classes headings locals known h x es head.declared head.counted head.typed in
        (h, met_by (ns.Call (method_use s x) v) (nso.Call (method_use s x) v) (sym (ns.rolls-Call (method_use s x) v)) (c.fitting k))

    if_layer : (e : Expression) (xs : List S) → Fits (walk_layer (o.If e xs None)) (declared_layer (o.If e xs None)) (made_layer (o.If e xs None))
    if_layer e xs known k h f r =
        let c = expression_of s locals e k in
        let b = made xs c.1 in
        let hs = all_split (IsRight s returns) (walked xs known).heads [] r.1 in (
          h,
          met_by (ns.If c.0 b.0 []) (nso.If c.0 b.0 []) (sym (ns.rolls-If c.0 b.0 []))
              (all_append Met (block_claims b.0) [] (block_layer xs known c.1 h f hs.0).1 tt),
        )

    if_both_layer : (e : Expression) (xs ys : List S) → Fits (walk_layer (o.If e xs (Some ys))) (declared_layer (o.If e xs (Some ys))) (made_layer (o.If e xs (Some ys)))
    if_both_layer e xs ys known k h f r =
        let c = expression_of s locals e k in
        let b = made xs c.1 in
        let d = made ys b.1 in
        (h, met_by (ns.If c.0 b.0 d.0) (nso.If c.0 b.0 d.0) (sym (ns.rolls-If c.0 b.0 d.0)) (two_met known xs ys c.1 h f r.1))

    while_layer : (e : Expression) (xs : List S) → Fits (walk_layer (o.While e xs)) (declared_layer (o.While e xs)) (made_layer (o.While e xs))
    while_layer e xs known k h f r =
        let c = expression_of s locals e k in
        let b = made xs c.1 in
        (h, met_by (ns.While c.0 b.0) (nso.While c.0 b.0) (sym (ns.rolls-While c.0 b.0)) (block_layer xs known c.1 h f r.1).1)

    atomic_layer : (x : Name) (xs ys : List S) (at : ℕ) → Fits (walk_layer (o.Atomic x xs ys at)) (declared_layer (o.Atomic x xs ys at)) (made_layer (o.Atomic x xs ys at))
    atomic_layer x xs ys at known k h f r =
        let b = made xs k in
        let d = made ys b.1 in
        (h, met_by (ns.Atomic (label_use s x) b.0 d.0 at) (nso.Atomic (label_use s x) b.0 d.0 at) (sym (ns.rolls-Atomic (label_use s x) b.0 d.0 at)) (two_met known xs ys k h f r.1))

    fail_layer : (at : ℕ) → Fits (walk_layer (o.Fail at)) (declared_layer (o.Fail at)) (made_layer (o.Fail at))
    fail_layer at known k h f r = (h, met_by (ns.Fail at) (nso.Fail at) (sym (ns.rolls-Fail at)) tt)

    statement_layer : (y : o.Statement-F S) → Fits (walk_layer y) (declared_layer y) (made_layer y)
    statement_layer (o.Declare d x l e at) = declare_layer d x l e at
    statement_layer (o.Assign x w) = assign_layer x w
    statement_layer (o.Write x y e) = write_layer x y e
    statement_layer (o.Call x es) = call_layer x es
    statement_layer (o.If e xs None) = if_layer e xs
    statement_layer (o.If e xs (Some ys)) = if_both_layer e xs ys
    statement_layer (o.While e xs) = while_layer e xs
    statement_layer (o.Atomic x xs ys at) = atomic_layer x xs ys at
    statement_layer (o.Fail at) = fail_layer at

    statement_case : (y : o.Statement-F S) → StatementFits (roll-Statement (pieces y))
    statement_case y =
        let x = roll-Statement (pieces y) in
        subst (λ w. Fits (walk x) (declared_in x) w) (sym (statement_numbers s locals x (pieces y) refl))
        (subst (λ w. Fits (walk x) w (made_layer y)) (sym (fold-roll-Statement (List Parameter) declared_step (pieces y)))
        (subst (λ w. Fits w (declared_layer y) (made_layer y)) (sym (fold-roll-Statement Walk walk_step (pieces y)))
        (statement_layer y)))

  pub statement_fits : (x : Statement) → StatementFits x
  statement_fits = ind-Statement StatementFits (λ x y is. subst (λ z. StatementFits (roll-Statement z)) is (statement_case _ (λ k. k.0) (λ k. k.1) y))

  pub block_fits : (xs : List Statement) → BlockFits (heads_in xs) (flat_map declared_in xs) (block_of s locals xs)
  block_fits [] known k h f r = (h, tt)
  block_fits (x ∷ xs) known k h f r =
      let ps = all_split (IsFirst locals) (declared_in x) (flat_map declared_in xs) f in
      let hs = all_split (IsRight s returns) (walk x known).heads (heads_in xs (walk x known).behind).heads r in
      let here = statement_fits x known k h ps.0 hs.0 in
      let rest = block_fits xs (walk x known).behind (statement_of s locals x k).1 here.0 ps.1 hs.1 in
      (rest.0, all_append Met (claims_of (statement_of s locals x k).0) (block_claims (block_of s locals xs (statement_of s locals x k).1).0) here.1 rest.1)
