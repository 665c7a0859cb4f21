-- Two bundles that differ in the labels for holes alone: their heads are the same but for these labels.
use Rattle.std.proofs.Common.{◌≡◌, ℕ, suc, true, false, if◌then◌else◌, List, [], ◌∷◌, ◌++◌, map, Option, Some, None, refl, sym, ap, ◌∙◌, subst}
use Rattle.std.specs.Prelude.{slice_get}
use Rattle.std.specs.List.{flat_map}
use Rattle.std.proofs.lemmas.List.{map-append}
use Rattle.fab_base.proofs.Lists.{left_nil, right_nil}
use Rattle.fab_tree.specs.declared.name.Name.{Name}
use Rattle.fab_tree.specs.declared.declaration.Sort.{Sort}
use Rattle.fab_tree.specs.declared.expression.Expression.{Expression}
use Rattle.fab_tree.specs.declared.statement.Statement.{Statement, roll-Statement, map-Statement, ind-Statement, fold-roll-Statement}
use Rattle.fab_tree.specs.declared.statement.Statement.TheOpen as o
use Rattle.fab_tree.specs.declared.statement.Statement.TheVariants as made
use Rattle.fab_tree.specs.declared.program.Parameter.{Parameter}
use Rattle.fab_tree.specs.declared.program.Return.{Return}
use Rattle.fab_tree.specs.declared.program.Method.{Method}
use Rattle.fab_tree.specs.declared.start.Start.{Start}
use Rattle.fab_language.specs.Heads.{Locals, Head, declare, assign, write, call, test, atomic, result, Stretch, Walk, walk_step, walk, heads_in, result_heads, heads_of}
use Rattle.fab_language.specs.MethodNumbers.{Numbered, in_turn}
use Rattle.fab_language.specs.Unknown.{in_label}
use Rattle.fab_holes.specs.Holes.{is_hole, chosen_name, filled_name, filled_parameter, filled_step, filled_statement, filled_method}

-- a local without its label
abbrev pub bare : Parameter → Sort × Name
bare p = (p.sort, p.name)

abbrev pub bares : Locals → List (Sort × Name)
bares ps = map bare ps

pub bares_more : (ps qs : Locals) (p q : Parameter) → bares ps ≡ bares qs → bare p ≡ bare q → bares (ps ++ p ∷ []) ≡ bares (qs ++ q ∷ [])
bares_more ps qs p q e f = map-append bare ps (p ∷ []) ∙ (λ i. e i ++ f i ∷ []) ∙ sym (map-append bare qs (q ∷ []))

module _ (start : Start) where
  -- the same head, or a declaration with another label, which is declared where the first is
  pub data Alike : Head → Head → Type 0 where
    same : (h : Head) → Alike h h
    declares : (t : Sort) (x l m : Name) (e : Expression) → (in_label start l ≡ [] → in_label start m ≡ []) → Alike (declare t x l e) (declare t x m e)

  abbrev pub IsNear : Locals × Head → Locals × Head → Type 0
  IsNear a b = (bares a.0 ≡ bares b.0) × Alike a.1 b.1

  abbrev pub AreNear : List (Locals × Head) → List (Locals × Head) → Type 0
  AreNear [] [] = Unit {0}
  AreNear [] (y ∷ ys) = ⊥
  AreNear (x ∷ xs) [] = ⊥
  AreNear (x ∷ xs) (y ∷ ys) = IsNear x y × AreNear xs ys

  near_append : (xs ys us vs : List (Locals × Head)) → AreNear xs ys → AreNear us vs → AreNear (xs ++ us) (ys ++ vs)
  near_append [] [] us vs a b = b
  near_append [] (y ∷ ys) us vs a b = absurd a
  near_append (x ∷ xs) [] us vs a b = absurd a
  near_append (x ∷ xs) (y ∷ ys) us vs a b = (a.0, near_append xs ys us vs a.1 b)

  abbrev Stretches : Stretch → Stretch → Type 0
  Stretches a b = AreNear a.heads b.heads × (bares a.behind ≡ bares b.behind)

  walk_is : (x : Statement) (y : o.Statement-F Statement) → x ≡ roll-Statement y → walk x ≡ walk_step (map-Statement Statement Walk walk y)
  walk_is x y is = ap walk is ∙ fold-roll-Statement Walk walk_step y

  on_layers : (x z : Statement) (y w : o.Statement-F Statement) → x ≡ roll-Statement y → z ≡ roll-Statement w → (ka kb : Locals)
      → Stretches (walk_step (map-Statement Statement Walk walk y) ka) (walk_step (map-Statement Statement Walk walk w) kb) → Stretches (walk x ka) (walk z kb)
  on_layers x z y w is also ka kb core =
      subst (λ (v : Walk). Stretches (v ka) (walk z kb)) (sym (walk_is x y is))
      (subst (λ (v : Walk). Stretches (walk_step (map-Statement Statement Walk walk y) ka) (v kb)) (sym (walk_is z w also)) core)

  module _ (c d : List ℕ) (knows : (l : Name) (h : ℕ) → in_label start (filled_name start c l h).0 ≡ [] → in_label start (filled_name start d l h).0 ≡ []) where
    abbrev fa : Statement → Numbered Statement
    fa = filled_statement start c

    abbrev fb : Statement → Numbered Statement
    fb = filled_statement start d

    abbrev sa : List Statement → Numbered (List Statement)
    sa xs = in_turn (map fa xs)

    abbrev sb : List Statement → Numbered (List Statement)
    sb xs = in_turn (map fb xs)

    -- as many holes are counted
    next_hole : (l : Name) (h : ℕ) → (filled_name start c l h).1 ≡ (filled_name start d l h).1
    next_hole l h = elim (is_hole start l) as (λ v. (if◌then◌else◌ {A = Name × ℕ} v (chosen_name start (slice_get c h) l, suc h) (l, h)).1 ≡ (if◌then◌else◌ {A = Name × ℕ} v (chosen_name start (slice_get d h) l, suc h) (l, h)).1) [ true ↦ refl | false ↦ refl ]

    pub next : (l : Name) (h g : ℕ) → h ≡ g → (filled_name start c l h).1 ≡ (filled_name start d l g).1
    next l h g e = next_hole l h ∙ ap (λ n. (filled_name start d l n).1) e

    pub known_at : (l : Name) (h g : ℕ) → h ≡ g → in_label start (filled_name start c l h).0 ≡ [] → in_label start (filled_name start d l g).0 ≡ []
    known_at l h g e nil = subst (λ n. in_label start (filled_name start d l n).0 ≡ []) e (knows l h nil)

    abbrev StatementNear : Numbered Statement → Numbered Statement → Type 0
    StatementNear a b = (h g : ℕ) → h ≡ g → ((a h).1 ≡ (b g).1) × ((ka kb : Locals) → bares ka ≡ bares kb → Stretches (walk (a h).0 ka) (walk (b g).0 kb))

    abbrev Known : Type 0
    Known = (x : Statement) × StatementNear (fa x) (fb x)

    abbrev plain : List Known → List Statement
    plain ks = map (λ (k : Known). k.0) ks

    abbrev BlockNear : List Statement → Type 0
    BlockNear xs = (h g : ℕ) → h ≡ g → ((sa xs h).1 ≡ (sb xs g).1) × ((ka kb : Locals) → bares ka ≡ bares kb → Stretches (heads_in (sa xs h).0 ka) (heads_in (sb xs g).0 kb))

    block : (ks : List Known) → BlockNear (plain ks)
    block [] h g e = (e, λ ka kb s. (tt, s))
    block (k ∷ ks) h g e =
        let one = k.1 h g e in
        let rest = block ks (fa k.0 h).1 (fb k.0 g).1 one.0 in (
          rest.0,
          λ ka kb s.
              let wa = walk (fa k.0 h).0 ka in
              let wb = walk (fb k.0 g).0 kb in
              let a = one.1 ka kb s in
              let b = rest.1 wa.behind wb.behind a.1 in
              (near_append wa.heads wb.heads (heads_in (sa (plain ks) (fa k.0 h).1).0 wa.behind).heads (heads_in (sb (plain ks) (fb k.0 g).1).0 wb.behind).heads a.0 b.0, b.1),
        )

    abbrev pieces : o.Statement-F Known → o.Statement-F Statement
    pieces = map-Statement Known Statement (λ k. k.0)

    abbrev layer_of : List ℕ → o.Statement-F Known → Numbered Statement
    layer_of e y = filled_step start e (map-Statement Statement (Numbered Statement) (filled_statement start e) (pieces y))

    layer : (y : o.Statement-F Known) → StatementNear (layer_of c y) (layer_of d y)
    layer (o.Declare t x l e at) h g s =
        let p = (filled_name start c l h).0 in
        let q = (filled_name start d l g).0 in (
          next l h g s,
          λ ka kb near. on_layers (made.Declare t x p e at) (made.Declare t x q e at) (o.Declare t x p e at) (o.Declare t x q e at) (sym (made.rolls-Declare t x p e at)) (sym (made.rolls-Declare t x q e at)) ka kb
              (((near, declares t x p q e (known_at l h g s)), tt), bares_more ka kb (record { sort = t; name = x; label = p }) (record { sort = t; name = x; label = q }) near refl),
        )
    layer (o.Assign x r) h g s = (
      s,
      λ ka kb near. on_layers (made.Assign x r) (made.Assign x r) (o.Assign x r) (o.Assign x r) (sym (made.rolls-Assign x r)) (sym (made.rolls-Assign x r)) ka kb (((near, same (assign x r)), tt), near),
    )
    layer (o.Write x y e) h g s = (
      s,
      λ ka kb near. on_layers (made.Write x y e) (made.Write x y e) (o.Write x y e) (o.Write x y e) (sym (made.rolls-Write x y e)) (sym (made.rolls-Write x y e)) ka kb (((near, same (write x y e)), tt), near),
    )
    layer (o.Call m es) h g s = (
      s,
      λ ka kb near. on_layers (made.Call m es) (made.Call m es) (o.Call m es) (o.Call m es) (sym (made.rolls-Call m es)) (sym (made.rolls-Call m es)) ka kb (((near, same (call m es)), tt), near),
    )
    layer (o.If e ks None) h g s =
        let b = block ks h g s in
        let p = (sa (plain ks) h).0 in
        let q = (sb (plain ks) g).0 in (
          b.0,
          λ ka kb near. on_layers (made.If e p None) (made.If e q None) (o.If e p None) (o.If e q None) (sym (made.rolls-If e p None)) (sym (made.rolls-If e q None)) ka kb
              (((near, same (test e)), near_append (heads_in p ka).heads (heads_in q kb).heads [] [] (b.1 ka kb near).0 tt), near),
        )
    layer (o.If e ks (Some ls)) h g s =
        let b = block ks h g s in
        let r = block ls (sa (plain ks) h).1 (sb (plain ks) g).1 b.0 in
        let p = (sa (plain ks) h).0 in
        let q = (sb (plain ks) g).0 in
        let u = (sa (plain ls) (sa (plain ks) h).1).0 in
        let v = (sb (plain ls) (sb (plain ks) g).1).0 in (
          r.0,
          λ ka kb near. on_layers (made.If e p (Some u)) (made.If e q (Some v)) (o.If e p (Some u)) (o.If e q (Some v)) (sym (made.rolls-If e p (Some u))) (sym (made.rolls-If e q (Some v))) ka kb
              (((near, same (test e)), near_append (heads_in p ka).heads (heads_in q kb).heads (heads_in u ka).heads (heads_in v kb).heads (b.1 ka kb near).0 (r.1 ka kb near).0), near),
        )
    layer (o.While e ks) h g s =
        let b = block ks h g s in
        let p = (sa (plain ks) h).0 in
        let q = (sb (plain ks) g).0 in (
          b.0,
          λ ka kb near. on_layers (made.While e p) (made.While e q) (o.While e p) (o.While e q) (sym (made.rolls-While e p)) (sym (made.rolls-While e q)) ka kb
              (((near, same (test e)), (b.1 ka kb near).0), near),
        )
    layer (o.Atomic x ks ls at) h g s =
        let b = block ks h g s in
        let r = block ls (sa (plain ks) h).1 (sb (plain ks) g).1 b.0 in
        let p = (sa (plain ks) h).0 in
        let q = (sb (plain ks) g).0 in
        let u = (sa (plain ls) (sa (plain ks) h).1).0 in
        let v = (sb (plain ls) (sb (plain ks) g).1).0 in (
          r.0,
          λ ka kb near. on_layers (made.Atomic x p u at) (made.Atomic x q v at) (o.Atomic x p u at) (o.Atomic x q v at) (sym (made.rolls-Atomic x p u at)) (sym (made.rolls-Atomic x q v at)) ka kb
              (((near, same (atomic x)), near_append (heads_in p ka).heads (heads_in q kb).heads (heads_in u ka).heads (heads_in v kb).heads (b.1 ka kb near).0 (r.1 ka kb near).0), near),
        )
    layer (o.Fail at) h g s = (
      s,
      λ ka kb near. on_layers (made.Fail at) (made.Fail at) (o.Fail at) (o.Fail at) (sym (made.rolls-Fail at)) (sym (made.rolls-Fail at)) ka kb (tt, near),
    )

    statement_case : (y : o.Statement-F Known) → StatementNear (fa (roll-Statement (pieces y))) (fb (roll-Statement (pieces y)))
    statement_case y =
        subst (λ w. StatementNear w (fb (roll-Statement (pieces y)))) (sym (fold-roll-Statement (Numbered Statement) (filled_step start c) (pieces y)))
        (subst (λ w. StatementNear (layer_of c y) w) (sym (fold-roll-Statement (Numbered Statement) (filled_step start d) (pieces y))) (layer y))

    statement_near : (x : Statement) → StatementNear (fa x) (fb x)
    statement_near = ind-Statement (λ x. StatementNear (fa x) (fb x)) (λ x y is. subst (λ z. StatementNear (fa (roll-Statement z)) (fb (roll-Statement z))) is (statement_case y))

    abbrev known : List Statement → List Known
    known xs = map (λ x. (x, statement_near x)) xs

    plain_is : (xs : List Statement) → plain (known xs) ≡ xs
    plain_is [] = refl
    plain_is (x ∷ xs) = ap (λ l. x ∷ l) (plain_is xs)

    body_near : (xs : List Statement) → BlockNear xs
    body_near xs = subst BlockNear (plain_is xs) (block (known xs))

    -- ---- methods

    abbrev pa : List Parameter → Numbered (List Parameter)
    pa ps = in_turn (map (filled_parameter start c) ps)

    abbrev pb : List Parameter → Numbered (List Parameter)
    pb ps = in_turn (map (filled_parameter start d) ps)

    pub parameters_near : (ps : List Parameter) (h g : ℕ) → h ≡ g → ((pa ps h).1 ≡ (pb ps g).1) × (bares (pa ps h).0 ≡ bares (pb ps g).0)
    parameters_near [] h g e = (e, refl)
    parameters_near (p ∷ ps) h g e =
        let rest = parameters_near ps (filled_name start c p.label h).1 (filled_name start d p.label g).1 (next p.label h g e) in
        (rest.0, ap (λ l. bare p ∷ l) rest.1)

    -- each label of a parameter that is declared with the first choice is so with the second
    pub labels_known : (ps : List Parameter) (h g : ℕ) → h ≡ g → flat_map (λ (p : Parameter). in_label start p.label) (pa ps h).0 ≡ [] → flat_map (λ (p : Parameter). in_label start p.label) (pb ps g).0 ≡ []
    labels_known [] h g e nil = refl
    labels_known (p ∷ ps) h g e nil =
        let l = (filled_name start c p.label h).0 in
        let rest = flat_map (λ (q : Parameter). in_label start q.label) (pa ps (filled_name start c p.label h).1).0 in
        let here = known_at p.label h g e (left_nil (in_label start l) rest nil) in
        let there = labels_known ps (filled_name start c p.label h).1 (filled_name start d p.label g).1 (next p.label h g e) (right_nil (in_label start l) rest nil) in
        λ i. here i ++ there i

    pub method_near : (m : Method) (h g : ℕ) → h ≡ g → ((filled_method start c m h).1 ≡ (filled_method start d m g).1) × AreNear (heads_of (filled_method start c m h).0) (heads_of (filled_method start d m g).0)
    method_near m h g e =
        let ps = parameters_near m.parameters h g e in
        let b = body_near m.body (pa m.parameters h).1 (pb m.parameters g).1 ps.0 in
        let p = (sa m.body (pa m.parameters h).1).0 in
        let q = (sb m.body (pb m.parameters g).1).0 in
        let wa = heads_in p (pa m.parameters h).0 in
        let wb = heads_in q (pb m.parameters g).0 in
        let s = b.1 (pa m.parameters h).0 (pb m.parameters g).0 ps.1 in
        (b.0, near_append wa.heads wb.heads (result_heads m.result wa.behind) (result_heads m.result wb.behind) s.0 (last m.result wa.behind wb.behind s.1))
      where
        last : (x : Option Return) (ka kb : Locals) → bares ka ≡ bares kb → AreNear (result_heads x ka) (result_heads x kb)
        last None ka kb s = tt
        last (Some x) ka kb s = ((s, same (result x)), tt)
