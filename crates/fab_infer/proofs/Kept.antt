-- A bundle with holes keeps the rules of names and types with every choice of labels for these where it does with the first declared label for each.
use Rattle.std.proofs.Common.{◌≡◌, ℕ, zero, suc, ◌<◌, inl, inr, true, false, ◌&&◌, cond, if◌then◌else◌, List, [], ◌∷◌, ◌++◌, map, length, Option, Some, None, refl, sym, ap, ◌∙◌, subst, arith}
use Rattle.std.specs.Prelude.{slice_get}
use Rattle.std.specs.List.{flat_map}
use Rattle.std.specs.Str.{bytes_eq}
use Rattle.std.proofs.lemmas.Bool.{cases_lt, eq-eqb}
use Rattle.std.proofs.lemmas.List.{length-map}
use Rattle.fab_base.proofs.Lists.{left_nil, right_nil, at_index}
use Rattle.fab_tree.specs.declared.name.Name.{Name}
use Rattle.fab_tree.specs.declared.declaration.LabelText.{LabelText}
use Rattle.fab_tree.specs.declared.program.Parameter.{Parameter}
use Rattle.fab_tree.specs.declared.program.Returns.{Returns}
use Rattle.fab_tree.specs.declared.program.Method.{Method}
use Rattle.fab_tree.specs.declared.start.Start.{Start}
use Rattle.fab_tree.specs.declared.start.RequestText.{RequestText}
use Rattle.fab_tree.specs.declared.start.Session.{Session}
use Rattle.fab_language.specs.Faults.{faults}
use Rattle.fab_language.specs.Heads.{Locals, Head, heads_of}
use Rattle.fab_language.specs.Names.{is_same_name, named, label_name}
use Rattle.fab_language.specs.Unknown as u
use Rattle.fab_language.specs.Unknown.{if_found, in_label}
use Rattle.fab_language.specs.Doubled as d
use Rattle.fab_language.specs.Roles as r
use Rattle.fab_language.specs.Arity as a
use Rattle.fab_language.specs.Types as t
use Rattle.fab_language.specs.MethodNumbers.{Numbered, in_turn}
use Rattle.fab_holes.specs.Holes.{is_hole, chosen_name, named_as, filled_name, filled_parameter, filled_method, filled, holes, IsNamed}
use Rattle.fab_holes.specs.Least.{IsChoice}
use Rattle.fab_holes.proofs.Choosing.{slice_none, slice_some}
use Rattle.fab_infer.proofs.Near.{AreNear, known_at, method_near, next}
use Rattle.fab_infer.proofs.Ruled.{counted_head, doubled_stays, placed_head, same_count, same_found, same_kinds, typed_head, unknown_head}

module _ (start : Start) (c e : List ℕ) (knows : (l : Name) (h : ℕ) → in_label start (filled_name start c l h).0 ≡ [] → in_label start (filled_name start e l h).0 ≡ []) where
  abbrev X : Start
  X = filled start c

  abbrev Y : Start
  Y = filled start e

  abbrev ma : Method → Numbered Method
  ma = filled_method start c

  abbrev mb : Method → Numbered Method
  mb = filled_method start e

  -- ---- heads

  unknown_heads : (xs ys : List (Locals × Head)) → AreNear start xs ys → flat_map (λ h. u.in_head X h.0 h.1) xs ≡ [] → flat_map (λ h. u.in_head Y h.0 h.1) ys ≡ []
  unknown_heads [] [] near nil = refl
  unknown_heads [] (y ∷ ys) near nil = absurd near
  unknown_heads (x ∷ xs) [] near nil = absurd near
  unknown_heads (x ∷ xs) (y ∷ ys) near nil =
      let rest = flat_map (λ h. u.in_head X h.0 h.1) xs in
      let here = unknown_head start c e x.0 y.0 near.0.0 x.1 y.1 near.0.1 (left_nil (u.in_head X x.0 x.1) rest nil) in
      let there = unknown_heads xs ys near.1 (right_nil (u.in_head X x.0 x.1) rest nil) in
      λ i. here i ++ there i

  typed_heads : (returns : Option Returns) (xs ys : List (Locals × Head)) → AreNear start xs ys → flat_map (λ h. t.in_head X h.0 returns h.1) xs ≡ flat_map (λ h. t.in_head Y h.0 returns h.1) ys
  typed_heads returns [] [] near = refl
  typed_heads returns [] (y ∷ ys) near = absurd near
  typed_heads returns (x ∷ xs) [] near = absurd near
  typed_heads returns (x ∷ xs) (y ∷ ys) near = λ i. typed_head start c e x.0 y.0 near.0.0 returns x.1 y.1 near.0.1 i ++ typed_heads returns xs ys near.1 i

  placed_heads : (xs ys : List (Locals × Head)) → AreNear start xs ys → flat_map (λ h. r.in_head X h.1) xs ≡ flat_map (λ h. r.in_head Y h.1) ys
  placed_heads [] [] near = refl
  placed_heads [] (y ∷ ys) near = absurd near
  placed_heads (x ∷ xs) [] near = absurd near
  placed_heads (x ∷ xs) (y ∷ ys) near = λ i. placed_head start c e x.1 y.1 near.0.1 i ++ placed_heads xs ys near.1 i

  counted_heads : (xs ys : List (Locals × Head)) → AreNear start xs ys → flat_map (λ h. a.in_head X h.1) xs ≡ flat_map (λ h. a.in_head Y h.1) ys
  counted_heads [] [] near = refl
  counted_heads [] (y ∷ ys) near = absurd near
  counted_heads (x ∷ xs) [] near = absurd near
  counted_heads (x ∷ xs) (y ∷ ys) near = λ i. counted_head start c e x.1 y.1 near.0.1 i ++ counted_heads xs ys near.1 i

  -- ---- methods

  unknown_parameters : (ps : List Parameter) (h g : ℕ) → h ≡ g → flat_map (u.in_parameter X) (in_turn (map (filled_parameter start c) ps) h).0 ≡ [] → flat_map (u.in_parameter Y) (in_turn (map (filled_parameter start e) ps) g).0 ≡ []
  unknown_parameters [] h g s nil = refl
  unknown_parameters (p ∷ ps) h g s nil =
      let l = filled_name start c p.label h in
      let rest = flat_map (u.in_parameter X) (in_turn (map (filled_parameter start c) ps) l.1).0 in
      let first = left_nil (u.in_sort start p.sort ++ in_label start l.0) rest nil in
      let sort = left_nil (u.in_sort start p.sort) (in_label start l.0) first in
      let label = known_at start c e knows p.label h g s (right_nil (u.in_sort start p.sort) (in_label start l.0) first) in
      let there = unknown_parameters ps l.1 (filled_name start e p.label g).1 (next start c e knows p.label h g s) (right_nil (u.in_sort start p.sort ++ in_label start l.0) rest nil) in
      λ i. (sort i ++ label i) ++ there i

  unknown_method : (m : Method) (h g : ℕ) → h ≡ g → u.in_method X (ma m h).0 ≡ [] → u.in_method Y (mb m g).0 ≡ []
  unknown_method m h g s nil =
      let x = (ma m h).0 in
      let ps = flat_map (u.in_parameter X) x.parameters in
      let rs = u.in_returns start m.returns in
      let bs = in_label start m.begin in
      let qs = flat_map (u.in_principal start) m.authority in
      let hs = flat_map (λ v. u.in_head X v.0 v.1) (heads_of x) in
      let heading = left_nil (ps ++ rs ++ bs ++ qs) hs nil in
      let three = left_nil (ps ++ rs ++ bs) qs heading in
      let two = left_nil (ps ++ rs) bs three in
      let here = unknown_parameters m.parameters h g s (left_nil ps rs two) in
      let returns = right_nil ps rs two in
      let begin = right_nil (ps ++ rs) bs three in
      let principals = right_nil (ps ++ rs ++ bs) qs heading in
      let heads = unknown_heads (heads_of x) (heads_of (mb m g).0) (method_near start c e knows m h g s).1 (right_nil (ps ++ rs ++ bs ++ qs) hs nil) in
      λ i. (here i ++ returns i ++ begin i ++ principals i) ++ heads i

  unknown_methods : (ms : List Method) (h g : ℕ) → h ≡ g → flat_map (u.in_method X) (in_turn (map ma ms) h).0 ≡ [] → flat_map (u.in_method Y) (in_turn (map mb ms) g).0 ≡ []
  unknown_methods [] h g s nil = refl
  unknown_methods (m ∷ ms) h g s nil =
      let rest = flat_map (u.in_method X) (in_turn (map ma ms) (ma m h).1).0 in
      let here = unknown_method m h g s (left_nil (u.in_method X (ma m h).0) rest nil) in
      let there = unknown_methods ms (ma m h).1 (mb m g).1 (method_near start c e knows m h g s).0 (right_nil (u.in_method X (ma m h).0) rest nil) in
      λ i. here i ++ there i

  typed_methods : (ms : List Method) (h g : ℕ) → h ≡ g → flat_map (t.in_method X) (in_turn (map ma ms) h).0 ≡ flat_map (t.in_method Y) (in_turn (map mb ms) g).0
  typed_methods [] h g s = refl
  typed_methods (m ∷ ms) h g s =
      let near = method_near start c e knows m h g s in
      λ i. (t.if_so (t.says_so start m.returns m.result) m.name.at ++ typed_heads m.returns (heads_of (ma m h).0) (heads_of (mb m g).0) near.1 i) ++ typed_methods ms (ma m h).1 (mb m g).1 near.0 i

  placed_methods : (ms : List Method) (h g : ℕ) → h ≡ g → flat_map (r.in_method X) (in_turn (map ma ms) h).0 ≡ flat_map (r.in_method Y) (in_turn (map mb ms) g).0
  placed_methods [] h g s = refl
  placed_methods (m ∷ ms) h g s =
      let near = method_near start c e knows m h g s in
      λ i. placed_heads (heads_of (ma m h).0) (heads_of (mb m g).0) near.1 i ++ placed_methods ms (ma m h).1 (mb m g).1 near.0 i

  counted_methods : (ms : List Method) (h g : ℕ) → h ≡ g → flat_map (a.in_method X) (in_turn (map ma ms) h).0 ≡ flat_map (a.in_method Y) (in_turn (map mb ms) g).0
  counted_methods [] h g s = refl
  counted_methods (m ∷ ms) h g s =
      let near = method_near start c e knows m h g s in
      λ i. counted_heads (heads_of (ma m h).0) (heads_of (mb m g).0) near.1 i ++ counted_methods ms (ma m h).1 (mb m g).1 near.0 i

  -- ---- sessions

  unknown_request : (x : RequestText) → u.in_request X x ≡ u.in_request Y x
  unknown_request x = λ i. same_found start c e x.method i ++ flat_map (u.in_given start) x.arguments

  unknown_session : (x : Session) → u.in_session X x ≡ u.in_session Y x
  unknown_session x = λ i. u.in_principal start x.worker ++ flat_map (λ y. unknown_request y i) x.requests

  typed_request : (x : RequestText) → t.in_request X x ≡ t.in_request Y x
  typed_request x = λ i. t.each_given (same_kinds start c e x.method i) (map (t.given_value start) x.arguments)

  counted_request : (x : RequestText) → a.in_request X x ≡ a.in_request Y x
  counted_request x = same_count start c e x.method (length x.arguments)

  -- ---- the whole

  unknown_all : u.unknown X ≡ [] → u.unknown Y ≡ []
  unknown_all nil =
      let ds = flat_map (u.in_delegation start) start.program.delegations in
      let ls = flat_map (u.in_label_text start) start.program.labels in
      let cs = flat_map (u.in_class start) start.program.classes in
      let ms = flat_map (u.in_method X) X.program.methods in
      let rs = flat_map (u.in_root start) start.roots in
      let ss = flat_map (u.in_session X) start.sessions in
      let ps = flat_map (u.in_post start) start.posts in
      let xs = flat_map (u.in_crash start) start.crashes in
      let vs = flat_map (u.in_event start) start.schedule in
      let eight = left_nil (ds ++ ls ++ cs ++ ms ++ rs ++ ss ++ ps ++ xs) vs nil in
      let seven = left_nil (ds ++ ls ++ cs ++ ms ++ rs ++ ss ++ ps) xs eight in
      let six = left_nil (ds ++ ls ++ cs ++ ms ++ rs ++ ss) ps seven in
      let five = left_nil (ds ++ ls ++ cs ++ ms ++ rs) ss six in
      let four = left_nil (ds ++ ls ++ cs ++ ms) rs five in
      let three = left_nil (ds ++ ls ++ cs) ms four in
      let methods = unknown_methods start.program.methods 0 0 refl (right_nil (ds ++ ls ++ cs) ms four) in
      let sessions : flat_map (u.in_session Y) start.sessions ≡ [] = sym (λ i. flat_map (λ x. unknown_session x i) start.sessions) ∙ right_nil (ds ++ ls ++ cs ++ ms ++ rs) ss six in
      λ i. three i ++ methods i ++ right_nil (ds ++ ls ++ cs ++ ms) rs five i ++ sessions i ++ right_nil (ds ++ ls ++ cs ++ ms ++ rs ++ ss) ps seven i
      ++ right_nil (ds ++ ls ++ cs ++ ms ++ rs ++ ss ++ ps) xs eight i ++ right_nil (ds ++ ls ++ cs ++ ms ++ rs ++ ss ++ ps ++ xs) vs nil i

  typed_all : t.mistyped X ≡ t.mistyped Y
  typed_all = λ i. typed_methods start.program.methods 0 0 refl i ++ flat_map (t.in_root start) start.roots ++ flat_map (λ (x : Session). flat_map (λ y. typed_request y i) x.requests) start.sessions

  counted_all : a.miscounted X ≡ a.miscounted Y
  counted_all = λ i. counted_methods start.program.methods 0 0 refl i ++ flat_map (a.in_root start) start.roots ++ flat_map (λ (x : Session). flat_map (λ y. counted_request y i) x.requests) start.sessions

  placed_all : r.misplaced X ≡ r.misplaced Y
  placed_all = λ i. placed_methods start.program.methods 0 0 refl i
      ++ flat_map (r.in_root start) start.roots ++ flat_map (r.in_session start) start.sessions ++ flat_map (r.in_post start) start.posts ++ flat_map (r.in_crash start) start.crashes ++ flat_map (r.in_event start) start.schedule

  pub right_with : faults X ≡ [] → faults Y ≡ []
  right_with nil =
      let us = u.unknown X in
      let ds = d.doubled X in
      let ps = r.misplaced X in
      let cs = a.miscounted X in
      let ts = t.mistyped X in
      let four = left_nil (us ++ ds ++ ps ++ cs) ts nil in
      let three = left_nil (us ++ ds ++ ps) cs four in
      let two = left_nil (us ++ ds) ps three in
      let unknowns = unknown_all (left_nil us ds two) in
      let doubles : d.doubled Y ≡ [] = doubled_stays start e ∙ sym (doubled_stays start c) ∙ right_nil us ds two in
      let places : r.misplaced Y ≡ [] = sym placed_all ∙ right_nil (us ++ ds) ps three in
      let counts : a.miscounted Y ≡ [] = sym counted_all ∙ right_nil (us ++ ds ++ ps) cs four in
      let types : t.mistyped Y ≡ [] = sym typed_all ∙ right_nil (us ++ ds ++ ps ++ cs) ts nil in
      λ i. unknowns i ++ doubles i ++ places i ++ counts i ++ types i

-- ---- a choice names declared labels

same_itself : (xs : List ℕ) → bytes_eq xs xs ≡ true
same_itself [] = refl
same_itself (x ∷ xs) = ap (λ b. b && bytes_eq xs xs) (eq-eqb x x refl) ∙ same_itself xs

-- the name of a declared label is one
found_at : (ls : List LabelText) (v : ℕ) (x : LabelText) (n : Name) → slice_get ls v ≡ Some x → n.text ≡ x.name.text → if_found (named label_name ls n) n ≡ []
found_at [] v x n is text = absurd (cc)
found_at (y ∷ ys) zero x n is text =
    let first : y ≡ x = cc in
    ap (λ b. if_found (cond b (Some y) (named label_name ys n)) n) (ap (λ (z : LabelText). bytes_eq z.name.text n.text) first ∙ ap (bytes_eq x.name.text) text ∙ same_itself x.name.text)
found_at (y ∷ ys) (suc v) x n is text = elim (is_same_name y.name n) as (λ b. if_found (cond b (Some y) (named label_name ys n)) n ≡ []) [ true ↦ refl | false ↦ found_at ys v x n is text ]

module _ (start : Start) (choice : List ℕ) (is : IsChoice start choice) where
  abbrev zeros : List ℕ
  zeros = map (λ at. 0) (holes start)

  chosen_known : (l : Name) (h : ℕ) → in_label start (chosen_name start (slice_get zeros h) l) ≡ [] → in_label start (chosen_name start (slice_get choice h) l) ≡ []
  chosen_known l h nil = elim (cases_lt h (length choice)) [
    | inl inside ↦
        let v = slice_some choice h inside in
        let x = slice_some start.program.labels v.0 (at_index (λ n. n < length start.program.labels) choice h v.0 is.declared v.1) in
        subst (λ o. in_label start (chosen_name start o l) ≡ []) (sym v.1)
        (subst (λ o. in_label start (named_as o l) ≡ []) (sym x.1) (found_at start.program.labels v.0 x.0 (record { text = x.0.name.text; at = l.at }) x.1 refl))
    | inr past ↦
        let none : slice_get choice h ≡ None = slice_none choice h past in
        let zero_at = λ (at : ℕ). zero in
        let long = length-map {B = ℕ} (holes start) zero_at in
        let many = is.many in
        let nothing : slice_get zeros h ≡ None = slice_none zeros h (omega (arith, past, long, many)) in
        subst (λ o. in_label start (chosen_name start o l) ≡ []) (nothing ∙ sym none) nil
  ]

  knows_all : (l : Name) (h : ℕ) → in_label start (filled_name start zeros l h).0 ≡ [] → in_label start (filled_name start choice l h).0 ≡ []
  knows_all l h = elim (is_hole start l) as (λ b. in_label start (if◌then◌else◌ {A = Name × ℕ} b (chosen_name start (slice_get zeros h) l, suc h) (l, h)).0 ≡ [] → in_label start (if◌then◌else◌ {A = Name × ℕ} b (chosen_name start (slice_get choice h) l, suc h) (l, h)).0 ≡ []) [
    | true ↦ chosen_known l h
    | false ↦ λ nil. nil
  ]

  pub names_kept : IsNamed start → faults (filled start choice) ≡ []
  names_kept named = right_with start zeros choice knows_all named
