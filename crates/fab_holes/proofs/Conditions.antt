-- What is known of a bundle whose names are right but for its holes.
use Rattle.std.proofs.Common.{◌≡◌, ℕ, suc, ◌+◌, ◌<◌, ◌≤◌, inl, inr, nat_lt, Bool, true, false, if◌then◌else◌, List, [], ◌∷◌, ◌++◌, map, length, refl, sym, ap, subst, arith}
use Rattle.std.specs.Prelude.{slice_get}
use Rattle.std.specs.List.{AllByRecursion, flat_map}
use Rattle.std.proofs.lemmas.Bool.{cases_lt}
use Rattle.fab_base.proofs.Lists.{left_nil, right_nil, at_index, all_along}
use Rattle.fab_tree.specs.declared.name.Name.{Name}
use Rattle.fab_tree.specs.declared.program.Parameter.{Parameter}
use Rattle.fab_tree.specs.declared.program.Method.{Method}
use Rattle.fab_tree.specs.declared.start.Start.{Start}
use Rattle.fab_tree.specs.declared.resolved.Class.{Class}
use Rattle.fab_tree.specs.declared.resolved.Local.{Local}
use Rattle.fab_tree.specs.declared.resolved.Method.{Method as NumberedMethod}
use Rattle.fab_tree.specs.Limits.{locals_of}
use Rattle.fab_language.specs.Unknown.{unknown}
use Rattle.fab_language.specs.Doubled.{doubled, repeats, in_class, in_method}
use Rattle.fab_language.specs.Roles.{misplaced}
use Rattle.fab_language.specs.Arity.{miscounted}
use Rattle.fab_language.specs.Types.{mistyped}
use Rattle.fab_language.specs.Names.{node_name, label_name, class_name, method_name, root_name}
use Rattle.fab_language.specs.Uses.{label_use}
use Rattle.fab_language.specs.MethodNumbers.{in_turn, numbered_local, method_of, methods_of}
use Rattle.fab_language.specs.Numbers.{resolved}
use Rattle.fab_labelling.specs.Obligations.{Claim, flows, conf, nowhere, declassifies, endorses, holds, answers_for, Owed, label_of_returns, owed}
use Rattle.fab_views.proofs.Labels.{AreBelow, IsLabelledLocal, IsLabelledClass, IsLabelledMethod, HasLabels, labels_in_block}
use Rattle.fab_views.proofs.Declared.{labels_declared}
use Rattle.fab_holes.specs.Holes.{is_hole, holes, chosen_name, filled_parameter, filled_method, filled, IsNamed}
use Rattle.fab_holes.specs.Open.{with_label, opened_local, opened_method, opened, renamed_method, renamed, renamed_claim}
use Rattle.fab_holes.specs.Least.{IsChoice}
use Rattle.fab_holes.proofs.Choosing.{slice_some, IsWithin, lt_true, lt_false}
use Rattle.fab_holes.proofs.Filling.{parameters, methods, method_filled}
use Rattle.fab_holes.proofs.Numbering.{many, IsFine, AreFine, Gives}
use Rattle.fab_holes.proofs.Whole.{MethodStays, Stays, whole}

-- the labels of a method's head, and those that its statements name, are declared
pub record IsDeclared (n : ℕ) (m : NumberedMethod) : Type 0 where
  pub returns : AreBelow n (label_of_returns m.returns)
  pub begin : m.begin.number < n
  pub body : AreBelow n (labels_in_block m.body)

module _ (count : ℕ) where
  opened_declared : (n : ℕ) (xs : List NumberedMethod) (h : ℕ) → AllByRecursion (IsDeclared n) xs → AllByRecursion (IsDeclared n) (in_turn (map (opened_method count) xs) h).0
  opened_declared n [] h a = tt
  opened_declared n (x ∷ xs) h a = (record { returns = a.0.returns; begin = a.0.begin; body = a.0.body }, opened_declared n xs (opened_method count x h).1 a.1)

  -- ---- holes that are numbered stand behind the declared labels, one behind the other

  abbrev IsBelow : ℕ → Local → Type 0
  IsBelow room x = x.label.number < count + room

  local_below : (room : ℕ) (x : Local) (h : ℕ) → (opened_local count x h).1 ≤ room → IsBelow room (opened_local count x h).0 × (h ≤ (opened_local count x h).1)
  local_below room x h = elim (nat_lt x.label.number count) as (λ b. nat_lt x.label.number count ≡ b → (if◌then◌else◌ {A = Local × ℕ} b (x, h) (with_label (count + h) x, suc h)).1 ≤ room
      → IsBelow room (if◌then◌else◌ {A = Local × ℕ} b (x, h) (with_label (count + h) x, suc h)).0 × (h ≤ (if◌then◌else◌ {A = Local × ℕ} b (x, h) (with_label (count + h) x, suc h)).1)) [
        | true ↦ λ e l. (below e, omega arith)
        | false ↦ λ e l. (omega (arith, l), omega arith)
      ] refl
    where
      below : nat_lt x.label.number count ≡ true → x.label.number < count + room
      below e = grind arith

  locals_below : (room : ℕ) (xs : List Local) (h : ℕ) → (in_turn (map (opened_local count) xs) h).1 ≤ room
      → AllByRecursion (IsBelow room) (in_turn (map (opened_local count) xs) h).0 × (h ≤ (in_turn (map (opened_local count) xs) h).1)
  locals_below room [] h l = (tt, omega arith)
  locals_below room (x ∷ xs) h l =
      let o = opened_local count x h in
      let rest = locals_below room xs o.1 l in
      let more = rest.1 in
      let here = local_below room x h (le o.1 (in_turn (map (opened_local count) xs) o.1).1 room more l) in
      let first = here.1 in
      ((here.0, rest.0), le h o.1 (in_turn (map (opened_local count) xs) o.1).1 first more)
    where
      le : (a b c : ℕ) → a ≤ b → b ≤ c → a ≤ c
      le a b c e f = omega (arith, e, f)

  methods_below : (room : ℕ) (xs : List NumberedMethod) (h : ℕ) → (in_turn (map (opened_method count) xs) h).1 ≤ room
      → AllByRecursion (λ (m : NumberedMethod). AllByRecursion (IsBelow room) m.locals) (in_turn (map (opened_method count) xs) h).0 × (h ≤ (in_turn (map (opened_method count) xs) h).1)
  methods_below room [] h l = (tt, omega arith)
  methods_below room (x ∷ xs) h l =
      let o = opened_method count x h in
      let rest = methods_below room xs o.1 l in
      let more = rest.1 in
      let here = locals_below room x.locals h (le o.1 (in_turn (map (opened_method count) xs) o.1).1 room more l) in
      let first = here.1 in
      ((here.0, rest.0), le h o.1 (in_turn (map (opened_method count) xs) o.1).1 first more)
    where
      le : (a b c : ℕ) → a ≤ b → b ≤ c → a ≤ c
      le a b c e f = omega (arith, e, f)

-- numbers from the bound on become 0
abbrev clamp : ℕ → ℕ → ℕ
clamp n l = if nat_lt l n then l else 0

clamp_below : (n l : ℕ) → l < n → clamp n l ≡ l
clamp_below n l h = ap (λ b. if b then l else 0) (lt_true l n h)

clamped : (n l : ℕ) → 0 < n → clamp n l < n
clamped n l h = elim (cases_lt l n) [
  | inl below ↦ subst (λ b. (if b then l else 0) < n) (sym (lt_true l n below)) below
  | inr above ↦ subst (λ b. (if b then l else 0) < n) (sym (lt_false l n above)) h
]

clamped_claim : (n : ℕ) (c : Claim) → IsWithin n (renamed_claim (clamp n) c)
clamped_claim n (flows a b) = λ some. (clamped n a some, clamped n b some)
clamped_claim n (conf a b) = tt
clamped_claim n (nowhere a) = tt
clamped_claim n (declassifies a b ps) = tt
clamped_claim n (endorses a b ps) = tt
clamped_claim n (holds store class) = tt
clamped_claim n (answers_for worker method p) = tt

clamp_locals : (n : ℕ) (xs : List Local) → AllByRecursion (λ (x : Local). x.label.number < n) xs → map (λ (x : Local). with_label (clamp n x.label.number) x) xs ≡ xs
clamp_locals n [] a = refl
clamp_locals n (x ∷ xs) a = λ i. with_label (clamp_below n x.label.number a.0 i) x ∷ clamp_locals n xs a.1 i

clamp_methods : (n : ℕ) (ms : List NumberedMethod) → AllByRecursion (λ (m : NumberedMethod). AllByRecursion (λ (x : Local). x.label.number < n) m.locals) ms → map (renamed_method (clamp n)) ms ≡ ms
clamp_methods n [] a = refl
clamp_methods n (m ∷ ms) a = λ i. record m { locals = clamp_locals n m.locals a.0 i } ∷ clamp_methods n ms a.1 i

all_within : (n : ℕ) (xs : List Owed) → AllByRecursion (λ (x : Owed). IsWithin n (renamed_claim (clamp n) x.claim)) xs
all_within n [] = tt
all_within n (x ∷ xs) = (clamped_claim n x.claim, all_within n xs)

-- ---- a bundle with the first label for each hole

module _ (start : Start) (named : IsNamed start) where
  abbrev zeros : List ℕ
  zeros = map (λ at. 0) (holes start)

  abbrev first : Start
  first = filled start zeros

  fine_of : (ps : List Parameter) (h : ℕ) → AllByRecursion (IsLabelledLocal (many start)) (map (numbered_local start) (parameters start zeros ps h).0) → AllByRecursion (IsFine start) ps
  fine_of [] h a = tt
  fine_of (p ∷ ps) h a = (by (is_hole start p.label) refl a.0, fine_of ps (filled_parameter start zeros p h).1 a.1)
    where
      by : (b : Bool) → is_hole start p.label ≡ b → (label_use start (if◌then◌else◌ {A = Name × ℕ} b (chosen_name start (slice_get (map (λ at. 0) (holes start)) h) p.label, suc h) (p.label, h)).0).number < many start → IsFine start p
      by true e l = inl e
      by false e l = inr (e, l)

  both : (ms : List Method) (h k : ℕ) → AllByRecursion (IsLabelledMethod (many start)) (methods_of first (methods start zeros ms h).0 k).0
      → AllByRecursion (AreFine start) ms × AllByRecursion (IsDeclared (many start)) (methods_of start ms k).0
  both [] h k a = (tt, tt)
  both (m ∷ ms) h k a =
      let x = filled_method start zeros m h in
      let is = method_filled start zeros m h k in
      let here = subst (λ (t : NumberedMethod × ℕ). IsLabelledMethod (many start) t.0) is a.0 in
      let next = ap (λ (t : NumberedMethod × ℕ). t.1) is in
      let rest = both ms x.1 (method_of start m k).1 (subst (λ n. AllByRecursion (IsLabelledMethod (many start)) (methods_of first (methods start zeros ms x.1).0 n).0) next a.1) in
      ((fine_of (locals_of m) h here.locals, rest.0), (record { returns = here.returns; begin = here.begin; body = here.body }, rest.1))

  labelled : HasLabels (resolved first)
  labelled = labels_declared first named

  parts : AllByRecursion (AreFine start) start.program.methods × AllByRecursion (IsDeclared (many start)) (resolved start).methods
  parts = both start.program.methods 0 0 labelled.methods

  -- each local's label is a hole or declared
  pub fine : AllByRecursion (AreFine start) start.program.methods
  fine = parts.0

  -- each label has a name of its own
  once : repeats label_name start.program.labels ≡ []
  once =
      let s = first in
      let a = unknown s in
      let twice = right_nil a (doubled s) (left_nil (a ++ doubled s) (misplaced s) (left_nil (a ++ doubled s ++ misplaced s) (miscounted s) (left_nil (a ++ doubled s ++ misplaced s ++ miscounted s) (mistyped s) named))) in
      let b = repeats node_name s.program.nodes in
      let c = repeats label_name s.program.labels in
      let d = repeats class_name s.program.classes in
      let e = flat_map in_class s.program.classes in
      let f = repeats method_name s.program.methods in
      let g = flat_map in_method s.program.methods in
      let h = repeats root_name s.roots in
      let four = left_nil (b ++ c ++ d ++ e) f (left_nil (b ++ c ++ d ++ e ++ f) g (left_nil (b ++ c ++ d ++ e ++ f ++ g) h (left_nil (b ++ c ++ d ++ e ++ f ++ g ++ h) _ twice))) in
      right_nil b c (left_nil (b ++ c) d (left_nil (b ++ c ++ d) e four))

  pub gives : (choice : List ℕ) → IsChoice start choice → Gives start choice
  gives choice is = record {
    given = λ h inside.
        let l = slice_some choice h inside in
        let x = slice_some start.program.labels l.0 (at_index (λ k. k < length start.program.labels) choice h l.0 is.declared l.1) in
        (l.0, x.0, l.1, x.1);
    once = once;
  }

  pub declared_methods : AllByRecursion (IsDeclared (many start)) (opened (resolved start)).methods
  declared_methods = opened_declared (many start) (many start) (resolved start).methods 0 parts.1

  pub declared_classes : AllByRecursion (λ (c : Class). c.label.number < many start) (resolved start).classes
  declared_classes = all_along (IsLabelledClass (many start)) (λ (c : Class). c.label.number < many start) (λ c h. h.label) (resolved start).classes labelled.classes

  -- numbers that leave declared labels as they are leave those of heads, and those that statements name
  pub stay : (f : ℕ → ℕ) → ((l : ℕ) → l < many start → f l ≡ l) → Stays f (opened (resolved start))
  stay f keeps = record {
    classes = all_along (IsLabelledClass (many start)) (λ (c : Class). f c.label.number ≡ c.label.number) (λ c h. keeps c.label.number h.label) (resolved start).classes labelled.classes;
    methods = all_along (IsDeclared (many start)) (MethodStays f) (λ m h. record {
      begin = keeps m.begin.number h.begin;
      returns = all_along (λ l. l < many start) (λ l. f l ≡ l) keeps (label_of_returns m.returns) h.returns;
      body = all_along (λ l. l < many start) (λ l. f l ≡ l) keeps (labels_in_block m.body) h.body;
    }) (opened (resolved start)).methods declared_methods;
  }

  -- what flows is a declared label or a hole
  pub within : (room : ℕ) → (in_turn (map (opened_method (many start)) (resolved start).methods) 0).1 ≤ room
      → AllByRecursion (λ (x : Owed). IsWithin (many start + room) x.claim) (owed (opened (resolved start)))
  within room bound =
      let n = many start + room in
      let r = opened (resolved start) in
      let same : renamed (clamp n) r ≡ r = ap (λ ms. record (resolved start) { methods = ms }) (clamp_methods n r.methods (methods_below (many start) room (resolved start).methods 0 bound).0) in
      subst (λ z. AllByRecursion (λ (x : Owed). IsWithin n x.claim) (owed z)) same
      ((whole (clamp n) (IsWithin n) r (stay (clamp n) (λ l h. clamp_below n l (more l h)))).to (all_within n (owed r)))
    where
      more : (l : ℕ) → l < many start → l < many start + room
      more l h = omega (arith, h)
