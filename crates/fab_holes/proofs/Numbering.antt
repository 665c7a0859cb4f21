-- Numbering a bundle with labels for its holes is renaming the numbered one: each hole's number becomes that of its label.
use Rattle.std.proofs.Common.{◌≡◌, ℕ, zero, suc, ◌+◌, ◌<◌, ◌≤◌, ◌⊎◌, inl, inr, nat_lt, not, Bool, true, false, cond, if◌then◌else◌, List, [], ◌∷◌, ◌++◌, map, length, Some, refl, sym, ap, ◌∙◌, subst, codes, append_assoc, arith, filter}
use Rattle.std.specs.Prelude.{slice_get}
use Rattle.std.specs.List.{AllByRecursion, flat_map, list_any}
use Rattle.std.specs.Str.{bytes_eq}
use Rattle.std.proofs.lemmas.Bool.{and_parts, or_parts, not-true}
use Rattle.std.proofs.lemmas.List.{length-append, length-map}
use Rattle.fab_base.proofs.Lists.{right_nil}
use Rattle.fab_tree.specs.declared.name.Name.{Name}
use Rattle.fab_tree.specs.declared.declaration.LabelText.{LabelText}
use Rattle.fab_tree.specs.declared.program.Parameter.{Parameter}
use Rattle.fab_tree.specs.declared.program.Method.{Method}
use Rattle.fab_tree.specs.declared.start.RequestText.{RequestText}
use Rattle.fab_tree.specs.declared.start.Session.{Session}
use Rattle.fab_tree.specs.declared.start.Start.{Start}
use Rattle.fab_tree.specs.declared.resolved.Local.{Local}
use Rattle.fab_tree.specs.declared.resolved.Method.{Method as NumberedMethod}
use Rattle.fab_tree.specs.Limits.{locals_of}
use Rattle.fab_language.specs.declared.rule.Fault.{Fault}
use Rattle.fab_language.specs.Doubled.{repeats_behind, repeats}
use Rattle.fab_language.specs.Names.{is_same_name, number_of, label_name}
use Rattle.fab_language.specs.Uses.{label_use, node_number}
use Rattle.fab_language.specs.MethodNumbers.{Numbered, in_turn, numbered_local, method_of, methods_of}
use Rattle.fab_language.specs.Numbers.{label_of, asked_from, session_of, values_of, resolved}
use Rattle.fab_language.proofs.Named.{same_text}
use Rattle.fab_shapes.proofs.Named.{number_same, same_name}
use Rattle.fab_holes.specs.Holes.{is_infer, has_holes, is_hole, holes_in, holes, chosen_name, named_as, filled_parameter, filled_method, filled}
use Rattle.fab_holes.specs.Open.{with_label, opened_local, opened_method, opened, renamed_method, renamed}
use Rattle.fab_holes.specs.Least.{chosen_label}
use Rattle.fab_holes.proofs.Choosing.{stays_below, at_hole, lt_true, lt_false}
use Rattle.fab_holes.proofs.Filling.{new, parameters, methods, method_stays, locals_filled, method_filled}

none_said : (b : Bool) (x : Fault) (rest : List Fault) → cond b (x ∷ []) [] ++ rest ≡ [] → b ≡ false
none_said true x rest e = absurd (omega (arith, ap length e))
none_said false x rest e = refl

-- ---- names that are declared once

module _ {A : Type 0} (name : A → Name) where
  number_front : (front items : List A) (x : Name) → list_any (λ y. is_same_name (name y) x) front ≡ false → number_of name (front ++ items) x ≡ length front + number_of name items x
  number_front [] items x e = omega arith
  number_front (z ∷ zs) items x e =
      let t = or_parts (is_same_name (name z) x) (list_any (λ y. is_same_name (name y) x) zs) e in
      let rest = number_front zs items x t.1 in
      ap (λ b. cond b zero (suc (number_of name (zs ++ items) x))) t.0 ∙ omega (arith, rest)

  number_first : (x : A) (xs : List A) → number_of name (x ∷ xs) (name x) ≡ zero
  number_first x xs = ap (λ b. cond b zero (suc (number_of name xs (name x)))) (same_name (name x) (name x) refl)

  number_behind : (front items : List A) (i : ℕ) (x : A) → repeats_behind name front items ≡ [] → slice_get items i ≡ Some x → number_of name (front ++ items) (name x) ≡ length front + i
  number_behind front [] i x e is = absurd (cc)
  number_behind front (y ∷ ys) zero x e is =
      let same : y ≡ x = cc in
      subst (λ z. number_of name (front ++ y ∷ ys) (name z) ≡ length front + 0) same
      (number_front front (y ∷ ys) (name y) (none_said (list_any (λ z. is_same_name (name z) (name y)) front) _ (repeats_behind name (front ++ y ∷ []) ys) e)
      ∙ ap (λ k. length front + k) (number_first y ys))
  number_behind front (y ∷ ys) (suc i) x e is =
      let rest = number_behind (front ++ y ∷ []) ys i x (right_nil _ (repeats_behind name (front ++ y ∷ []) ys) e) is in
      let long = length-append front (y ∷ []) in
      subst (λ l. number_of name l (name x) ≡ length front + suc i) (append_assoc front (y ∷ []) ys) (rest ∙ omega (arith, long))

  -- each has its own number
  number_at : (items : List A) (i : ℕ) (x : A) → repeats name items ≡ [] → slice_get items i ≡ Some x → number_of name items (name x) ≡ i
  number_at items i x e is = let n = number_behind [] items i x e is in omega (arith, n)

module _ (start : Start) where
  -- how many labels are declared
  abbrev pub many : ℕ
  many = length (resolved start).labels

  many_is : many ≡ length start.program.labels
  many_is = length-map start.program.labels (label_of start)

  -- ---- a hole, or a declared label

  unnamed : (ls : List LabelText) (x : Name) → list_any (λ (l : LabelText). is_infer l.name) ls ≡ false → is_infer x ≡ true → number_of label_name ls x ≡ length ls
  unnamed [] x e f = refl
  unnamed (l ∷ ls) x e f =
      let t = or_parts (is_infer l.name) (list_any (λ (y : LabelText). is_infer y.name) ls) e in
      let text : x.text ≡ codes "infer" = same_text x (record { text = codes "infer"; at = 0 }) f in
      ap (λ b. cond b zero (suc (number_of label_name ls x))) (ap (λ w. bytes_eq l.name.text w) text ∙ t.0) ∙ ap suc (unnamed ls x t.1 f)

  hole_number : (x : Name) → is_hole start x ≡ true → number_of label_name start.program.labels x ≡ length start.program.labels
  hole_number x e =
      let t = and_parts (has_holes start) (is_infer x) e in
      unnamed start.program.labels x (not-true (list_any (λ (l : LabelText). is_infer l.name) start.program.labels) t.0) t.1

  -- the label is a hole, or it is declared
  abbrev pub IsFine : Parameter → Type 0
  IsFine p = (is_hole start p.label ≡ true) ⊎ ((is_hole start p.label ≡ false) × ((label_use start p.label).number < many))

  abbrev pub AreFine : Method → Type 0
  AreFine m = AllByRecursion IsFine (locals_of m)

  -- which of the two shows in the number
  pub hole_or_not : (p : Parameter) → IsFine p → not (nat_lt (label_use start p.label).number many) ≡ is_hole start p.label
  hole_or_not p (inl hole) = ap not (lt_false (label_use start p.label).number many (at_least (label_use start p.label).number many (hole_number p.label hole ∙ sym (many_is)))) ∙ sym hole
    where
      at_least : (a b : ℕ) → a ≡ b → b ≤ a
      at_least a b e = omega (arith, e)
  hole_or_not p (inr (none, below)) = ap not (lt_true (label_use start p.label).number many below) ∙ sym none

  -- ---- how many holes there are

  module _ (choice : List ℕ) where
    next_hole : (p : Parameter) (h : ℕ) → (filled_parameter start choice p h).1 ≡ (if is_hole start p.label then suc h else h)
    next_hole p h = by (is_hole start p.label)
      where
        by : (b : Bool) → (if◌then◌else◌ {A = Name × ℕ} b (chosen_name start (slice_get choice h) p.label, suc h) (p.label, h)).1 ≡ (if b then suc h else h)
        by true = refl
        by false = refl

    parameter_holes : (ps : List Parameter) (h : ℕ) → (parameters start choice ps h).1 ≡ h + length (filter (λ (p : Parameter). is_hole start p.label) ps)
    parameter_holes [] h = omega arith
    parameter_holes (p ∷ ps) h =
        ap (λ k. (parameters start choice ps k).1) (next_hole p h) ∙ by (λ k. parameter_holes ps k) (is_hole start p.label)
      where
        by : ((k : ℕ) → (parameters start choice ps k).1 ≡ k + length (filter (λ (q : Parameter). is_hole start q.label) ps)) → (b : Bool)
            → (parameters start choice ps (if b then suc h else h)).1 ≡ h + length (cond b (p ∷ filter (λ (q : Parameter). is_hole start q.label) ps) (filter (λ (q : Parameter). is_hole start q.label) ps))
        by rest true = let e = rest (suc h) in omega (arith, e)
        by rest false = rest h

    method_holes : (ms : List Method) (h : ℕ) → (methods start choice ms h).1 ≡ h + length (flat_map (holes_in start) ms)
    method_holes [] h = omega arith
    method_holes (m ∷ ms) h =
        let here = ap (λ (t : List Parameter × ℕ). t.1) (locals_filled start choice m h) ∙ parameter_holes (locals_of m) h in
        let places = length-map (filter (λ (p : Parameter). is_hole start p.label) (locals_of m)) (λ (p : Parameter). p.label.at) in
        let both = length-append (holes_in start m) (flat_map (holes_in start) ms) in
        let rest = method_holes ms (filled_method start choice m h).1 in
        rest ∙ sums (filled_method start choice m h).1 (length (filter (λ (p : Parameter). is_hole start p.label) (locals_of m))) (length (holes_in start m)) (length (flat_map (holes_in start) ms)) (length (flat_map (holes_in start) (m ∷ ms))) here places both
      where
        sums : (next here places rest all : ℕ) → next ≡ h + here → places ≡ here → all ≡ places + rest → next + rest ≡ h + all
        sums next here places rest all e f g = omega (arith, e, f, g)

  -- ---- a choice

  pub record Gives (choice : List ℕ) : Type 0 where
    pub given : (h : ℕ) → h < length choice → (l : ℕ) × (x : LabelText) × (slice_get choice h ≡ Some l) × (slice_get start.program.labels l ≡ Some x)
    pub once : repeats label_name start.program.labels ≡ []

  module _ (choice : List ℕ) (gives : Gives choice) where
    abbrev f : ℕ → ℕ
    f = chosen_label many choice

    abbrev other : Local → Local
    other x = with_label (f x.label.number) x

    abbrev room : ℕ
    room = length choice

    abbrev FilledSame : Parameter → ℕ → Bool → Bool → Type 0
    FilledSame p h b c =
        let name : Name × ℕ = if b then (chosen_name start (slice_get choice h) p.label, suc h) else (p.label, h) in
        let x = numbered_local start p in
        let local : Local × ℕ = if c then (x, h) else (with_label (many + h) x, suc h) in
        (numbered_local start (record p { label = name.0 }) ≡ other local.0) × (name.1 ≡ local.1)

    abbrev SameLocal : Parameter → ℕ → Type 0
    SameLocal p h = FilledSame p h (is_hole start p.label) (nat_lt (label_use start p.label).number many)

    same_local : (p : Parameter) (h : ℕ) → IsFine p → (filled_parameter start choice p h).1 ≤ room → SameLocal p h
    same_local p h (inl hole) bound =
        let number : (label_use start p.label).number ≡ many = hole_number p.label hole ∙ sym many_is in
        let next : (filled_parameter start choice p h).1 ≡ suc h = next_hole choice p h ∙ ap (λ b. if b then suc h else h) hole in
        let g = gives.given h (by (filled_parameter start choice p h).1 room next bound) in
        let x = g.1 in
        let text : Name = record { text = x.name.text; at = p.label.at } in
        let named : chosen_name start (slice_get choice h) p.label ≡ text = ap (λ o. chosen_name start o p.label) g.2 ∙ ap (λ o. named_as o p.label) g.3 in
        let its : number_of label_name start.program.labels text ≡ g.0 = number_same label_name start.program.labels text x.name refl ∙ number_at label_name start.program.labels g.0 x gives.once g.3 in
        let put : f (many + h) ≡ g.0 = at_hole many choice h g.0 g.2 in
        let same : numbered_local start (record p { label = chosen_name start (slice_get choice h) p.label }) ≡ other (with_label (many + h) (numbered_local start p)) =
        ap (λ w. numbered_local start (record p { label = w })) named ∙ ap (λ k. with_label k (numbered_local start p)) (its ∙ sym put) in
        subst (λ b. FilledSame p h b (nat_lt (label_use start p.label).number many)) (sym hole)
        (subst (λ c. FilledSame p h true c) (sym (lt_false (label_use start p.label).number many (at_least (label_use start p.label).number many number))) (same, refl))
      where
        by : (a b : ℕ) → a ≡ suc h → a ≤ b → h < b
        by a b e l = omega (arith, e, l)

        at_least : (a b : ℕ) → a ≡ b → b ≤ a
        at_least a b e = omega (arith, e)
    same_local p h (inr (none, below)) bound =
        subst (λ b. FilledSame p h b (nat_lt (label_use start p.label).number many)) (sym none)
        (subst (λ c. FilledSame p h false c) (sym (lt_true (label_use start p.label).number many below))
        (ap (λ k. with_label k (numbered_local start p)) (sym (stays_below many choice (label_use start p.label).number below)), refl))

    abbrev opened_all : List Local → Numbered (List Local)
    opened_all xs = in_turn (map (opened_local many) xs)

    abbrev opened_methods : List NumberedMethod → Numbered (List NumberedMethod)
    opened_methods xs = in_turn (map (opened_method many) xs)

    abbrev SameLocals : List Parameter → ℕ → Type 0
    SameLocals ps h = let a = parameters start choice ps h in let b = opened_all (map (numbered_local start) ps) h in (map (numbered_local start) a.0 ≡ map other b.0) × (a.1 ≡ b.1)

    grows : (ps : List Parameter) (h : ℕ) → h ≤ (parameters start choice ps h).1
    grows ps h = let e = parameter_holes choice ps h in omega (arith, e)

    same_locals : (ps : List Parameter) (h : ℕ) → AllByRecursion IsFine ps → (parameters start choice ps h).1 ≤ room → SameLocals ps h
    same_locals [] h fine bound = (refl, refl)
    same_locals (p ∷ ps) h fine bound =
        let a = filled_parameter start choice p h in
        let o = opened_local many (numbered_local start p) h in
        let more = grows ps a.1 in
        let here : (numbered_local start a.0 ≡ other o.0) × (a.1 ≡ o.1) = same_local p h fine.0 (le a.1 (parameters start choice ps a.1).1 room more bound) in
        let rest = same_locals ps a.1 fine.1 bound in
        let xs = map (numbered_local start) ps in (
          ap (λ z. z ∷ map (numbered_local start) (parameters start choice ps a.1).0) here.0 ∙ ap (λ l. other o.0 ∷ l) (rest.0 ∙ ap (λ k. map other (opened_all xs k).0) here.1),
          rest.1 ∙ ap (λ k. (opened_all xs k).1) here.1,
        )
      where
        le : (a b c : ℕ) → a ≤ b → b ≤ c → a ≤ c
        le a b c e f = omega (arith, e, f)

    abbrev SameMethods : List Method → ℕ → ℕ → Type 0
    SameMethods ms h k =
        let a = methods start choice ms h in
        let b = opened_methods (methods_of start ms k).0 h in
        ((methods_of (new start choice) a.0 k).0 ≡ map (renamed_method f) b.0) × (a.1 ≡ b.1)

    same_methods : (ms : List Method) (h k : ℕ) → AllByRecursion AreFine ms → (methods start choice ms h).1 ≤ room → SameMethods ms h k
    same_methods [] h k fine bound = (refl, refl)
    same_methods (m ∷ ms) h k fine bound =
        let a = filled_method start choice m h in
        let x = method_of start m k in
        let o = opened_method many x.0 h in
        let rest = methods start choice ms a.1 in
        let ends : a.1 ≡ (parameters start choice (locals_of m) h).1 = ap (λ (t : List Parameter × ℕ). t.1) (locals_filled start choice m h) in
        let more = method_holes choice ms a.1 in
        let locals = same_locals (locals_of m) h fine.0 (le a.1 (parameters start choice (locals_of m) h).1 rest.1 room (length (flat_map (holes_in start) ms)) ends more bound) in
        let is = method_filled start choice m h k in
        let next : (method_of (new start choice) a.0 k).1 ≡ x.1 = ap (λ (t : NumberedMethod × ℕ). t.1) is in
        let head : (method_of (new start choice) a.0 k).0 ≡ renamed_method f o.0 =
        ap (λ (t : NumberedMethod × ℕ). t.0) is ∙ ap (λ ls. record x.0 { locals = ls }) locals.0 in
        let count : a.1 ≡ o.1 = ends ∙ locals.1 in
        let others = same_methods ms a.1 x.1 fine.1 bound in
        let ys = (methods_of start ms x.1).0 in (
          ap (λ z. z ∷ (methods_of (new start choice) rest.0 (method_of (new start choice) a.0 k).1).0) head
              ∙ ap (λ n. renamed_method f o.0 ∷ (methods_of (new start choice) rest.0 n).0) next
              ∙ ap (λ l. renamed_method f o.0 ∷ l) (others.0 ∙ ap (λ n. map (renamed_method f) (opened_methods ys n).0) count),
          others.1 ∙ ap (λ n. (opened_methods ys n).1) count,
        )
      where
        le : (a b c d n : ℕ) → a ≡ b → c ≡ a + n → c ≤ d → b ≤ d
        le a b c d n e f g = omega (arith, e, f, g)

    -- ---- the whole

    same_asked : (w n : ℕ) (xs : List RequestText) → asked_from (new start choice) w n xs ≡ asked_from start w n xs
    same_asked w n [] = refl
    same_asked w n (x ∷ xs) = λ i.
        record { request = record { worker = w; number = n; method = method_stays start choice x.method i; args = values_of start x.arguments }; at = x.method.at }
        ∷ same_asked w (suc n) xs i

    same_sessions : (xs : List Session) → map (session_of (new start choice)) xs ≡ map (session_of start) xs
    same_sessions [] = refl
    same_sessions (x ∷ xs) = λ i. record (session_of start x) { requests = same_asked (node_number start x.worker) 1 x.requests i } ∷ same_sessions xs i

    pub numbering : AllByRecursion AreFine start.program.methods → length (holes start) ≤ room → resolved (filled start choice) ≡ renamed f (opened (resolved start))
    numbering fine bound =
        let e = method_holes choice start.program.methods 0 in
        let ms = (same_methods start.program.methods 0 0 fine (le (methods start choice start.program.methods 0).1 (length (holes start)) room e bound)).0 in
        λ i. record (resolved start) { methods = ms i; sessions = same_sessions start.sessions i }
      where
        le : (a b c : ℕ) → a ≡ 0 + b → b ≤ c → a ≤ c
        le a b c e l = omega (arith, e, l)

    pub all_opened : AllByRecursion AreFine start.program.methods → length (holes start) ≤ room → (opened_methods (resolved start).methods 0).1 ≡ length (holes start)
    all_opened fine bound =
        let e = method_holes choice start.program.methods 0 in
        let ms = (same_methods start.program.methods 0 0 fine (le (methods start choice start.program.methods 0).1 (length (holes start)) room e bound)).1 in
        sym ms ∙ e ∙ omega arith
      where
        le : (a b c : ℕ) → a ≡ 0 + b → b ≤ c → a ≤ c
        le a b c e l = omega (arith, e, l)
