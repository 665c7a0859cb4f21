-- What is made of the parts of a bundle with the labels that are left of a choice.
use Rattle.std.proofs.Common.{◌≡◌, ℕ, zero, suc, List, [], ◌∷◌, ◌++◌, map, drop, length, Option, Some, None, refl, sym, ap, ◌∙◌, subst, Bool, true, false, if◌then◌else◌, arith}
use Rattle.std.specs.Prelude.{slice_get}
use Rattle.fab_tree.specs.declared.name.Name.{Name}
use Rattle.fab_tree.specs.declared.declaration.Sort.{Sort}
use Rattle.fab_tree.specs.declared.expression.Expression.{Expression}
use Rattle.fab_tree.specs.declared.statement.Right.{Right}
use Rattle.fab_tree.specs.declared.statement.Statement.{Statement, roll-Statement, map-Statement, fold-roll-Statement}
use Rattle.fab_tree.specs.declared.statement.Statement.TheOpen as o
use Rattle.fab_tree.specs.declared.statement.Statement.TheVariants as made
use Rattle.fab_tree.specs.declared.start.Start.{Start}
use Rattle.fab_language.specs.MethodNumbers.{Numbered, siteless, made_of, made_of_two, in_turn}
use Rattle.fab_holes.specs.Holes.{is_hole, chosen_name, filled_name, filled_step, filled_statement}
use Rattle.fab_infer.specs.Fill.{IsFilled, filled_others}
use Rattle.fab_infer.proofs.Turns.{in_turn_more}

-- ---- parts

pub of_none : {A : Type 0} (a : A) (before : List ℕ) → IsFilled (λ choice. siteless a) before a before
of_none a before = λ choice k e. (refl, e)

pub of_one : {A B : Type 0} (f : A → B) (m : List ℕ → Numbered A) (before after : List ℕ) (a : A) → IsFilled m before a after → IsFilled (λ choice. made_of f (m choice)) before (f a) after
of_one f m before after a is = λ choice k e. let h = is choice k e in (ap f h.0, h.1)

pub of_two : {A B C : Type 0} (f : A → B → C) (m : List ℕ → Numbered A) (n : List ℕ → Numbered B) (before between after : List ℕ) (a : A) (b : B)
    → IsFilled m before a between → IsFilled n between b after → IsFilled (λ choice. made_of_two f (m choice) (n choice)) before (f a b) after
of_two f m n before between after a b first second = λ choice k e.
    let h = first choice k e in
    let g = second choice (m choice k).1 h.1 in
    (λ i. f (h.0 i) (g.0 i), g.1)

-- one part behind others
pub of_more : {A B : Type 0} (f : List ℕ → A → Numbered B) (xs : List A) (x : A) (before between after : List ℕ) (out more : List B) (y : B)
    → IsFilled (λ choice. in_turn (map (f choice) xs)) before out between → IsFilled (λ choice. f choice x) between y after → more ≡ out ++ y ∷ []
    → IsFilled (λ choice. in_turn (map (f choice) (xs ++ x ∷ []))) before more after
of_more f xs x before between after out more y first second pushed = λ choice k e.
    let h = first choice k e in
    let a = in_turn (map (f choice) xs) k in
    let g = second choice a.1 h.1 in
    let s = in_turn_more (f choice) xs x k in (
      pushed ∙ (λ i. h.0 i ++ g.0 i ∷ []) ∙ sym (λ i. (s i).0),
      g.1 ∙ sym (λ i. drop (s i).1 choice),
    )

pub of_same : {A : Type 0} (m n : List ℕ → Numbered A) (before after : List ℕ) (a : A) → ((choice : List ℕ) → n choice ≡ m choice) → IsFilled m before a after → IsFilled n before a after
of_same m n before after a same is = λ choice k e.
    let h = is choice k e in
    (h.0 ∙ sym (λ i. (same choice i k).0), h.1 ∙ sym (λ i. drop (same choice i k).1 choice))

pub of_all : {A B : Type 0} (f : List ℕ → A → Numbered B) (xs ys : List A) (before after : List ℕ) (out : List B) → xs ≡ ys → IsFilled (λ choice. in_turn (map (f choice) xs)) before out after → IsFilled (λ choice. in_turn (map (f choice) ys)) before out after
of_all f xs ys before after out e is = subst (λ zs. IsFilled (λ choice. in_turn (map (f choice) zs)) before out after) e is

-- ---- names

drop_first : (xs : List ℕ) (k l : ℕ) (left : List ℕ) → l ∷ left ≡ drop k xs → (slice_get xs k ≡ Some l) × (left ≡ drop (suc k) xs)
drop_first [] zero l left e = absurd (cc)
drop_first [] (suc k) l left e = absurd (cc)
drop_first (x ∷ xs) zero l left e = let same : x ≡ l = cc in let rest : left ≡ xs = cc in (ap Some same, rest)
drop_first (x ∷ xs) (suc k) l left e = drop_first xs k l left e

drop_none : (xs : List ℕ) (k : ℕ) → [] ≡ drop k xs → (slice_get xs k ≡ None) × ([] ≡ drop (suc k) xs)
drop_none [] zero e = (refl, refl)
drop_none [] (suc k) e = (refl, refl)
drop_none (x ∷ xs) zero e = absurd (cc)
drop_none (x ∷ xs) (suc k) e = drop_none xs k e

nothing : (xs : List ℕ) → length xs ≡ 0 → xs ≡ []
nothing [] e = refl
nothing (x ∷ xs) e = absurd (omega (arith, e))

module _ (s : Start) where
  abbrev by_hole : Bool → Name → Option ℕ → ℕ → Name × ℕ
  by_hole b x l k = if◌then◌else◌ {A = Name × ℕ} b (chosen_name s l x, suc k) (x, k)

  pub no_hole : (x : Name) (before : List ℕ) → is_hole s x ≡ false → IsFilled (λ choice. filled_name s choice x) before x before
  no_hole x before none = λ choice k e.
      let t = ap (λ b. by_hole b x (slice_get choice k) k) none in
      (sym (λ i. (t i).0), e ∙ sym (λ i. drop (t i).1 choice))

  pub hole_none : (x : Name) (before : List ℕ) → is_hole s x ≡ true → length before ≡ 0 → IsFilled (λ choice. filled_name s choice x) before x before
  hole_none x before one none = λ choice k e.
      let empty = nothing before none in
      let d = drop_none choice k (sym empty ∙ e) in
      let t = ap (λ b. by_hole b x (slice_get choice k) k) one ∙ ap (λ l. by_hole true x l k) d.0 in
      (sym (λ i. (t i).0), empty ∙ d.1 ∙ sym (λ i. drop (t i).1 choice))

  pub hole_some : (x y : Name) (before left : List ℕ) (l : ℕ) → is_hole s x ≡ true → before ≡ l ∷ left → y ≡ chosen_name s (Some l) x → IsFilled (λ choice. filled_name s choice x) before y left
  hole_some x y before left l one is named = λ choice k e.
      let d = drop_first choice k l left (sym is ∙ e) in
      let t = ap (λ b. by_hole b x (slice_get choice k) k) one ∙ ap (λ m. by_hole true x m k) d.0 in
      (named ∙ sym (λ i. (t i).0), d.1 ∙ sym (λ i. drop (t i).1 choice))

  -- ---- statements

  by_layer : (x : Statement) (y : o.Statement-F Statement) (choice : List ℕ) → x ≡ roll-Statement y → filled_statement s choice x ≡ filled_step s choice (map-Statement Statement (Numbered Statement) (filled_statement s choice) y)
  by_layer x y choice is = ap (filled_statement s choice) is ∙ fold-roll-Statement (Numbered Statement) (filled_step s choice) y

  abbrev FillsTo : Statement → List ℕ → Statement → List ℕ → Type 0
  FillsTo x before made after = IsFilled (λ choice. filled_statement s choice x) before made after

  abbrev block : List Statement → List ℕ → Numbered (List Statement)
  block xs choice = in_turn (map (filled_statement s choice) xs)

  pub of_declare : (x : Statement) (t : Sort) (n l m : Name) (e : Expression) (at : ℕ) (before after : List ℕ) → x ≡ made.Declare t n l e at → IsFilled (λ choice. filled_name s choice l) before m after → FillsTo x before (made.Declare t n m e at) after
  of_declare x t n l m e at before after is h =
      of_same (λ choice. made_of (λ z. made.Declare t n z e at) (filled_name s choice l)) (λ choice. filled_statement s choice x) before after (made.Declare t n m e at)
      (λ choice. by_layer x (o.Declare t n l e at) choice (is ∙ sym (made.rolls-Declare t n l e at)))
      (of_one (λ z. made.Declare t n z e at) (λ choice. filled_name s choice l) before after m h)

  pub of_if : (x : Statement) (e : Expression) (xs ys : List Statement) (otherwise other : Option (List Statement)) (before between after : List ℕ) → x ≡ made.If e xs otherwise
      → IsFilled (block xs) before ys between → IsFilled (λ choice. filled_others s choice otherwise) between other after → FillsTo x before (made.If e ys other) after
  of_if x e xs ys otherwise other before between after is h g =
      of_same (λ choice. made_of_two (made.If e) (block xs choice) (filled_others s choice otherwise)) (λ choice. filled_statement s choice x) before after (made.If e ys other)
      (by otherwise is)
      (of_two (made.If e) (block xs) (λ choice. filled_others s choice otherwise) before between after ys other h g)
    where
      by : (u : Option (List Statement)) → x ≡ made.If e xs u → (choice : List ℕ) → filled_statement s choice x ≡ made_of_two (made.If e) (block xs choice) (filled_others s choice u)
      by None i choice = by_layer x (o.If e xs None) choice (i ∙ sym (made.rolls-If e xs None))
      by (Some us) i choice = by_layer x (o.If e xs (Some us)) choice (i ∙ sym (made.rolls-If e xs (Some us)))

  pub of_while : (x : Statement) (e : Expression) (xs ys : List Statement) (before after : List ℕ) → x ≡ made.While e xs → IsFilled (block xs) before ys after → FillsTo x before (made.While e ys) after
  of_while x e xs ys before after is h =
      of_same (λ choice. made_of (made.While e) (block xs choice)) (λ choice. filled_statement s choice x) before after (made.While e ys)
      (λ choice. by_layer x (o.While e xs) choice (is ∙ sym (made.rolls-While e xs)))
      (of_one (made.While e) (block xs) before after ys h)

  pub of_atomic : (x : Statement) (l : Name) (xs ys us vs : List Statement) (at : ℕ) (before between after : List ℕ) → x ≡ made.Atomic l xs us at
      → IsFilled (block xs) before ys between → IsFilled (block us) between vs after → FillsTo x before (made.Atomic l ys vs at) after
  of_atomic x l xs ys us vs at before between after is h g =
      of_same (λ choice. made_of_two (λ b d. made.Atomic l b d at) (block xs choice) (block us choice)) (λ choice. filled_statement s choice x) before after (made.Atomic l ys vs at)
      (λ choice. by_layer x (o.Atomic l xs us at) choice (is ∙ sym (made.rolls-Atomic l xs us at)))
      (of_two (λ b d. made.Atomic l b d at) (block xs) (block us) before between after ys vs h g)

  pub of_assign : (x : Statement) (n : Name) (r : Right) (before : List ℕ) → x ≡ made.Assign n r → FillsTo x before x before
  of_assign x n r before is = subst (λ z. FillsTo x before z before) (sym is)
      (of_same (λ choice. siteless (made.Assign n r)) (λ choice. filled_statement s choice x) before before (made.Assign n r)
      (λ choice. by_layer x (o.Assign n r) choice (is ∙ sym (made.rolls-Assign n r))) (of_none (made.Assign n r) before))

  pub of_write : (x : Statement) (n f : Name) (e : Expression) (before : List ℕ) → x ≡ made.Write n f e → FillsTo x before x before
  of_write x n f e before is = subst (λ z. FillsTo x before z before) (sym is)
      (of_same (λ choice. siteless (made.Write n f e)) (λ choice. filled_statement s choice x) before before (made.Write n f e)
      (λ choice. by_layer x (o.Write n f e) choice (is ∙ sym (made.rolls-Write n f e))) (of_none (made.Write n f e) before))

  pub of_call : (x : Statement) (n : Name) (es : List Expression) (before : List ℕ) → x ≡ made.Call n es → FillsTo x before x before
  of_call x n es before is = subst (λ z. FillsTo x before z before) (sym is)
      (of_same (λ choice. siteless (made.Call n es)) (λ choice. filled_statement s choice x) before before (made.Call n es)
      (λ choice. by_layer x (o.Call n es) choice (is ∙ sym (made.rolls-Call n es))) (of_none (made.Call n es) before))

  pub of_fail : (x : Statement) (at : ℕ) (before : List ℕ) → x ≡ made.Fail at → FillsTo x before x before
  of_fail x at before is = subst (λ z. FillsTo x before z before) (sym is)
      (of_same (λ choice. siteless (made.Fail at)) (λ choice. filled_statement s choice x) before before (made.Fail at)
      (λ choice. by_layer x (o.Fail at) choice (is ∙ sym (made.rolls-Fail at))) (of_none (made.Fail at) before))
