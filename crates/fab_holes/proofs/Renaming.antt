-- What a program owes with other numbers for the labels of its locals is what it owes, under these numbers: for every claim
-- that is to hold, the one holds of all exactly where the other does. (The lists differ where two numbers become one.)
use Rattle.std.proofs.Common.{◌≡◌, ◌⊎◌, inl, inr, ℕ, zero, suc, ◌==◌, ◌||◌, Bool, true, false, if◌then◌else◌, List, [], ◌∷◌, ◌++◌, map, option_map, Option, Some, None, refl, sym, ap, ◌∙◌, subst, true≢false}
use Rattle.std.specs.Prelude.{slice_get, take}
use Rattle.std.specs.List.{AllByRecursion, flat_map, list_any}
use Rattle.std.proofs.lemmas.Bool.{eqb-true}
use Rattle.std.proofs.lemmas.List.{map-append}
use Rattle.fab_base.proofs.Lists.{all_split, all_append}
use Rattle.fab_base.specs.declared.object.Width.TheVariants as widths
use Rattle.fab_tree.specs.declared.expression.Operator.{Operator}
use Rattle.fab_tree.specs.declared.expression.Operator.TheVariants as o
use Rattle.fab_tree.specs.declared.statement.Downgrade.{Downgrade}
use Rattle.fab_tree.specs.declared.statement.Downgrade.TheVariants as downgrades
use Rattle.fab_tree.specs.declared.resolved.Use.{Use}
use Rattle.fab_tree.specs.declared.resolved.Sort.{Sort}
use Rattle.fab_tree.specs.declared.resolved.Sort.TheVariants as sorts
use Rattle.fab_tree.specs.declared.resolved.Class.{Class}
use Rattle.fab_tree.specs.declared.resolved.Expression.{Expression, ind-Expression, roll-Expression, fold-roll-Expression, map-Expression}
use Rattle.fab_tree.specs.declared.resolved.Form.{Form, roll-Form, fold-roll-Form, map-Form}
use Rattle.fab_tree.specs.declared.resolved.Form.TheOpen as forms
use Rattle.fab_tree.specs.declared.resolved.Operand.{Operand, roll-Operand, fold-roll-Operand, map-Operand}
use Rattle.fab_tree.specs.declared.resolved.Right.{Right}
use Rattle.fab_tree.specs.declared.resolved.Right.TheVariants as rights
use Rattle.fab_tree.specs.declared.resolved.Statement.{Statement, ind-Statement, roll-Statement, fold-roll-Statement, map-Statement}
use Rattle.fab_tree.specs.declared.resolved.Statement.TheOpen as s
use Rattle.fab_tree.specs.declared.resolved.Local.{Local}
use Rattle.fab_tree.specs.declared.resolved.Method.{Method}
use Rattle.fab_tree.specs.declared.resolved.Returns.{Returns}
use Rattle.fab_labelling.specs.declared.rule.LabelRule.{LabelRule}
use Rattle.fab_labelling.specs.declared.rule.LabelRule.TheVariants.{Access, Atomic, Begin, Fail, Placement, Write}
use Rattle.fab_labelling.specs.Obligations as ob
use Rattle.fab_labelling.specs.Obligations.{Claim, flows, conf, nowhere, holds, Owed, owe, all_flow, all_conf, all_fail, under, class_of_sort, class_of_local, label_of_local, label_of_class, Part, Tail, division, local_labels, class_behind, asking, reaching, tail_owes, form_step, part}
use Rattle.fab_labelling.proofs.Forms.{form_part, operand_part}
use Rattle.fab_holes.specs.Open.{renamed_claim, renamed_method, with_label}
use Rattle.fab_views.proofs.Labels.{named_by_right, labels_step, labels_in, labels_in_block}

-- it stands in a list
abbrev pub In : {A : Type 0} → A → List A → Type 0
In x [] = ⊥
In x (y ∷ ys) = (x ≡ y) ⊎ In x ys

in_append : {A : Type 0} (x : A) (xs ys : List A) → In x (xs ++ ys) → In x xs ⊎ In x ys
in_append x [] ys h = inr h
in_append x (z ∷ xs) ys (inl e) = inl (inl e)
in_append x (z ∷ xs) ys (inr h) = elim (in_append x xs ys h) [ inl i ↦ inl (inr i) | inr i ↦ inr i ]

in_left : {A : Type 0} (x : A) (xs ys : List A) → In x xs → In x (xs ++ ys)
in_left x [] ys h = absurd h
in_left x (z ∷ xs) ys (inl e) = inl e
in_left x (z ∷ xs) ys (inr h) = inr (in_left x xs ys h)

in_right : {A : Type 0} (x : A) (xs ys : List A) → In x ys → In x (xs ++ ys)
in_right x [] ys h = h
in_right x (z ∷ xs) ys h = inr (in_right x xs ys h)

in_map : {A B : Type 0} (g : A → B) (x : A) (xs : List A) → In x xs → In (g x) (map g xs)
in_map g x [] h = absurd h
in_map g x (z ∷ xs) (inl e) = inl (ap g e)
in_map g x (z ∷ xs) (inr h) = inr (in_map g x xs h)

map_in : {A B : Type 0} (g : A → B) (y : B) (xs : List A) → In y (map g xs) → (x : A) × In x xs × (g x ≡ y)
map_in g y [] h = absurd h
map_in g y (x ∷ xs) (inl e) = (x, inl refl, sym e)
map_in g y (x ∷ xs) (inr h) = let r = map_in g y xs h in (r.0, inr r.1, r.2)

any_in : (l : ℕ) (ks : List ℕ) → list_any (λ k. k == l) ks ≡ true → In l ks
any_in l [] h = absurd (true≢false (sym h))
any_in l (k ∷ ks) h = elim (k == l) as (λ b. (k == l) ≡ b → (b || list_any (λ k. k == l) ks) ≡ true → In l (k ∷ ks)) [
  | true ↦ λ e i. inl (sym (eqb-true k l e))
  | false ↦ λ e i. inr (any_in l ks i)
] refl h

-- further labels that decide are these and those
under_in : (x : ℕ) (pc ls : List ℕ) → In x pc ⊎ In x ls → In x (under pc ls)
under_in x pc [] (inl h) = h
under_in x pc [] (inr h) = absurd h
under_in x pc (l ∷ ls) h = by (λ qc i. under_in x qc ls i) (list_any (λ k. k == l) pc) refl h
  where
    by : ((qc : List ℕ) → In x qc ⊎ In x ls → In x (under qc ls)) → (b : Bool) → list_any (λ k. k == l) pc ≡ b → In x pc ⊎ In x (l ∷ ls) → In x (under (if b then pc else pc ++ l ∷ []) ls)
    by more true e (inl i) = more pc (inl i)
    by more true e (inr (inl same)) = more pc (inl (subst (λ z. In z pc) (sym same) (any_in l pc e)))
    by more true e (inr (inr i)) = more pc (inr i)
    by more false e (inl i) = more (pc ++ l ∷ []) (inl (in_left x pc (l ∷ []) i))
    by more false e (inr (inl same)) = more (pc ++ l ∷ []) (inl (in_right x pc (l ∷ []) (inl same)))
    by more false e (inr (inr i)) = more (pc ++ l ∷ []) (inr i)

in_under : (x : ℕ) (pc ls : List ℕ) → In x (under pc ls) → In x pc ⊎ In x ls
in_under x pc [] h = inl h
in_under x pc (l ∷ ls) h = by (λ qc i. in_under x qc ls i) (list_any (λ k. k == l) pc) h
  where
    by : ((qc : List ℕ) → In x (under qc ls) → In x qc ⊎ In x ls) → (b : Bool) → In x (under (if b then pc else pc ++ l ∷ []) ls) → In x pc ⊎ In x (l ∷ ls)
    by more true i = elim (more pc i) [ inl j ↦ inl j | inr j ↦ inr (inr j) ]
    by more false i = elim (more (pc ++ l ∷ []) i) [
      | inl j ↦ elim (in_append x pc (l ∷ []) j) [ inl k ↦ inl k | inr k ↦ inr (one k) ]
      | inr j ↦ inr (inr j)
    ]
      where
        one : In x (l ∷ []) → In x (l ∷ ls)
        one (inl e) = inl e
        one (inr none) = absurd none

pub get_map : {A B : Type 0} (g : A → B) (xs : List A) (i : ℕ) → slice_get (map g xs) i ≡ option_map g (slice_get xs i)
get_map g [] i = refl
get_map g (x ∷ xs) zero = refl
get_map g (x ∷ xs) (suc i) = get_map g xs i

pub all_of : {A : Type 0} (P : A → Type 0) (xs : List A) → ((x : A) → In x xs → P x) → AllByRecursion P xs
all_of P [] h = tt
all_of P (x ∷ xs) h = (h x (inl refl), all_of P xs (λ y i. h y (inr i)))

pub each_of : {A : Type 0} (P : A → Type 0) (xs : List A) (x : A) → AllByRecursion P xs → In x xs → P x
each_of P [] x h i = absurd i
each_of P (y ∷ ys) x h (inl e) = subst P (sym e) h.0
each_of P (y ∷ ys) x h (inr i) = each_of P ys x h.1 i

-- other numbers, and what is to hold of each claim
module _ (f : ℕ → ℕ) (P : Claim → Type 0) where
  abbrev pub After : List Owed → Type 0
  After xs = AllByRecursion (λ (x : Owed). P x.claim) xs

  abbrev pub Before : List Owed → Type 0
  Before xs = AllByRecursion (λ (x : Owed). P (renamed_claim f x.claim)) xs

  pub record Both (xs ys : List Owed) : Type 0 where
    pub to : Before xs → After ys
    pub back : After ys → Before xs

  pub none_both : Both [] []
  none_both = record { to = λ h. tt; back = λ h. tt }

  pub join : (xs ys us vs : List Owed) → Both xs ys → Both us vs → Both (xs ++ us) (ys ++ vs)
  join xs ys us vs a b = record {
    to = λ h. let t = all_split (λ (x : Owed). P (renamed_claim f x.claim)) xs us h in all_append (λ (x : Owed). P x.claim) ys vs (a.to t.0) (b.to t.1);
    back = λ h. let t = all_split (λ (x : Owed). P x.claim) ys vs h in all_append (λ (x : Owed). P (renamed_claim f x.claim)) xs us (a.back t.0) (b.back t.1);
  }

  -- the others are these under other numbers, each perhaps more or less often
  pub record Like (pc qc : List ℕ) : Type 0 where
    there : (l : ℕ) → In l pc → In (f l) qc
    back : (l : ℕ) → In l qc → (k : ℕ) × In k pc × (f k ≡ l)

  pub like_map : (ls : List ℕ) → Like ls (map f ls)
  like_map ls = record { there = λ l i. in_map f l ls i; back = λ l i. map_in f l ls i }

  pub like_more : (pc qc ls ms : List ℕ) → Like pc qc → Like ls ms → Like (pc ++ ls) (qc ++ ms)
  like_more pc qc ls ms a b = record {
    there = λ l i. elim (in_append l pc ls i) [ inl j ↦ in_left (f l) qc ms (a.there l j) | inr j ↦ in_right (f l) qc ms (b.there l j) ];
    back = λ l i. elim (in_append l qc ms i) [
      | inl j ↦ let t = a.back l j in (t.0, in_left t.0 pc ls t.1, t.2)
      | inr j ↦ let t = b.back l j in (t.0, in_right t.0 pc ls t.1, t.2)
    ];
  }

  like_under : (pc qc ls ms : List ℕ) → Like pc qc → Like ls ms → Like (under pc ls) (under qc ms)
  like_under pc qc ls ms a b = record {
    there = λ l i. elim (in_under l pc ls i) [ inl j ↦ under_in (f l) qc ms (inl (a.there l j)) | inr j ↦ under_in (f l) qc ms (inr (b.there l j)) ];
    back = λ l i. elim (in_under l qc ms i) [
      | inl j ↦ let t = a.back l j in (t.0, under_in t.0 pc ls (inl t.1), t.2)
      | inr j ↦ let t = b.back l j in (t.0, under_in t.0 pc ls (inr t.1), t.2)
    ];
  }

  -- ---- claims of several labels

  spread : (pc qc : List ℕ) (g h : ℕ → Owed) → Like pc qc → ((l : ℕ) → P (renamed_claim f (g l).claim) → P (h (f l)).claim)
      → ((l : ℕ) → P (h (f l)).claim → P (renamed_claim f (g l).claim)) → Both (map g pc) (map h qc)
  spread pc qc g h like there back = record {
    to = λ all. all_of (λ (x : Owed). P x.claim) (map h qc) (λ x i.
        let q = map_in h x qc i in
        let k = like.back q.0 q.1 in
        subst (λ (y : Owed). P y.claim) (ap h k.2 ∙ q.2)
        (there k.0 (each_of (λ (x : Owed). P (renamed_claim f x.claim)) (map g pc) (g k.0) all (in_map g k.0 pc k.1))));
    back = λ all. all_of (λ (x : Owed). P (renamed_claim f x.claim)) (map g pc) (λ x i.
        let q = map_in g x pc i in
        subst (λ (y : Owed). P (renamed_claim f y.claim)) q.2
        (back q.0 (each_of (λ (x : Owed). P x.claim) (map h qc) (h (f q.0)) all (in_map h (f q.0) qc (like.there q.0 q.1)))));
  }

  pub both_flow : (rule : LabelRule) (at : ℕ) (pc qc : List ℕ) (to : ℕ) → Like pc qc → Both (all_flow rule at pc to) (all_flow rule at qc (f to))
  both_flow rule at pc qc to like = spread pc qc (λ l. owe rule at (flows l to)) (λ l. owe rule at (flows l (f to))) like (λ l h. h) (λ l h. h)

  -- to a label that keeps its number
  pub both_kept : (rule : LabelRule) (at : ℕ) (pc qc : List ℕ) (to : ℕ) → f to ≡ to → Like pc qc → Both (all_flow rule at pc to) (all_flow rule at qc to)
  both_kept rule at pc qc to e like = subst (λ z. Both (all_flow rule at pc to) (all_flow rule at qc z)) e (both_flow rule at pc qc to like)

  both_conf : (rule : LabelRule) (at : ℕ) (pc qc : List ℕ) (to : ℕ) → Like pc qc → Both (all_conf rule at pc to) (all_conf rule at qc to)
  both_conf rule at pc qc to like = spread pc qc (λ l. owe rule at (conf l to)) (λ l. owe rule at (conf l to)) like (λ l h. h) (λ l h. h)

  -- a failure label that keeps its number, if there is one
  abbrev pub IsFixed : Option ℕ → Type 0
  IsFixed None = Unit {0}
  IsFixed (Some l) = f l ≡ l

  both_fail : (at : ℕ) (pc qc : List ℕ) (failure : Option ℕ) → IsFixed failure → Like pc qc → Both (all_fail at pc failure) (all_fail at qc failure)
  both_fail at pc qc None e like = spread pc qc (λ l. owe Fail at (nowhere l)) (λ l. owe Fail at (nowhere l)) like (λ l h. h) (λ l h. h)
  both_fail at pc qc (Some l) e like = both_kept Fail at pc qc l e like

  -- what a method's head says keeps its numbers
  pub record HeadKept (m : Method) : Type 0 where
    pub begin : f m.begin.number ≡ m.begin.number
    pub returns : (l : ℕ) → In l (ob.label_of_returns m.returns) → f l ≡ l

  -- ---- expressions

  abbrev pub other : Local → Local
  other x = with_label (f x.label.number) x

  module _ (classes : List Class) (kept : (i : ℕ) (c : Class) → slice_get classes i ≡ Some c → f c.label.number ≡ c.label.number)
      (locals : List Local) where
    abbrev pub others : List Local
    others = map other locals

    labels_of : (x : Option Local) → label_of_local (option_map other x) ≡ map f (label_of_local x)
    labels_of None = refl
    labels_of (Some x) = refl

    class_at : (x : Option Local) → class_of_local classes (option_map other x) ≡ class_of_local classes x
    class_at None = refl
    class_at (Some x) = refl

    local_is : (x : Use) → local_labels classes others x ≡ map f (local_labels classes locals x)
    local_is x = ap label_of_local (get_map other locals x.number) ∙ labels_of (slice_get locals x.number)

    behind_is : (x : Use) → class_behind classes others x ≡ class_behind classes locals x
    behind_is x = ap (class_of_local classes) (get_map other locals x.number) ∙ class_at (slice_get locals x.number)

    -- the class of a local keeps its label
    abbrev IsKept : Option Class → Type 0
    IsKept None = Unit {0}
    IsKept (Some c) = f c.label.number ≡ c.label.number

    kept_slot : (i : ℕ) (c : Option Class) → slice_get classes i ≡ c → IsKept c
    kept_slot i None e = tt
    kept_slot i (Some c) e = kept i c e

    kept_sort : (t : Sort) → IsKept (class_of_sort classes t)
    kept_sort (sorts.Number widths.Int) = tt
    kept_sort (sorts.Class y) = kept_slot y.number (slice_get classes y.number) refl

    kept_local : (x : Option Local) → IsKept (class_of_local classes x)
    kept_local None = tt
    kept_local (Some x) = kept_sort x.sort

    class_is : (c : Option Class) → IsKept c → label_of_class c ≡ map f (label_of_class c)
    class_is None k = refl
    class_is (Some c) k = ap (λ l. l ∷ []) (sym k)

    both_asking : (at : ℕ) (pc qc : List ℕ) (c : Option Class) → Like pc qc → Both (asking classes locals at pc c) (asking classes others at qc c)
    both_asking at pc qc None like = none_both
    both_asking at pc qc (Some c) like = both_conf Access at pc qc c.access.number like

    both_reaching : (x : Use) (pc qc : List ℕ) (failure : Option ℕ) → IsFixed failure → Like pc qc → Both (reaching classes locals x pc failure) (reaching classes others x qc failure)
    both_reaching x pc qc failure e like =
        let ls = local_labels classes locals x in
        let ms = local_labels classes others x in
        let more : Like (pc ++ ls) (qc ++ ms) = like_more pc qc ls ms like (subst (Like ls) (sym (local_is x)) (like_map ls)) in
        join (asking classes locals x.at (pc ++ ls) (class_behind classes locals x)) (asking classes others x.at (qc ++ ms) (class_behind classes others x))
        (all_fail x.at (pc ++ ls) failure) (all_fail x.at (qc ++ ms) failure)
        (subst (λ c. Both (asking classes locals x.at (pc ++ ls) (class_behind classes locals x)) (asking classes others x.at (qc ++ ms) c)) (sym (behind_is x))
        (both_asking x.at (pc ++ ls) (qc ++ ms) (class_behind classes locals x) more))
        (both_fail x.at (pc ++ ls) (qc ++ ms) failure e more)

    pub record Likened (p q : Part) : Type 0 where
      pub labels : q.labels ≡ map f p.labels
      pub owes : (pc qc : List ℕ) (failure : Option ℕ) → IsFixed failure → Like pc qc → Both (p.owes pc failure) (q.owes qc failure)

    abbrev FormLike : Form → Type 0
    FormLike x = Likened (form_part classes locals x) (form_part classes others x)

    abbrev ValueLike : Expression → Type 0
    ValueLike x = Likened (part classes locals x) (part classes others x)

    pub record TailLike (u v : Tail) : Type 0 where
      operator : v.operator ≡ u.operator
      at : v.at ≡ u.at
      part : Likened u.part v.part

    abbrev OperandLike : Operand → Type 0
    OperandLike x = TailLike (operand_part classes locals x) (operand_part classes others x)

    abbrev KnownForm : Type 0
    KnownForm = (x : Form) × FormLike x

    abbrev KnownValue : Type 0
    KnownValue = (x : Expression) × ValueLike x

    abbrev KnownOperand : Type 0
    KnownOperand = (x : Operand) × OperandLike x

    abbrev in_form : forms.Form-F KnownForm KnownValue KnownOperand → forms.Form-F Form Expression Operand
    in_form y = map-Form KnownForm KnownValue KnownOperand Form Expression Operand (λ k. k.0) (λ k. k.0) (λ k. k.0) y

    abbrev tails : List Local → List KnownOperand → List Tail
    tails ls ks = map (operand_part classes ls) (map (λ (k : KnownOperand). k.0) ks)

    abbrev tail_labels : List Local → List KnownOperand → List ℕ
    tail_labels ls ks = flat_map (λ (u : Tail). u.part.labels) (tails ls ks)

    tails_labels : (ks : List KnownOperand) → tail_labels others ks ≡ map f (tail_labels locals ks)
    tails_labels [] = refl
    tails_labels (k ∷ ks) =
        ap (λ l. l ++ tail_labels others ks) k.1.part.labels ∙ ap (λ l. map f (operand_part classes locals k.0).part.labels ++ l) (tails_labels ks)
        ∙ sym (map-append f (operand_part classes locals k.0).part.labels (tail_labels locals ks))

    pub like_part : (pc qc : List ℕ) (p q : Part) → q.labels ≡ map f p.labels → Like pc qc → Like (pc ++ p.labels) (qc ++ q.labels)
    like_part pc qc p q e like = like_more pc qc p.labels q.labels like (subst (Like p.labels) (sym e) (like_map p.labels))

    both_division : (operator : Operator) (at : ℕ) (from to : List ℕ) (failure : Option ℕ) → IsFixed failure → Like from to → Both (division operator at from failure) (division operator at to failure)
    both_division o.Divide at from to failure e like = both_fail at from to failure e like
    both_division o.Or at from to failure e like = none_both
    both_division o.And at from to failure e like = none_both
    both_division o.Add at from to failure e like = none_both
    both_division o.Subtract at from to failure e like = none_both
    both_division o.Multiply at from to failure e like = none_both

    tails_owe : (ks : List KnownOperand) (pc qc : List ℕ) (failure : Option ℕ) → IsFixed failure → Like pc qc
        → Both (flat_map (tail_owes classes locals pc failure) (tails locals ks)) (flat_map (tail_owes classes others qc failure) (tails others ks))
    tails_owe [] pc qc failure e like = none_both
    tails_owe (k ∷ ks) pc qc failure e like =
        let u = operand_part classes locals k.0 in
        let v = operand_part classes others k.0 in
        let same : v.operator ≡ u.operator = k.1.operator in
        let place : v.at ≡ u.at = k.1.at in
        let last : Both (division u.operator u.at (pc ++ u.part.labels) failure) (division v.operator v.at (qc ++ v.part.labels) failure) =
        subst (λ w. Both (division u.operator u.at (pc ++ u.part.labels) failure) (division w v.at (qc ++ v.part.labels) failure)) (sym same)
        (subst (λ w. Both (division u.operator u.at (pc ++ u.part.labels) failure) (division u.operator w (qc ++ v.part.labels) failure)) (sym place)
        (both_division u.operator u.at (pc ++ u.part.labels) (qc ++ v.part.labels) failure e (like_part pc qc u.part v.part k.1.part.labels like))) in
        join (u.part.owes pc failure ++ division u.operator u.at (pc ++ u.part.labels) failure) (v.part.owes qc failure ++ division v.operator v.at (qc ++ v.part.labels) failure)
        (flat_map (tail_owes classes locals pc failure) (tails locals ks)) (flat_map (tail_owes classes others qc failure) (tails others ks))
        (join (u.part.owes pc failure) (v.part.owes qc failure) (division u.operator u.at (pc ++ u.part.labels) failure) (division v.operator v.at (qc ++ v.part.labels) failure)
        (k.1.part.owes pc qc failure e like) last)
        (tails_owe ks pc qc failure e like)

    by_form : (y : forms.Form-F KnownForm KnownValue KnownOperand)
        → Likened (form_step classes locals (map-Form Form Expression Operand Part Part Tail (form_part classes locals) (part classes locals) (operand_part classes locals) (in_form y)))
        (form_step classes others (map-Form Form Expression Operand Part Part Tail (form_part classes others) (part classes others) (operand_part classes others) (in_form y)))
    by_form (forms.Number n) = record { labels = refl; owes = λ pc qc failure e like. none_both }
    by_form forms.Null = record { labels = refl; owes = λ pc qc failure e like. none_both }
    by_form (forms.Local x) = record { labels = local_is x; owes = λ pc qc failure e like. none_both }
    by_form (forms.Read x field site) = record {
      labels =
          ap (λ l. l ++ label_of_class (class_behind classes others x)) (local_is x)
          ∙ ap (λ c. map f (local_labels classes locals x) ++ label_of_class c) (behind_is x)
          ∙ ap (λ l. map f (local_labels classes locals x) ++ l) (class_is (class_behind classes locals x) (kept_local (slice_get locals x.number)))
          ∙ sym (map-append f (local_labels classes locals x) (label_of_class (class_behind classes locals x)));
      owes = λ pc qc failure e like. both_reaching x pc qc failure e like;
    }
    by_form (forms.Unary o k) = k.1
    by_form (forms.Chain k ks) =
        let p = part classes locals k.0 in
        let q = part classes others k.0 in
        record {
          labels = ap (λ l. l ++ tail_labels others ks) k.1.labels ∙ ap (λ l. map f p.labels ++ l) (tails_labels ks) ∙ sym (map-append f p.labels (tail_labels locals ks));
          owes = λ pc qc failure e like. join (p.owes pc failure) (q.owes qc failure) (flat_map (tail_owes classes locals pc failure) (tails locals ks))
              (flat_map (tail_owes classes others qc failure) (tails others ks)) (k.1.owes pc qc failure e like) (tails_owe ks pc qc failure e like);
        }
    by_form (forms.Compared k comparison l) =
        let p = part classes locals k.0 in
        let q = part classes others k.0 in
        let u = part classes locals l.0 in
        let v = part classes others l.0 in
        record {
          labels = ap (λ m. m ++ v.labels) k.1.labels ∙ ap (λ m. map f p.labels ++ m) l.1.labels ∙ sym (map-append f p.labels u.labels);
          owes = λ pc qc failure e like. join (p.owes pc failure) (q.owes qc failure) (u.owes pc failure) (v.owes qc failure) (k.1.owes pc qc failure e like) (l.1.owes pc qc failure e like);
        }

    abbrev tail : Operator → ℕ → Part → Tail
    tail operator at p = record { operator = operator; at = at; part = p }

    pub expressions : (e : Expression) → ValueLike e
    expressions = ind-Expression FormLike ValueLike OperandLike
        (λ x y is. subst (λ z. FormLike (roll-Form z)) is
        (rw (
          fold-roll-Form Part Part Tail (form_step classes locals) (λ e. e.form) (λ u. tail u.operator u.at u.operand) (in_form y),
          fold-roll-Form Part Part Tail (form_step classes others) (λ e. e.form) (λ u. tail u.operator u.at u.operand) (in_form y),
        ) (by_form y)))
        (λ x y is. let z = map-Expression KnownForm KnownValue KnownOperand Form Expression Operand (λ k. k.0) (λ k. k.0) (λ k. k.0) y in
        subst (λ z. ValueLike (roll-Expression z)) is
        (rw (
          fold-roll-Expression Part Part Tail (form_step classes locals) (λ e. e.form) (λ u. tail u.operator u.at u.operand) z,
          fold-roll-Expression Part Part Tail (form_step classes others) (λ e. e.form) (λ u. tail u.operator u.at u.operand) z,
        ) y.form.1))
        (λ x y is. let z = map-Operand KnownForm KnownValue KnownOperand Form Expression Operand (λ k. k.0) (λ k. k.0) (λ k. k.0) y in
        subst (λ z. OperandLike (roll-Operand z)) is
        (rw (
          fold-roll-Operand Part Part Tail (form_step classes locals) (λ e. e.form) (λ u. tail u.operator u.at u.operand) z,
          fold-roll-Operand Part Part Tail (form_step classes others) (λ e. e.form) (λ u. tail u.operator u.at u.operand) z,
        ) (record { operator = refl; at = refl; part = y.operand.1 })))

    -- ---- values that are given

    both_given : (pc qc : List ℕ) (failure : Option ℕ) (e : Expression) (to : ℕ) → IsFixed failure → Like pc qc → Both (ob.given classes locals pc failure e to) (ob.given classes others qc failure e (f to))
    both_given pc qc failure e to i like =
        let p = part classes locals e in
        let q = part classes others e in
        join (p.owes pc failure) (q.owes qc failure) (all_flow Write e.at (pc ++ p.labels) to) (all_flow Write e.at (qc ++ q.labels) (f to))
        ((expressions e).owes pc qc failure i like) (both_flow Write e.at (pc ++ p.labels) (qc ++ q.labels) to (like_part pc qc p q (expressions e).labels like))

    both_all_given : (pc qc : List ℕ) (failure : Option ℕ) (es : List Expression) (to : List ℕ) → IsFixed failure → Like pc qc
        → Both (ob.all_given classes locals pc failure es to) (ob.all_given classes others qc failure es (map f to))
    both_all_given pc qc failure [] to i like = none_both
    both_all_given pc qc failure (e ∷ es) [] i like =
        join ((part classes locals e).owes pc failure) ((part classes others e).owes qc failure) (ob.all_given classes locals pc failure es []) (ob.all_given classes others qc failure es [])
        ((expressions e).owes pc qc failure i like) (both_all_given pc qc failure es [] i like)
    both_all_given pc qc failure (e ∷ es) (l ∷ ls) i like =
        join (ob.given classes locals pc failure e l) (ob.given classes others qc failure e (f l)) (ob.all_given classes locals pc failure es ls)
        (ob.all_given classes others qc failure es (map f ls)) (both_given pc qc failure e l i like) (both_all_given pc qc failure es ls i like)

    -- ---- statements

    -- over methods of which the other has the same, with other labels of locals
    module _ (methods : List Method) (authority : List ℕ) (heads : (i : ℕ) (m : Method) → slice_get methods i ≡ Some m → HeadKept m) where
      abbrev pub renewed : List Method
      renewed = map (renamed_method f) methods

      both_failing : (m : Method) (at : ℕ) (failure : Option ℕ) → f m.begin.number ≡ m.begin.number → IsFixed failure → Both (ob.failing m at failure) (ob.failing m at failure)
      both_failing m at failure k i = by m.fails
        where
          by : (b : Bool) → Both (if b then all_fail at (m.begin.number ∷ []) failure else []) (if b then all_fail at (m.begin.number ∷ []) failure else [])
          by true = both_fail at (m.begin.number ∷ []) (m.begin.number ∷ []) failure i (subst (λ l. Like (m.begin.number ∷ []) (l ∷ [])) k (like_map (m.begin.number ∷ [])))
          by false = none_both

      take_map : (n : ℕ) (xs : List Local) → take n (map other xs) ≡ map other (take n xs)
      take_map zero xs = refl
      take_map (suc n) [] = refl
      take_map (suc n) (x ∷ xs) = ap (λ l. other x ∷ l) (take_map n xs)

      numbers_are : (xs : List Local) → map (λ (x : Local). x.label.number) (map other xs) ≡ map f (map (λ (x : Local). x.label.number) xs)
      numbers_are [] = refl
      numbers_are (x ∷ xs) = ap (λ l. f x.label.number ∷ l) (numbers_are xs)

      parameters_are : (m : Method) → ob.parameter_labels (renamed_method f m) ≡ map f (ob.parameter_labels m)
      parameters_are m = ap (map (λ (x : Local). x.label.number)) (take_map m.parameters m.locals) ∙ numbers_are (take m.parameters m.locals)

      abbrev KeptMethod : Option Method → Type 0
      KeptMethod None = Unit {0}
      KeptMethod (Some m) = HeadKept m

      kept_method : (i : ℕ) (m : Option Method) → slice_get methods i ≡ m → KeptMethod m
      kept_method i None e = tt
      kept_method i (Some m) e = heads i m e

      both_calling : (pc qc : List ℕ) (failure : Option ℕ) (x : Use) (es : List Expression) (m : Option Method) → KeptMethod m → IsFixed failure → Like pc qc
          → Both (ob.calling classes methods locals authority pc failure x es m) (ob.calling classes renewed others authority qc failure x es (option_map (renamed_method f) m))
      both_calling pc qc failure x es None k i like = both_all_given pc qc failure es [] i like
      both_calling pc qc failure x es (Some m) k i like =
          join (all_flow Begin x.at pc m.begin.number ++ ob.failing m x.at failure) (all_flow Begin x.at qc m.begin.number ++ ob.failing (renamed_method f m) x.at failure)
          (ob.all_given classes locals pc failure es (ob.parameter_labels m)) (ob.all_given classes others qc failure es (ob.parameter_labels (renamed_method f m)))
          (join (all_flow Begin x.at pc m.begin.number) (all_flow Begin x.at qc m.begin.number) (ob.failing m x.at failure) (ob.failing (renamed_method f m) x.at failure)
          (both_kept Begin x.at pc qc m.begin.number k.begin like) (both_failing m x.at failure k.begin i))
          (subst (λ ls. Both (ob.all_given classes locals pc failure es (ob.parameter_labels m)) (ob.all_given classes others qc failure es ls)) (sym (parameters_are m))
          (both_all_given pc qc failure es (ob.parameter_labels m) i like))

      both_call : (pc qc : List ℕ) (failure : Option ℕ) (x : Use) (es : List Expression) → IsFixed failure → Like pc qc
          → Both (ob.call_owes classes methods locals authority pc failure x es) (ob.call_owes classes renewed others authority qc failure x es)
      both_call pc qc failure x es i like =
          subst (λ m. Both (ob.call_owes classes methods locals authority pc failure x es) (ob.calling classes renewed others authority qc failure x es m))
          (sym (get_map (renamed_method f) methods x.number))
          (both_calling pc qc failure x es (slice_get methods x.number) (kept_method x.number (slice_get methods x.number) refl) i like)

      each_is : (l : ℕ) → f l ≡ l → (es : List Expression) → map f (ob.for_each l es) ≡ ob.for_each l es
      each_is l e [] = refl
      each_is l e (x ∷ xs) = ap (λ z. z ∷ map f (ob.for_each l xs)) e ∙ ap (λ z. l ∷ z) (each_is l e xs)

      both_making : (pc qc : List ℕ) (failure : Option ℕ) (at : ℕ) (es : List Expression) (c : Option Class) → IsKept c → IsFixed failure → Like pc qc
          → Both (ob.making classes methods locals authority pc failure at es c) (ob.making classes renewed others authority qc failure at es c)
      both_making pc qc failure at es None k i like = both_all_given pc qc failure es [] i like
      both_making pc qc failure at es (Some c) k i like =
          join (all_flow Write at pc c.label.number ++ all_conf Access at pc c.access.number) (all_flow Write at qc c.label.number ++ all_conf Access at qc c.access.number)
          (ob.all_given classes locals pc failure es (ob.for_each c.label.number es)) (ob.all_given classes others qc failure es (ob.for_each c.label.number es))
          (join (all_flow Write at pc c.label.number) (all_flow Write at qc c.label.number) (all_conf Access at pc c.access.number) (all_conf Access at qc c.access.number)
          (both_kept Write at pc qc c.label.number k like) (both_conf Access at pc qc c.access.number like))
          (subst (λ ls. Both (ob.all_given classes locals pc failure es (ob.for_each c.label.number es)) (ob.all_given classes others qc failure es ls))
          (each_is c.label.number k es) (both_all_given pc qc failure es (ob.for_each c.label.number es) i like))

      -- a claim without labels of locals
      both_one : (x : Owed) → renamed_claim f x.claim ≡ x.claim → Both (x ∷ []) (x ∷ [])
      both_one x e = record { to = λ h. (subst P e h.0, tt); back = λ h. (subst P (sym e) h.0, tt) }

      abbrev FixedRight : Right → Type 0
      FixedRight (rights.Plain e) = Unit {0}
      FixedRight (rights.Call x es) = Unit {0}
      FixedRight (rights.New x store es site at) = Unit {0}
      FixedRight (rights.Downgrade d e from to site at) = (f from.number ≡ from.number) × (f to.number ≡ to.number)

      downgrading_is : (d : Downgrade) (at from to : ℕ) → renamed_claim f (ob.downgrading classes methods locals authority d at from to).claim
          ≡ (ob.downgrading classes methods locals authority d at from to).claim
      downgrading_is downgrades.Declassify at from to = refl
      downgrading_is downgrades.Endorse at from to = refl

      same_downgrading : (d : Downgrade) (at from to : ℕ) → ob.downgrading classes renewed others authority d at from to ≡ ob.downgrading classes methods locals authority d at from to
      same_downgrading downgrades.Declassify at from to = refl
      same_downgrading downgrades.Endorse at from to = refl

      both_right : (pc qc : List ℕ) (failure : Option ℕ) (x : Right) → FixedRight x → IsFixed failure → Like pc qc
          → Both (ob.right_owes classes methods locals authority pc failure x) (ob.right_owes classes renewed others authority qc failure x)
      both_right pc qc failure (rights.Plain e) k i like = (expressions e).owes pc qc failure i like
      both_right pc qc failure (rights.Call x es) k i like = both_call pc qc failure x es i like
      both_right pc qc failure (rights.New x store es site at) k i like =
          join (owe Placement at (holds store.number x.number) ∷ []) (owe Placement at (holds store.number x.number) ∷ [])
          (ob.making classes methods locals authority pc failure at es (slice_get classes x.number)) (ob.making classes renewed others authority qc failure at es (slice_get classes x.number))
          (both_one (owe Placement at (holds store.number x.number)) refl)
          (both_making pc qc failure at es (slice_get classes x.number) (kept_slot x.number (slice_get classes x.number) refl) i like)
      both_right pc qc failure (rights.Downgrade d e from to site at) k i like =
          let p = part classes locals e in
          let q = part classes others e in
          let last = ob.downgrading classes methods locals authority d at from.number to.number in
          join (p.owes pc failure ++ all_flow Write at p.labels from.number) (q.owes qc failure ++ all_flow Write at q.labels from.number) (last ∷ [])
          (ob.downgrading classes renewed others authority d at from.number to.number ∷ [])
          (join (p.owes pc failure) (q.owes qc failure) (all_flow Write at p.labels from.number) (all_flow Write at q.labels from.number)
          ((expressions e).owes pc qc failure i like)
          (both_kept Write at p.labels q.labels from.number k.0 (subst (Like p.labels) (sym (expressions e).labels) (like_map p.labels))))
          (subst (λ z. Both (last ∷ []) (z ∷ [])) (sym (same_downgrading d at from.number to.number)) (both_one last (downgrading_is d at from.number to.number)))

      -- the labels that flow with what is assigned
      returns_are : (x : Option Returns) → ((l : ℕ) → In l (ob.label_of_returns x) → f l ≡ l) → ob.label_of_returns x ≡ map f (ob.label_of_returns x)
      returns_are None k = refl
      returns_are (Some x) k = ap (λ l. l ∷ []) (sym (k x.label.number (inl refl)))

      returned_is : (m : Option Method) → KeptMethod m → ob.returned classes renewed others authority (option_map (renamed_method f) m) ≡ map f (ob.returned classes methods locals authority m)
      returned_is None k = refl
      returned_is (Some m) k = returns_are m.returns k.returns

      right_is : (x : Right) → FixedRight x → ob.right_labels classes renewed others authority x ≡ map f (ob.right_labels classes methods locals authority x)
      right_is (rights.Plain e) k = (expressions e).labels
      right_is (rights.Call x es) k =
          ap (ob.returned classes renewed others authority) (get_map (renamed_method f) methods x.number)
          ∙ returned_is (slice_get methods x.number) (kept_method x.number (slice_get methods x.number) refl)
      right_is (rights.New x store es site at) k = refl
      right_is (rights.Downgrade d e from to site at) k = ap (λ l. l ∷ []) (sym k.1)

      both_local : (at : ℕ) (pc qc : List ℕ) (x : Option Local) → Like pc qc
          → Both (ob.to_each (all_flow Write at pc) (label_of_local x)) (ob.to_each (all_flow Write at qc) (label_of_local (option_map other x)))
      both_local at pc qc None like = none_both
      both_local at pc qc (Some x) like =
          join (all_flow Write at pc x.label.number) (all_flow Write at qc (f x.label.number)) [] [] (both_flow Write at pc qc x.label.number like) none_both

      both_writing : (pc qc : List ℕ) (x : Use) (e : Expression) (c : Option Class) → IsKept c → Like pc qc
          → Both (ob.writing classes methods locals authority pc x e c) (ob.writing classes renewed others authority qc x e c)
      both_writing pc qc x e None k like = none_both
      both_writing pc qc x e (Some c) k like =
          let p = part classes locals e in
          let q = part classes others e in
          let ls = local_labels classes locals x in
          let ms = local_labels classes others x in
          both_kept Write x.at (pc ++ ls ++ p.labels) (qc ++ ms ++ q.labels) c.label.number k
          (like_part (pc ++ ls) (qc ++ ms) p q (expressions e).labels (like_more pc qc ls ms like (subst (Like ls) (sym (local_is x)) (like_map ls))))

      -- ---- statements

      abbrev pub AllFixed : List ℕ → Type 0
      AllFixed ls = AllByRecursion (λ l. f l ≡ l) ls

      fixed_right : (x : Right) → AllFixed (named_by_right x) → FixedRight x
      fixed_right (rights.Plain e) g = tt
      fixed_right (rights.Call x es) g = tt
      fixed_right (rights.New x store es site at) g = tt
      fixed_right (rights.Downgrade d e from to site at) g = (g.0, g.1.0)

      abbrev Here : Type 0
      Here = ob.Owes classes methods locals authority

      abbrev There : Type 0
      There = ob.Owes classes renewed others authority

      pub record Stands (ls : List ℕ) (a : Here) (b : There) : Type 0 where
        pub by : AllFixed ls → (pc qc : List ℕ) (failure : Option ℕ) → IsFixed failure → Like pc qc → Both (a pc failure) (b qc failure)

      abbrev here : Statement → Here
      here = ob.statement_owes classes methods locals authority

      abbrev there : Statement → There
      there = ob.statement_owes classes renewed others authority

      abbrev OfStatement : Statement → Type 0
      OfStatement x = Stands (labels_in x) (here x) (there x)

      abbrev Known : Type 0
      Known = (x : Statement) × OfStatement x

      abbrev bare : List Known → List Statement
      bare ks = map (λ (k : Known). k.0) ks

      abbrev row_here : List Statement → Here
      row_here xs = ob.in_order classes methods locals authority (map here xs)

      abbrev row_there : List Statement → There
      row_there xs = ob.in_order classes renewed others authority (map there xs)

      rows : (ks : List Known) → AllFixed (labels_in_block (bare ks)) → (pc qc : List ℕ) (failure : Option ℕ) → IsFixed failure → Like pc qc
          → Both (row_here (bare ks) pc failure) (row_there (bare ks) qc failure)
      rows [] g pc qc failure i like = none_both
      rows (k ∷ ks) g pc qc failure i like =
          let t = all_split (λ l. f l ≡ l) (labels_in k.0) (labels_in_block (bare ks)) g in
          join (here k.0 pc failure) (there k.0 qc failure) (row_here (bare ks) pc failure) (row_there (bare ks) qc failure)
          (k.1.by t.0 pc qc failure i like) (rows ks t.1 pc qc failure i like)

      abbrev pieces : s.Statement-F Known → s.Statement-F Statement
      pieces y = map-Statement Known Statement (λ k. k.0) y

      layer : (y : s.Statement-F Known) → Stands (labels_step (map-Statement Statement (List ℕ) labels_in (pieces y)))
          (ob.statement_step classes methods locals authority (map-Statement Statement Here here (pieces y)))
          (ob.statement_step classes renewed others authority (map-Statement Statement There there (pieces y)))
      layer (s.Assign x w at) = record {
        by = λ g pc qc failure i like.
            let k = fixed_right w g in
            let ls = ob.right_labels classes methods locals authority w in
            let ms = ob.right_labels classes renewed others authority w in
            let more : Like (pc ++ ls) (qc ++ ms) = like_more pc qc ls ms like (subst (Like ls) (sym (right_is w k)) (like_map ls)) in
            join (ob.right_owes classes methods locals authority pc failure w) (ob.right_owes classes renewed others authority qc failure w)
            (ob.to_each (all_flow Write at (pc ++ ls)) (label_of_local (slice_get locals x))) (ob.to_each (all_flow Write at (qc ++ ms)) (label_of_local (slice_get others x)))
            (both_right pc qc failure w k i like)
            (subst (λ z. Both (ob.to_each (all_flow Write at (pc ++ ls)) (label_of_local (slice_get locals x))) (ob.to_each (all_flow Write at (qc ++ ms)) (label_of_local z)))
            (sym (get_map other locals x)) (both_local at (pc ++ ls) (qc ++ ms) (slice_get locals x) more));
      }
      layer (s.Write x field e site) = record {
        by = λ g pc qc failure i like.
            let p = part classes locals e in
            let q = part classes others e in
            let c = class_behind classes locals x in
            join (p.owes pc failure ++ reaching classes locals x pc failure) (q.owes qc failure ++ reaching classes others x qc failure)
            (ob.writing classes methods locals authority pc x e c) (ob.writing classes renewed others authority qc x e (class_behind classes others x))
            (join (p.owes pc failure) (q.owes qc failure) (reaching classes locals x pc failure) (reaching classes others x qc failure)
            ((expressions e).owes pc qc failure i like) (both_reaching x pc qc failure i like))
            (subst (λ z. Both (ob.writing classes methods locals authority pc x e c) (ob.writing classes renewed others authority qc x e z)) (sym (behind_is x))
            (both_writing pc qc x e c (kept_local (slice_get locals x.number)) like));
      }
      layer (s.Call x es) = record { by = λ g pc qc failure i like. both_call pc qc failure x es i like }
      layer (s.If e a b) = record {
        by = λ g pc qc failure i like.
            let p = part classes locals e in
            let q = part classes others e in
            let t = all_split (λ l. f l ≡ l) (labels_in_block (bare a)) (labels_in_block (bare b)) g in
            let inside = under pc p.labels in
            let within = under qc q.labels in
            let more : Like inside within = like_under pc qc p.labels q.labels like (subst (Like p.labels) (sym (expressions e).labels) (like_map p.labels)) in
            join (p.owes pc failure ++ row_here (bare a) inside failure) (q.owes qc failure ++ row_there (bare a) within failure) (row_here (bare b) inside failure) (row_there (bare b) within failure)
            (join (p.owes pc failure) (q.owes qc failure) (row_here (bare a) inside failure) (row_there (bare a) within failure)
            ((expressions e).owes pc qc failure i like) (rows a t.0 inside within failure i more))
            (rows b t.1 inside within failure i more);
      }
      layer (s.While e a) = record {
        by = λ g pc qc failure i like.
            let p = part classes locals e in
            let q = part classes others e in
            let inside = under pc p.labels in
            let within = under qc q.labels in
            let more : Like inside within = like_under pc qc p.labels q.labels like (subst (Like p.labels) (sym (expressions e).labels) (like_map p.labels)) in
            join (p.owes pc failure) (q.owes qc failure) (row_here (bare a) inside failure) (row_there (bare a) within failure)
            ((expressions e).owes pc qc failure i like) (rows a g inside within failure i more);
      }
      layer (s.Atomic x a b at) = record {
        by = λ g pc qc failure i like.
            let t = all_split (λ l. f l ≡ l) (labels_in_block (bare a)) (labels_in_block (bare b)) g.1 in
            let inside = under pc (x.number ∷ []) in
            let within = under qc (x.number ∷ []) in
            let one : Like (x.number ∷ []) (x.number ∷ []) = subst (λ l. Like (x.number ∷ []) (l ∷ [])) g.0 (like_map (x.number ∷ [])) in
            let more : Like inside within = like_under pc qc (x.number ∷ []) (x.number ∷ []) like one in
            join (all_flow Atomic at pc x.number ++ row_here (bare a) inside (Some x.number)) (all_flow Atomic at qc x.number ++ row_there (bare a) within (Some x.number))
            (row_here (bare b) inside failure) (row_there (bare b) within failure)
            (join (all_flow Atomic at pc x.number) (all_flow Atomic at qc x.number) (row_here (bare a) inside (Some x.number)) (row_there (bare a) within (Some x.number))
            (both_kept Atomic at pc qc x.number g.0 like) (rows a t.0 inside within (Some x.number) g.0 more))
            (rows b t.1 inside within failure i more);
      }
      layer (s.Fail at) = record { by = λ g pc qc failure i like. both_fail at pc qc failure i like }

      pub statements : (x : Statement) → OfStatement x
      statements = ind-Statement OfStatement (λ x y is. subst (λ z. OfStatement (roll-Statement z)) is
          (rw (
            fold-roll-Statement (List ℕ) labels_step (pieces y),
            fold-roll-Statement Here (ob.statement_step classes methods locals authority) (pieces y),
            fold-roll-Statement There (ob.statement_step classes renewed others authority) (pieces y),
          ) (layer y)))
