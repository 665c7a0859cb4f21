-- What flows to holes is what flows to locals, as far as these are holes.
use Rattle.std.proofs.Common.{◌≡◌, ℕ, ◌<◌, nat_lt, Bool, true, false, if◌then◌else◌, List, [], ◌∷◌, ◌++◌, map, Option, Some, None, refl, sym, ap, ◌∙◌, subst, append_assoc}
use Rattle.std.specs.Prelude.{slice_get}
use Rattle.std.specs.List.{AllByRecursion, flat_map}
use Rattle.fab_base.proofs.Lists.{all_split, at_index}
use Rattle.fab_base.specs.declared.object.Width.TheVariants as widths
use Rattle.fab_tree.specs.declared.expression.Operator.{Operator}
use Rattle.fab_tree.specs.declared.expression.Operator.TheVariants as o
use Rattle.fab_tree.specs.declared.statement.Downgrade.{Downgrade}
use Rattle.fab_tree.specs.declared.statement.Downgrade.TheVariants as downgrades
use Rattle.fab_tree.specs.declared.resolved.Use.{Use}
use Rattle.fab_tree.specs.declared.resolved.Sort.{Sort}
use Rattle.fab_tree.specs.declared.resolved.Sort.TheVariants as sorts
use Rattle.fab_tree.specs.declared.resolved.Class.{Class}
use Rattle.fab_tree.specs.declared.resolved.Expression.{Expression, ind-Expression, roll-Expression, fold-roll-Expression, map-Expression}
use Rattle.fab_tree.specs.declared.resolved.Form.{Form, roll-Form, fold-roll-Form, map-Form}
use Rattle.fab_tree.specs.declared.resolved.Form.TheOpen as forms
use Rattle.fab_tree.specs.declared.resolved.Operand.{Operand, roll-Operand, fold-roll-Operand, map-Operand}
use Rattle.fab_tree.specs.declared.resolved.Right.{Right}
use Rattle.fab_tree.specs.declared.resolved.Right.TheVariants as rights
use Rattle.fab_tree.specs.declared.resolved.Statement.{Statement, ind-Statement, roll-Statement, fold-roll-Statement, map-Statement}
use Rattle.fab_tree.specs.declared.resolved.Statement.TheOpen as s
use Rattle.fab_tree.specs.declared.resolved.Local.{Local}
use Rattle.fab_tree.specs.declared.resolved.Method.{Method}
use Rattle.fab_tree.specs.declared.resolved.Returns.{Returns}
use Rattle.fab_tree.specs.declared.resolved.Return.{Return}
use Rattle.fab_labelling.specs.declared.rule.LabelRule.{LabelRule}
use Rattle.fab_labelling.specs.declared.rule.LabelRule.TheVariants.{Access, Atomic, Begin, Fail, Write}
use Rattle.fab_labelling.specs.Obligations as ob
use Rattle.fab_labelling.specs.Obligations.{Claim, flows, conf, nowhere, declassifies, endorses, holds, answers_for, Owed, all_flow, all_conf, all_fail, under, label_of_local, Part, Tail, division, class_behind, asking, reaching, tail_owes, form_step, part}
use Rattle.fab_labelling.proofs.Forms.{form_part, operand_part}
use Rattle.fab_views.proofs.Labels.{AreBelow, named_by_right, labels_step, labels_in, labels_in_block}
use Rattle.fab_holes.proofs.Choosing.{lt_true}
use Rattle.fab_holes.specs.Flowing as fl
use Rattle.fab_holes.specs.Flowing.{all_to, only}

flat_append : {X A : Type 0} (g : X → List A) (xs ys : List X) → flat_map g (xs ++ ys) ≡ flat_map g xs ++ flat_map g ys
flat_append g [] ys = refl
flat_append g (x ∷ xs) ys = ap (λ l. g x ++ l) (flat_append g xs ys) ∙ sym (append_assoc (g x) (flat_map g xs) (flat_map g ys))

-- with so many declared labels
module _ (n : ℕ) where
  -- a flow to a label from this number on
  abbrev pub to_hole : Claim → List (ℕ × ℕ)
  to_hole (flows a b) = if nat_lt b n then [] else (a, b) ∷ []
  to_hole (conf a b) = []
  to_hole (nowhere a) = []
  to_hole (declassifies a b ps) = []
  to_hole (endorses a b ps) = []
  to_hole (holds store class) = []
  to_hole (answers_for worker method p) = []

  abbrev pub pairs : List Owed → List (ℕ × ℕ)
  pairs xs = flat_map (λ (x : Owed). to_hole x.claim) xs

  pub pairs_append : (xs ys : List Owed) → pairs (xs ++ ys) ≡ pairs xs ++ pairs ys
  pairs_append xs ys = flat_append (λ (x : Owed). to_hole x.claim) xs ys

  only_append : (ps qs : List (ℕ × ℕ)) → only n (ps ++ qs) ≡ only n ps ++ only n qs
  only_append ps qs = flat_append (λ (p : ℕ × ℕ). if nat_lt p.1 n then [] else p ∷ []) ps qs

  -- of two parts the first has none
  pub behind_quiet : (xs ys : List Owed) (ps : List (ℕ × ℕ)) → pairs xs ≡ [] → pairs ys ≡ ps → pairs (xs ++ ys) ≡ ps
  behind_quiet xs ys ps q e = pairs_append xs ys ∙ ap (λ l. l ++ pairs ys) q ∙ e

  pub both_parts : (xs ys : List Owed) (ps qs : List (ℕ × ℕ)) → pairs xs ≡ only n ps → pairs ys ≡ only n qs → pairs (xs ++ ys) ≡ only n (ps ++ qs)
  both_parts xs ys ps qs e f = pairs_append xs ys ∙ (λ i. e i ++ f i) ∙ sym (only_append ps qs)

  pub both_quiet : (xs ys : List Owed) → pairs xs ≡ [] → pairs ys ≡ [] → pairs (xs ++ ys) ≡ []
  both_quiet xs ys p q = behind_quiet xs ys [] p q

  flow_pairs : (rule : LabelRule) (at : ℕ) (from : List ℕ) (to : ℕ) → pairs (all_flow rule at from to) ≡ only n (all_to from to)
  flow_pairs rule at [] to = refl
  flow_pairs rule at (l ∷ ls) to = ap (λ ps. (if nat_lt to n then [] else (l, to) ∷ []) ++ ps) (flow_pairs rule at ls to)

  quiet_flow : (rule : LabelRule) (at : ℕ) (from : List ℕ) (to : ℕ) → to < n → pairs (all_flow rule at from to) ≡ []
  quiet_flow rule at [] to below = refl
  quiet_flow rule at (l ∷ ls) to below = ap (λ b. (if b then [] else (l, to) ∷ []) ++ pairs (all_flow rule at ls to)) (lt_true to n below) ∙ quiet_flow rule at ls to below

  quiet_conf : (rule : LabelRule) (at : ℕ) (from : List ℕ) (to : ℕ) → pairs (all_conf rule at from to) ≡ []
  quiet_conf rule at [] to = refl
  quiet_conf rule at (l ∷ ls) to = quiet_conf rule at ls to

  -- the failure label is declared, if there is one
  abbrev pub IsQuiet : Option ℕ → Type 0
  IsQuiet None = Unit {0}
  IsQuiet (Some l) = l < n

  quiet_fail : (at : ℕ) (from : List ℕ) (failure : Option ℕ) → IsQuiet failure → pairs (all_fail at from failure) ≡ []
  quiet_fail at [] None q = refl
  quiet_fail at (l ∷ ls) None q = quiet_fail at ls None q
  quiet_fail at from (Some l) q = quiet_flow Fail at from l q

  -- the labels of classes and of methods' heads are declared
  pub record HeadBelow (m : Method) : Type 0 where
    pub begin : m.begin.number < n
    pub returns : AreBelow n (ob.label_of_returns m.returns)

  module _ (classes : List Class) (declared : AllByRecursion (λ (c : Class). c.label.number < n) classes) (locals : List Local) where
    quiet_asking : (at : ℕ) (pc : List ℕ) (c : Option Class) → pairs (asking classes locals at pc c) ≡ []
    quiet_asking at pc None = refl
    quiet_asking at pc (Some c) = quiet_conf Access at pc c.access.number

    quiet_reaching : (x : Use) (pc : List ℕ) (failure : Option ℕ) → IsQuiet failure → pairs (reaching classes locals x pc failure) ≡ []
    quiet_reaching x pc failure q =
        let from = pc ++ ob.local_labels classes locals x in
        both_quiet (asking classes locals x.at from (class_behind classes locals x)) (all_fail x.at from failure) (quiet_asking x.at from (class_behind classes locals x)) (quiet_fail x.at from failure q)

    -- ---- nothing in an expression flows to a local

    pub record Silent (p : Part) : Type 0 where
      pub by : (pc : List ℕ) (failure : Option ℕ) → IsQuiet failure → pairs (p.owes pc failure) ≡ []

    abbrev FormSilent : Form → Type 0
    FormSilent x = Silent (form_part classes locals x)

    abbrev ValueSilent : Expression → Type 0
    ValueSilent x = Silent (part classes locals x)

    abbrev OperandSilent : Operand → Type 0
    OperandSilent x = Silent (operand_part classes locals x).part

    abbrev KnownForm : Type 0
    KnownForm = (x : Form) × FormSilent x

    abbrev KnownValue : Type 0
    KnownValue = (x : Expression) × ValueSilent x

    abbrev KnownOperand : Type 0
    KnownOperand = (x : Operand) × OperandSilent x

    abbrev in_form : forms.Form-F KnownForm KnownValue KnownOperand → forms.Form-F Form Expression Operand
    in_form y = map-Form KnownForm KnownValue KnownOperand Form Expression Operand (λ k. k.0) (λ k. k.0) (λ k. k.0) y

    abbrev tails : List KnownOperand → List Tail
    tails ks = map (operand_part classes locals) (map (λ (k : KnownOperand). k.0) ks)

    quiet_division : (operator : Operator) (at : ℕ) (from : List ℕ) (failure : Option ℕ) → IsQuiet failure → pairs (division operator at from failure) ≡ []
    quiet_division o.Divide at from failure q = quiet_fail at from failure q
    quiet_division o.Or at from failure q = refl
    quiet_division o.And at from failure q = refl
    quiet_division o.Add at from failure q = refl
    quiet_division o.Subtract at from failure q = refl
    quiet_division o.Multiply at from failure q = refl

    quiet_tails : (ks : List KnownOperand) (pc : List ℕ) (failure : Option ℕ) → IsQuiet failure → pairs (flat_map (tail_owes classes locals pc failure) (tails ks)) ≡ []
    quiet_tails [] pc failure q = refl
    quiet_tails (k ∷ ks) pc failure q =
        let u = operand_part classes locals k.0 in
        both_quiet (tail_owes classes locals pc failure u) (flat_map (tail_owes classes locals pc failure) (tails ks))
        (both_quiet (u.part.owes pc failure) (division u.operator u.at (pc ++ u.part.labels) failure) (k.1.by pc failure q) (quiet_division u.operator u.at (pc ++ u.part.labels) failure q))
        (quiet_tails ks pc failure q)

    by_form : (y : forms.Form-F KnownForm KnownValue KnownOperand)
        → Silent (form_step classes locals (map-Form Form Expression Operand Part Part Tail (form_part classes locals) (part classes locals) (operand_part classes locals) (in_form y)))
    by_form (forms.Number k) = record { by = λ pc failure q. refl }
    by_form forms.Null = record { by = λ pc failure q. refl }
    by_form (forms.Local x) = record { by = λ pc failure q. refl }
    by_form (forms.Read x field site) = record { by = λ pc failure q. quiet_reaching x pc failure q }
    by_form (forms.Unary o k) = k.1
    by_form (forms.Chain k ks) = record {
      by = λ pc failure q. both_quiet ((part classes locals k.0).owes pc failure) (flat_map (tail_owes classes locals pc failure) (tails ks)) (k.1.by pc failure q) (quiet_tails ks pc failure q);
    }
    by_form (forms.Compared k comparison l) = record {
      by = λ pc failure q. both_quiet ((part classes locals k.0).owes pc failure) ((part classes locals l.0).owes pc failure) (k.1.by pc failure q) (l.1.by pc failure q);
    }

    abbrev tail : Operator → ℕ → Part → Tail
    tail operator at p = record { operator = operator; at = at; part = p }

    pub silent : (e : Expression) → ValueSilent e
    silent = ind-Expression FormSilent ValueSilent OperandSilent
        (λ x y is. subst (λ z. FormSilent (roll-Form z)) is
        (rw (fold-roll-Form Part Part Tail (form_step classes locals) (λ e. e.form) (λ u. tail u.operator u.at u.operand) (in_form y)) (by_form y)))
        (λ x y is. let z = map-Expression KnownForm KnownValue KnownOperand Form Expression Operand (λ k. k.0) (λ k. k.0) (λ k. k.0) y in
        subst (λ z. ValueSilent (roll-Expression z)) is
        (rw (fold-roll-Expression Part Part Tail (form_step classes locals) (λ e. e.form) (λ u. tail u.operator u.at u.operand) z) y.form.1))
        (λ x y is. let z = map-Operand KnownForm KnownValue KnownOperand Form Expression Operand (λ k. k.0) (λ k. k.0) (λ k. k.0) y in
        subst (λ z. OperandSilent (roll-Operand z)) is
        (rw (fold-roll-Operand Part Part Tail (form_step classes locals) (λ e. e.form) (λ u. tail u.operator u.at u.operand) z) y.operand.1))

    module _ (methods : List Method) (authority : List ℕ) (heads : AllByRecursion HeadBelow methods) where
      given_pairs : (pc : List ℕ) (failure : Option ℕ) (es : List Expression) (to : List ℕ) → IsQuiet failure
          → pairs (ob.all_given classes locals pc failure es to) ≡ only n (fl.given_flows classes methods locals authority pc es to)
      given_pairs pc failure [] to q = refl
      given_pairs pc failure (e ∷ es) [] q =
          both_quiet ((part classes locals e).owes pc failure) (ob.all_given classes locals pc failure es []) ((silent e).by pc failure q) (given_pairs pc failure es [] q ∙ nothing es)
        where
          nothing : (es : List Expression) → only n (fl.given_flows classes methods locals authority pc es []) ≡ []
          nothing [] = refl
          nothing (x ∷ xs) = refl
      given_pairs pc failure (e ∷ es) (l ∷ ls) q =
          let p = part classes locals e in
          both_parts (p.owes pc failure ++ all_flow Write e.at (pc ++ p.labels) l) (ob.all_given classes locals pc failure es ls) (all_to (pc ++ p.labels) l) (fl.given_flows classes methods locals authority pc es ls)
          (behind_quiet (p.owes pc failure) (all_flow Write e.at (pc ++ p.labels) l) (only n (all_to (pc ++ p.labels) l)) ((silent e).by pc failure q) (flow_pairs Write e.at (pc ++ p.labels) l))
          (given_pairs pc failure es ls q)

      -- values that are given to what has a declared label
      quiet_given : (pc : List ℕ) (failure : Option ℕ) (es : List Expression) (to : List ℕ) → AreBelow n to → IsQuiet failure → pairs (ob.all_given classes locals pc failure es to) ≡ []
      quiet_given pc failure [] to b q = refl
      quiet_given pc failure (e ∷ es) [] b q = both_quiet ((part classes locals e).owes pc failure) (ob.all_given classes locals pc failure es []) ((silent e).by pc failure q) (quiet_given pc failure es [] tt q)
      quiet_given pc failure (e ∷ es) (l ∷ ls) b q =
          let p = part classes locals e in
          both_quiet (p.owes pc failure ++ all_flow Write e.at (pc ++ p.labels) l) (ob.all_given classes locals pc failure es ls)
          (both_quiet (p.owes pc failure) (all_flow Write e.at (pc ++ p.labels) l) ((silent e).by pc failure q) (quiet_flow Write e.at (pc ++ p.labels) l b.0))
          (quiet_given pc failure es ls b.1 q)

      each_below : {A : Type 0} (l : ℕ) (es : List A) → l < n → AreBelow n (ob.for_each l es)
      each_below l [] h = tt
      each_below l (e ∷ es) h = (h, each_below l es h)

      abbrev FoundMethod : Option Method → Type 0
      FoundMethod None = Unit {0}
      FoundMethod (Some m) = HeadBelow m

      found_method : (i : ℕ) (m : Option Method) → slice_get methods i ≡ m → FoundMethod m
      found_method i None e = tt
      found_method i (Some m) e = at_index HeadBelow methods i m heads e

      abbrev FoundClass : Option Class → Type 0
      FoundClass None = Unit {0}
      FoundClass (Some c) = c.label.number < n

      found_class : (i : ℕ) (c : Option Class) → slice_get classes i ≡ c → FoundClass c
      found_class i None e = tt
      found_class i (Some c) e = at_index (λ (x : Class). x.label.number < n) classes i c declared e

      quiet_failing : (m : Method) (at : ℕ) (failure : Option ℕ) → IsQuiet failure → pairs (ob.failing m at failure) ≡ []
      quiet_failing m at failure q = by m.fails
        where
          by : (b : Bool) → pairs (if b then all_fail at (m.begin.number ∷ []) failure else []) ≡ []
          by true = quiet_fail at (m.begin.number ∷ []) failure q
          by false = refl

      calling_pairs : (pc : List ℕ) (failure : Option ℕ) (x : Use) (es : List Expression) (m : Option Method) → FoundMethod m → IsQuiet failure
          → pairs (ob.calling classes methods locals authority pc failure x es m) ≡ only n (fl.given_flows classes methods locals authority pc es (fl.parameters_of classes methods locals authority m))
      calling_pairs pc failure x es None k q = given_pairs pc failure es [] q
      calling_pairs pc failure x es (Some m) k q =
          behind_quiet (all_flow Begin x.at pc m.begin.number ++ ob.failing m x.at failure) (ob.all_given classes locals pc failure es (ob.parameter_labels m)) (only n (fl.given_flows classes methods locals authority pc es (ob.parameter_labels m)))
          (both_quiet (all_flow Begin x.at pc m.begin.number) (ob.failing m x.at failure) (quiet_flow Begin x.at pc m.begin.number k.begin) (quiet_failing m x.at failure q))
          (given_pairs pc failure es (ob.parameter_labels m) q)

      call_pairs : (pc : List ℕ) (failure : Option ℕ) (x : Use) (es : List Expression) → IsQuiet failure
          → pairs (ob.call_owes classes methods locals authority pc failure x es) ≡ only n (fl.call_flows classes methods locals authority pc x es)
      call_pairs pc failure x es q = calling_pairs pc failure x es (slice_get methods x.number) (found_method x.number (slice_get methods x.number) refl) q

      quiet_making : (pc : List ℕ) (failure : Option ℕ) (at : ℕ) (es : List Expression) (c : Option Class) → FoundClass c → IsQuiet failure → pairs (ob.making classes methods locals authority pc failure at es c) ≡ []
      quiet_making pc failure at es None k q = quiet_given pc failure es [] tt q
      quiet_making pc failure at es (Some c) k q =
          both_quiet (all_flow Write at pc c.label.number ++ all_conf Access at pc c.access.number) (ob.all_given classes locals pc failure es (ob.for_each c.label.number es))
          (both_quiet (all_flow Write at pc c.label.number) (all_conf Access at pc c.access.number) (quiet_flow Write at pc c.label.number k) (quiet_conf Access at pc c.access.number))
          (quiet_given pc failure es (ob.for_each c.label.number es) (each_below c.label.number es k) q)

      quiet_downgrading : (d : Downgrade) (at from to : ℕ) → pairs (ob.downgrading classes methods locals authority d at from to ∷ []) ≡ []
      quiet_downgrading downgrades.Declassify at from to = refl
      quiet_downgrading downgrades.Endorse at from to = refl

      right_pairs : (pc : List ℕ) (failure : Option ℕ) (x : Right) → AreBelow n (named_by_right x) → IsQuiet failure
          → pairs (ob.right_owes classes methods locals authority pc failure x) ≡ only n (fl.right_flows classes methods locals authority pc x)
      right_pairs pc failure (rights.Plain e) b q = (silent e).by pc failure q
      right_pairs pc failure (rights.Call x es) b q = call_pairs pc failure x es q
      right_pairs pc failure (rights.New x store es site at) b q = quiet_making pc failure at es (slice_get classes x.number) (found_class x.number (slice_get classes x.number) refl) q
      right_pairs pc failure (rights.Downgrade d e from to site at) b q =
          let p = part classes locals e in
          both_quiet (p.owes pc failure ++ all_flow Write at p.labels from.number) (ob.downgrading classes methods locals authority d at from.number to.number ∷ [])
          (both_quiet (p.owes pc failure) (all_flow Write at p.labels from.number) ((silent e).by pc failure q) (quiet_flow Write at p.labels from.number b.0))
          (quiet_downgrading d at from.number to.number)

      local_pairs : (at : ℕ) (from : List ℕ) (x : Option Local) → pairs (ob.to_each (all_flow Write at from) (label_of_local x)) ≡ only n (flat_map (all_to from) (label_of_local x))
      local_pairs at from None = refl
      local_pairs at from (Some x) = both_parts (all_flow Write at from x.label.number) [] (all_to from x.label.number) [] (flow_pairs Write at from x.label.number) refl

      quiet_writing : (pc : List ℕ) (x : Use) (e : Expression) (c : Option Class) → FoundClass c → pairs (ob.writing classes methods locals authority pc x e c) ≡ []
      quiet_writing pc x e None k = refl
      quiet_writing pc x e (Some c) k = quiet_flow Write x.at (pc ++ ob.local_labels classes locals x ++ (part classes locals e).labels) c.label.number k

      found_sort : (t : Sort) → FoundClass (ob.class_of_sort classes t)
      found_sort (sorts.Number widths.Int) = tt
      found_sort (sorts.Class y) = found_class y.number (slice_get classes y.number) refl

      found_behind : (x : Option Local) → FoundClass (ob.class_of_local classes x)
      found_behind None = tt
      found_behind (Some x) = found_sort x.sort

      -- ---- statements

      abbrev Owing : Type 0
      Owing = ob.Owes classes methods locals authority

      abbrev Flowing : Type 0
      Flowing = fl.Flowing classes methods locals authority

      pub record Pairs (ls : List ℕ) (a : Owing) (b : Flowing) : Type 0 where
        pub by : AreBelow n ls → (pc : List ℕ) (failure : Option ℕ) → IsQuiet failure → pairs (a pc failure) ≡ only n (b pc)

      abbrev owing : Statement → Owing
      owing = ob.statement_owes classes methods locals authority

      abbrev flowing : Statement → Flowing
      flowing = fl.statement_flows classes methods locals authority

      abbrev OfStatement : Statement → Type 0
      OfStatement x = Pairs (labels_in x) (owing x) (flowing x)

      abbrev Known : Type 0
      Known = (x : Statement) × OfStatement x

      abbrev bare : List Known → List Statement
      bare ks = map (λ (k : Known). k.0) ks

      abbrev row_owes : List Statement → Owing
      row_owes xs = ob.in_order classes methods locals authority (map owing xs)

      abbrev row_flows : List Statement → Flowing
      row_flows xs = fl.in_a_row classes methods locals authority (map flowing xs)

      rows : (ks : List Known) → AreBelow n (labels_in_block (bare ks)) → (pc : List ℕ) (failure : Option ℕ) → IsQuiet failure → pairs (row_owes (bare ks) pc failure) ≡ only n (row_flows (bare ks) pc)
      rows [] b pc failure q = refl
      rows (k ∷ ks) b pc failure q =
          let t = all_split (λ l. l < n) (labels_in k.0) (labels_in_block (bare ks)) b in
          both_parts (owing k.0 pc failure) (row_owes (bare ks) pc failure) (flowing k.0 pc) (row_flows (bare ks) pc) (k.1.by t.0 pc failure q) (rows ks t.1 pc failure q)

      abbrev pieces : s.Statement-F Known → s.Statement-F Statement
      pieces = map-Statement Known Statement (λ k. k.0)

      layer : (y : s.Statement-F Known) → Pairs (labels_step (map-Statement Statement (List ℕ) labels_in (pieces y))) (ob.statement_step classes methods locals authority (map-Statement Statement Owing owing (pieces y)))
          (fl.flows_step classes methods locals authority (map-Statement Statement Flowing flowing (pieces y)))
      layer (s.Assign x r at) = record {
        by = λ b pc failure q. let from = pc ++ ob.right_labels classes methods locals authority r in
            both_parts (ob.right_owes classes methods locals authority pc failure r) (ob.to_each (all_flow Write at from) (label_of_local (slice_get locals x)))
            (fl.right_flows classes methods locals authority pc r) (flat_map (all_to from) (label_of_local (slice_get locals x)))
            (right_pairs pc failure r b q) (local_pairs at from (slice_get locals x));
      }
      layer (s.Write x field e site) = record {
        by = λ b pc failure q. let p = part classes locals e in
            both_quiet (p.owes pc failure ++ reaching classes locals x pc failure) (ob.writing classes methods locals authority pc x e (class_behind classes locals x))
            (both_quiet (p.owes pc failure) (reaching classes locals x pc failure) ((silent e).by pc failure q) (quiet_reaching x pc failure q))
            (quiet_writing pc x e (class_behind classes locals x) (found_behind (slice_get locals x.number)));
      }
      layer (s.Call x es) = record { by = λ b pc failure q. call_pairs pc failure x es q }
      layer (s.If e xs ys) = record {
        by = λ b pc failure q. let p = part classes locals e in let inside = under pc p.labels in
            let t = all_split (λ l. l < n) (labels_in_block (bare xs)) (labels_in_block (bare ys)) b in
            both_parts (p.owes pc failure ++ row_owes (bare xs) inside failure) (row_owes (bare ys) inside failure) (row_flows (bare xs) inside) (row_flows (bare ys) inside)
            (behind_quiet (p.owes pc failure) (row_owes (bare xs) inside failure) (only n (row_flows (bare xs) inside)) ((silent e).by pc failure q) (rows xs t.0 inside failure q))
            (rows ys t.1 inside failure q);
      }
      layer (s.While e xs) = record {
        by = λ b pc failure q. let p = part classes locals e in let inside = under pc p.labels in
            behind_quiet (p.owes pc failure) (row_owes (bare xs) inside failure) (only n (row_flows (bare xs) inside)) ((silent e).by pc failure q) (rows xs b inside failure q);
      }
      layer (s.Atomic x xs ys at) = record {
        by = λ b pc failure q. let inside = under pc (x.number ∷ []) in
            let t = all_split (λ l. l < n) (labels_in_block (bare xs)) (labels_in_block (bare ys)) b.1 in
            both_parts (all_flow Atomic at pc x.number ++ row_owes (bare xs) inside (Some x.number)) (row_owes (bare ys) inside failure) (row_flows (bare xs) inside) (row_flows (bare ys) inside)
            (behind_quiet (all_flow Atomic at pc x.number) (row_owes (bare xs) inside (Some x.number)) (only n (row_flows (bare xs) inside)) (quiet_flow Atomic at pc x.number b.0) (rows xs t.0 inside (Some x.number) b.0))
            (rows ys t.1 inside failure q);
      }
      layer (s.Fail at) = record { by = λ b pc failure q. quiet_fail at pc failure q }

      pub statements : (x : Statement) → OfStatement x
      statements = ind-Statement OfStatement (λ x y is. subst (λ z. OfStatement (roll-Statement z)) is
          (rw (
            fold-roll-Statement (List ℕ) labels_step (pieces y),
            fold-roll-Statement Owing (ob.statement_step classes methods locals authority) (pieces y),
            fold-roll-Statement Flowing (fl.flows_step classes methods locals authority) (pieces y),
          ) (layer y)))

      pub block_pairs : (xs : List Statement) → AreBelow n (labels_in_block xs) → (pc : List ℕ) (failure : Option ℕ) → IsQuiet failure
          → pairs (ob.block_owes classes methods locals authority xs pc failure) ≡ only n (fl.block_flows classes methods locals authority xs pc)
      block_pairs [] b pc failure q = refl
      block_pairs (x ∷ xs) b pc failure q =
          let t = all_split (λ l. l < n) (labels_in x) (labels_in_block xs) b in
          both_parts (owing x pc failure) (row_owes xs pc failure) (flowing x pc) (row_flows xs pc) ((statements x).by t.0 pc failure q) (block_pairs xs t.1 pc failure q)

      pub quiet_return : (returns : Option Returns) (x : Option Return) → AreBelow n (ob.label_of_returns returns) → (pc : List ℕ) (failure : Option ℕ) → IsQuiet failure
          → pairs (ob.return_owes classes methods locals authority returns x pc failure) ≡ []
      quiet_return returns None b pc failure q = refl
      quiet_return None (Some x) b pc failure q = both_quiet ((part classes locals x.value).owes pc failure) [] ((silent x.value).by pc failure q) refl
      quiet_return (Some y) (Some x) b pc failure q =
          let p = part classes locals x.value in
          both_quiet (p.owes pc failure) (all_flow Write x.at (pc ++ p.labels) y.label.number ++ []) ((silent x.value).by pc failure q)
          (both_quiet (all_flow Write x.at (pc ++ p.labels) y.label.number) [] (quiet_flow Write x.at (pc ++ p.labels) y.label.number b.0) refl)
