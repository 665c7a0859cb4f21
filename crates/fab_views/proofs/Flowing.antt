-- Where the labels that a program uses are declared, each claim that something flows is of a declared label.
use Rattle.std.proofs.Common.{◌≡◌, ℕ, ◌<◌, ◌==◌, Bool, true, false, if◌then◌else◌, List, [], ◌∷◌, ◌++◌, map, length, Option, Some, None, refl, subst}
use Rattle.std.specs.Prelude.{slice_get}
use Rattle.std.specs.List.{AllByRecursion, flat_map, list_any, range_with_len}
use Rattle.fab_base.proofs.Lists.{all_append, all_split, at_index}
use Rattle.fab_base.specs.declared.object.Width.TheVariants as widths
use Rattle.fab_tree.specs.declared.expression.Operator.{Operator}
use Rattle.fab_tree.specs.declared.expression.Operator.TheVariants as o
use Rattle.fab_tree.specs.declared.statement.Downgrade.{Downgrade}
use Rattle.fab_tree.specs.declared.statement.Downgrade.TheVariants as downgrades
use Rattle.fab_tree.specs.declared.resolved.Use.{Use}
use Rattle.fab_tree.specs.declared.resolved.Sort.{Sort}
use Rattle.fab_tree.specs.declared.resolved.Sort.TheVariants as sorts
use Rattle.fab_tree.specs.declared.resolved.Class.{Class}
use Rattle.fab_tree.specs.declared.resolved.Expression.{Expression, ind-Expression, roll-Expression, fold-roll-Expression, map-Expression}
use Rattle.fab_tree.specs.declared.resolved.Form.{Form, roll-Form, fold-roll-Form, map-Form}
use Rattle.fab_tree.specs.declared.resolved.Form.TheOpen as f
use Rattle.fab_tree.specs.declared.resolved.Operand.{Operand, roll-Operand, fold-roll-Operand, map-Operand}
use Rattle.fab_tree.specs.declared.resolved.Right.{Right}
use Rattle.fab_tree.specs.declared.resolved.Right.TheVariants as rights
use Rattle.fab_tree.specs.declared.resolved.Statement.{Statement, ind-Statement, roll-Statement, fold-roll-Statement, map-Statement}
use Rattle.fab_tree.specs.declared.resolved.Statement.TheOpen as s
use Rattle.fab_tree.specs.declared.resolved.Local.{Local}
use Rattle.fab_tree.specs.declared.resolved.Returns.{Returns}
use Rattle.fab_tree.specs.declared.resolved.Return.{Return}
use Rattle.fab_tree.specs.declared.resolved.Method.{Method}
use Rattle.fab_tree.specs.declared.resolved.Asked.{Asked}
use Rattle.fab_tree.specs.declared.resolved.Session.{Session}
use Rattle.fab_tree.specs.declared.resolved.Resolved.{Resolved}
use Rattle.fab_labelling.specs.declared.rule.LabelRule.{LabelRule}
use Rattle.fab_labelling.specs.declared.rule.LabelRule.TheVariants.{Begin, Atomic, Write, Access, Fail, Authority}
use Rattle.fab_labelling.specs.Obligations.{Claim, flows, conf, nowhere, declassifies, endorses, holds, answers_for, Owed, owe, all_flow, all_conf, all_fail, under, class_of_sort, class_of_local, label_of_local, label_of_class, label_of_returns, to_each, Part, Tail, division, local_labels, class_behind, asking, reaching, tail_owes}
use Rattle.fab_labelling.specs.Obligations.{form_step, part, given, all_given, parameter_labels, failing, for_each, calling, call_owes, making, downgrading, right_owes, returned, right_labels, writing, Owes, in_order, statement_step, statement_owes, block_owes, return_owes, failure_of, authority_of, method_owes, root_owes, request_owes, session_owes, owed}
use Rattle.fab_labelling.proofs.Forms.{form_part, operand_part}
use Rattle.fab_laws.proofs.Values.{all_map}
use Rattle.fab_shapes.proofs.Lists.{of_all}
use Rattle.fab_views.proofs.Labels.{AreBelow, named_by_right, labels_step, labels_in, labels_in_block, IsLabelledLocal, IsLabelledClass, IsLabelledMethod, HasLabels}

-- what flows, if it says that something does, is one of so many labels
abbrev pub IsFrom : ℕ → Claim → Type 0
IsFrom n (flows a b) = a < n
IsFrom n (conf a b) = a < n
IsFrom n (nowhere a) = Unit {0}
IsFrom n (declassifies a b ps) = Unit {0}
IsFrom n (endorses a b ps) = Unit {0}
IsFrom n (holds store class) = Unit {0}
IsFrom n (answers_for worker method p) = Unit {0}

module _ (n : ℕ) where
  abbrev Below : List ℕ → Type 0
  Below ls = AreBelow n ls

  abbrev AreFrom : List Owed → Type 0
  AreFrom xs = AllByRecursion (λ x. IsFrom n x.claim) xs

  below : (xs ys : List ℕ) → Below xs → Below ys → Below (xs ++ ys)
  below xs ys h k = all_append (λ l. l < n) xs ys h k

  both : (xs ys : List Owed) → AreFrom xs → AreFrom ys → AreFrom (xs ++ ys)
  both xs ys h k = all_append (λ x. IsFrom n x.claim) xs ys h k

  -- ---- labels flow

  flow_from : (rule : LabelRule) (at : ℕ) (from : List ℕ) (to : ℕ) → Below from → AreFrom (all_flow rule at from to)
  flow_from rule at [] to h = tt
  flow_from rule at (l ∷ ls) to h = (h.0, flow_from rule at ls to h.1)

  conf_from : (rule : LabelRule) (at : ℕ) (from : List ℕ) (to : ℕ) → Below from → AreFrom (all_conf rule at from to)
  conf_from rule at [] to h = tt
  conf_from rule at (l ∷ ls) to h = (h.0, conf_from rule at ls to h.1)

  fail_from : (at : ℕ) (from : List ℕ) (failure : Option ℕ) → Below from → AreFrom (all_fail at from failure)
  fail_from at from None h = all_map (λ x. IsFrom n x.claim) (λ l. owe Fail at (nowhere l)) from (λ l. tt)
  fail_from at from (Some to) h = flow_from Fail at from to h

  flows_to_each : (rule : LabelRule) (at : ℕ) (from to : List ℕ) → Below from → AreFrom (to_each (all_flow rule at from) to)
  flows_to_each rule at from to h = of_all (λ x. IsFrom n x.claim) (all_flow rule at from) to (λ l. flow_from rule at from l h)

  under_below : (pc ls : List ℕ) → Below pc → Below ls → Below (under pc ls)
  under_below pc [] h k = h
  under_below pc (l ∷ ls) h k = under_below (if list_any (λ j. j == l) pc then pc else pc ++ l ∷ []) ls (by (list_any (λ j. j == l) pc)) k.1
    where
      by : (b : Bool) → Below (if b then pc else pc ++ l ∷ [])
      by true = h
      by false = below pc (l ∷ []) h (k.0, tt)

  module _ (classes : List Class) (locals : List Local) (labelled : AllByRecursion (IsLabelledClass n) classes) (declared : AllByRecursion (IsLabelledLocal n) locals) where
    -- ---- names

    local_below : (x : Use) → Below (local_labels classes locals x)
    local_below x = by (slice_get locals x.number) refl
      where
        by : (o : Option Local) → slice_get locals x.number ≡ o → Below (label_of_local o)
        by None e = tt
        by (Some y) e = (at_index (IsLabelledLocal n) locals x.number y declared e, tt)

    class_below : (o : Option Class) (i : ℕ) → slice_get classes i ≡ o → Below (label_of_class o)
    class_below None i e = tt
    class_below (Some c) i e = ((at_index (IsLabelledClass n) classes i c labelled e).label, tt)

    behind_below : (x : Use) → Below (label_of_class (class_behind classes locals x))
    behind_below x = by (slice_get locals x.number)
      where
        by_sort : (t : Sort) → Below (label_of_class (class_of_sort classes t))
        by_sort (sorts.Number widths.Int) = tt
        by_sort (sorts.Class y) = class_below (slice_get classes y.number) y.number refl

        by : (o : Option Local) → Below (label_of_class (class_of_local classes o))
        by None = tt
        by (Some y) = by_sort y.sort

    -- ---- expressions

    asking_from : (at : ℕ) (from : List ℕ) (o : Option Class) → Below from → AreFrom (asking classes locals at from o)
    asking_from at from None h = tt
    asking_from at from (Some c) h = conf_from Access at from c.access.number h

    reaching_from : (x : Use) (pc : List ℕ) (failure : Option ℕ) → Below pc → AreFrom (reaching classes locals x pc failure)
    reaching_from x pc failure h =
        let labels = pc ++ local_labels classes locals x in
        let k = below pc (local_labels classes locals x) h (local_below x) in
        both (asking classes locals x.at labels (class_behind classes locals x)) (all_fail x.at labels failure) (asking_from x.at labels (class_behind classes locals x) k) (fail_from x.at labels failure k)

    division_from : (operator : Operator) (at : ℕ) (from : List ℕ) (failure : Option ℕ) → Below from → AreFrom (division operator at from failure)
    division_from o.Divide at from failure h = fail_from at from failure h
    division_from o.Or at from failure h = tt
    division_from o.And at from failure h = tt
    division_from o.Add at from failure h = tt
    division_from o.Subtract at from failure h = tt
    division_from o.Multiply at from failure h = tt

    -- what is read has declared labels, and so has what flows under such labels
    record IsLabelledPart (p : Part) : Type 0 where
      labels : Below p.labels
      owes : (pc : List ℕ) (failure : Option ℕ) → Below pc → AreFrom (p.owes pc failure)

    abbrev KnownForm : Type 0
    KnownForm = (x : Form) × IsLabelledPart (form_part classes locals x)

    abbrev KnownValue : Type 0
    KnownValue = (x : Expression) × IsLabelledPart (part classes locals x)

    abbrev KnownOperand : Type 0
    KnownOperand = (x : Operand) × IsLabelledPart (operand_part classes locals x).part

    abbrev in_form : f.Form-F KnownForm KnownValue KnownOperand → f.Form-F Form Expression Operand
    in_form y = map-Form KnownForm KnownValue KnownOperand Form Expression Operand (λ k. k.0) (λ k. k.0) (λ k. k.0) y

    abbrev tails : List KnownOperand → List Tail
    tails ks = map (operand_part classes locals) (map (λ (k : KnownOperand). k.0) ks)

    tails_below : (ks : List KnownOperand) → Below (flat_map (λ (u : Tail). u.part.labels) (tails ks))
    tails_below [] = tt
    tails_below (k ∷ ks) = below (operand_part classes locals k.0).part.labels (flat_map (λ (u : Tail). u.part.labels) (tails ks)) k.1.labels (tails_below ks)

    tails_from : (ks : List KnownOperand) (pc : List ℕ) (failure : Option ℕ) → Below pc → AreFrom (flat_map (tail_owes classes locals pc failure) (tails ks))
    tails_from [] pc failure h = tt
    tails_from (k ∷ ks) pc failure h =
        let u = operand_part classes locals k.0 in
        let last = division u.operator u.at (pc ++ u.part.labels) failure in
        both (u.part.owes pc failure ++ last) (flat_map (tail_owes classes locals pc failure) (tails ks))
        (both (u.part.owes pc failure) last (k.1.owes pc failure h) (division_from u.operator u.at (pc ++ u.part.labels) failure (below pc u.part.labels h k.1.labels)))
        (tails_from ks pc failure h)

    by_form : (y : f.Form-F KnownForm KnownValue KnownOperand)
        → IsLabelledPart (form_step classes locals (map-Form Form Expression Operand Part Part Tail (form_part classes locals) (part classes locals) (operand_part classes locals) (in_form y)))
    by_form (f.Number i) = record { labels = tt; owes = λ pc failure h. tt }
    by_form f.Null = record { labels = tt; owes = λ pc failure h. tt }
    by_form (f.Local x) = record { labels = local_below x; owes = λ pc failure h. tt }
    by_form (f.Read x field site) = record { labels = below (local_labels classes locals x) (label_of_class (class_behind classes locals x)) (local_below x) (behind_below x); owes = reaching_from x }
    by_form (f.Unary o k) = k.1
    by_form (f.Chain k others) =
        let p = part classes locals k.0 in
        record {
          labels = below p.labels (flat_map (λ (u : Tail). u.part.labels) (tails others)) k.1.labels (tails_below others);
          owes = λ pc failure h. both (p.owes pc failure) (flat_map (tail_owes classes locals pc failure) (tails others)) (k.1.owes pc failure h) (tails_from others pc failure h);
        }
    by_form (f.Compared k comparison l) =
        let p = part classes locals k.0 in
        let q = part classes locals l.0 in
        record {
          labels = below p.labels q.labels k.1.labels l.1.labels;
          owes = λ pc failure h. both (p.owes pc failure) (q.owes pc failure) (k.1.owes pc failure h) (l.1.owes pc failure h);
        }

    abbrev tail : Operator → ℕ → Part → Tail
    tail operator at p = record { operator = operator; at = at; part = p }

    expressions : (e : Expression) → IsLabelledPart (part classes locals e)
    expressions = ind-Expression (λ x. IsLabelledPart (form_part classes locals x)) (λ x. IsLabelledPart (part classes locals x)) (λ x. IsLabelledPart (operand_part classes locals x).part)
        (λ x y is. subst (λ z. IsLabelledPart (form_part classes locals (roll-Form z))) is
        (rw (fold-roll-Form Part Part Tail (form_step classes locals) (λ e. e.form) (λ u. tail u.operator u.at u.operand) (in_form y)) (by_form y)))
        (λ x y is. let z = map-Expression KnownForm KnownValue KnownOperand Form Expression Operand (λ k. k.0) (λ k. k.0) (λ k. k.0) y in
        subst (λ z. IsLabelledPart (part classes locals (roll-Expression z))) is
        (rw (fold-roll-Expression Part Part Tail (form_step classes locals) (λ e. e.form) (λ u. tail u.operator u.at u.operand) z) y.form.1))
        (λ x y is. let z = map-Operand KnownForm KnownValue KnownOperand Form Expression Operand (λ k. k.0) (λ k. k.0) (λ k. k.0) y in
        subst (λ z. IsLabelledPart (operand_part classes locals (roll-Operand z)).part) is
        (rw (fold-roll-Operand Part Part Tail (form_step classes locals) (λ e. e.form) (λ u. tail u.operator u.at u.operand) z) y.operand.1))

    given_from : (pc : List ℕ) (failure : Option ℕ) (e : Expression) (to : ℕ) → Below pc → AreFrom (given classes locals pc failure e to)
    given_from pc failure e to h =
        let p = part classes locals e in
        both (p.owes pc failure) (all_flow Write e.at (pc ++ p.labels) to) ((expressions e).owes pc failure h) (flow_from Write e.at (pc ++ p.labels) to (below pc p.labels h (expressions e).labels))

    all_given_from : (pc : List ℕ) (failure : Option ℕ) (es : List Expression) (to : List ℕ) → Below pc → AreFrom (all_given classes locals pc failure es to)
    all_given_from pc failure [] to h = tt
    all_given_from pc failure (e ∷ es) [] h = both ((part classes locals e).owes pc failure) (all_given classes locals pc failure es []) ((expressions e).owes pc failure h) (all_given_from pc failure es [] h)
    all_given_from pc failure (e ∷ es) (l ∷ ls) h = both (given classes locals pc failure e l) (all_given classes locals pc failure es ls) (given_from pc failure e l h) (all_given_from pc failure es ls h)

    -- ---- statements

    module _ (methods : List Method) (authority : List ℕ) (callable : AllByRecursion (IsLabelledMethod n) methods) where
      failing_from : (m : Method) (at : ℕ) (failure : Option ℕ) → m.begin.number < n → AreFrom (failing m at failure)
      failing_from m at failure h = by m.fails
        where
          by : (b : Bool) → AreFrom (if b then all_fail at (m.begin.number ∷ []) failure else [])
          by true = fail_from at (m.begin.number ∷ []) failure (h, tt)
          by false = tt

      call_from : (pc : List ℕ) (failure : Option ℕ) (x : Use) (es : List Expression) → Below pc → AreFrom (call_owes classes methods locals authority pc failure x es)
      call_from pc failure x es h = by (slice_get methods x.number) refl
        where
          by : (o : Option Method) → slice_get methods x.number ≡ o → AreFrom (calling classes methods locals authority pc failure x es o)
          by None e = all_given_from pc failure es [] h
          by (Some m) e =
              let begins = all_flow Begin x.at pc m.begin.number in
              both (begins ++ failing m x.at failure) (all_given classes locals pc failure es (parameter_labels m))
              (both begins (failing m x.at failure) (flow_from Begin x.at pc m.begin.number h) (failing_from m x.at failure (at_index (IsLabelledMethod n) methods x.number m callable e).begin))
              (all_given_from pc failure es (parameter_labels m) h)

      making_from : (pc : List ℕ) (failure : Option ℕ) (at : ℕ) (es : List Expression) (o : Option Class) → Below pc → AreFrom (making classes methods locals authority pc failure at es o)
      making_from pc failure at es None h = all_given_from pc failure es [] h
      making_from pc failure at es (Some c) h =
          let writes = all_flow Write at pc c.label.number in
          let asks = all_conf Access at pc c.access.number in
          both (writes ++ asks) (all_given classes locals pc failure es (for_each c.label.number es))
          (both writes asks (flow_from Write at pc c.label.number h) (conf_from Access at pc c.access.number h))
          (all_given_from pc failure es (for_each c.label.number es) h)

      downgrading_from : (d : Downgrade) (at from to : ℕ) → IsFrom n (downgrading classes methods locals authority d at from to).claim
      downgrading_from downgrades.Declassify at from to = tt
      downgrading_from downgrades.Endorse at from to = tt

      right_from : (pc : List ℕ) (failure : Option ℕ) (x : Right) → Below pc → AreFrom (right_owes classes methods locals authority pc failure x)
      right_from pc failure (rights.Plain e) h = (expressions e).owes pc failure h
      right_from pc failure (rights.Call x es) h = call_from pc failure x es h
      right_from pc failure (rights.New x store es site at) h = (tt, making_from pc failure at es (slice_get classes x.number) h)
      right_from pc failure (rights.Downgrade d e from to site at) h =
          let p = part classes locals e in
          let writes = all_flow Write at p.labels from.number in
          both (p.owes pc failure ++ writes) (downgrading classes methods locals authority d at from.number to.number ∷ [])
          (both (p.owes pc failure) writes ((expressions e).owes pc failure h) (flow_from Write at p.labels from.number (expressions e).labels))
          (downgrading_from d at from.number to.number, tt)

      right_below : (x : Right) → Below (named_by_right x) → Below (right_labels classes methods locals authority x)
      right_below (rights.Plain e) h = (expressions e).labels
      right_below (rights.Call x es) h = by (slice_get methods x.number) refl
        where
          by : (o : Option Method) → slice_get methods x.number ≡ o → Below (returned classes methods locals authority o)
          by None e = tt
          by (Some m) e = (at_index (IsLabelledMethod n) methods x.number m callable e).returns
      right_below (rights.New x store es site at) h = tt
      right_below (rights.Downgrade d e from to site at) h = (h.1.0, tt)

      writing_from : (pc : List ℕ) (x : Use) (e : Expression) (o : Option Class) → Below pc → AreFrom (writing classes methods locals authority pc x e o)
      writing_from pc x e None h = tt
      writing_from pc x e (Some c) h =
          let p = part classes locals e in
          flow_from Write x.at (pc ++ local_labels classes locals x ++ p.labels) c.label.number
          (below (pc ++ local_labels classes locals x) p.labels (below pc (local_labels classes locals x) h (local_below x)) (expressions e).labels)

      -- where these labels are declared, so is what flows under declared ones
      abbrev Owing : List ℕ → Owes classes methods locals authority → Type 0
      Owing ls owes = Below ls → (pc : List ℕ) (failure : Option ℕ) → Below pc → AreFrom (owes pc failure)

      abbrev owes_of : Statement → Owes classes methods locals authority
      owes_of = statement_owes classes methods locals authority

      abbrev Known : Type 0
      Known = (x : Statement) × Owing (labels_in x) (owes_of x)

      abbrev block_of : List Known → List Statement
      block_of ks = map (λ (k : Known). k.0) ks

      abbrev in_row : List Statement → Owes classes methods locals authority
      in_row xs = in_order classes methods locals authority (map owes_of xs)

      orders : (ks : List Known) → Owing (labels_in_block (block_of ks)) (in_row (block_of ks))
      orders [] g pc failure h = tt
      orders (k ∷ ks) g pc failure h =
          let t = all_split (λ l. l < n) (labels_in k.0) (labels_in_block (block_of ks)) g in
          both (owes_of k.0 pc failure) (in_row (block_of ks) pc failure) (k.1 t.0 pc failure h) (orders ks t.1 pc failure h)

      abbrev pieces : s.Statement-F Known → s.Statement-F Statement
      pieces y = map-Statement Known Statement (λ k. k.0) y

      layer : (y : s.Statement-F Known) → Owing (labels_step (map-Statement Statement (List ℕ) labels_in (pieces y)))
          (statement_step classes methods locals authority (map-Statement Statement (Owes classes methods locals authority) owes_of (pieces y)))
      layer (s.Assign x r at) g pc failure h =
          let labels = right_labels classes methods locals authority r in
          let to = label_of_local (slice_get locals x) in
          both (right_owes classes methods locals authority pc failure r) (to_each (all_flow Write at (pc ++ labels)) to)
          (right_from pc failure r h) (flows_to_each Write at (pc ++ labels) to (below pc labels h (right_below r g)))
      layer (s.Write x field e site) g pc failure h =
          let p = part classes locals e in
          let c = class_behind classes locals x in
          both (p.owes pc failure ++ reaching classes locals x pc failure) (writing classes methods locals authority pc x e c)
          (both (p.owes pc failure) (reaching classes locals x pc failure) ((expressions e).owes pc failure h) (reaching_from x pc failure h))
          (writing_from pc x e c h)
      layer (s.Call x es) g pc failure h = call_from pc failure x es h
      layer (s.If e a b) g pc failure h =
          let p = part classes locals e in
          let t = all_split (λ l. l < n) (labels_in_block (block_of a)) (labels_in_block (block_of b)) g in
          let inside = under pc p.labels in
          let k = under_below pc p.labels h (expressions e).labels in
          both (p.owes pc failure ++ in_row (block_of a) inside failure) (in_row (block_of b) inside failure)
          (both (p.owes pc failure) (in_row (block_of a) inside failure) ((expressions e).owes pc failure h) (orders a t.0 inside failure k))
          (orders b t.1 inside failure k)
      layer (s.While e a) g pc failure h =
          let p = part classes locals e in
          let inside = under pc p.labels in
          both (p.owes pc failure) (in_row (block_of a) inside failure) ((expressions e).owes pc failure h) (orders a g inside failure (under_below pc p.labels h (expressions e).labels))
      layer (s.Atomic x a b at) g pc failure h =
          let t = all_split (λ l. l < n) (labels_in_block (block_of a)) (labels_in_block (block_of b)) g.1 in
          let inside = under pc (x.number ∷ []) in
          let k = under_below pc (x.number ∷ []) h (g.0, tt) in
          let begins = all_flow Atomic at pc x.number in
          both (begins ++ in_row (block_of a) inside (Some x.number)) (in_row (block_of b) inside failure)
          (both begins (in_row (block_of a) inside (Some x.number)) (flow_from Atomic at pc x.number h) (orders a t.0 inside (Some x.number) k))
          (orders b t.1 inside failure k)
      layer (s.Fail at) g pc failure h = fail_from at pc failure h

      statements : (x : Statement) → Owing (labels_in x) (owes_of x)
      statements = ind-Statement (λ x. Owing (labels_in x) (owes_of x)) (λ x y is.
          subst (λ z. Owing (labels_in (roll-Statement z)) (owes_of (roll-Statement z))) is
          (rw (
            fold-roll-Statement (List ℕ) labels_step (pieces y),
            fold-roll-Statement (Owes classes methods locals authority) (statement_step classes methods locals authority) (pieces y),
          ) (layer y)))

      blocks : (xs : List Statement) → Owing (labels_in_block xs) (block_owes classes methods locals authority xs)
      blocks [] g pc failure h = tt
      blocks (x ∷ xs) g pc failure h =
          let t = all_split (λ l. l < n) (labels_in x) (labels_in_block xs) g in
          both (owes_of x pc failure) (block_owes classes methods locals authority xs pc failure) (statements x t.0 pc failure h) (blocks xs t.1 pc failure h)

      return_from : (returns : Option Returns) (x : Option Return) (pc : List ℕ) (failure : Option ℕ) → Below pc → AreFrom (return_owes classes methods locals authority returns x pc failure)
      return_from returns None pc failure h = tt
      return_from returns (Some x) pc failure h =
          let p = part classes locals x.value in
          let to = label_of_returns returns in
          both (p.owes pc failure) (to_each (all_flow Write x.at (pc ++ p.labels)) to)
          ((expressions x.value).owes pc failure h) (flows_to_each Write x.at (pc ++ p.labels) to (below pc p.labels h (expressions x.value).labels))

  -- ---- the whole

  method_from : (classes : List Class) (methods : List Method) → AllByRecursion (IsLabelledClass n) classes → AllByRecursion (IsLabelledMethod n) methods
      → (m : Method) → IsLabelledMethod n m → AreFrom (method_owes classes methods m)
  method_from classes methods labelled callable m h =
      let pc = m.begin.number ∷ [] in
      both (block_owes classes methods m.locals (authority_of m) m.body pc (failure_of m)) (return_owes classes methods m.locals (authority_of m) m.returns m.result pc (failure_of m))
      (blocks classes m.locals labelled h.locals methods (authority_of m) callable m.body h.body pc (failure_of m) (h.begin, tt))
      (return_from classes m.locals labelled h.locals methods (authority_of m) callable m.returns m.result pc (failure_of m) (h.begin, tt))

  methods_from : (classes : List Class) (methods ms : List Method) → AllByRecursion (IsLabelledClass n) classes → AllByRecursion (IsLabelledMethod n) methods
      → AllByRecursion (IsLabelledMethod n) ms → AreFrom (flat_map (method_owes classes methods) ms)
  methods_from classes methods [] labelled callable h = tt
  methods_from classes methods (m ∷ ms) labelled callable h =
      both (method_owes classes methods m) (flat_map (method_owes classes methods) ms) (method_from classes methods labelled callable m h.0) (methods_from classes methods ms labelled callable h.1)

  requests_from : (count : ℕ) (x : Asked) → AreFrom (request_owes count x)
  requests_from count x = all_map (λ y. IsFrom n y.claim) (λ p. owe Authority x.at (answers_for x.request.worker x.request.method p)) (range_with_len 0 count) (λ p. tt)

  sessions_from : (count : ℕ) (x : Session) → AreFrom (session_owes count x)
  sessions_from count x = of_all (λ y. IsFrom n y.claim) (request_owes count) x.requests (requests_from count)

-- what flows in a program whose labels are declared is declared
pub flows_from_declared : (r : Resolved) → HasLabels r → AllByRecursion (λ x. IsFrom (length r.labels) x.claim) (owed r)
flows_from_declared r h =
    let n = length r.labels in
    let count = length r.nodes in
    let methods = flat_map (method_owes r.classes r.methods) r.methods in
    let roots = map root_owes r.roots in
    both n (methods ++ roots) (flat_map (session_owes count) r.sessions)
    (both n methods roots (methods_from n r.classes r.methods r.methods h.classes h.methods h.methods) (all_map (λ x. IsFrom n x.claim) root_owes r.roots (λ x. tt)))
    (of_all (λ x. IsFrom n x.claim) (session_owes count) r.sessions (sessions_from n count))
