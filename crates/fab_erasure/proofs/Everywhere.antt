-- What holds of each primitive step, and of what is made of parts of which it holds, holds of all that is done erased.
--
-- Only what stands under seen labels is done, so a law may ask something of each site under such labels (`Spot`), and of an
-- object that is read or written, that its class is shown.
use Rattle.std.proofs.Common.{◌≡◌, ℕ, zero, suc, List, [], ◌∷◌, ◌++◌, Option, Some, None, Bool, true, false, not, ◌&&◌, if◌then◌else◌, map, refl, sym, ap, ◌∙◌, subst}
use Rattle.std.specs.Prelude.{slice_get, unwrap_or}
use Rattle.std.specs.List.{list_all, flat_map, AllByRecursion}
use Rattle.std.proofs.lemmas.Bool.{and_from}
use Rattle.fab_base.specs.declared.object.Tid.{Tid}
use Rattle.fab_base.specs.declared.object.Stop.TheVariants.{Depth}
use Rattle.fab_base.specs.declared.object.Value.{Value}
use Rattle.fab_base.specs.declared.object.Value.TheVariants.{Null, Ref}
use Rattle.fab_tree.specs.declared.expression.Operator.{Operator}
use Rattle.fab_tree.specs.declared.resolved.Class.{Class}
use Rattle.fab_tree.specs.declared.resolved.Local.{Local}
use Rattle.fab_tree.specs.declared.resolved.Expression.{Expression, ind-Expression, roll-Expression, fold-roll-Expression, map-Expression}
use Rattle.fab_tree.specs.declared.resolved.Form.{Form, fold-Form, roll-Form, fold-roll-Form, map-Form}
use Rattle.fab_tree.specs.declared.resolved.Form.TheOpen as f
use Rattle.fab_tree.specs.declared.resolved.Operand.{Operand, out-Operand, fold-Operand, roll-Operand, fold-roll-Operand, fold_out-Operand, map-Operand}
use Rattle.fab_tree.specs.declared.resolved.Right.{Right}
use Rattle.fab_tree.specs.declared.resolved.Right.TheVariants as rights
use Rattle.fab_tree.specs.declared.resolved.Statement.{Statement, ind-Statement, roll-Statement, fold-roll-Statement, map-Statement}
use Rattle.fab_tree.specs.declared.resolved.Statement.TheOpen as s
use Rattle.fab_tree.specs.declared.resolved.Return.{Return}
use Rattle.fab_tree.specs.declared.resolved.Returns.{Returns}
use Rattle.fab_tree.specs.declared.resolved.Method.{Method}
use Rattle.fab_tree.specs.declared.resolved.Resolved.{Resolved}
use Rattle.fab_labelling.specs.Obligations as ob
use Rattle.fab_labelling.specs.Obligations.{Tail, under, label_of_local, label_of_class, class_of_local}
use Rattle.fab_labelling.specs.Sites as sites
use Rattle.fab_labelling.specs.Sites.{Sited, all_under, form_sites, sites_in, all_sites, right_sites, return_sites, statement_sites, sited, block_sites, method_sites}
use Rattle.fab_language.specs.Meaning.{stopped, ends, M, gives, ◌>>=◌, ◌>>◌, charge, local, assign, read, write, noted_down, holds, operate, chained, in_order, loop, led}
use Rattle.fab_language.specs.Meaning.{atomically}
use Rattle.fab_laws.proofs.Everywhere as all
use Rattle.fab_laws.proofs.Everywhere.{OfReads, OfSteps, Anywhere}
use Rattle.fab_erasure.specs.Erased as erase
use Rattle.fab_erasure.specs.Erased.{Part, part_of, shown_if}
use Rattle.fab_erasure.proofs.Views.{all_append, split_left, split_right, under_seen}
use Rattle.fab_base.specs.Values.{referred}
use Rattle.fab_base.specs.declared.object.Oid.{Oid}
use Rattle.fab_tree.specs.Numbers.{number_value}

-- ---- what a law shows: beside the steps of the meaning, that a given value is taken

pub record OfErased (K : (A : Type 0) → M A → Type 0) (Spot : ℕ → Type 0) (shows : ℕ → Bool) : Type 1 where
  pub steps : OfSteps K Spot shows
  pub took : (blank : Value) → K Value (erase.take_given blank)

module _ (K : (A : Type 0) → M A → Type 0) (Spot : ℕ → Type 0) (sees shows : ℕ → Bool) where
  abbrev pub At : List ℕ → Type 0
  At ns = AllByRecursion Spot ns

  -- where its labels are seen, each site is such a one
  abbrev pub Placed : Sited → Type 0
  Placed ys = AllByRecursion (λ (y : ℕ × List ℕ). list_all sees y.1 ≡ true → Spot y.0) ys

  pub placed_at : (pc ns : List ℕ) → list_all sees pc ≡ true → Placed (all_under pc ns) → At ns
  placed_at pc [] e h = tt
  placed_at pc (n ∷ ns) e h = (h.0 e, placed_at pc ns e h.1)

  choose : {A : Type 0} (b : Bool) (m n : M A) → (b ≡ true → K A m) → K A n → K A (if b then m else n)
  choose b m n h k = all.chosen K Spot shows b m n h k

  -- ---- expressions

  module _ (of : OfReads K Spot shows) (classes : List Class) (ls : List Local) where
    read_one : (site field : ℕ) (v : Value) → Spot site → K Value (erase.read_shown sees shows site field v)
    read_one site field v at = by (referred v)
      where
        by : (o : Option Oid) → K Value (led o (λ p. if shows p.class then read site field (Ref p) else gives Null))
        by None = of.fell
        by (Some o) = choose (shows o.class) (read site field (Ref o)) (gives Null) (λ e. of.got site field o at e) (of.given Null)

    -- a part is seen by the labels of what is read
    pub record Calm (p : Part) (labels ns : List ℕ) : Type 0 where
      pub seen_is : p.seen ≡ list_all sees labels
      pub by : At ns → K Value p.run

    calm : (b : Bool) (run : M Value) (labels ns : List ℕ) → b ≡ list_all sees labels → (At ns → K Value run) → Calm (part_of b run) labels ns
    calm b run labels ns e h = record { seen_is = e; by = λ at. of.bound run (λ v. gives (shown_if b v)) (h at) (λ v. of.given (shown_if b v)) }

    abbrev step : f.Form-F Part Part (Operator × Part) → Part
    step = erase.form_step sees shows classes ls

    abbrev form_part : Form → Part
    form_part = fold-Form Part Part (Operator × Part) step (λ e. e.form) (λ u. (u.operator, u.operand))

    abbrev part : Expression → Part
    part = erase.part sees shows classes ls

    abbrev operand_part : Operand → Operator × Part
    operand_part = fold-Operand Part Part (Operator × Part) step (λ e. e.form) (λ u. (u.operator, u.operand))

    abbrev tail : Operator → ℕ → ob.Part → Tail
    tail operator at p = record { operator = operator; at = at; part = p }

    abbrev owed_step : f.Form-F ob.Part ob.Part Tail → ob.Part
    owed_step = ob.form_step classes ls

    abbrev form_owed : Form → ob.Part
    form_owed = fold-Form ob.Part ob.Part Tail owed_step (λ e. e.form) (λ u. tail u.operator u.at u.operand)

    abbrev owed_by : Expression → ob.Part
    owed_by = ob.part classes ls

    abbrev operand_owed : Operand → Tail
    operand_owed = fold-Operand ob.Part ob.Part Tail owed_step (λ e. e.form) (λ u. tail u.operator u.at u.operand)

    abbrev sites_in_form : Form → List ℕ
    sites_in_form = fold-Form (List ℕ) (List ℕ) (List ℕ) form_sites (λ e. e.form) (λ u. u.operand)

    abbrev sites_in_operand : Operand → List ℕ
    sites_in_operand = fold-Operand (List ℕ) (List ℕ) (List ℕ) form_sites (λ e. e.form) (λ u. u.operand)

    abbrev KnownForm : Type 0
    KnownForm = (y : Form) × Calm (form_part y) (form_owed y).labels (sites_in_form y)

    abbrev KnownValue : Type 0
    KnownValue = (y : Expression) × Calm (part y) (owed_by y).labels (sites_in y)

    abbrev KnownOperand : Type 0
    KnownOperand = (y : Operand) × Calm (operand_part y).1 (operand_owed y).part.labels (sites_in_operand y)

    abbrev in_form : f.Form-F KnownForm KnownValue KnownOperand → f.Form-F Form Expression Operand
    in_form y = map-Form KnownForm KnownValue KnownOperand Form Expression Operand (λ k. k.0) (λ k. k.0) (λ k. k.0) y

    abbrev bare : List KnownOperand → List Operand
    bare ks = map (λ (k : KnownOperand). k.0) ks

    abbrev runs_of : List KnownOperand → List (Operator × M Value)
    runs_of ks = map (λ (u : Operator × Part). (u.0, u.1.run)) (map operand_part (bare ks))

    abbrev tails_of : List KnownOperand → List Tail
    tails_of ks = map operand_owed (bare ks)

    abbrev sites_of_all : List KnownOperand → List ℕ
    sites_of_all ks = all_sites (map sites_in_operand (bare ks))

    abbrev all_seen : List KnownOperand → Bool
    all_seen ks = list_all (λ (u : Operator × Part). u.1.seen) (map operand_part (bare ks))

    labels_seen : (ks : List KnownOperand) → all_seen ks ≡ list_all sees (flat_map (λ (u : Tail). u.part.labels) (tails_of ks))
    labels_seen [] = refl
    labels_seen (k ∷ ks) =
        ap (λ b. b && all_seen ks) k.1.seen_is ∙ ap (λ b. list_all sees (operand_owed k.0).part.labels && b) (labels_seen ks)
        ∙ sym (all_append sees (operand_owed k.0).part.labels (flat_map (λ (u : Tail). u.part.labels) (tails_of ks)))

    operands : (ks : List KnownOperand) → At (sites_of_all ks) → all.EachOperand K Spot shows of (runs_of ks)
    operands [] at = tt
    operands (k ∷ ks) at = (k.1.by (split_left _ (sites_in_operand k.0) (sites_of_all ks) at), operands ks (split_right _ (sites_in_operand k.0) (sites_of_all ks) at))

    abbrev labels_of_all : List KnownOperand → List ℕ
    labels_of_all ks = flat_map (λ (u : Tail). u.part.labels) (tails_of ks)

    by_form : (y : f.Form-F KnownForm KnownValue KnownOperand) → Calm
        (step (map-Form Form Expression Operand Part Part (Operator × Part) form_part part operand_part (in_form y)))
        (owed_step (map-Form Form Expression Operand ob.Part ob.Part Tail form_owed owed_by operand_owed (in_form y))).labels
        (form_sites (map-Form Form Expression Operand (List ℕ) (List ℕ) (List ℕ) sites_in_form sites_in sites_in_operand (in_form y)))
    by_form (f.Number k) = calm true (gives (number_value k)) [] [] refl (λ at. of.given (number_value k))
    by_form f.Null = calm true (gives Null) [] [] refl (λ at. of.given Null)
    by_form (f.Local i) =
        let labels = label_of_local (slice_get ls i.number) in
        calm (list_all sees labels) (local i.number) labels [] refl (λ at. of.named i.number)
    by_form (f.Read i field site) =
        let labels = label_of_local (slice_get ls i.number) in
        let more = label_of_class (class_of_local classes (slice_get ls i.number)) in
        calm (list_all sees labels && list_all sees more) (local i.number >>= erase.read_shown sees shows site field) (labels ++ more) (site ∷ [])
        (sym (all_append sees labels more))
        (λ at. of.bound (local i.number) (erase.read_shown sees shows site field) (of.named i.number) (λ v. read_one site field v at.0))
    by_form (f.Unary o k) = calm (part k.0).seen _ (owed_by k.0).labels (sites_in k.0) k.1.seen_is (λ at. of.bound (part k.0).run _ (k.1.by at) (λ v. of.given _))
    by_form (f.Chain k others) =
        calm ((part k.0).seen && all_seen others) ((part k.0).run >>= chained operate (runs_of others)) ((owed_by k.0).labels ++ labels_of_all others)
        (sites_in k.0 ++ sites_of_all others)
        (ap (λ b. b && all_seen others) k.1.seen_is ∙ ap (λ b. list_all sees (owed_by k.0).labels && b) (labels_seen others)
        ∙ sym (all_append sees (owed_by k.0).labels (labels_of_all others)))
        (λ at. of.bound (part k.0).run (chained operate (runs_of others)) (k.1.by (split_left _ (sites_in k.0) (sites_of_all others) at))
        (λ v. all.chains K Spot shows of (runs_of others) v (operands others (split_right _ (sites_in k.0) (sites_of_all others) at))))
    by_form (f.Compared k comparison l) =
        calm ((part k.0).seen && (part l.0).seen) _ ((owed_by k.0).labels ++ (owed_by l.0).labels) (sites_in k.0 ++ sites_in l.0)
        (ap (λ b. b && (part l.0).seen) k.1.seen_is ∙ ap (λ b. list_all sees (owed_by k.0).labels && b) l.1.seen_is
        ∙ sym (all_append sees (owed_by k.0).labels (owed_by l.0).labels))
        (λ at. of.bound (part k.0).run _ (k.1.by (split_left _ (sites_in k.0) (sites_in l.0) at))
        (λ a. of.bound (part l.0).run _ (l.1.by (split_right _ (sites_in k.0) (sites_in l.0) at)) (λ b. of.given _)))

    abbrev FormCalm : Form → Type 0
    FormCalm y = Calm (form_part y) (form_owed y).labels (sites_in_form y)

    abbrev ValueCalm : Expression → Type 0
    ValueCalm y = Calm (part y) (owed_by y).labels (sites_in y)

    abbrev OperandCalm : Operand → Type 0
    OperandCalm y = Calm (operand_part y).1 (operand_owed y).part.labels (sites_in_operand y)

    pub expressions : (e : Expression) → ValueCalm e
    expressions = ind-Expression FormCalm ValueCalm OperandCalm
        (λ x y is. subst (λ z. FormCalm (roll-Form z)) is
        (rw (
          fold-roll-Form Part Part (Operator × Part) step (λ e. e.form) (λ u. (u.operator, u.operand)) (in_form y),
          fold-roll-Form ob.Part ob.Part Tail owed_step (λ e. e.form) (λ u. tail u.operator u.at u.operand) (in_form y),
          fold-roll-Form (List ℕ) (List ℕ) (List ℕ) form_sites (λ e. e.form) (λ u. u.operand) (in_form y),
        ) (by_form y)))
        (λ x y is. let z = map-Expression KnownForm KnownValue KnownOperand Form Expression Operand (λ k. k.0) (λ k. k.0) (λ k. k.0) y in
        subst (λ z. ValueCalm (roll-Expression z)) is
        (rw (
          fold-roll-Expression Part Part (Operator × Part) step (λ e. e.form) (λ u. (u.operator, u.operand)) z,
          fold-roll-Expression ob.Part ob.Part Tail owed_step (λ e. e.form) (λ u. tail u.operator u.at u.operand) z,
          fold-roll-Expression (List ℕ) (List ℕ) (List ℕ) form_sites (λ e. e.form) (λ u. u.operand) z,
        ) y.form.1))
        (λ x y is. let z = map-Operand KnownForm KnownValue KnownOperand Form Expression Operand (λ k. k.0) (λ k. k.0) (λ k. k.0) y in
        subst (λ z. OperandCalm (roll-Operand z)) is
        (rw (
          fold-roll-Operand Part Part (Operator × Part) step (λ e. e.form) (λ u. (u.operator, u.operand)) z,
          fold-roll-Operand ob.Part ob.Part Tail owed_step (λ e. e.form) (λ u. tail u.operator u.at u.operand) z,
          fold-roll-Operand (List ℕ) (List ℕ) (List ℕ) form_sites (λ e. e.form) (λ u. u.operand) z,
        ) y.operand.1))

    operand_calm : (u : Operand) → OperandCalm u
    operand_calm u =
        rw (
          fold_out-Operand Part Part (Operator × Part) step (λ e. e.form) (λ v. (v.operator, v.operand)) u,
          fold_out-Operand ob.Part ob.Part Tail owed_step (λ e. e.form) (λ v. tail v.operator v.at v.operand) u,
          fold_out-Operand (List ℕ) (List ℕ) (List ℕ) form_sites (λ e. e.form) (λ v. v.operand) u,
        ) (expressions (out-Operand u).operand)

    pub all_operands : (us : List Operand) → At (all_sites (map sites_in_operand us))
        → all.EachOperand K Spot shows of (map (λ (u : Operator × Part). (u.0, u.1.run)) (map operand_part us))
    all_operands [] at = tt
    all_operands (u ∷ us) at = (
      (operand_calm u).by (split_left _ (sites_in_operand u) (all_sites (map sites_in_operand us)) at),
      all_operands us (split_right _ (sites_in_operand u) (all_sites (map sites_in_operand us)) at),
    )

    pub all_values : (es : List Expression) → At (flat_map sites_in es) → K (List Value) (erase.values sees shows classes ls es)
    all_values [] at = of.given []
    all_values (e ∷ es) at = of.bound (part e).run _ ((expressions e).by (split_left _ (sites_in e) (flat_map sites_in es) at))
        (λ v. of.bound (erase.values sees shows classes ls es) _ (all_values es (split_right _ (sites_in e) (flat_map sites_in es) at)) (λ vs. of.given (v ∷ vs)))

    pub all_returned : (returns : Option Returns) (result : Option Return) → At (return_sites result)
        → K (Option Value) (erase.returned sees shows classes ls returns result)
    all_returned returns None at = of.given None
    all_returned returns (Some r) at =
        of.bound (part r.value).run _ ((expressions r.value).by at) (λ v. of.given (Some (shown_if (erase.sees_result sees shows returns) v)))

  -- ---- statements, over what a call does

  module _ (of : OfErased K Spot shows) (classes : List Class) (ls : List Local) (tid : Tid) (call : ℕ → List Value → M (Option Value))
      (calls : (m : ℕ) (vs : List Value) → K (Option Value) (call m vs)) where
    abbrev reads : OfReads K Spot shows
    reads = of.steps.reads

    abbrev value : Expression → M Value
    value = erase.value sees shows classes ls

    abbrev owed : Expression → ob.Part
    owed = ob.part classes ls

    abbrev seen : Expression → Bool
    seen e = (erase.part sees shows classes ls e).seen

    abbrev blanks : List Expression → M (List Value)
    blanks = erase.values sees shows classes ls

    one_value : (e : Expression) → At (sites_in e) → K Value (value e)
    one_value e at = (expressions reads classes ls e).by at

    write_one : (site field : ℕ) (v w : Value) → Spot site → K (Unit {0}) (erase.write_shown sees shows site field v w)
    write_one site field v w at = by (referred w)
      where
        by : (o : Option Oid) → K (Unit {0}) (led o (λ p. if shows p.class then write site field v (Ref p) else gives tt))
        by None = reads.fell
        by (Some o) = choose (shows o.class) (write site field v (Ref o)) (gives tt) (λ e. of.steps.wrote site field v o at e) (reads.given tt)

    abbrev down : Value → ℕ → ℕ → Value → M Value
    down = erase.downgraded sees shows classes ls

    downgrades : (blank : Value) (from to : ℕ) (v : Value) → K Value (down blank from to v)
    downgrades blank from to v = choose (sees from) (gives v) (if sees to then erase.take_given blank else gives Null) (λ _. reads.given v)
        (choose (sees to) (erase.take_given blank) (gives Null) (λ _. of.took blank) (reads.given Null))

    pub all_rights : (blank : Value) (x : Right) → At (right_sites x) → K Value (erase.right sees shows classes ls tid call blank x)
    all_rights blank (rights.Plain e) at = one_value e at
    all_rights blank (rights.Call m args) at =
        reads.bound (blanks args) _ (all_values reads classes ls args at)
        (λ vs. reads.bound (call m.number vs) _ (calls m.number vs) (λ result. reads.given (unwrap_or result Null)))
    all_rights blank (rights.New class store args site place) at =
        reads.bound (blanks args) _ (all_values reads classes ls args at.1)
        (λ vs. of.steps.made tid store.number class.number site (erase.fields_shown sees shows class.number vs) at.0)
    all_rights blank (rights.Downgrade downgrade e from to site place) at =
        reads.bound (value e) (λ v. down blank from.number to.number v >>= noted_down site) (one_value e at.1)
        (λ v. reads.bound (down blank from.number to.number v) (noted_down site) (downgrades blank from.number to.number v) (λ w. of.steps.downed site w))

    -- under labels that are seen
    pub record Calms (k : M (Unit {0})) (ys : List ℕ → Sited) : Type 0 where
      pub by : (pc : List ℕ) → list_all sees pc ≡ true → Placed (ys pc) → K (Unit {0}) k

    abbrev one : Statement → M (Unit {0})
    one = erase.statement sees shows classes ls tid call

    abbrev sites_at : Statement → List ℕ → Sited
    sites_at = sited classes ls

    abbrev Known : Type 0
    Known = (y : Statement) × Calms (one y) (sites_at y)

    abbrev bares : List Known → List Statement
    bares ks = map (λ (k : Known). k.0) ks

    abbrev run_all : List Known → M (Unit {0})
    run_all ks = in_order (map one (bares ks))

    abbrev all_at : List Known → List ℕ → Sited
    all_at ks = sites.in_order classes ls (map sites_at (bares ks))

    orders : (ks : List Known) → Calms (run_all ks) (all_at ks)
    orders [] = record { by = λ pc e h. reads.given tt }
    orders (k ∷ ks) = record {
      by = λ pc e h. all.seq K Spot shows reads (one k.0) (run_all ks) (k.1.by pc e (split_left _ (sites_at k.0 pc) (all_at ks pc) h))
          ((orders ks).by pc e (split_right _ (sites_at k.0 pc) (all_at ks pc) h));
    }

    paid : (m : M (Unit {0})) → K (Unit {0}) m → K (Unit {0}) (charge >> m)
    paid = all.paid K Spot shows of.steps

    inner_seen : (pc : List ℕ) (e : Expression) → list_all sees pc ≡ true → seen e ≡ true → list_all sees (under pc (owed e).labels) ≡ true
    inner_seen pc e i k = under_seen sees pc (owed e).labels i (sym (expressions reads classes ls e).seen_is ∙ k)

    abbrev pieces : s.Statement-F Known → s.Statement-F Statement
    pieces y = map-Statement Known Statement (λ k. k.0) y

    by_if : (e : Expression) (a b : List Known) (pc : List ℕ) → list_all sees pc ≡ true
        → Placed (all_under pc (sites_in e) ++ all_at a (under pc (owed e).labels) ++ all_at b (under pc (owed e).labels))
        → K (Unit {0}) (charge >> (value e >>= λ v. if seen e then (if holds v then run_all a else run_all b) else gives tt))
    by_if e a b pc i h =
        let inside = under pc (owed e).labels in
        let front = split_left _ (all_under pc (sites_in e) ++ all_at a inside) (all_at b inside) h in
        let first = split_right _ (all_under pc (sites_in e)) (all_at a inside) front in
        let second = split_right _ (all_under pc (sites_in e) ++ all_at a inside) (all_at b inside) h in
        let at = placed_at pc (sites_in e) i (split_left _ (all_under pc (sites_in e)) (all_at a inside) front) in
        paid (value e >>= λ v. if seen e then (if holds v then run_all a else run_all b) else gives tt)
        (reads.bound (value e) (λ v. if seen e then (if holds v then run_all a else run_all b) else gives tt) (one_value e at)
        (λ v. choose (seen e) (if holds v then run_all a else run_all b) (gives tt)
        (λ k. choose (holds v) (run_all a) (run_all b) (λ _. (orders a).by inside (inner_seen pc e i k) first) ((orders b).by inside (inner_seen pc e i k) second))
        (reads.given tt)))

    by_while : (e : Expression) (a : List Known) (pc : List ℕ) → list_all sees pc ≡ true
        → Placed (all_under pc (sites_in e) ++ all_at a (under pc (owed e).labels))
        → K (Unit {0}) (if seen e then loop (value e) (run_all a) else (charge >> (value e >> gives tt)))
    by_while e a pc i h =
        let inside = under pc (owed e).labels in
        let test = one_value e (placed_at pc (sites_in e) i (split_left _ (all_under pc (sites_in e)) (all_at a inside) h)) in
        choose (seen e) (loop (value e) (run_all a)) (charge >> (value e >> gives tt))
        (λ k. all.loops K Spot shows of.steps (value e) (run_all a) test
        ((orders a).by inside (inner_seen pc e i k) (split_right _ (all_under pc (sites_in e)) (all_at a inside) h)))
        (paid (value e >> gives tt) (all.seq K Spot shows reads (value e) (gives tt) test (reads.given tt)))

    by_atomic : (label : ℕ) (a b : List Known) (pc : List ℕ) → list_all sees pc ≡ true
        → Placed (all_at a (under pc (label ∷ [])) ++ all_at b (under pc (label ∷ [])))
        → K (Unit {0}) (charge >> (if sees label then atomically (run_all a) (run_all b) else gives tt))
    by_atomic label a b pc i h =
        let inside = under pc (label ∷ []) in
        let inner : sees label ≡ true → list_all sees inside ≡ true = λ k. under_seen sees pc (label ∷ []) i (and_from (sees label) true k refl) in
        paid (if sees label then atomically (run_all a) (run_all b) else gives tt)
        (choose (sees label) (atomically (run_all a) (run_all b)) (gives tt)
        (λ k. of.steps.tried (run_all a) (run_all b) ((orders a).by inside (inner k) (split_left _ (all_at a inside) (all_at b inside) h))
        ((orders b).by inside (inner k) (split_right _ (all_at a inside) (all_at b inside) h)))
        (reads.given tt))

    by_statement : (y : s.Statement-F Known) → Calms
        (erase.statement_step sees shows classes ls tid call (map-Statement Statement (M (Unit {0})) one (pieces y)))
        (statement_sites classes ls (map-Statement Statement (List ℕ → Sited) sites_at (pieces y)))
    by_statement (s.Assign i r at) = record {
      by = λ pc e h.
          let blank = erase.blank_of sees shows classes ls (slice_get ls i) in
          let right = erase.right sees shows classes ls tid call blank r in
          let seen = list_all sees (label_of_local (slice_get ls i)) in
          paid (right >>= λ v. assign i (shown_if seen v)) (reads.bound right (λ v. assign i (shown_if seen v))
          (all_rights blank r (placed_at pc (right_sites r) e h)) (λ v. of.steps.assigned i (shown_if seen v)));
    }
    by_statement (s.Write i field v site) = record {
      by = λ pc e h.
          let at = placed_at pc (site ∷ sites_in v) e h in
          paid (value v >>= λ w. local i.number >>= erase.write_shown sees shows site field w)
          (reads.bound (value v) (λ w. local i.number >>= erase.write_shown sees shows site field w) (one_value v at.1)
          (λ w. reads.bound (local i.number) (erase.write_shown sees shows site field w) (reads.named i.number) (λ o. write_one site field w o at.0)));
    }
    by_statement (s.Call i es) = record {
      by = λ pc e h. paid (blanks es >>= λ vs. call i.number vs >> gives tt)
          (reads.bound (blanks es) (λ vs. call i.number vs >> gives tt) (all_values reads classes ls es (placed_at pc (flat_map sites_in es) e h))
          (λ vs. all.seq K Spot shows reads (call i.number vs) (gives tt) (calls i.number vs) (reads.given tt)));
    }
    by_statement (s.If e a b) = record { by = λ pc i h. by_if e a b pc i h }
    by_statement (s.While e a) = record { by = λ pc i h. by_while e a pc i h }
    by_statement (s.Atomic label a b at) = record { by = λ pc i h. by_atomic label.number a b pc i h }
    by_statement (s.Fail at) = record { by = λ pc e h. paid _ reads.fell }

    pub statements : (y : Statement) → Calms (one y) (sites_at y)
    statements = ind-Statement (λ y. Calms (one y) (sites_at y)) (λ y z is.
        subst (λ p. Calms (one (roll-Statement p)) (sites_at (roll-Statement p))) is
        (rw (
          fold-roll-Statement (M (Unit {0})) (erase.statement_step sees shows classes ls tid call) (pieces z),
          fold-roll-Statement (List ℕ → Sited) (statement_sites classes ls) (pieces z),
        ) (by_statement z)))

    pub blocks : (ys : List Statement) → Calms (erase.block sees shows classes ls tid call ys) (block_sites classes ls ys)
    blocks [] = record { by = λ pc e h. reads.given tt }
    blocks (y ∷ ys) = record {
      by = λ pc e h. all.seq K Spot shows reads (one y) (in_order (map one ys)) ((statements y).by pc e (split_left _ (sites_at y pc) (block_sites classes ls ys pc) h))
          ((blocks ys).by pc e (split_right _ (sites_at y pc) (block_sites classes ls ys pc) h));
    }

  -- ---- methods and calls

  module _ (of : OfErased K Spot shows) (program : Resolved) (tid : Tid)
      (placed : (i : ℕ) (m : Method) → slice_get program.methods i ≡ Some m → Placed (method_sites program.classes m)) where
    abbrev Calls : (ℕ → List Value → M (Option Value)) → Type 0
    Calls call = (i : ℕ) (vs : List Value) → K (Option Value) (call i vs)

    bodies : (call : ℕ → List Value → M (Option Value)) → Calls call → (m : Method) → Placed (method_sites program.classes m) → sees m.begin.number ≡ true
        → K (Option Value) (erase.body_of sees shows program.classes tid call m)
    bodies call calls m h e =
        let pc : List ℕ = m.begin.number ∷ [] in
        let at : list_all sees pc ≡ true = and_from (sees m.begin.number) true e refl in
        all.seq K Spot shows of.steps.reads (erase.block sees shows program.classes m.locals tid call m.body)
        (erase.returned sees shows program.classes m.locals m.returns m.result)
        ((blocks of program.classes m.locals tid call calls m.body).by pc at
        (split_left _ (block_sites program.classes m.locals m.body pc) (all_under pc (return_sites m.result)) h))
        (all_returned of.steps.reads program.classes m.locals m.returns m.result (placed_at pc (return_sites m.result) at
        (split_right _ (block_sites program.classes m.locals m.body pc) (all_under pc (return_sites m.result)) h)))

    -- a method whose begin label isn't seen is skipped
    by_begin : (m : Method) (b : Bool) → sees m.begin.number ≡ b → (k : M (Option Value)) → (sees m.begin.number ≡ true → K (Option Value) k)
        → K (Option Value) (if not b then gives (erase.blank_result sees shows (Some m)) else k)
    by_begin m true e k h = h e
    by_begin m false e k h = of.steps.reads.given (erase.blank_result sees shows (Some m))

    stops : (v : Option Method) → K (Option Value) (erase.unless_skipped sees shows v (ends (stopped Depth)))
    stops None = of.steps.halted Depth
    stops (Some m) = by_begin m (sees m.begin.number) refl (ends (stopped Depth)) (λ _. of.steps.halted Depth)

    enters : (call : ℕ → List Value → M (Option Value)) → Calls call → (v : Option Method) (i : ℕ) → slice_get program.methods i ≡ v → (vs : List Value)
        → K (Option Value) (erase.unless_skipped sees shows v (erase.entered sees shows program.classes tid call v vs))
    enters call calls None i e vs = of.steps.reads.given None
    enters call calls (Some m) i e vs = by_begin m (sees m.begin.number) refl (erase.entered sees shows program.classes tid call (Some m) vs)
        (λ k. of.steps.inside (erase.locals_at_start sees shows m vs) (erase.body_of sees shows program.classes tid call m) (bodies call calls m (placed i m e) k))

    pub all_calls : (depth i : ℕ) (vs : List Value) → K (Option Value) (erase.called sees shows program tid depth i vs)
    all_calls zero i vs = stops (slice_get program.methods i)
    all_calls (suc depth) i vs = enters (erase.called sees shows program tid depth) (all_calls depth) (slice_get program.methods i) i refl vs

-- where nothing is asked of sites
pub nowhere : (sees : ℕ → Bool) (ys : Sited) → AllByRecursion (λ (y : ℕ × List ℕ). list_all sees y.1 ≡ true → Anywhere y.0) ys
nowhere sees [] = tt
nowhere sees (y ∷ ys) = ((λ _. tt), nowhere sees ys)
