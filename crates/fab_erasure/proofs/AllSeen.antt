-- With everything seen and nothing given the erased meaning is the meaning: nothing is blanked, so each form does what it means.
use Rattle.std.proofs.Common.{◌≡◌, ℕ, zero, suc, List, [], ◌∷◌, ◌++◌, Option, Some, None, Bool, true, ◌&&◌, if◌then◌else◌, map, drop, length, refl, ap}
use Rattle.std.proofs.Common.{◌∙◌, subst}
use Rattle.std.specs.Prelude.{slice_get, unwrap_or}
use Rattle.std.specs.List.{list_all}
use Rattle.fab_base.specs.declared.object.Tid.{Tid}
use Rattle.fab_base.specs.declared.object.Value.{Value}
use Rattle.fab_base.specs.declared.object.Value.TheVariants.{Null}
use Rattle.fab_base.specs.declared.object.Stop.TheVariants.{Depth}
use Rattle.fab_base.specs.FlatMap.{FlatMap}
use Rattle.fab_tree.specs.declared.expression.Operator.{Operator}
use Rattle.fab_tree.specs.declared.resolved.Class.{Class}
use Rattle.fab_tree.specs.declared.resolved.Local.{Local}
use Rattle.fab_tree.specs.declared.resolved.Expression.{Expression, ind-Expression, roll-Expression, fold-roll-Expression, map-Expression}
use Rattle.fab_tree.specs.declared.resolved.Form.{Form, roll-Form, fold-roll-Form, map-Form}
use Rattle.fab_tree.specs.declared.resolved.Form.TheOpen as f
use Rattle.fab_tree.specs.declared.resolved.Operand.{Operand, roll-Operand, fold-roll-Operand, map-Operand}
use Rattle.fab_tree.specs.declared.resolved.Right.{Right}
use Rattle.fab_tree.specs.declared.resolved.Right.TheVariants as rights
use Rattle.fab_tree.specs.declared.resolved.Statement.{Statement, fold-Statement}
use Rattle.fab_tree.specs.declared.resolved.Statement.TheOpen as s
use Rattle.fab_tree.specs.declared.resolved.Return.{Return}
use Rattle.fab_tree.specs.declared.resolved.Returns.{Returns}
use Rattle.fab_tree.specs.declared.resolved.Method.{Method}
use Rattle.fab_tree.specs.declared.resolved.Request.{Request}
use Rattle.fab_tree.specs.declared.resolved.Resolved.{Resolved}
use Rattle.fab_labelling.specs.Obligations.{class_of_local, label_of_local, label_of_class}
use Rattle.fab_language.specs.Meaning.{stopped, Run, goes, ends, M, and_then, gives, ◌>>=◌, ◌>>◌, charge, local, assign, read, write, create, noted_down, applied}
use Rattle.fab_language.specs.Meaning.{truth, holds, compares, operate, chained, form_step}
use Rattle.fab_language.specs.Meaning.{form_value, operand_value, value, values, in_order, loop, right, statement_step, block, returned, back_with, entered, called}
use Rattle.fab_language.specs.Meaning.{meant_by, meaning, state_at_start, locals_at_start, default}
use Rattle.fab_erasure.specs.Erased as erase
use Rattle.fab_erasure.specs.Erased.{Part, part_of, shown_if}
use Rattle.fab_erasure.proofs.ErasedForms as erased
use Rattle.fab_tree.specs.Numbers.{number_value}

abbrev every : ℕ → Bool
every n = true

all_every : (ls : List ℕ) → list_all every ls ≡ true
all_every [] = refl
all_every (l ∷ ls) = all_every ls

both_every : (ls ks : List ℕ) → (list_all every ls && list_all every ks) ≡ true
both_every ls ks = rw (all_every ls, all_every ks) refl

shown : (b : Bool) (v : Value) → b ≡ true → shown_if b v ≡ v
shown b v e = ap (λ c. shown_if c v) e

-- ---- a part that is seen is its run

then_gives : (r : Run Value) → and_then r (λ v. gives v) ≡ r
then_gives (goes v t) = refl
then_gives (ends e t) = refl

abbrev whole : M Value → Part
whole m = record { seen = true; run = m }

part_seen : (m : M Value) → part_of true m ≡ whole m
part_seen m = λ i. record { seen = true; run = λ t. then_gives (m t) i }

part_whole : (b : Bool) (m : M Value) → b ≡ true → part_of b m ≡ whole m
part_whole b m e = ap (λ c. part_of c m) e ∙ part_seen m

reads : (site field : ℕ) (v : Value) → erase.read_shown every every site field v ≡ read site field v
reads site field v = refl

writes : (site field : ℕ) (v w : Value) → erase.write_shown every every site field v w ≡ write site field v w
writes site field v w = refl

-- ---- expressions

abbrev whole_operand : Operator × M Value → Operator × Part
whole_operand u = (u.0, whole u.1)

all_whole : (us : List (Operator × M Value)) → list_all (λ (u : Operator × Part). u.1.seen) (map whole_operand us) ≡ true
all_whole [] = refl
all_whole (u ∷ us) = all_whole us

runs_whole : (us : List (Operator × M Value)) → map (λ (u : Operator × Part). (u.0, u.1.run)) (map whole_operand us) ≡ us
runs_whole [] = refl
runs_whole (u ∷ us) = ap (λ vs. u ∷ vs) (runs_whole us)

module _ (classes : List Class) (locals : List Local) where
  abbrev step : f.Form-F Part Part (Operator × Part) → Part
  step = erase.form_step every every classes locals

  abbrev form_part : Form → Part
  form_part = erased.form_part every every classes locals

  abbrev part : Expression → Part
  part = erase.part every every classes locals

  abbrev operand_part : Operand → Operator × Part
  operand_part = erased.operand_part every every classes locals

  -- over parts that are whole
  whole_step : (y : f.Form-F (M Value) (M Value) (Operator × M Value))
      → step (map-Form (M Value) (M Value) (Operator × M Value) Part Part (Operator × Part) whole whole whole_operand y) ≡ whole (form_step y)
  whole_step (f.Number n) = part_seen (gives (number_value n))
  whole_step f.Null = part_seen (gives Null)
  whole_step (f.Local x) =
      let labels = label_of_local (slice_get locals x.number) in
      part_whole (list_all every labels) (local x.number) (all_every labels)
  whole_step (f.Read x field site) =
      let labels = label_of_local (slice_get locals x.number) in
      let more = label_of_class (class_of_local classes (slice_get locals x.number)) in
      part_whole (list_all every labels && list_all every more) (local x.number >>= erase.read_shown every every site field) (both_every labels more)
      ∙ (λ i. whole (local x.number >>= λ v. reads site field v i))
  whole_step (f.Unary o m) = part_seen (m >>= λ v. gives (applied o v))
  whole_step (f.Chain m others) =
      let runs = map (λ (u : Operator × Part). (u.0, u.1.run)) (map whole_operand others) in
      part_whole (list_all (λ (u : Operator × Part). u.1.seen) (map whole_operand others)) (m >>= chained operate runs) (all_whole others)
      ∙ (λ i. whole (m >>= chained operate (runs_whole others i)))
  whole_step (f.Compared m comparison n) = part_seen (m >>= λ a. n >>= λ b. gives (truth (compares comparison a b)))

  abbrev IsForm : Form → Type 0
  IsForm x = form_part x ≡ whole (form_value x)

  abbrev IsValue : Expression → Type 0
  IsValue x = part x ≡ whole (value x)

  abbrev IsOperand : Operand → Type 0
  IsOperand x = operand_part x ≡ whole_operand (operand_value x)

  abbrev KnownForm : Type 0
  KnownForm = (x : Form) × IsForm x

  abbrev KnownValue : Type 0
  KnownValue = (x : Expression) × IsValue x

  abbrev KnownOperand : Type 0
  KnownOperand = (x : Operand) × IsOperand x

  abbrev bare : List KnownOperand → List Operand
  bare ks = map (λ (k : KnownOperand). k.0) ks

  operands : (ks : List KnownOperand) → map operand_part (bare ks) ≡ map whole_operand (map operand_value (bare ks))
  operands [] = refl
  operands (k ∷ ks) = λ i. k.1 i ∷ operands ks i

  abbrev in_form : f.Form-F KnownForm KnownValue KnownOperand → f.Form-F Form Expression Operand
  in_form y = map-Form KnownForm KnownValue KnownOperand Form Expression Operand (λ k. k.0) (λ k. k.0) (λ k. k.0) y

  by_form : (y : f.Form-F KnownForm KnownValue KnownOperand)
      → step (map-Form Form Expression Operand Part Part (Operator × Part) form_part part operand_part (in_form y))
      ≡ whole (form_step (map-Form Form Expression Operand (M Value) (M Value) (Operator × M Value) form_value value operand_value (in_form y)))
  by_form (f.Number n) = whole_step (f.Number n)
  by_form f.Null = whole_step f.Null
  by_form (f.Local x) = whole_step (f.Local x)
  by_form (f.Read x field site) = whole_step (f.Read x field site)
  by_form (f.Unary o k) = (λ i. step (f.Unary o (k.1 i))) ∙ whole_step (f.Unary o (value k.0))
  by_form (f.Chain k others) = (λ i. step (f.Chain (k.1 i) (operands others i))) ∙ whole_step (f.Chain (value k.0) (map operand_value (bare others)))
  by_form (f.Compared k comparison l) = (λ i. step (f.Compared (k.1 i) comparison (l.1 i))) ∙ whole_step (f.Compared (value k.0) comparison (value l.0))

  expressions : (e : Expression) → IsValue e
  expressions = ind-Expression IsForm IsValue IsOperand
      (λ x y is. subst (λ z. IsForm (roll-Form z)) is
      (rw (
        fold-roll-Form (M Value) (M Value) (Operator × M Value) form_step (λ e. e.form) (λ u. (u.operator, u.operand)) (in_form y),
        fold-roll-Form Part Part (Operator × Part) step (λ e. e.form) (λ u. (u.operator, u.operand)) (in_form y),
      ) (by_form y)))
      (λ x y is. let z = map-Expression KnownForm KnownValue KnownOperand Form Expression Operand (λ k. k.0) (λ k. k.0) (λ k. k.0) y in
      subst (λ z. IsValue (roll-Expression z)) is
      (rw (
        fold-roll-Expression (M Value) (M Value) (Operator × M Value) form_step (λ e. e.form) (λ u. (u.operator, u.operand)) z,
        fold-roll-Expression Part Part (Operator × Part) step (λ e. e.form) (λ u. (u.operator, u.operand)) z,
      ) y.form.1))
      (λ x y is. let z = map-Operand KnownForm KnownValue KnownOperand Form Expression Operand (λ k. k.0) (λ k. k.0) (λ k. k.0) y in
      subst (λ z. IsOperand (roll-Operand z)) is
      (rw (
        fold-roll-Operand (M Value) (M Value) (Operator × M Value) form_step (λ e. e.form) (λ u. (u.operator, u.operand)) z,
        fold-roll-Operand Part Part (Operator × Part) step (λ e. e.form) (λ u. (u.operator, u.operand)) z,
      ) (λ i. (y.operator, y.operand.1 i))))

  all_values : (es : List Expression) → erase.values every every classes locals es ≡ values es
  all_values [] = refl
  all_values (e ∷ es) = λ i. (expressions e i).run >>= λ v. all_values es i >>= λ vs. gives (v ∷ vs)

  -- ---- statements, over what a call does

  module _ (tid : Tid) (call : ℕ → List Value → M (Option Value)) where
    all_rights : (blank : Value) (x : Right) → erase.right every every classes locals tid call blank x ≡ right tid call x
    all_rights blank (rights.Plain e) = λ i. (expressions e i).run
    all_rights blank (rights.Call m args) = λ i. all_values args i >>= λ vs. call m.number vs >>= λ result. gives (unwrap_or result Null)
    all_rights blank (rights.New class store args site at) = λ i. all_values args i >>= λ vs. create tid store.number class.number site vs
    all_rights blank (rights.Downgrade downgrade e from to site at) = λ i. (expressions e i).run >>= λ v. gives v >>= noted_down site

    steps : (y : s.Statement-F (M (Unit {0}))) → erase.statement_step every every classes locals tid call y ≡ statement_step tid call y
    steps (s.Assign x r at) =
        let labels = label_of_local (slice_get locals x) in
        let blank = erase.blank_of every every classes locals (slice_get locals x) in
        λ i. charge >> (all_rights blank r i >>= λ v. assign x (shown (list_all every labels) v (all_every labels) i))
    steps (s.Write x field e site) = λ i. charge >> ((expressions e i).run >>= λ v. local x.number >>= λ o. writes site field v o i)
    steps (s.Call m args) = λ i. charge >> (all_values args i >>= λ vs. call m.number vs >> gives tt)
    steps (s.If e block otherwise) =
        λ i. charge >> ((expressions e i).run >>= λ v. if (expressions e i).seen then (if holds v then in_order block else in_order otherwise) else gives tt)
    steps (s.While e block) =
        λ i. if (expressions e i).seen then loop (expressions e i).run (in_order block) else (charge >> ((expressions e i).run >> gives tt))
    steps (s.Atomic label block otherwise at) = refl
    steps (s.Fail at) = refl

    blocks : (xs : List Statement) → erase.block every every classes locals tid call xs ≡ block tid call xs
    blocks xs = λ i. in_order (map (fold-Statement (M (Unit {0})) (λ y. steps y i)) xs)

    results : (returns : Option Returns) (result : Option Return) → erase.returned every every classes locals returns result ≡ returned result
    results returns None = refl
    results returns (Some r) = λ i. (expressions r.value i).run >>= λ v. gives (Some (shown (erase.sees_result every every returns) v (result_seen returns) i))
      where
        result_seen : (x : Option Returns) → erase.sees_result every every x ≡ true
        result_seen None = refl
        result_seen (Some x) = refl

-- ---- methods and requests

all_args : (ls : List Local) (vs : List Value) → erase.args_shown every every ls vs ≡ vs
all_args [] vs = refl
all_args (l ∷ ls) [] = refl
all_args (l ∷ ls) (v ∷ vs) = ap (λ us. v ∷ us) (all_args ls vs)

starts : (m : Method) (args : List Value) → erase.locals_at_start every every m args ≡ locals_at_start m args
starts m args = λ i. all_args m.locals args i ++ map (λ (x : Local). default x.sort) (drop (length args) m.locals)

none_skipped : (m : Option Method) (run : M (Option Value)) → erase.unless_skipped every every m run ≡ run
none_skipped None run = refl
none_skipped (Some m) run = refl

module _ (program : Resolved) (tid : Tid) where
  enters : (call : ℕ → List Value → M (Option Value)) (m : Option Method) (args : List Value)
      → erase.entered every every program.classes tid call m args ≡ entered tid call m args
  enters call None args = refl
  enters call (Some m) args = λ i t. back_with t.locals
      ((blocks program.classes m.locals tid call m.body i >> results program.classes m.locals tid call m.returns m.result i) (record t { locals = starts m args i }))

  one_deeper : (depth : ℕ) → erase.called every every program tid depth ≡ called program tid depth → (m : ℕ) (args : List Value)
      → erase.called every every program tid (suc depth) m args ≡ called program tid (suc depth) m args
  one_deeper depth same m args =
      none_skipped (slice_get program.methods m)
      (erase.entered every every program.classes tid (erase.called every every program tid depth) (slice_get program.methods m) args)
      ∙ (λ j. erase.entered every every program.classes tid (same j) (slice_get program.methods m) args)
      ∙ enters (called program tid depth) (slice_get program.methods m) args

  all_calls : (depth : ℕ) → erase.called every every program tid depth ≡ called program tid depth
  all_calls zero = λ i m args. none_skipped (slice_get program.methods m) (ends (stopped Depth)) i
  all_calls (suc depth) = λ i m args. one_deeper depth (all_calls depth) m args i

pub all_seen : (r : Resolved) (known : FlatMap) (request : Request) (tid : Tid) (fuel : ℕ)
    → erase.erased (λ l. true) (λ c. true) r known request tid fuel [] ≡ meaning r known request tid fuel
all_seen r known request tid fuel = λ i. meant_by (all_calls r tid 64 i request.method request.args (state_at_start known fuel))
