-- The erased meaning: what a request does, as far as somebody can compute it who sees some labels and is shown some classes.
--
-- It takes the steps of the meaning over the same state. A value that isn't seen is blank, `null`; what only unseen values
-- decide isn't done; an object of a class that isn't shown is never looked up; and a downgrade out of the unseen takes the
-- next given value. Whatever is evaluated is still evaluated for its touches and failures.
use Rattle.std.specs.Prelude.{ℕ, zero, suc, Bool, true, false, not, ◌&&◌, if◌then◌else◌, List, [], ◌∷◌, ◌++◌, map, drop, length, Option, Some, None, unwrap_or, slice_get}
use Rattle.std.specs.List.{list_all}
use Rattle.fab_base.specs.declared.object.Tid.{Tid}
use Rattle.fab_base.specs.declared.object.Value.{Value}
use Rattle.fab_base.specs.declared.object.Value.TheVariants.{Null, Ref}
use Rattle.fab_base.specs.FlatMap.{FlatMap}
use Rattle.fab_base.specs.Values.{referred}
use Rattle.fab_tree.specs.declared.expression.Operator.{Operator}
use Rattle.fab_tree.specs.declared.resolved.Use.{Use}
use Rattle.fab_tree.specs.declared.resolved.Class.{Class}
use Rattle.fab_tree.specs.declared.resolved.Local.{Local}
use Rattle.fab_tree.specs.declared.resolved.Expression.{Expression, fold-Expression}
use Rattle.fab_tree.specs.declared.resolved.Form.TheOpen as f
use Rattle.fab_tree.specs.declared.resolved.Right.{Right}
use Rattle.fab_tree.specs.declared.resolved.Right.TheVariants as rights
use Rattle.fab_tree.specs.declared.resolved.Statement.{Statement, fold-Statement}
use Rattle.fab_tree.specs.declared.resolved.Statement.TheOpen as s
use Rattle.fab_tree.specs.declared.resolved.Return.{Return}
use Rattle.fab_tree.specs.declared.resolved.Returns.{Returns}
use Rattle.fab_tree.specs.declared.resolved.Method.{Method}
use Rattle.fab_tree.specs.declared.resolved.Resolved.{Resolved}
use Rattle.fab_tree.specs.declared.resolved.Request.{Request}
use Rattle.fab_tree.specs.Numbers.{number_value}
use Rattle.fab_language.specs.Meaning.{State, Run, goes, ends, failed, stopped, M, gives, ◌>>=◌, ◌>>◌, charge, local, assign, led, read, write, create, noted_down}
use Rattle.fab_language.specs.Meaning.{applied, truth, holds, compares, operate, chained, in_order, loop, atomically, default, back_with, Meant, meant_by, state_at_start}
use Rattle.fab_base.specs.declared.object.Stop.TheVariants.{Depth}
use Rattle.fab_labelling.specs.Obligations.{class_of_local, label_of_local, label_of_class}

-- ---- values that aren't seen

abbrev pub shown_if : Bool → Value → Value
shown_if seen v = if seen then v else Null

-- what an expression means, and whether its value is seen
pub record Part : Type 0 where
  pub seen : Bool
  pub run : M Value

-- of an unseen part the value is blank
abbrev pub part_of : Bool → M Value → Part
part_of seen run = record { seen = seen; run = run >>= λ v. gives (shown_if seen v) }

-- the next given value, or the default where none is left
abbrev pub taken : Value → List Value → State → Run Value
taken blank [] t = goes blank t
taken blank (v ∷ vs) t = goes v (record t { given = vs })

abbrev pub take_given : Value → M Value
take_given blank t = taken blank t.given t

-- a blank, where a method returns a value
abbrev pub returns_blank : Option Returns → Option Value
returns_blank None = None
returns_blank (Some x) = Some Null

-- these labels are seen, and these classes are shown, by their numbers
module _ (sees shows : ℕ → Bool) where
  -- ---- objects: one of a class that isn't shown isn't looked up

  abbrev pub read_shown : ℕ → ℕ → Value → M Value
  read_shown site field v = led (referred v) (λ o. if shows o.class then read site field (Ref o) else gives Null)

  abbrev pub write_shown : ℕ → ℕ → Value → Value → M (Unit {0})
  write_shown site field v w = led (referred w) (λ o. if shows o.class then write site field v (Ref o) else gives tt)

  -- an object of a class that isn't shown has blank fields; its name counts all the same
  abbrev pub fields_shown : ℕ → List Value → List Value
  fields_shown class vs = if shows class then vs else map (λ v. Null) vs

  -- what a method returns, seen by the label of its result
  abbrev pub sees_result : Option Returns → Bool
  sees_result None = true
  sees_result (Some x) = sees x.label.number

  -- ---- expressions

  module _ (classes : List Class) (locals : List Local) where
    abbrev pub sees_local : Use → Bool
    sees_local x = list_all sees (label_of_local (slice_get locals x.number))

    abbrev pub sees_read : Use → Bool
    sees_read x = sees_local x && list_all sees (label_of_class (class_of_local classes (slice_get locals x.number)))

    abbrev pub form_step : f.Form-F Part Part (Operator × Part) → Part
    form_step (f.Number n) = part_of true (gives (number_value n))
    form_step f.Null = part_of true (gives Null)
    form_step (f.Local x) = part_of (sees_local x) (local x.number)
    form_step (f.Read x field site) = part_of (sees_read x) (local x.number >>= read_shown site field)
    form_step (f.Unary o p) = part_of p.seen (p.run >>= λ v. gives (applied o v))
    form_step (f.Chain p others) =
        part_of (p.seen && list_all (λ u. u.1.seen) others) (p.run >>= chained operate (map (λ u. (u.0, u.1.run)) others))
    form_step (f.Compared p comparison q) =
        part_of (p.seen && q.seen) (p.run >>= λ a. q.run >>= λ b. gives (truth (compares comparison a b)))

    abbrev pub part : Expression → Part
    part = fold-Expression Part Part (Operator × Part) form_step (λ e. e.form) (λ u. (u.operator, u.operand))

    abbrev pub value : Expression → M Value
    value e = (part e).run

    -- arguments, from the left
    abbrev pub values : List Expression → M (List Value)
    values [] = gives []
    values (e ∷ es) = value e >>= λ v. values es >>= λ vs. gives (v ∷ vs)

    -- ---- statements; `call` is what a call of a method of a number does

    -- what a local holds before it is assigned
    abbrev pub blank_of : Option Local → Value
    blank_of None = Null
    blank_of (Some x) = default x.sort

    -- out of the unseen into the seen: the next given value, or this default
    abbrev pub downgraded : Value → ℕ → ℕ → Value → M Value
    downgraded blank from to v =
        if sees from then gives v else (if sees to then take_given blank else gives Null)

    module _ (tid : Tid) (call : ℕ → List Value → M (Option Value)) where
      -- what is assigned to a local, whose default is this
      abbrev pub right : Value → Right → M Value
      right blank (rights.Plain e) = value e
      right blank (rights.Call m args) = values args >>= λ vs. call m.number vs >>= λ result. gives (unwrap_or result Null)
      right blank (rights.New class store args site at) =
          values args >>= λ vs. create tid store.number class.number site (fields_shown class.number vs)
      right blank (rights.Downgrade downgrade e from to site at) = value e >>= λ v. downgraded blank from.number to.number v >>= noted_down site

      abbrev pub statement_step : s.Statement-F (M (Unit {0})) → M (Unit {0})
      statement_step (s.Assign x r at) =
          charge >> (right (blank_of (slice_get locals x)) r >>= λ v. assign x (shown_if (list_all sees (label_of_local (slice_get locals x))) v))
      statement_step (s.Write x field e site) = charge >> (value e >>= λ v. local x.number >>= write_shown site field v)
      statement_step (s.Call m args) = charge >> (values args >>= λ vs. call m.number vs >> gives tt)
      statement_step (s.If e block otherwise) =
          charge >> (value e >>= λ v. if (part e).seen then (if holds v then in_order block else in_order otherwise) else gives tt)
      statement_step (s.While e block) = if (part e).seen then loop (value e) (in_order block) else (charge >> (value e >> gives tt))
      statement_step (s.Atomic label block otherwise at) =
          charge >> (if sees label.number then atomically (in_order block) (in_order otherwise) else gives tt)
      statement_step (s.Fail at) = charge >> ends failed

      abbrev pub statement : Statement → M (Unit {0})
      statement = fold-Statement (M (Unit {0})) statement_step

      abbrev pub block : List Statement → M (Unit {0})
      block ss = in_order (map statement ss)

    abbrev pub returned : Option Returns → Option Return → M (Option Value)
    returned returns None = gives None
    returned returns (Some r) = value r.value >>= λ v. gives (Some (shown_if (sees_result returns) v))

  -- ---- methods

  -- what is given to parameters, each seen by its label
  abbrev pub args_shown : List Local → List Value → List Value
  args_shown [] vs = vs
  args_shown (x ∷ xs) [] = []
  args_shown (x ∷ xs) (v ∷ vs) = shown_if (sees x.label.number) v ∷ args_shown xs vs

  abbrev pub locals_at_start : Method → List Value → List Value
  locals_at_start m args = args_shown m.locals args ++ map (λ x. default x.sort) (drop (length args) m.locals)

  abbrev pub body_of : List Class → Tid → (ℕ → List Value → M (Option Value)) → Method → M (Option Value)
  body_of classes tid call m = block classes m.locals tid call m.body >> returned classes m.locals m.returns m.result

  abbrev pub entered : List Class → Tid → (ℕ → List Value → M (Option Value)) → Option Method → List Value → M (Option Value)
  entered classes tid call None args t = goes None t
  entered classes tid call (Some m) args t = back_with t.locals (body_of classes tid call m (record t { locals = locals_at_start m args }))

  -- a method whose begin label isn't seen is skipped: it gives a blank if it returns
  abbrev pub skips : Option Method → Bool
  skips None = false
  skips (Some m) = not (sees m.begin.number)

  abbrev pub blank_result : Option Method → Option Value
  blank_result None = None
  blank_result (Some m) = returns_blank m.returns

  abbrev pub unless_skipped : Option Method → M (Option Value) → M (Option Value)
  unless_skipped m run = if skips m then gives (blank_result m) else run

  module _ (program : Resolved) where
    abbrev pub called : Tid → ℕ → ℕ → List Value → M (Option Value)
    called tid zero m args = unless_skipped (slice_get program.methods m) (ends (stopped Depth))
    called tid (suc depth) m args =
        unless_skipped (slice_get program.methods m) (entered program.classes tid (called tid depth) (slice_get program.methods m) args)

    -- what a request does over a map, in an attempt, with so much fuel and these given values
    abbrev pub erased : FlatMap → Request → Tid → ℕ → List Value → Meant
    erased known request tid fuel given =
        meant_by (called tid 64 request.method request.args (record (state_at_start known fuel) { given = given }))
