-- Worked examples of the erased meaning, each form once where something isn't seen: what then changes, and nothing else.
--
-- The label 0 is seen and the label 1 isn't; objects of class 0 are shown and those of class 1 aren't.
use Rattle.std.proofs.Common.{◌≡◌, ℕ, pos, Bool, false, ◌==◌, List, [], ◌∷◌, ◌++◌, Option, Some, None, refl, codes}
use Rattle.fab_base.specs.declared.object.Oid.{Oid}
use Rattle.fab_base.specs.declared.object.Object.{Object}
use Rattle.fab_base.specs.declared.object.Value.{Value}
use Rattle.fab_base.specs.declared.object.Value.TheVariants.{Null, Ref}
use Rattle.fab_base.specs.declared.object.Stop.TheVariants.{Fuel, Depth}
use Rattle.fab_base.specs.declared.object.Width.TheVariants as widths
use Rattle.fab_tree.specs.declared.name.Name.{Name}
use Rattle.fab_tree.specs.declared.expression.Operator.{Operator}
use Rattle.fab_tree.specs.declared.expression.Operator.TheVariants.{Add, Divide}
use Rattle.fab_tree.specs.declared.expression.Comparison.TheVariants.{Equal}
use Rattle.fab_tree.specs.declared.statement.Downgrade.TheVariants.{Declassify}
use Rattle.fab_tree.specs.declared.resolved.Class.{Class}
use Rattle.fab_tree.specs.declared.resolved.Expression.{Expression}
use Rattle.fab_tree.specs.declared.resolved.Form.{Form, map-Form}
use Rattle.fab_tree.specs.declared.resolved.Form.TheOpen as f
use Rattle.fab_tree.specs.declared.resolved.Operand.{Operand}
use Rattle.fab_tree.specs.declared.resolved.Right.{Right}
use Rattle.fab_tree.specs.declared.resolved.Right.TheVariants as rights
use Rattle.fab_tree.specs.declared.resolved.Statement.{Statement}
use Rattle.fab_tree.specs.declared.resolved.Statement.TheOpen as s
use Rattle.fab_tree.specs.declared.resolved.Sort.{Sort}
use Rattle.fab_tree.specs.declared.resolved.Sort.TheVariants as sorts
use Rattle.fab_tree.specs.declared.resolved.Local as l
use Rattle.fab_tree.specs.declared.resolved.Return.{Return}
use Rattle.fab_tree.specs.declared.resolved.Method.{Method}
use Rattle.fab_tree.specs.declared.expression.Number.TheVariants as numbers
use Rattle.fab_tree.specs.declared.expression.UnaryOperator.TheVariants as unary
use Rattle.fab_language.specs.Meaning.{State, goes, ends, failed, stopped, M, assign}
use Rattle.fab_language.proofs.Forms.{expression_at, operand_at}
use Rattle.fab_erasure.specs.Erased as e
use Rattle.fab_erasure.proofs.ErasedForms as forms
use Rattle.fab_meaning.proofs.Toy.{root, two_roots, state, at, from, with_touches, int, used, tid}

-- what has number 0 is seen, and shown
abbrev first : ℕ → Bool
first n = n == 0

abbrev name : Name
name = record { text = codes "x"; at = 0 }

abbrev class : ℕ → Class
class label = record { name = name; label = used label; access = used label; fields = [] }

abbrev classes : List Class
classes = class 0 ∷ class 1 ∷ []

abbrev of : Sort → ℕ → l.Local
of sort label = record { sort = sort; name = name; label = used label }

-- a reference to an object that is shown, one to an object that isn't, a number that is seen, and one that isn't
abbrev locals : List l.Local
locals = of (sorts.Class (used 0)) 0 ∷ of (sorts.Class (used 1)) 0 ∷ of (sorts.Number widths.Int) 0 ∷ of (sorts.Number widths.Int) 1 ∷ []

-- an object of class 1, which no map here has
abbrev hidden : Oid
hidden = record (root 9) { class = 1 }

-- what they hold; the last is blank, as all that isn't seen
abbrev held : List Value
held = Ref (root 1) ∷ Ref hidden ∷ int (pos 7) ∷ Null ∷ []

-- the same with null for the object that isn't shown
abbrev without : List Value
without = Ref (root 1) ∷ Null ∷ int (pos 7) ∷ Null ∷ []

-- ---- expressions

abbrev value : Expression → M Value
value = e.value first first classes locals

part_is : (at : ℕ) (layer : f.Form-F Form Expression Operand) → e.part first first classes locals (expression_at at layer)
    ≡ forms.step first first classes locals (map-Form Form Expression Operand e.Part e.Part (Operator × e.Part) (forms.form_part first first classes locals) (e.part first first classes locals) (forms.operand_part first first classes locals) layer)
part_is = forms.part_is first first classes locals

value_is : (at : ℕ) (layer : f.Form-F Form Expression Operand) (t : State) → value (expression_at at layer) t
    ≡ (forms.step first first classes locals (map-Form Form Expression Operand e.Part e.Part (Operator × e.Part) (forms.form_part first first classes locals) (e.part first first classes locals) (forms.operand_part first first classes locals) layer)).run t
value_is = forms.value_is first first classes locals

operand_is : (at : ℕ) (operator : Operator) (x : Expression) → forms.operand_part first first classes locals (operand_at at operator x) ≡ (operator, e.part first first classes locals x)
operand_is = forms.operand_is first first classes locals

operand_value_is : (at : ℕ) (operator : Operator) (x : Expression) (t : State) → (forms.operand_part first first classes locals (operand_at at operator x)).1.run t ≡ value x t
operand_value_is = forms.operand_value_is first first classes locals

abbrev seven : Expression
seven = expression_at 0 (f.Number (numbers.Int (pos 7)))

abbrev local : ℕ → Expression
local x = expression_at 0 (f.Local (used x))

-- the field of a local's object, at a site
abbrev field : ℕ → ℕ → Expression
field x site = expression_at 0 (f.Read (used x) 0 site)

-- what is read of the object that is shown, and its touch
abbrev touched : List Value → State
touched vs = with_touches ((4, root 1) ∷ []) (state vs)

number_is_seen : value seven (state held) ≡ goes (int (pos 7)) (state held)
number_is_seen = simp (value_is, part_is, operand_is, operand_value_is)

local_is_seen : value (local 2) (state held) ≡ goes (int (pos 7)) (state held)
local_is_seen = simp (value_is, part_is, operand_is, operand_value_is)

-- a local that isn't seen is blank, whatever it holds
local_is_blank : value (local 3) (state (Null ∷ Null ∷ Null ∷ int (pos 5) ∷ [])) ≡ goes Null (state (Null ∷ Null ∷ Null ∷ int (pos 5) ∷ []))
local_is_blank = simp (value_is, part_is, operand_is, operand_value_is)

read_is_seen : value (field 0 4) (state held) ≡ goes (int (pos 7)) (touched held)
read_is_seen = simp (value_is, part_is, operand_is, operand_value_is)

-- an object that isn't shown isn't looked up, so it isn't missing and nothing is touched; but null fails
read_is_blank : value (field 1 4) (state held) ≡ goes Null (state held)
read_is_blank = simp (value_is, part_is, operand_is, operand_value_is)

null_fails : value (field 1 4) (state without) ≡ ends failed (state without)
null_fails = simp (value_is, part_is, operand_is, operand_value_is)

-- -s, !s: blank, and no number
negative_is_blank : value (expression_at 0 (f.Unary unary.Negative (local 3))) (state held) ≡ goes Null (state held)
negative_is_blank = simp (value_is, part_is, operand_is, operand_value_is)

not_is_blank : value (expression_at 0 (f.Unary unary.Not (local 3))) (state held) ≡ goes Null (state held)
not_is_blank = simp (value_is, part_is, operand_is, operand_value_is)

-- a.f + s: blank, where one operand is; the other is evaluated for its touch all the same
chain_is_blank : value (expression_at 0 (f.Chain (field 0 4) (operand_at 0 Add (local 3) ∷ []))) (state held) ≡ goes Null (touched held)
chain_is_blank = simp (value_is, part_is, operand_is, operand_value_is)

-- s + a.f
chain_from_blank : value (expression_at 0 (f.Chain (local 3) (operand_at 0 Add (field 0 4) ∷ []))) (state held) ≡ goes Null (touched held)
chain_from_blank = simp (value_is, part_is, operand_is, operand_value_is)

-- s / 0, which fails though its value isn't seen
chain_fails : value (expression_at 0 (f.Chain (local 3) (operand_at 0 Divide (expression_at 0 (f.Number (numbers.Int (pos 0)))) ∷ []))) (state held) ≡ ends failed (state held)
chain_fails = simp (value_is, part_is, operand_is, operand_value_is)

-- a.f == s
compared_is_blank : value (expression_at 0 (f.Compared (field 0 4) Equal (local 3))) (state held) ≡ goes Null (touched held)
compared_is_blank = simp (value_is, part_is, operand_is, operand_value_is)

-- ---- statements, where a call gives its method's number and notes that it was done in local 2

abbrev gives_number : ℕ → List Value → M (Option Value)
gives_number m args t = goes (Some (int (pos m))) t

abbrev doing : s.Statement-F (M (Unit {0})) → M (Unit {0})
doing = e.statement_step first first classes locals tid gives_number

abbrev set : ℕ → Right → M (Unit {0})
set x r = doing (s.Assign x r 0)

-- something that shows in local 2 that it was done
abbrev marks : M (Unit {0})
marks = assign 2 (int (pos 1))

abbrev marked : List Value
marked = Ref (root 1) ∷ Ref hidden ∷ int (pos 1) ∷ Null ∷ []

-- s = 7;
set_is_blank : from 1 held (set 3 (rights.Plain seven)) ≡ goes tt (at 0 held)
set_is_blank = simp (value_is, part_is, operand_is, operand_value_is)

-- s = m(); the result comes out of the call, and is blank
result_is_blank : from 1 held (set 3 (rights.Call (used 6) [])) ≡ goes tt (at 0 held)
result_is_blank = refl

-- a.f = 7; is done, and k.f = 7; touches and writes nothing; but null fails
write_is_done : from 1 held (doing (s.Write (used 0) 0 seven 4))
    ≡ goes tt (record (at 0 held) { heap = record { rows = two_roots; written = root 1 ∷ []; made = [] }; touches = (4, root 1) ∷ [] })
write_is_done = simp (value_is, part_is, operand_is, operand_value_is)

write_is_nothing : from 1 held (doing (s.Write (used 1) 0 seven 4)) ≡ goes tt (at 0 held)
write_is_nothing = simp (value_is, part_is, operand_is, operand_value_is)

write_fails : from 1 without (doing (s.Write (used 1) 0 seven 4)) ≡ ends failed (at 0 without)
write_fails = simp (value_is, part_is, operand_is, operand_value_is)

-- x = new K @ s (7, a.f); of a class that isn't shown: its fields are blank and its name counts
abbrev made : ℕ → Oid
made index = record { store = 0; class = 1; worker = 3; boot = 1; number = 7; site = 6; index = index }

abbrev blanks : Object
blanks = record { class = 1; fields = Null ∷ Null ∷ [] }

abbrev new : Right
new = rights.New (used 1) (used 0) (seven ∷ field 0 4 ∷ []) 6 0

made_of_blanks : from 1 held (set 1 new)
    ≡ goes tt (record (at 0 (Ref (root 1) ∷ Ref (made 0) ∷ int (pos 7) ∷ Null ∷ [])) {
      heap = record { rows = two_roots ++ (made 0, blanks) ∷ []; written = []; made = made 0 ∷ [] };
      touches = (4, root 1) ∷ [];
    })
made_of_blanks = simp (value_is, part_is, operand_is, operand_value_is)

-- if (s) { .. } else { .. }: it costs 1, and neither block is done
abbrev chooses : Expression → M (Unit {0})
chooses test = doing (s.If test (marks ∷ []) (marks ∷ []))

neither_block : from 1 held (chooses (local 3)) ≡ goes tt (at 0 held)
neither_block = simp (value_is, part_is, operand_is, operand_value_is)

-- the condition is evaluated for its touches and failures
condition_touches : from 1 held (chooses (expression_at 0 (f.Chain (field 0 4) (operand_at 0 Add (local 3) ∷ [])))) ≡ goes tt (with_touches ((4, root 1) ∷ []) (at 0 held))
condition_touches = simp (value_is, part_is, operand_is, operand_value_is)

condition_fails : from 1 without (chooses (field 1 4)) ≡ ends failed (at 0 without)
condition_fails = simp (value_is, part_is, operand_is, operand_value_is)

a_block : from 1 held (chooses (local 2)) ≡ goes tt (at 0 marked)
a_block = simp (value_is, part_is, operand_is, operand_value_is)

-- while (k.f) { .. }: tested once, which costs 1; the name that it goes through is seen, and what stands behind it isn't
abbrev repeats : Expression → M (Unit {0})
repeats test = doing (s.While test (marks ∷ []))

tested_once : from 9 held (repeats (field 1 4)) ≡ goes tt (at 8 held)
tested_once = simp (value_is, part_is, operand_is, operand_value_is)

tested_for_failures : from 9 without (repeats (field 1 4)) ≡ ends failed (at 8 without)
tested_for_failures = simp (value_is, part_is, operand_is, operand_value_is)

tested_for_touches : from 9 held (repeats (expression_at 0 (f.Compared (field 0 4) Equal (local 3)))) ≡ goes tt (with_touches ((4, root 1) ∷ []) (at 8 held))
tested_for_touches = simp (value_is, part_is, operand_is, operand_value_is)

no_test : from 0 held (repeats (local 3)) ≡ ends (stopped Fuel) (at 0 held)
no_test = simp (value_is, part_is, operand_is, operand_value_is)

-- atomic 1 { fail; } else { .. }: it costs 1, and neither block is done
abbrev attempts : ℕ → M (Unit {0})
attempts label = doing (s.Atomic (used label) (doing (s.Fail 0) ∷ []) (marks ∷ []) 0)

neither_attempted : from 9 held (attempts 1) ≡ goes tt (at 8 held)
neither_attempted = refl

attempted : from 9 held (attempts 0) ≡ goes tt (at 7 marked)
attempted = refl

-- ---- downgrades: x = declassify(e, from to to);

abbrev lower : ℕ → Expression → ℕ → ℕ → M (Unit {0})
lower x e from to = set x (rights.Downgrade Declassify e (used from) (used to) 5 0)

abbrev giving : List Value → State → State
giving vs t = record t { given = vs }

abbrev downs : List (ℕ × Value) → State → State
downs ds t = record t { downs = ds }

-- out of what is seen, nothing is taken
nothing_taken : lower 2 (local 2) 0 0 (giving (int (pos 5) ∷ []) (state held)) ≡ goes tt (downs ((5, int (pos 7)) ∷ []) (giving (int (pos 5) ∷ []) (at 8 held)))
nothing_taken = simp (value_is, part_is, operand_is, operand_value_is)

-- out of the unseen into the seen, the next given value; the expression is evaluated for its touches
abbrev lowered : M (Unit {0})
lowered = lower 2 (expression_at 0 (f.Compared (field 0 4) Equal (local 3))) 1 0

first_taken : lowered (giving (int (pos 1) ∷ int (pos 6) ∷ []) (state held))
    ≡ goes tt (with_touches ((4, root 1) ∷ []) (downs ((5, int (pos 1)) ∷ []) (giving (int (pos 6) ∷ []) (at 8 marked))))
first_taken = simp (value_is, part_is, operand_is, operand_value_is)

-- where it is used up, the local's default
used_up : lowered (state held) ≡ goes tt (with_touches ((4, root 1) ∷ []) (downs ((5, int (pos 0)) ∷ []) (at 8 (Ref (root 1) ∷ Ref hidden ∷ int (pos 0) ∷ Null ∷ []))))
used_up = simp (value_is, part_is, operand_is, operand_value_is)

null_by_default : lower 1 (local 3) 1 0 (state held) ≡ goes tt (downs ((5, Null) ∷ []) (at 8 without))
null_by_default = simp (value_is, part_is, operand_is, operand_value_is)

-- out of the unseen into the unseen, a blank, and out of the seen the value itself, of which the local keeps a blank; nothing is taken
stays_unseen : lower 3 (local 3) 1 1 (giving (int (pos 5) ∷ []) (state held)) ≡ goes tt (downs ((5, Null) ∷ []) (giving (int (pos 5) ∷ []) (at 8 held)))
stays_unseen = simp (value_is, part_is, operand_is, operand_value_is)

goes_unseen : lower 3 (local 2) 0 1 (giving (int (pos 5) ∷ []) (state held)) ≡ goes tt (downs ((5, int (pos 7)) ∷ []) (giving (int (pos 5) ∷ []) (at 8 held)))
goes_unseen = simp (value_is, part_is, operand_is, operand_value_is)

-- ---- calls of methods, which begin under one label and return under another

abbrev its_locals : List l.Local
its_locals = of (sorts.Number widths.Int) 0 ∷ of (sorts.Number widths.Int) 1 ∷ of (sorts.Number widths.Int) 1 ∷ []

abbrev method : ℕ → ℕ → List Statement → Option Return → Method
method begin label body result = record {
  name = name;
  parameters = 2;
  locals = its_locals;
  returns = Some (record { sort = sorts.Number widths.Int; label = used label });
  begin = used begin;
  fails = false;
  authority = [];
  body = body;
  result = result;
}

abbrev called : Method → ℕ → M (Option Value)
called m depth t = e.called first first (record { nodes = []; pairs = []; labels = []; classes = classes; methods = m ∷ []; roots = []; sessions = []; posts = []; crashes = []; cache = 0; schedule = [] })
    tid depth 0 (int (pos 1) ∷ int (pos 2) ∷ []) t

abbrev returning : Expression → Option Return
returning x = Some (record { value = x; at = 0 })

-- a parameter that isn't seen is blank, and a local that is no parameter has its default
at_first : e.locals_at_start first first (method 0 0 [] None) (int (pos 1) ∷ int (pos 2) ∷ []) ≡ int (pos 1) ∷ Null ∷ int (pos 0) ∷ []
at_first = refl

-- one value too many is given to no local
one_too_many : e.args_shown first first (of (sorts.Number widths.Int) 1 ∷ []) (int (pos 1) ∷ int (pos 2) ∷ []) ≡ Null ∷ int (pos 2) ∷ []
one_too_many = refl

result_seen : called (method 0 0 [] (returning (local 0))) 1 (state held) ≡ goes (Some (int (pos 1))) (state held)
result_seen = rw (forms.value_is first first classes its_locals) refl

result_unseen : called (method 0 1 [] (returning (local 0))) 1 (state held) ≡ goes (Some Null) (state held)
result_unseen = rw (forms.value_is first first classes its_locals) refl

-- a method whose begin label isn't seen is skipped, also where it would be one call too many, and gives a blank
skipped : (body : List Statement) (result : Option Return) (t : State) → called (method 1 0 body result) 0 t ≡ goes (Some Null) t
skipped body result t = refl

too_deep : (body : List Statement) (result : Option Return) (t : State) → called (method 0 0 body result) 0 t ≡ ends (stopped Depth) t
too_deep body result t = refl
