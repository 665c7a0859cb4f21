-- Worked examples of calls and of the meaning of a request.
use Rattle.std.proofs.Common.{◌≡◌, ℕ, zero, suc, ◌-◌, pos, false, List, [], ◌∷◌, Option, Some, None, refl, codes, arith}
use Rattle.std.proofs.Math.Dec.{eqb-suc-zero}
use Rattle.fab_base.specs.declared.object.Value.{Value}
use Rattle.fab_base.specs.declared.object.Value.TheVariants.{Null, Ref}
use Rattle.fab_base.specs.declared.object.Stop.TheVariants.{Fuel, Depth}
use Rattle.fab_base.specs.declared.object.Width.TheVariants as widths
use Rattle.fab_tree.specs.declared.name.Name.{Name}
use Rattle.fab_tree.specs.declared.resolved.Expression.{Expression}
use Rattle.fab_tree.specs.declared.resolved.Form.TheOpen as f
use Rattle.fab_tree.specs.declared.resolved.Right.TheVariants as rights
use Rattle.fab_tree.specs.declared.resolved.Statement.{Statement, roll-Statement}
use Rattle.fab_tree.specs.declared.resolved.Statement.TheOpen as s
use Rattle.fab_tree.specs.declared.resolved.Sort.{Sort}
use Rattle.fab_tree.specs.declared.resolved.Sort.TheVariants as sorts
use Rattle.fab_tree.specs.declared.resolved.Local as locals
use Rattle.fab_tree.specs.declared.resolved.Return.{Return}
use Rattle.fab_tree.specs.declared.resolved.Method.{Method}
use Rattle.fab_tree.specs.declared.resolved.Resolved.{Resolved}
use Rattle.fab_tree.specs.declared.resolved.Request.{Request}
use Rattle.fab_language.specs.declared.ending.Ending.TheVariants.{Ended, Failed, Stopped, Missing}
use Rattle.fab_language.specs.Meaning.{State, goes, ends, failed, stopped, M, gives, ◌>>◌, assign, atomically, statement_step, locals_at_start, called, requested, meaning}
use Rattle.fab_language.proofs.HeapExamples.{root, named, holding, two_roots}
use Rattle.fab_language.proofs.ExpressionExamples.{int, used, both, with_touches}
use Rattle.fab_language.proofs.MeaningExamples.{tid, from, at, number, field, new}
use Rattle.fab_language.proofs.Forms.{expression_at, number_means, local_means, read_means, assign_means, write_means, call_means, fail_means}

-- ---- a program of one method, with a parameter of each type and two more locals

abbrev pub plain_name : List ℕ → Name
plain_name text = record { text = text; at = 0 }

abbrev of : Sort → locals.Local
of sort = record { sort = sort; name = plain_name (codes "x"); label = used 0 }

abbrev a_class : Sort
a_class = sorts.Class (used 0)

abbrev pub returning : Expression → Option Return
returning e = Some (record { value = e; at = 0 })

abbrev pub method : List Statement → Option Return → Method
method body result = record { name = plain_name (codes "m"); parameters = 2; locals = of a_class ∷ of (sorts.Number widths.Int) ∷ of a_class ∷ of (sorts.Number widths.Int) ∷ []; returns = None; begin = used 0; fails = false; authority = []; body = body; result = result }

abbrev pub program : List Method → Resolved
program methods = record { nodes = []; pairs = []; labels = []; classes = []; methods = methods; roots = []; sessions = []; posts = []; crashes = []; cache = 0; schedule = [] }

abbrev pub local : ℕ → Expression
local x = expression_at 0 (f.Local (used x))

abbrev given : List Value
given = Ref (root 1) ∷ int (pos 5) ∷ []

-- what a method is given stands first; a number is 0 at first, and a reference null
at_first : locals_at_start (method [] None) given ≡ Ref (root 1) ∷ int (pos 5) ∷ Null ∷ int (pos 0) ∷ []
at_first = refl

-- `return` costs nothing, and the caller's locals come back
returned : from 0 (Null ∷ []) (called (program (method [] (returning (local 1)) ∷ [])) tid 1 0 given) ≡ goes (Some (int (pos 5))) (at 0 (Null ∷ []))
returned = rw local_means refl

first_value : from 0 [] (called (program (method [] (returning (local 3)) ∷ [])) tid 1 0 given) ≡ goes (Some (int (pos 0))) (at 0 [])
first_value = rw local_means refl

nothing_returned : from 0 (Null ∷ []) (called (program (method [] None ∷ [])) tid 1 0 given) ≡ goes None (at 0 (Null ∷ []))
nothing_returned = refl

-- a result may fail to come
result_fails : from 0 (Null ∷ []) (called (program (method [] (returning (field 2 4)) ∷ [])) tid 1 0 given) ≡ ends failed (at 0 (Null ∷ []))
result_fails = rw read_means refl

-- where no call more may be open, whichever method it is of
too_deep : (methods : List Method) (m : ℕ) (args : List Value) (t : State) → called (program methods) tid 0 m args t ≡ ends (stopped Depth) t
too_deep methods m args t = refl

-- the callee's changes of its locals are its own, also where it fails
abbrev sets_and_fails : List Statement
sets_and_fails = roll-Statement (s.Assign 0 (rights.Plain (number (pos 9))) 0) ∷ roll-Statement (s.Fail 0) ∷ []

callers_locals : from 9 (Ref (root 2) ∷ []) (called (program (method sets_and_fails None ∷ [])) tid 1 0 given) ≡ ends failed (at 7 (Ref (root 2) ∷ []))
callers_locals = rw (assign_means, number_means, fail_means) refl

-- a failure in a callee goes to the caller's `atomic`
to_the_caller : from 9 (Null ∷ []) (atomically (assign 0 (int (pos 1)) >> called (program (method sets_and_fails None ∷ [])) tid 1 0 given >> gives tt) (gives tt)) ≡ goes tt (at 7 (Null ∷ []))
to_the_caller = rw (assign_means, number_means, fail_means) refl

-- ---- what comes first at a call: the charge, then the arguments, then the depth

-- `m(a.f, 5);` where no call more may be open
abbrev calls : M (Unit {0})
calls = statement_step tid (called (program (method [] None ∷ [])) tid 0) (s.Call (used 0) (field 0 4 ∷ number (pos 5) ∷ []))

no_fuel : from 0 both calls ≡ ends (stopped Fuel) (at 0 both)
no_fuel = refl

argument_fails : from 1 (Null ∷ []) calls ≡ ends failed (at 0 (Null ∷ []))
argument_fails = rw read_means refl

depth_last : from 1 both calls ≡ ends (stopped Depth) (with_touches ((4, root 1) ∷ []) (at 0 both))
depth_last = rw (read_means, number_means) refl

-- a method that calls itself: each call costs 1, and so many may be open
abbrev itself : Resolved
itself = program (method (roll-Statement (s.Call (used 0) []) ∷ []) None ∷ [])

three_open : from 9 [] (called itself tid 3 0 []) ≡ ends (stopped Depth) (at 6 [])
three_open = rw (call_means, call_means, call_means) refl

fuel_before_depth : from 2 [] (called itself tid 3 0 []) ≡ ends (stopped Fuel) (at 0 [])
fuel_before_depth = rw (call_means, call_means, call_means) refl

-- so with 64 calls that cost 1 each it is stopped for its depth behind all of them
costs : ℕ → ℕ → ℕ
costs zero left = left
costs (suc depth) left = suc (costs depth left)

one_less : (n : ℕ) → suc n - 1 ≡ n
one_less n = omega arith

all_open : (depth left : ℕ) (xs : List Value) → from (costs depth left) xs (called itself tid depth 0 []) ≡ ends (stopped Depth) (at left xs)
unfolding costs
all_open zero left xs = refl
all_open (suc depth) left xs = rw (call_means, eqb-suc-zero (costs depth left), one_less (costs depth left), all_open depth left (Null ∷ int (pos 0) ∷ Null ∷ int (pos 0) ∷ [])) refl

all_64 : from 64 [] (called itself tid 64 0 []) ≡ ends (stopped Depth) (at 0 [])
unfolding costs
all_64 = all_open 64 0 []

-- a request's method is at depth 1, so the 65th call is stopped
from_depth_1 : (p : Resolved) (request : Request) → requested p tid request ≡ called p tid 64 request.method request.args
from_depth_1 p request = refl

-- ---- requests

abbrev asked : ℕ → List Value → Request
asked m args = record { worker = 3; number = 7; method = m; args = args }

-- `a.f = n; c = new C @ s (a.f); return c;`
abbrev three_steps : List Statement
three_steps = roll-Statement (s.Write (used 0) 0 (local 1) 3) ∷ roll-Statement (s.Assign 2 (new (field 0 5)) 0) ∷ []

whole : meaning (program (method three_steps (returning (local 2)) ∷ [])) two_roots (asked 0 given) tid 2 ≡ record { ending = Ended (Some (Ref (named 4 0))); map = (named 4 0, holding (pos 5)) ∷ (root 1, holding (pos 5)) ∷ (root 2, holding (pos 8)) ∷ []; written = root 1 ∷ []; made = named 4 0 ∷ []; touches = (3, root 1) ∷ (5, root 1) ∷ []; downs = [] }
whole = rw (write_means, local_means, assign_means, read_means, local_means) refl

-- with less fuel it stops, and what was done stands
half : meaning (program (method three_steps (returning (local 2)) ∷ [])) two_roots (asked 0 given) tid 1 ≡ record { ending = Stopped Fuel; map = (root 1, holding (pos 5)) ∷ (root 2, holding (pos 8)) ∷ []; written = root 1 ∷ []; made = []; touches = (3, root 1) ∷ []; downs = [] }
half = rw (write_means, local_means, assign_means) refl

missing_at_once : meaning (program (method three_steps None ∷ [])) [] (asked 0 given) tid 9 ≡ record { ending = Missing 3 (root 1); map = []; written = []; made = []; touches = []; downs = [] }
missing_at_once = rw (write_means, local_means) refl

null_at_once : (meaning (program (method three_steps None ∷ [])) two_roots (asked 0 (Null ∷ int (pos 5) ∷ [])) tid 9).ending ≡ Failed
null_at_once = rw (write_means, local_means) refl

-- a method that isn't there gives nothing
no_method : meaning (program []) [] (asked 1 []) tid 0 ≡ record { ending = Ended None; map = []; written = []; made = []; touches = []; downs = [] }
no_method = refl
