-- Worked examples of what statements do: objects, limits, loops, failures.
use Rattle.std.proofs.Common.{◌≡◌, ℕ, ℤ, pos, negsuc, false, List, [], ◌∷◌, ◌++◌, length, Option, Some, None, refl}
use Rattle.fab_base.specs.declared.object.Oid.{Oid}
use Rattle.fab_base.specs.declared.object.Tid.{Tid}
use Rattle.fab_base.specs.declared.object.Value.{Value}
use Rattle.fab_base.specs.declared.object.Value.TheVariants.{Null, Ref}
use Rattle.fab_base.specs.declared.object.Stop.TheVariants.{Fuel, Depth, Reads, Writes}
use Rattle.fab_tree.specs.declared.expression.Number.TheVariants as numbers
use Rattle.fab_tree.specs.declared.resolved.Expression.{Expression}
use Rattle.fab_tree.specs.declared.resolved.Form.TheOpen as f
use Rattle.fab_tree.specs.declared.resolved.Right.{Right}
use Rattle.fab_tree.specs.declared.resolved.Right.TheVariants as rights
use Rattle.fab_tree.specs.declared.resolved.Statement.TheOpen as s
use Rattle.fab_tree.specs.declared.statement.Downgrade.TheVariants as downgrades
use Rattle.fab_language.specs.Heaps.{Heap, is_among, touched}
use Rattle.fab_language.specs.Meaning.{State, Run, goes, ends, failed, stopped, missing, M, gives, ◌>>=◌, ◌>>◌, charge, access, assign, local, read, write, create, noted_down, in_order, loop, atomically, statement_step}
use Rattle.fab_language.proofs.HeapExamples.{root, named, holding, two_roots, heap, so_many}
use Rattle.fab_language.proofs.ExpressionExamples.{state, int, used, both, with_touches}
use Rattle.fab_language.proofs.Forms.{expression_at, number_means, local_means, read_means}

-- ---- objects and limits, in the attempt 1.7 of worker 3

abbrev pub tid : Tid
tid = record { worker = 3; boot = 1; number = 7 }

-- the state with these changes of the heap
abbrev over : Heap → State
over h = record (state both) { heap = h }

written : write 4 0 (int (pos 9)) (Ref (root 1)) (state both) ≡ goes tt (record (state both) { heap = record { rows = (root 1, holding (pos 9)) ∷ (root 2, holding (pos 8)) ∷ []; written = root 1 ∷ []; made = [] }; touches = (4, root 1) ∷ [] })
written = refl

null_is_not_written : write 4 0 (int (pos 9)) Null (state both) ≡ ends failed (state both)
null_is_not_written = refl

-- an object is touched before it is counted: the touch of a write that is one too many stands
touched_then_counted : write 4 0 (int (pos 9)) (Ref (root 1)) (over (heap (so_many 256) [])) ≡ ends (stopped Writes) (with_touches ((4, root 1) ∷ []) (over (heap (so_many 256) [])))
touched_then_counted = refl

not_counted_again : write 4 0 (int (pos 7)) (Ref (root 1)) (over (heap (root 1 ∷ so_many 255) [])) ≡ goes tt (with_touches ((4, root 1) ∷ []) (over (heap (root 1 ∷ so_many 255) [])))
not_counted_again = refl

-- an object that isn't there is missing, however many were touched
missing_first : (touches : List (ℕ × Oid)) → access 4 (root 3) (with_touches touches (state both)) ≡ ends (missing 4 (root 3)) (with_touches touches (state both))
missing_first touches = refl

-- where 1,024 others were touched, one that is there can't be
reads_end : (touches : List (ℕ × Oid)) → is_among (root 1) (touched touches) ≡ false → length (touched touches) ≡ 1024 → access 4 (root 1) (with_touches touches (state both)) ≡ ends (stopped Reads) (with_touches touches (state both))
reads_end touches other count = rw (other, count) refl

-- where both limits would be passed at once, reads comes first
reads_before_writes : (touches : List (ℕ × Oid)) → is_among (root 1) (touched touches) ≡ false → length (touched touches) ≡ 1024 → write 4 0 (int (pos 9)) (Ref (root 1)) (with_touches touches (over (heap (so_many 256) []))) ≡ ends (stopped Reads) (with_touches touches (over (heap (so_many 256) [])))
reads_before_writes touches other count = rw (other, count) refl

-- an object is made, and the next at its site has the next index
two_made : (create tid 0 0 4 (int (pos 1) ∷ []) >> create tid 0 0 4 (int (pos 2) ∷ [])) (state []) ≡ goes (Ref (named 4 1)) (record (state []) { heap = record { rows = (named 4 0, holding (pos 1)) ∷ (named 4 1, holding (pos 2)) ∷ two_roots; written = []; made = named 4 0 ∷ named 4 1 ∷ [] } })
two_made = refl

one_at_each_site : (create tid 0 0 4 (int (pos 1) ∷ []) >> create tid 0 0 5 (int (pos 2) ∷ [])) (state []) ≡ goes (Ref (named 5 0)) (record (state []) { heap = record { rows = (named 4 0, holding (pos 1)) ∷ (named 5 0, holding (pos 2)) ∷ two_roots; written = []; made = named 4 0 ∷ named 5 0 ∷ [] } })
one_at_each_site = refl

-- the store, the class and the site are those that are asked for
abbrev other_name : Oid
other_name = record { store = 2; class = 5; worker = 3; boot = 1; number = 7; site = 6; index = 0 }

name_of_made : create tid 2 5 6 [] (state []) ≡ goes (Ref other_name) (record (state []) { heap = record { rows = two_roots ++ (other_name, record { class = 5; fields = [] }) ∷ []; written = []; made = other_name ∷ [] } })
name_of_made = refl

one_made_too_many : create tid 0 0 4 [] (over (heap (so_many 200) (so_many 56))) ≡ ends (stopped Writes) (over (heap (so_many 200) (so_many 56)))
one_made_too_many = refl

-- ---- statements, where a call gives its method's number

abbrev gives_number : ℕ → List Value → M (Option Value)
gives_number m args = gives (Some (int (pos m)))

abbrev gives_none : ℕ → List Value → M (Option Value)
gives_none m args = gives None

-- a statement of one layer
abbrev doing : s.Statement-F (M (Unit {0})) → M (Unit {0})
doing = statement_step tid gives_number

abbrev pub number : ℤ → Expression
number n = expression_at 0 (f.Number (numbers.Int n))

-- the field of a local's object, at a site
abbrev pub field : ℕ → ℕ → Expression
field x site = expression_at 0 (f.Read (used x) 0 site)

abbrev set : ℕ → Right → M (Unit {0})
set x r = doing (s.Assign x r 0)

-- a new object at site 4, with the value of an expression
abbrev pub new : Expression → Right
new e = rights.New (used 0) (used 0) (e ∷ []) 4 0

-- what a run does from a fuel and locals on
abbrev pub from : {A : Type 0} → ℕ → List Value → M A → Run A
from fuel locals m = m (record (state locals) { fuel = fuel })

-- the state of such a run, with fuel and locals
abbrev pub at : ℕ → List Value → State
at fuel locals = record (state locals) { fuel = fuel }

assigned : from 1 (Null ∷ Null ∷ []) (set 1 (rights.Plain (number (pos 5)))) ≡ goes tt (at 0 (Null ∷ int (pos 5) ∷ []))
assigned = rw number_means refl

-- a statement that there is no fuel for does nothing
no_fuel : from 0 both (set 1 (rights.Plain (field 0 4))) ≡ ends (stopped Fuel) (at 0 both)
no_fuel = refl

-- `a.f = b.f;`: the value comes before the object that is written
value_first : from 1 both (doing (s.Write (used 0) 0 (field 1 5) 4)) ≡ goes tt (record (at 0 both) { heap = record { rows = (root 1, holding (pos 8)) ∷ (root 2, holding (pos 8)) ∷ []; written = root 1 ∷ []; made = [] }; touches = (5, root 2) ∷ (4, root 1) ∷ [] })
value_first = rw read_means refl

-- where `a` is null, the value was read before it fails
then_the_object : from 1 (Null ∷ Ref (root 2) ∷ []) (doing (s.Write (used 0) 0 (field 1 5) 4)) ≡ ends failed (with_touches ((5, root 2) ∷ []) (at 0 (Null ∷ Ref (root 2) ∷ [])))
then_the_object = rw read_means refl

-- `x = new C @ s (5); y = x.f;` notes no touch
made_and_read : from 2 (Null ∷ int (pos 0) ∷ []) (in_order (set 0 (new (number (pos 5))) ∷ set 1 (rights.Plain (field 0 6)) ∷ [])) ≡ goes tt (record (at 0 (Ref (named 4 0) ∷ int (pos 5) ∷ [])) { heap = record { rows = (named 4 0, holding (pos 5)) ∷ two_roots; written = []; made = named 4 0 ∷ [] } })
made_and_read = rw (number_means, read_means) refl

-- nor does `x = new C @ s (5); x.f = 9;`, and the object stands among the made alone
made_and_written : from 2 (Null ∷ []) (in_order (set 0 (new (number (pos 5))) ∷ doing (s.Write (used 0) 0 (number (pos 9)) 6) ∷ [])) ≡ goes tt (record (at 0 (Ref (named 4 0) ∷ [])) { heap = record { rows = (named 4 0, holding (pos 9)) ∷ two_roots; written = []; made = named 4 0 ∷ [] } })
made_and_written = rw (number_means, number_means) refl

-- what an object is made of comes before its name is counted: `x = new C @ s (a.f);`
arguments_first : from 1 (Null ∷ []) (set 0 (new (field 0 6))) ≡ ends failed (at 0 (Null ∷ []))
arguments_first = rw read_means refl

-- `x = declassify(a.f, A to B);`
lowered : from 1 both (set 1 (rights.Downgrade downgrades.Declassify (field 0 6) (used 1) (used 0) 5 0)) ≡ goes tt (record (at 0 (Ref (root 1) ∷ int (pos 7) ∷ [])) { touches = (6, root 1) ∷ []; downs = (5, int (pos 7)) ∷ [] })
lowered = rw read_means refl

-- a site's downgrades are noted each time, in their order
lowered_twice : (noted_down 5 (int (pos 1)) >> noted_down 5 (int (pos 1))) (state []) ≡ goes (int (pos 1)) (record (state []) { downs = (5, int (pos 1)) ∷ (5, int (pos 1)) ∷ [] })
lowered_twice = refl

-- `x = m();`, and `m();`, which changes no local
result_taken : from 1 both (set 0 (rights.Call (used 3) [])) ≡ goes tt (at 0 (int (pos 3) ∷ Ref (root 2) ∷ []))
result_taken = refl

result_dropped : from 1 both (doing (s.Call (used 3) [])) ≡ goes tt (at 0 both)
result_dropped = refl

no_result : from 1 both (statement_step tid gives_none (s.Assign 0 (rights.Call (used 3) []) 0)) ≡ goes tt (at 0 (Null ∷ Ref (root 2) ∷ []))
no_result = refl

-- `if` costs 1, and one of its blocks runs
abbrev if_first : M (Unit {0})
if_first = doing (s.If (expression_at 0 (f.Local (used 0))) (assign 1 (int (pos 1)) ∷ []) (assign 1 (int (pos 2)) ∷ []))

taken : from 1 (int (negsuc 0) ∷ Null ∷ []) if_first ≡ goes tt (at 0 (int (negsuc 0) ∷ int (pos 1) ∷ []))
taken = rw local_means refl

otherwise : from 1 (int (pos 0) ∷ Null ∷ []) if_first ≡ goes tt (at 0 (int (pos 0) ∷ int (pos 2) ∷ []))
otherwise = rw local_means refl

stopped_before : from 0 (int (pos 0) ∷ Null ∷ []) if_first ≡ ends (stopped Fuel) (at 0 (int (pos 0) ∷ Null ∷ []))
stopped_before = refl

fails : from 1 both (doing (s.Fail 0)) ≡ ends failed (at 0 both)
fails = refl

-- `fail;` costs 1 as others do
no_fuel_to_fail : from 0 both (doing (s.Fail 0)) ≡ ends (stopped Fuel) (at 0 both)
no_fuel_to_fail = refl

-- nothing runs behind a failure
nothing_behind : from 5 both (in_order (assign 0 Null ∷ doing (s.Fail 0) ∷ assign 1 Null ∷ [])) ≡ ends failed (at 4 (Null ∷ Ref (root 2) ∷ []))
nothing_behind = refl

-- ---- loops: each test costs 1, and the loop itself nothing

-- `while (x) { x = 0; }`, of which the block is free here
abbrev once_more : M (Unit {0})
once_more = loop (local 0) (assign 0 (int (pos 0)))

no_turn : from 1 (int (pos 0) ∷ []) once_more ≡ goes tt (at 0 (int (pos 0) ∷ []))
no_turn = refl

one_turn : from 2 (int (pos 1) ∷ []) once_more ≡ goes tt (at 0 (int (pos 0) ∷ []))
one_turn = refl

-- the second test isn't paid for
one_test : from 1 (int (pos 1) ∷ []) once_more ≡ ends (stopped Fuel) (at 0 (int (pos 0) ∷ []))
one_test = refl

no_test : from 0 (int (pos 0) ∷ []) once_more ≡ ends (stopped Fuel) (at 0 (int (pos 0) ∷ []))
no_test = refl

for_ever : from 20 [] (loop (gives (int (pos 1))) (gives tt)) ≡ ends (stopped Fuel) (at 0 [])
for_ever = refl

-- the test may fail, and so may the block
test_fails : from 2 (Null ∷ []) (loop (local 0 >>= read 4 0) (gives tt)) ≡ ends failed (at 1 (Null ∷ []))
test_fails = refl

block_fails : from 2 (int (pos 1) ∷ []) (loop (local 0) (doing (s.Fail 0))) ≡ ends failed (at 0 (int (pos 1) ∷ []))
block_fails = refl

-- the statement charges for its tests alone
while_once : from 1 (int (pos 0) ∷ []) (doing (s.While (expression_at 0 (f.Local (used 0))) [])) ≡ goes tt (at 0 (int (pos 0) ∷ []))
while_once = rw local_means refl

-- ---- failures

-- a local is changed, an object made and one written, a downgrade noted and fuel spent, and then it fails
abbrev much : M (Unit {0})
much = assign 0 (int (pos 9)) >> create tid 0 0 4 (int (pos 1) ∷ []) >> write 5 0 (int (pos 2)) (Ref (root 1)) >> noted_down 6 (int (pos 3)) >> charge >> ends failed

-- what the failure puts back: the locals and the heap, and so the next index at the site; touches, downgraded values and fuel stay
put_back : from 9 (Null ∷ Null ∷ []) (atomically much (create tid 0 0 4 (int (pos 8) ∷ []) >>= assign 1)) ≡ goes tt (record (at 8 (Null ∷ Ref (named 4 0) ∷ [])) { heap = record { rows = (named 4 0, holding (pos 8)) ∷ two_roots; written = []; made = named 4 0 ∷ [] }; touches = (5, root 1) ∷ []; downs = (6, int (pos 3)) ∷ [] })
put_back = refl

-- what was written and made before stays so
kept_from_before : from 9 (Null ∷ []) (write 5 0 (int (pos 7)) (Ref (root 1)) >> create tid 0 0 4 (int (pos 1) ∷ []) >>= assign 0 >> atomically much (gives tt))
    ≡ goes tt (record (at 8 (Ref (named 4 0) ∷ [])) { heap = record { rows = (named 4 0, holding (pos 1)) ∷ two_roots; written = root 1 ∷ []; made = named 4 0 ∷ [] }; touches = (5, root 1) ∷ []; downs = (6, int (pos 3)) ∷ [] })
kept_from_before = refl

-- a block that doesn't fail keeps what it did, and the other isn't run
no_failure : from 9 (Null ∷ []) (atomically (assign 0 (int (pos 1))) (assign 0 (int (pos 2)))) ≡ goes tt (at 9 (int (pos 1) ∷ []))
no_failure = refl

-- a failure in the other block goes on outward
fails_after_all : from 9 (Null ∷ []) (atomically (assign 0 (int (pos 1)) >> ends failed) (assign 0 (int (pos 2)) >> ends failed)) ≡ ends failed (at 9 (int (pos 2) ∷ []))
fails_after_all = refl

-- the innermost takes it, and the outer one goes on
innermost : from 9 (Null ∷ Null ∷ []) (atomically (assign 0 (int (pos 1)) >> atomically (assign 1 (int (pos 2)) >> ends failed) (gives tt)) (ends failed)) ≡ goes tt (at 9 (int (pos 1) ∷ Null ∷ []))
innermost = refl

-- a limit is no failure, and nothing is put back; nor is a missing object
limit_goes_through : from 9 (Null ∷ []) (atomically (assign 0 (int (pos 1)) >> ends (stopped Depth)) (gives tt)) ≡ ends (stopped Depth) (at 9 (int (pos 1) ∷ []))
limit_goes_through = refl

missing_goes_through : from 9 (Null ∷ []) (atomically (assign 0 (int (pos 1)) >> read 4 0 (Ref (root 3)) >>= assign 0) (gives tt)) ≡ ends (missing 4 (root 3)) (at 9 (int (pos 1) ∷ []))
missing_goes_through = refl

-- the statement costs 1 before its block
atomic_costs : from 1 (Null ∷ []) (doing (s.Atomic (used 0) (doing (s.Fail 0) ∷ []) (assign 0 (int (pos 2)) ∷ []) 0)) ≡ ends (stopped Fuel) (at 0 (Null ∷ []))
atomic_costs = refl

atomic_and_fail : from 2 (Null ∷ []) (doing (s.Atomic (used 0) (doing (s.Fail 0) ∷ []) (assign 0 (int (pos 2)) ∷ []) 0)) ≡ goes tt (at 0 (int (pos 2) ∷ []))
atomic_and_fail = refl

-- a body of many objects that failed leaves room for as many again
room_again : atomically (write 4 0 (int (pos 9)) (Ref (root 1)) >> ends failed) (write 4 0 (int (pos 9)) (Ref (root 1))) (over (heap (so_many 255) [])) ≡ goes tt (with_touches ((4, root 1) ∷ []) (over (record { rows = (root 1, holding (pos 9)) ∷ (root 2, holding (pos 8)) ∷ []; written = so_many 255 ++ root 1 ∷ []; made = [] })))
room_again = refl
