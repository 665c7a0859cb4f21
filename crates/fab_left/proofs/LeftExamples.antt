-- Worked examples of what is left: a loop of two turns, a block that was tried and failed, a call whose value goes to a local, a pause.
use Rattle.std.proofs.Common.{◌≡◌, ap, ℕ, zero, suc, List, [], ◌∷◌, Option, Some, None, false, pos, refl, codes, arith}
use Rattle.fab_base.specs.declared.object.Oid.{Oid}
use Rattle.fab_base.specs.declared.object.Object.{Object}
use Rattle.fab_base.specs.declared.object.Tid.{Tid}
use Rattle.fab_base.specs.declared.object.Value.{Value}
use Rattle.fab_base.specs.declared.object.Value.TheVariants.{Int, Ref}
use Rattle.fab_base.specs.FlatMap.{FlatMap, get, put_all}
use Rattle.fab_tree.specs.declared.name.Name.{Name}
use Rattle.fab_tree.specs.declared.resolved.Use.{Use}
use Rattle.fab_tree.specs.declared.resolved.Method.{Method}
use Rattle.fab_tree.specs.declared.resolved.Statement.{Statement, roll-Statement}
use Rattle.fab_tree.specs.declared.resolved.Statement.TheOpen as form
use Rattle.fab_language.specs.Heaps.{Heap}
use Rattle.fab_language.specs.Meaning.{State, Run, failed, missing, goes, ends, M, and_then, gives, local, assign, read, loop, or_else}
use Rattle.fab_left.specs.Left.{Place, Means, Entry, IsBegun, IsLeft, rest, tried, returning, finish, block, whole, put_back_by, before, Fresh, wider}
use Rattle.fab_left.specs.Acts.{act}
use Rattle.fab_left.proofs.ActForms.{act_is}

abbrev used : Use
used = record { number = 0; at = 0 }

abbrev text : Name
text = record { text = codes "m"; at = 0 }

abbrev method : Method
method = record { name = text; parameters = 0; locals = []; returns = None; begin = used; fails = false; authority = []; body = []; result = None }

abbrev at : ℕ → Place
at d = record { method = method; depth = d }

-- one less in the first local
abbrev one_less : Value → Value
one_less (Int (pos (suc n))) = Int (pos n)
one_less v = v

abbrev less : M (Unit {0})
less t = and_then (local 0 t) (λ v. assign 0 (one_less v))

-- Here each statement at depth 0 takes one from the first local, and at any other depth does so until it is 0; a method gives 7.
abbrev at_depth : ℕ → M (Unit {0})
at_depth zero = less
at_depth (suc d) = loop (local 0) less

abbrev small : Means
small = record { statement = λ p s. at_depth p.depth; result = λ p. gives (Some (Int (pos 7))); takes = λ p. assign; call = λ p n args. gives None }

abbrev step : Statement
step = roll-Statement (form.Fail 0)

abbrev nothing : Heap
nothing = record { rows = []; written = []; made = [] }

abbrev state : ℕ → List Value → State
state fuel locals = record { fuel = fuel; locals = locals; heap = nothing; touches = []; downs = []; given = [] }

abbrev number : ℕ → List Value
number n = Int (pos n) ∷ []

-- a loop of two turns, from its start, and in its first turn
turns_from_start : finish small (rest (at 1) (step ∷ []) ∷ []) (goes tt (state 5 (number 2))) ≡ goes tt (state 2 (number 0))
turns_from_start = refl

turns_from_first : finish small (rest (at 1) (step ∷ []) ∷ rest (at 0) (step ∷ []) ∷ []) (goes tt (state 4 (number 2))) ≡ goes tt (state 2 (number 0))
turns_from_first = refl

-- a failure goes back to where the block began, and on with the other block and the rest
goes_back : finish small (rest (at 0) (step ∷ []) ∷ tried (at 0) (number 2) nothing (step ∷ []) ∷ rest (at 0) [] ∷ []) (ends failed (state 3 (number 9)))
    ≡ goes tt (state 3 (number 0))
goes_back = refl

-- a call's value goes to a local of its caller
gives_seven : finish small (rest (at 0) (step ∷ []) ∷ returning (at 0) (at 0) (number 2) (Some 0) ∷ rest (at 0) (step ∷ []) ∷ []) (goes tt (state 3 (number 9)))
    ≡ goes tt (state 3 (number 6))
gives_seven = refl

went_on : (u : Unit {0}) (s t : State) → goes u s ≡ ends failed t → ⊥
went_on u s t e = cc

-- so a failure isn't the end where a block is tried
not_the_end : (t : State) → finish small (tried (at 0) (number 2) nothing (step ∷ []) ∷ []) (ends failed (state 3 (number 9))) ≡ ends failed t → ⊥
not_the_end t e = went_on tt _ t e

-- ---- what a statement does at once

abbrev attempt : Tid
attempt = record { worker = 0; boot = 0; number = 1 }

fails_at_once : act attempt step (state 3 []) ≡ ends failed (state 2 [])
fails_at_once = ap (λ does. does (state 3 [])) (act_is attempt (form.Fail 0))

-- ---- more objects

abbrev name : Oid
name = record { store = 0; class = 0; worker = 1; boot = 0; number = 1; site = 0; index = 0 }

abbrev thing : ℕ → Object
thing n = record { class = 0; fields = number n }

has_it : get (wider ((name, thing 1) ∷ []) (state 0 [])).heap.rows name ≡ Some (thing 1)
has_it = refl

-- another object of a known name would be found in its place, so none such is new
finds_another : get (put_all ((name, thing 2) ∷ []) ((name, thing 1) ∷ [])) name ≡ Some (thing 2)
finds_another = refl

there_or_not : (x : Object) → Some x ≡ None → ⊥
there_or_not x e = cc

not_new : Fresh attempt ((name, thing 1) ∷ []) ((name, thing 2) ∷ []) → ⊥
not_new h = there_or_not (thing 1) h.0.unknown

-- but an object of another attempt may be new
one_is_not_zero : ◌≡◌ {A = ℕ} 1 0 → ⊥
one_is_not_zero e = omega (arith, e)

may_be_new : Fresh attempt [] ((name, thing 1) ∷ [])
may_be_new = (record { unknown = refl; unmade = λ of. one_is_not_zero of.worker }, tt)

-- ---- a pause in a block that is tried

-- Here each statement at depth 0 gives the first local a field of an object, and at any other depth fails; a method gives its first local.
abbrev reads : M (Unit {0})
reads t = and_then (read 3 0 (Ref name) t) (assign 0)

abbrev reads_or_fails : ℕ → M (Unit {0})
reads_or_fails zero = reads
reads_or_fails (suc d) = ends failed

abbrev reader : Means
reader = record {
  statement = λ p s. reads_or_fails p.depth;
  result = λ p t. and_then (local 0 t) (λ v. gives (Some v));
  takes = λ p. assign;
  call = λ p n args. gives None;
}

abbrev over : FlatMap → Heap
over known = record { rows = known; written = []; made = [] }

abbrev state_over : FlatMap → State
state_over known = record { fuel = 5; locals = number 0; heap = over known; touches = []; downs = []; given = [] }

-- a block that reads and fails, and else one that reads
abbrev tries : FlatMap → Run (Option Value)
tries known = whole reader (at 0)
    (or_else (put_back_by (number 0) (over known)) (and_then (block reader (at 0) (step ∷ []) (state_over known)) (λ _. block reader (at 1) (step ∷ [])))
    (block reader (at 0) (step ∷ [])))

-- what is left where the first block is tried over a heap, which is saved, and is about to read
abbrev trying : Heap → List Entry
trying saved = tried (at 0) (number 0) saved (step ∷ []) ∷ rest (at 1) (step ∷ []) ∷ rest (at 0) (step ∷ []) ∷ []

-- over no object it lacks this one, and pauses with what is left, whatever more there is then
lacks_it : tries [] ≡ ends (missing 3 name) (record (state_over []) { locals = [] })
lacks_it = refl

pauses : IsBegun reader (at 0) attempt tries [] (trying (over [])) (state_over [])
pauses more fresh = refl

-- so it is of the state before what lacked it, where the fuel and the touches are put back
abbrev behind : State
behind = record (state_over []) { fuel = 4; touches = (3, name) ∷ [] }

goes_back_before : IsLeft reader (at 0) attempt [] (trying (over [])) (before 5 0 behind) (trying (over [])) (state_over [])
goes_back_before more fresh = refl

-- with the answer the first block fails, and the other one reads it too, from the heap that was saved
abbrev answer : FlatMap
answer = (name, thing 1) ∷ []

reads_it : tries answer ≡ goes (Some (Int (pos 1))) (record (state_over answer) { locals = []; touches = (3, name) ∷ [] })
reads_it = refl

answered : IsBegun reader (at 0) attempt tries answer (trying (over answer)) (state_over answer)
answered more fresh = refl

-- where the saved heap lacks the answer, the other block would lack it, so this isn't what is left
went_on_so : (v : Option Value) (s t : State) → goes v s ≡ ends (missing 3 name) t → ⊥
went_on_so v s t e = cc

not_answered : IsBegun reader (at 0) attempt tries answer (trying (over [])) (state_over answer) → ⊥
not_answered h = went_on_so _ _ _ (h [] tt)
