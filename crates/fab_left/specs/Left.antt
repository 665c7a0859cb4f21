-- What is left of a request at a point, and the same over more objects than are known.
--
-- Whoever runs a request step by step keeps a list of entries, each with something that is left to do behind what is done now.
-- What they stand for is said in the words of the meaning, whatever the parts of a program mean: so it serves the meaning, and
-- the erased one.
use Rattle.std.specs.Prelude.{◌≡◌, ℕ, true, List, [], ◌∷◌, ◌++◌, take, map, Option, Some, None, unwrap_or}
use Rattle.std.specs.List.{AllByRecursion}
use Rattle.fab_base.specs.declared.object.Oid.{Oid}
use Rattle.fab_base.specs.declared.object.Tid.{Tid}
use Rattle.fab_base.specs.declared.object.Value.{Value}
use Rattle.fab_base.specs.declared.object.Value.TheVariants.{Null}
use Rattle.fab_base.specs.FlatMap.{FlatMap, get, put_all, ascends}
use Rattle.fab_tree.specs.declared.resolved.Method.{Method}
use Rattle.fab_tree.specs.declared.resolved.Statement.{Statement}
use Rattle.fab_language.specs.Heaps.{Heap}
use Rattle.fab_language.specs.Meaning.{State, End, failed, stopped, missing, Run, goes, ends, M, and_then, gives, in_order, or_else, back_with}
use Rattle.fab_laws.specs.Changes.{IsOf}

-- ---- what the parts of a program mean

-- where a run is: in a method, where so many calls more may be open
pub record Place : Type 0 where
  pub method : Method
  pub depth : ℕ

-- what a statement, the result of the method, a local that takes what a call gave, and a call mean at a place
pub record Means : Type 0 where
  pub statement : Place → Statement → M (Unit {0})
  pub result : Place → M (Option Value)
  pub takes : Place → ℕ → Value → M (Unit {0})
  pub call : Place → ℕ → List Value → M (Option Value)

-- a block at a place
abbrev pub block : Means → Place → List Statement → M (Unit {0})
block m p ss = in_order (map (m.statement p) ss)

-- what a call gave goes to a local, or nowhere
abbrev pub handed : Means → Place → Option ℕ → Option Value → M (Unit {0})
handed m p None v = gives tt
handed m p (Some x) v = m.takes p x (unwrap_or v Null)

-- ---- what is left to do

-- The rest of a block; a block that is tried, by what a failure puts back and what is run then; and a call, by the place of
-- the method called, the place and the locals of its caller, and the local that takes what it gives.
pub data Entry : Type 0 where
  rest : Place → List Statement → Entry
  tried : Place → List Value → Heap → List Statement → Entry
  returning : Place → Place → List Value → Option ℕ → Entry

-- a state of which these locals and this heap are put back
abbrev pub put_back_by : List Value → Heap → State
put_back_by locals heap = record { fuel = 0; locals = locals; heap = heap; touches = []; downs = []; given = [] }

-- a run, and then what an entry leaves to do
abbrev pub resume : Means → Entry → Run (Unit {0}) → Run (Unit {0})
resume m (rest p ss) r = and_then r (λ _. block m p ss)
resume m (tried p locals heap ss) r = or_else (put_back_by locals heap) r (block m p ss)
resume m (returning callee caller locals target) r = and_then (back_with locals (and_then r (λ _. m.result callee))) (handed m caller target)

-- a run, and then all that is left to do, of which the last entry is the innermost
abbrev pub finish : Means → List Entry → Run (Unit {0}) → Run (Unit {0})
finish m [] r = r
finish m (k ∷ ks) r = resume m k (finish m ks r)

-- a run of the method that was asked for, to its end
abbrev pub whole : Means → Place → Run (Unit {0}) → Run (Option Value)
whole m p r = back_with [] (and_then r (λ _. m.result p))

-- the place of a request's method, of which 63 calls more may be open
abbrev pub at_start : Method → Place
at_start method = record { method = method; depth = 63 }

-- ---- more objects

-- a heap, a state and an entry over more objects
abbrev pub with_more : FlatMap → Heap → Heap
with_more more h = record h { rows = put_all more h.rows }

abbrev pub wider : FlatMap → State → State
wider more t = record t { heap = with_more more t.heap }

abbrev pub wider_entry : FlatMap → Entry → Entry
wider_entry more (rest p ss) = rest p ss
wider_entry more (tried p locals heap ss) = tried p locals (with_more more heap) ss
wider_entry more (returning callee caller locals target) = returning callee caller locals target

-- a run that left a state over more objects
abbrev pub widened : {A : Type 0} → FlatMap → Run A → Run A
widened more (goes a t) = goes a (wider more t)
widened more (ends e t) = ends e (wider more t)

-- an end that more objects can't change, and a run that went on or ended so
abbrev pub IsFinal : End → Type 0
IsFinal failed = Unit {0}
IsFinal (stopped stop) = Unit {0}
IsFinal (missing site o) = ⊥

abbrev pub IsSure : {A : Type 0} → Run A → Type 0
IsSure (goes a t) = Unit {0}
IsSure (ends e t) = IsFinal e

-- an object of this name isn't known, and the attempt doesn't make it
pub record IsNew (tid : Tid) (known : FlatMap) (o : Oid) : Type 0 where
  pub unknown : get known o ≡ None
  pub unmade : IsOf tid o → ⊥

-- each of these is new
abbrev pub Fresh : Tid → FlatMap → FlatMap → Type 0
Fresh tid known more = AllByRecursion (λ row. IsNew tid known row.0) more

-- rows in the order of names, of which none is new: each is known, or was made in the attempt
pub record Stems (tid : Tid) (known rows : FlatMap) : Type 0 where
  pub ascending : ascends rows ≡ true
  pub none_new : (o : Oid) → IsNew tid known o → get rows o ≡ None

-- so it is of each heap that an entry keeps
abbrev pub StemsIn : Tid → FlatMap → Entry → Type 0
StemsIn tid known (rest p ss) = Unit {0}
StemsIn tid known (tried p locals heap ss) = Stems tid known heap.rows
StemsIn tid known (returning callee caller locals target) = Unit {0}

-- of a state, and of all that is left to do
pub record AllStem (tid : Tid) (known : FlatMap) (ks : List Entry) (t : State) : Type 0 where
  pub state : Stems tid known t.heap.rows
  pub entries : AllByRecursion (StemsIn tid known) ks

-- ---- what is left

-- what comes of a state and what is left to do, over more objects
abbrev pub left : Means → Place → List Entry → State → FlatMap → Run (Option Value)
left m p ks t more = whole m p (finish m (map (wider_entry more) ks) (goes tt (wider more t)))

-- over whatever more objects that are new, the same comes of this as of that
abbrev pub IsLeft : Means → Place → Tid → FlatMap → List Entry → State → List Entry → State → Type 0
IsLeft m p tid known ks t js s = (more : FlatMap) → Fresh tid known more → left m p js s more ≡ left m p ks t more

-- over whatever more objects that are new, what a request does over a map is what comes of this
abbrev pub IsBegun : Means → Place → Tid → (FlatMap → Run (Option Value)) → FlatMap → List Entry → State → Type 0
IsBegun m p tid does known ks t = (more : FlatMap) → Fresh tid known more → does (put_all more known) ≡ left m p ks t more

-- ---- an object lacked

-- the touches begin with these
abbrev pub Begins : List (ℕ × Oid) → List (ℕ × Oid) → Type 0
Begins all first = (more : List (ℕ × Oid)) × (all ≡ first ++ more)

-- a state differs from one before in fuel and touches alone, and its touches begin with those
pub record DiffersLittle (t u : State) : Type 0 where
  pub locals : u.locals ≡ t.locals
  pub heap : u.heap ≡ t.heap
  pub touches : Begins u.touches t.touches
  pub downs : u.downs ≡ t.downs
  pub given : u.given ≡ t.given

-- the state before what lacked an object: its fuel, and so many touches
abbrev pub before : ℕ → ℕ → State → State
before fuel count u = record u { fuel = fuel; touches = take count u.touches }
