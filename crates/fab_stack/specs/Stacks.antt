-- What the entries of a stack stand for, with the heaps that a state has saved.
use Rattle.std.specs.Prelude.{ℕ, suc, List, [], ◌∷◌, ◌++◌, drop}
use Rattle.fab_tree.specs.declared.resolved.Method.{Method}
use Rattle.fab_tree.specs.declared.resolved.Statement.{Statement}
use Rattle.fab_language.specs.Heaps.{Heap}
use Rattle.fab_language.specs.Meaning.{unchanged}
use Rattle.fab_left.specs.Left as left
use Rattle.fab_left.specs.Left.{Place}
use Rattle.fab_stack.specs.declared.stack.Entry.{Entry}
use Rattle.fab_stack.specs.declared.stack.Entry.TheVariants.{Rest, Tried, Returning}
use Rattle.fab_stack.specs.declared.stack.Hand.{Hand}
use Rattle.fab_stack.specs.Points.{top_of}

abbrev pub place : Method → ℕ → Place
place method depth = record { method = method; depth = depth }

-- how many blocks are tried
abbrev pub trials : List Entry → ℕ
trials [] = 0
trials (Rest method ss depth ∷ ks) = trials ks
trials (Tried method locals otherwise depth ∷ ks) = suc (trials ks)
trials (Returning callee depth caller caller_depth locals target ∷ ks) = trials ks

-- the heap that was saved before so many others
abbrev pub heap_at : ℕ → List Heap → Heap
heap_at n heaps = top_of (drop n heaps) (unchanged [])

-- What entries stand for over these heaps, the last saved first. The heap of a block that is tried was saved before those of
-- the trials behind it.
abbrev pub entries_of : List Entry → List Heap → List left.Entry
entries_of [] heaps = []
entries_of (Rest method ss depth ∷ ks) heaps = left.rest (place method.now depth) ss.now ∷ entries_of ks heaps
entries_of (Tried method locals otherwise depth ∷ ks) heaps =
    left.tried (place method.now depth) locals.items (heap_at (trials ks) heaps) otherwise.now ∷ entries_of ks heaps
entries_of (Returning callee depth caller caller_depth locals target ∷ ks) heaps =
    left.returning (place callee.now depth) (place caller.now caller_depth) locals.items target ∷ entries_of ks heaps

-- what is in hand, as the last of the entries
abbrev pub in_hand : Hand → left.Entry
in_hand hand = left.rest (place hand.method.now hand.depth) hand.statements.now

-- the rest of a block behind entries, where there is one
abbrev pub behind : List left.Entry → Place → List Statement → List left.Entry
behind ks p [] = ks
behind ks p (s ∷ ss) = ks ++ left.rest p (s ∷ ss) ∷ []
