-- What is left to do, entry by entry, and with an answer more.
use Rattle.std.proofs.Common.{◌≡◌, ℕ, List, [], ◌∷◌, ◌++◌, map, Option, Bool, true, false, refl, sym, ap, ◌∙◌}
use Rattle.std.specs.List.{AllByRecursion}
use Rattle.fab_base.specs.declared.object.Oid.{Oid}
use Rattle.fab_base.specs.declared.object.Object.{Object}
use Rattle.fab_base.specs.declared.object.Tid.{Tid}
use Rattle.fab_base.specs.declared.object.Value.{Value}
use Rattle.fab_base.specs.FlatMap.{FlatMap, is_same, get, put}
use Rattle.fab_base.proofs.NameOrder.{one_name}
use Rattle.fab_map.proofs.Rows.{ascends-put, get-put_same, get-put_other}
use Rattle.fab_laws.proofs.Touches.{none_some}
use Rattle.fab_tree.specs.declared.resolved.Statement.{Statement}
use Rattle.fab_language.specs.Heaps.{Heap}
use Rattle.fab_language.specs.Meaning.{State, End, failed, stopped, missing, Run, goes, ends, M, and_then, or_else, back_with}
use Rattle.fab_left.specs.Left.{Place, Means, Entry, rest, tried, returning, block, handed, put_back_by, resume, finish, whole, wider, wider_entry, IsNew, Fresh, Stems}
use Rattle.fab_left.specs.Left.{StemsIn, AllStem, left, IsBegun}
use Rattle.fab_left.specs.Deeds.{Deed, passed, into, again, trying, entering, afterwards, pushed, StaysHere, Enters}
use Rattle.fab_left.proofs.Acting.{assoc}

-- ---- the innermost entries

module _ (m : Means) where
  pub finish_more : (ks js : List Entry) (r : Run (Unit {0})) → finish m (ks ++ js) r ≡ finish m ks (finish m js r)
  finish_more [] js r = refl
  finish_more (k ∷ ks) js r = ap (resume m k) (finish_more ks js r)

  -- a block that is tried, by what a failure puts back
  else_kept : (t : State) (r : Run (Unit {0})) (other : M (Unit {0})) → or_else (put_back_by t.locals t.heap) r other ≡ or_else t r other
  else_kept t (goes u w) other = refl
  else_kept t (ends failed w) other = refl
  else_kept t (ends (stopped stop) w) other = refl
  else_kept t (ends (missing site o) w) other = refl

  -- ---- what a statement leads into

  module _ (p : Place) (s : Statement) (ss : List Statement) (t : State) where
    abbrev run_of : Deed → Run (Unit {0})
    run_of d = and_then (afterwards m p s d t) (λ _. block m p ss)

    into_push : (d : Deed) → StaysHere d → finish m (pushed p s ss t d) (goes tt t) ≡ run_of d
    into_push passed h = refl
    into_push (into a) h = refl
    into_push (again a) h = sym (assoc (block m p a t) (λ _. m.statement p s) (λ _. block m p ss))
    into_push (trying a b) h = ap (λ r. and_then r (λ _. block m p ss)) (else_kept t (block m p a t) (block m p b))
    into_push (entering number args target) h = absurd h

    pub deeds_push : (ks : List Entry) (d : Deed) → StaysHere d → finish m (ks ++ pushed p s ss t d) (goes tt t) ≡ finish m ks (run_of d)
    deeds_push ks d h = finish_more ks (pushed p s ss t d) (goes tt t) ∙ ap (finish m ks) (into_push d h)

    -- a call that enters a method
    pub call_enters : (ks : List Entry) (number : ℕ) (args : List Value) (target : Option ℕ) (callee : Place) (locals : List Value)
        → Enters m p number args t callee locals
        → finish m (ks ++ rest p ss ∷ returning callee p t.locals target ∷ rest callee callee.method.body ∷ []) (goes tt (record t { locals = locals }))
        ≡ finish m ks (run_of (entering number args target))
    call_enters ks number args target callee locals e =
        finish_more ks (rest p ss ∷ returning callee p t.locals target ∷ rest callee callee.method.body ∷ []) (goes tt (record t { locals = locals }))
        ∙ ap (λ r. finish m ks (and_then (and_then r (handed m p target)) (λ _. block m p ss))) (sym e)

    -- a call that gives a value at once
    pub call_gives : (ks : List Entry) (number : ℕ) (args : List Value) (target : Option ℕ) (v : Option Value) (u : State) → m.call p number args t ≡ goes v u
        → finish m (ks ++ rest p ss ∷ []) (handed m p target v u) ≡ finish m ks (run_of (entering number args target))
    call_gives ks number args target v u e =
        finish_more ks (rest p ss ∷ []) (handed m p target v u)
        ∙ ap (λ r. finish m ks (and_then (and_then r (handed m p target)) (λ _. block m p ss))) (sym e)

    -- a call that ends at once
    pub call_ends : (ks : List Entry) (number : ℕ) (args : List Value) (target : Option ℕ) (x : End) (u : State) → m.call p number args t ≡ ends x u
        → finish m ks (ends x u) ≡ finish m ks (run_of (entering number args target))
    call_ends ks number args target x u e = ap (λ r. finish m ks (and_then (and_then r (handed m p target)) (λ _. block m p ss))) (sym e)

  -- ---- what is left where a statement comes next, and where none does

  pub next_is : (ks : List Entry) (p : Place) (s : Statement) (ss : List Statement) (t : State) (does : M Deed) → m.statement p s t ≡ and_then (does t) (afterwards m p s)
      → finish m (ks ++ rest p (s ∷ ss) ∷ []) (goes tt t) ≡ finish m ks (and_then (and_then (does t) (afterwards m p s)) (λ _. block m p ss))
  next_is ks p s ss t does e = finish_more ks (rest p (s ∷ ss) ∷ []) (goes tt t) ∙ ap (λ r. finish m ks (and_then r (λ _. block m p ss))) e

  pub block_over : (ks : List Entry) (p : Place) (t : State) → finish m (ks ++ rest p [] ∷ []) (goes tt t) ≡ finish m ks (goes tt t)
  block_over ks p t = finish_more ks (rest p [] ∷ []) (goes tt t)

  pub trial_over : (ks : List Entry) (p : Place) (locals : List Value) (heap : Heap) (ss : List Statement) (t : State)
      → finish m (ks ++ tried p locals heap ss ∷ []) (goes tt t) ≡ finish m ks (goes tt t)
  trial_over ks p locals heap ss t = finish_more ks (tried p locals heap ss ∷ []) (goes tt t)

  pub call_over : (ks : List Entry) (callee caller : Place) (locals : List Value) (target : Option ℕ) (t : State)
      → finish m (ks ++ returning callee caller locals target ∷ []) (goes tt t) ≡ finish m ks (and_then (back_with locals (m.result callee t)) (handed m caller target))
  call_over ks callee caller locals target t = finish_more ks (returning callee caller locals target ∷ []) (goes tt t)

  -- ---- a failure goes on at the last block that is tried

  pub block_ends : (ks : List Entry) (p : Place) (ss : List Statement) (e : End) (t : State) → finish m (ks ++ rest p ss ∷ []) (ends e t) ≡ finish m ks (ends e t)
  block_ends ks p ss e t = finish_more ks (rest p ss ∷ []) (ends e t)

  pub call_ended : (ks : List Entry) (callee caller : Place) (locals : List Value) (target : Option ℕ) (e : End) (t : State)
      → finish m (ks ++ returning callee caller locals target ∷ []) (ends e t) ≡ finish m ks (ends e (record t { locals = locals }))
  call_ended ks callee caller locals target e t = finish_more ks (returning callee caller locals target ∷ []) (ends e t)

  pub trial_fails : (ks : List Entry) (p : Place) (locals : List Value) (heap : Heap) (ss : List Statement) (t : State)
      → finish m (ks ++ tried p locals heap ss ∷ []) (ends failed t) ≡ finish m (ks ++ rest p ss ∷ []) (goes tt (record t { locals = locals; heap = heap }))
  trial_fails ks p locals heap ss t =
      finish_more ks (tried p locals heap ss ∷ []) (ends failed t) ∙ sym (finish_more ks (rest p ss ∷ []) (goes tt (record t { locals = locals; heap = heap })))

  -- ---- any other end is the end of all

  -- a run that ended so, but for locals
  abbrev IsEnd : End → State → Run (Unit {0}) → Type 0
  IsEnd e t r = (locals : List Value) × (r ≡ ends e (record t { locals = locals }))

  ends_by : (k : Entry) (e : End) → (e ≡ failed → ⊥) → (t : State) (r : Run (Unit {0})) → IsEnd e t r → IsEnd e t (resume m k r)
  ends_by (rest p ss) e n t r h = (h.0, ap (resume m (rest p ss)) h.1)
  ends_by (tried p locals heap ss) failed n t r h = absurd (n refl)
  ends_by (tried p locals heap ss) (stopped stop) n t r h = (h.0, ap (resume m (tried p locals heap ss)) h.1)
  ends_by (tried p locals heap ss) (missing site o) n t r h = (h.0, ap (resume m (tried p locals heap ss)) h.1)
  ends_by (returning callee caller locals target) e n t r h = (locals, ap (resume m (returning callee caller locals target)) h.1)

  all_ends : (ks : List Entry) (e : End) → (e ≡ failed → ⊥) → (t : State) → IsEnd e t (finish m ks (ends e t))
  all_ends [] e n t = (t.locals, refl)
  all_ends (k ∷ ks) e n t = ends_by k e n t (finish m ks (ends e t)) (all_ends ks e n t)

  pub ends_all : (p : Place) (ks : List Entry) (e : End) → (e ≡ failed → ⊥) → (t : State) → whole m p (finish m ks (ends e t)) ≡ ends e (record t { locals = [] })
  ends_all p ks e n t = let h = all_ends ks e n t in ap (whole m p) h.1

-- ---- with an answer more

module _ (o : Oid) (x : Object) where
  abbrev one : FlatMap
  one = (o, x) ∷ []

  entry_twice : (more : FlatMap) (k : Entry) → wider_entry more (wider_entry one k) ≡ wider_entry ((o, x) ∷ more) k
  entry_twice more (rest p ss) = refl
  entry_twice more (tried p locals heap ss) = refl
  entry_twice more (returning callee caller locals target) = refl

  entries_twice : (more : FlatMap) (ks : List Entry) → map (wider_entry more) (map (wider_entry one) ks) ≡ map (wider_entry ((o, x) ∷ more)) ks
  entries_twice more [] = refl
  entries_twice more (k ∷ ks) = λ i. entry_twice more k i ∷ entries_twice more ks i

  pub left_twice : (m : Means) (p : Place) (ks : List Entry) (t : State) (more : FlatMap)
      → left m p (map (wider_entry one) ks) (wider one t) more ≡ left m p ks t ((o, x) ∷ more)
  left_twice m p ks t more = ap (λ js. whole m p (finish m js (goes tt (wider ((o, x) ∷ more) t)))) (entries_twice more ks)

  module _ (tid : Tid) (known : FlatMap) (new : IsNew tid known o) where
    -- what is new to the map with the answer is new to the map
    still_new : (q : Oid) → IsNew tid (put o x known) q → (b : Bool) → is_same o q ≡ b → IsNew tid known q
    still_new q n true e = absurd (none_some x (sym n.unknown ∙ ap (get (put o x known)) (sym (one_name o q e)) ∙ get-put_same o x known))
    still_new q n false e = record { unknown = sym (get-put_other o q x known e) ∙ n.unknown; unmade = n.unmade }

    fresh_with : (more : FlatMap) → Fresh tid (put o x known) more → Fresh tid known more
    fresh_with [] h = tt
    fresh_with (row ∷ more) h = (still_new row.0 h.0 (is_same o row.0) refl, fresh_with more h.1)

    pub answer_begun : (m : Means) (p : Place) (does : FlatMap → Run (Option Value)) (ks : List Entry) (t : State) → IsBegun m p tid does known ks t
        → IsBegun m p tid does (put o x known) (map (wider_entry one) ks) (wider one t)
    answer_begun m p does ks t h more fresh = h ((o, x) ∷ more) (new, fresh_with more fresh) ∙ sym (left_twice m p ks t more)

    -- and so what stood in the state and in the entries stems from the map with the answer
    differs : (q : Oid) → IsNew tid (put o x known) q → (b : Bool) → is_same o q ≡ b → is_same o q ≡ false
    differs q n true e = absurd (none_some x (sym n.unknown ∙ ap (get (put o x known)) (sym (one_name o q e)) ∙ get-put_same o x known))
    differs q n false e = e

    stems_with : (rows : FlatMap) → Stems tid known rows → Stems tid (put o x known) (put o x rows)
    stems_with rows st = record {
      ascending = ascends-put o x rows st.ascending;
      none_new = λ q n. get-put_other o q x rows (differs q n (is_same o q) refl) ∙ st.none_new q (still_new q n (is_same o q) refl);
    }

    entry_stems : (k : Entry) → StemsIn tid known k → StemsIn tid (put o x known) (wider_entry one k)
    entry_stems (rest p ss) st = tt
    entry_stems (tried p locals heap ss) st = stems_with heap.rows st
    entry_stems (returning callee caller locals target) st = tt

    entries_stem : (ks : List Entry) → AllByRecursion (StemsIn tid known) ks → AllByRecursion (StemsIn tid (put o x known)) (map (wider_entry one) ks)
    entries_stem [] h = tt
    entries_stem (k ∷ ks) h = (entry_stems k h.0, entries_stem ks h.1)

    pub answer_stems : (ks : List Entry) (t : State) → AllStem tid known ks t → AllStem tid (put o x known) (map (wider_entry one) ks) (wider one t)
    answer_stems ks t h = record { state = stems_with t.heap.rows h.state; entries = entries_stem ks h.entries }
