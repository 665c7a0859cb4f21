-- What an attempt makes: the next name is new, and each step keeps that.
use Rattle.std.proofs.Common.{◌≡◌, ℕ, ◌+◌, ◌<◌, Bool, true, false, ◌||◌, ◌==◌, List, [], ◌∷◌, ◌++◌, Some, None, Result, Ok, Err, OnOk, OnErr, if◌then◌else◌, count_by, map, refl, sym, ap, ◌∙◌, subst, arith, zero-add}
use Rattle.std.proofs.lemmas.Bool.{true≢false}
use Rattle.std.proofs.lemmas.Bool.Decides.{nat_tests}
use Rattle.std.proofs.lemmas.List.Folds.{list_any-append}
use Rattle.std.proofs.lemmas.List.Sums.{sum_by-append}
use Rattle.std.specs.declared.alloc.AllocError.{AllocError}
use Rattle.fab_base.specs.declared.object.Oid.{Oid}
use Rattle.fab_base.specs.declared.object.Object.{Object}
use Rattle.fab_base.specs.declared.object.Value.{Value}
use Rattle.fab_base.specs.FlatMap.{FlatMap, is_same}
use Rattle.fab_base.proofs.NameOrder.{one_name}
use Rattle.fab_language.specs.Heaps.{Heap, Reach, gone, full, found, reach, is_among, is_changed, is_spent, index_at, replaced, with_row}
use Rattle.fab_language.specs.Meaning.{with_field, field_of}
use Rattle.fab_nested.specs.Nested.{Nested, Answers, Call, answered, gives, needs, stops, reached, settled, read, write, create, merged, aborted, back_to, kept_from, nested_of, nested_over}
use Rattle.fab_nested.specs.Calls.{Gives}
use Rattle.fab_nested.specs.declared.frame_error.FrameError.{FrameError}
use Rattle.fab_nested.specs.declared.frame_error.FrameError.TheVariants.{Memory, Need, Full}
use Rattle.fab_stack.specs.Attempts.{IsCounted, AreCounted}

-- ---- names among names

among_more : (p o : Oid) (os : List Oid) → is_among p (os ++ o ∷ []) ≡ (is_among p os || (is_same o p || false))
among_more p o os = list_any-append (λ q. is_same q p) os (o ∷ [])

index_more : (site : ℕ) (o : Oid) (os : List Oid) → count_by (λ (q : Oid). q.site == site) (os ++ o ∷ []) ≡ count_by (λ (q : Oid). q.site == site) os + (if o.site == site then 1 else 0)
index_more site o os = sum_by-append (λ (q : Oid). if q.site == site then 1 else 0) os (o ∷ []) ∙ ap (λ n. count_by (λ (q : Oid). q.site == site) os + n) (zero-add (if o.site == site then 1 else 0))

or_nothing : (b : Bool) → b ≡ (b || (false || false))
or_nothing true = refl
or_nothing false = refl

-- none was made of the next name of a site
pub next_is_new : (o : Oid) (h : Heap) → IsCounted h → o.index ≡ index_at o.site h → is_among o h.made ≡ false
next_is_new o h counted next = step (is_among o h.made) refl
  where
    step : (b : Bool) → is_among o h.made ≡ b → b ≡ false
    step false e = refl
    step true e = let l : o.index < index_at o.site h = counted o e in absurd (omega (arith, next))

-- ---- the heap behind a change

-- as many are made
kept : (h g : Heap) → IsCounted h → g.made ≡ h.made → IsCounted g
kept h g counted made = λ o among. subst (λ l. o.index < count_by (λ (q : Oid). q.site == o.site) l) (sym made) (counted o (ap (is_among o) (sym made) ∙ among))

-- an object of the next name of its site is made
made_kept : (o : Oid) (x : Object) (h : Heap) → IsCounted h → o.index ≡ index_at o.site h → IsCounted (record (with_row o x h) { made = h.made ++ o ∷ [] })
made_kept o x h counted next = λ p among. rw (index_more p.site o h.made) (below p (is_same o p) refl (sym (among_more p o h.made) ∙ among))
  where
    below : (p : Oid) (b : Bool) → is_same o p ≡ b → (is_among p h.made || (is_same o p || false)) ≡ true → p.index < count_by (λ (q : Oid). q.site == p.site) h.made + (if o.site == p.site then 1 else 0)
    below p true e among = subst (λ (q : Oid). q.index < count_by (λ (r : Oid). r.site == q.site) h.made + (if o.site == q.site then 1 else 0)) (one_name o p e) (rw (itself o.site) (omega arith))
      where
        itself : (n : ℕ) → (n == n) ≡ true
        itself n = grind (arith, nat_tests)
    below p false e among = let l : p.index < index_at p.site h = counted p (or_nothing (is_among p h.made) ∙ rw e at among) in omega arith

-- ---- what a call on the frames leaves

-- the frames behind a call
abbrev pub behind : {A : Type 0} → Call A → Nested
behind (gives a n) = n
behind (needs o n) = n
behind (stops stop n) = n

-- the names that were made are counted, in the heap and in those that are saved
abbrev pub IsOwn : Nested → Type 0
IsOwn n = AreCounted (n.now ∷ n.saved)

-- what holds before a call and behind it holds whatever it gave
pub own_after : {A : Type 0} (result : Result A FrameError) (old new : Nested) (call : Call A) → IsOwn old → IsOwn (behind call) → Gives result old new call → IsOwn new
own_after (Ok a) old new call before after g = subst (λ c. IsOwn (behind c)) g after
own_after (Err Memory) old new call before after g = subst IsOwn (sym g) before
own_after (Err (Need o)) old new call before after g = subst (λ c. IsOwn (behind c)) g after
own_after (Err (Full stop)) old new call before after g = subst (λ c. IsOwn (behind c)) g after

reached_own : {A : Type 0} (o : Oid) (r : Reach) (next : Object → Nested → Call A) (n : Nested) → IsOwn n
    → ((x : Object) (touches : List (ℕ × Oid)) → IsOwn (behind (next x (record n { touches = touches })))) → IsOwn (behind (reached o r next n))
reached_own o gone next n own on = own
reached_own o full next n own on = own
reached_own o (found x touches) next n own on = on x touches

settled_own : (o : Oid) (x : Object) (n : Nested) → IsOwn n → IsOwn (behind (settled (replaced o x n.now) n))
settled_own o x n own =
    elim (is_changed o n.now) as (λ b. IsOwn (behind (settled (if b then Some (with_row o x n.now) else (if is_spent n.now then None else Some (record (with_row o x n.now) { written = n.now.written ++ o ∷ [] }))) n))) [
      | true ↦ own
      | false ↦ elim (is_spent n.now) as (λ b. IsOwn (behind (settled (if b then None else Some (record (with_row o x n.now) { written = n.now.written ++ o ∷ [] })) n))) [ true ↦ own | false ↦ own ]
    ]

pub write_own : (site : ℕ) (o : Oid) (field : ℕ) (v : Value) (n : Nested) → IsOwn n → IsOwn (behind (write site o field v n))
write_own site o field v n own =
    reached_own o (reach site o n.now n.touches) (λ x m. settled (replaced o (with_field field v x) m.now) m) n own (λ x touches. settled_own o (with_field field v x) (record n { touches = touches }) own)

pub read_own : (site : ℕ) (o : Oid) (field : ℕ) (n : Nested) → IsOwn n → IsOwn (behind (read site o field n))
read_own site o field n own = reached_own o (reach site o n.now n.touches) (λ x. gives (field_of field x)) n own (λ x touches. own)

pub create_own : (o : Oid) (x : Object) (n : Nested) → IsOwn n → o.index ≡ index_at o.site n.now → IsOwn (behind (create o x n))
create_own o x n own next =
    elim (is_spent n.now) as (λ b. IsOwn (behind (settled (if b then None else Some (record (with_row o x n.now) { made = n.now.made ++ o ∷ [] })) n))) [
      | true ↦ own
      | false ↦ (made_kept o x n.now own.0 next, own.1)
    ]

pub aborted_own : (n : Nested) → IsOwn n → IsOwn (aborted n)
aborted_own n own = step n.saved own.1
  where
    step : (heaps : List Heap) → AreCounted heaps → IsOwn (back_to heaps n)
    step [] are = own
    step (h ∷ heaps) are = are

pub merged_own : (n : Nested) → IsOwn n → IsOwn (merged n)
merged_own n own = step n.saved own.1
  where
    step : (heaps : List Heap) → AreCounted heaps → IsOwn (kept_from heaps n)
    step [] are = own
    step (h ∷ heaps) are = (own.0, are.1)

-- they are counted whether memory was there or not
pub own_or_kept : (result : Result (Unit {0}) AllocError) (old new next : Nested) → IsOwn old → IsOwn next → OnOk result (new ≡ next) → OnErr result (new ≡ old) → IsOwn new
own_or_kept (Ok u) old new next before after e f = subst IsOwn (sym e) after
own_or_kept (Err a) old new next before after e f = subst IsOwn (sym f) before

-- ---- at the start

pub begun_own : (answers : Answers) → IsOwn (nested_of answers)
begun_own answers = (λ o among. absurd (true≢false (sym among)), tt)

pub over_own : (known : FlatMap) → IsOwn (nested_over known)
over_own known = (λ o among. absurd (true≢false (sym among)), tt)

-- ---- an object is answered

module _ (o : Oid) (version : ℕ) (x : Object) where
  all_kept : (heaps : List Heap) → AreCounted heaps → AreCounted (map (with_row o x) heaps)
  all_kept [] are = tt
  all_kept (h ∷ heaps) are = (are.0, all_kept heaps are.1)

  pub answered_own : (n : Nested) → IsOwn n → IsOwn (answered o version x n)
  answered_own n own = (own.0, all_kept n.saved own.1)
