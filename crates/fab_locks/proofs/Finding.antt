-- Transactions by their numbers, as a list: which of them a look-up finds, which is the first that passes a test, and what is
-- left when one is put or taken out.
use Rattle.std.proofs.Common.{◌≡◌, ◌↔◌, ℕ, ◌+◌, ◌^◌, ◌≤◌, ◌<◌, ◌==◌, IfSome, IsSome, is_some, Bool, true, false, not, ◌||◌, cond, List, [], ◌∷◌, ◌++◌, Option, Some, None, refl, sym, ap, ◌∙◌, arith}
use Rattle.std.specs.List.{All, AllByRecursion, filter, find}
use Rattle.std.specs.List.Sorted.{IsStrictlySortedBy}
use Rattle.std.specs.Map.{keys_of, values_of, remove_entry}
use Rattle.std.specs.Option.{SomeIff, option_map}
use Rattle.std.specs.declared.cmp.Ordering.{Ordering}
use Rattle.std.specs.declared.cmp.Ordering.TheVariants.{Less, Equal, Greater}
use Rattle.std.specs.Ordering.{nat_cmp, is_eq, is_gt, is_lt, match_ordering}
use Rattle.std.specs.BTreeMap.{BTreeMap, IsOrdered, btree_map_len, get, insert_entry, is_at, keys}
use Rattle.std.proofs.lemmas.Bool.{true≢false, false≢true, eqb-true, false_from_ne_true, or_left, or_right}
use Rattle.std.proofs.lemmas.Bool.Decides.{nat_tests}
use Rattle.std.proofs.lemmas.Cmp.{nat_cmp_total}
use Rattle.std.proofs.lemmas.List.{map-append}
use Rattle.std.proofs.lemmas.List.Elements.{All-weaker, recursion_from_All}
use Rattle.std.proofs.lemmas.Map.{lookup-none}
use Rattle.std.proofs.lemmas.Map.Entries.{length-keys_of, none_below_head}
use Rattle.std.proofs.lemmas.Map.Keys.{ge_from_not_lt, sorted_tail}
use Rattle.std.proofs.lemmas.Map.Views.{All-found}
use Rattle.fab_base.specs.declared.object.Tid.{Tid}
use Rattle.fab_protocol.specs.Versions.{is_tid}
use Rattle.fab_protocol.specs.Stores.{Prepared, prepared_as, without}
use Rattle.fab_locks.specs.Conflicts.{AreDistinct, bars, first_barring, holds_tid}
use Rattle.fab_locks.specs.declared.index.Index.{Index}
use Rattle.fab_locks.specs.Indexes.{IsIndexed, IsLeast, Numbered, has, is_of, names_for, passes, tid_cmp, under}
use Rattle.fab_base.specs.declared.object.Oid.{Oid}
use Rattle.fab_locks.proofs.Keys.{not_above}
use Rattle.fab_locks.proofs.Tids.{absent_tail, kept_here, kept_past, one_tid, prepared_absent, tid_self, without_absent}

-- each entry is what its number finds
abbrev pub Found : (ℕ → Option Prepared) → Numbered → Type 0
Found look es = AllByRecursion (λ e. look e.0 ≡ Some e.1) es

pub all_found : (held : BTreeMap ℕ Prepared) → IsOrdered nat_cmp held → Found (λ n. under n held.entries) held.entries
all_found held s = recursion_from_All (λ e. get nat_cmp held e.0 ≡ Some e.1) held.entries (All-found nat_cmp_total held s)

some_none : (p : Prepared) → Some p ≡ None → ⊥
some_none p e = cc

no_number : (n : ℕ) → None ≡ Some n → ⊥
no_number n e = cc

some_once : (p q : Prepared) → Some p ≡ Some q → p ≡ q
some_once p q e = cc

-- ---- tids among them

-- a transaction that a look-up finds is held
pub held_where : (es : Numbered) (n : ℕ) (t : Tid) → is_of t (under n es) ≡ true → holds_tid t (values_of es) ≡ true
held_where [] n t h = h
held_where (e ∷ es) n t h = step (λ k. held_where es n t k) (is_at (nat_cmp n) e.0) h
  where
    step : (is_of t (under n es) ≡ true → holds_tid t (values_of es) ≡ true) → (b : Bool) → is_of t (cond b (Some e.1) (under n es)) ≡ true
        → (is_tid e.1.0 t || holds_tid t (values_of es)) ≡ true
    step rest true k = or_left (is_tid e.1.0 t) (holds_tid t (values_of es)) k
    step rest false k = or_right (is_tid e.1.0 t) (holds_tid t (values_of es)) (rest k)

-- a tid of which no number is isn't held
pub none_where : (look : ℕ → Option Prepared) (es : Numbered) (t : Tid) → Found look es → ((n : ℕ) → is_of t (look n) ≡ false)
    → holds_tid t (values_of es) ≡ false
none_where look [] t found none = refl
none_where look (e ∷ es) t found none =
    let here : is_tid e.1.0 t ≡ false = sym (ap (is_of t) found.0) ∙ none e.0 in
    ap (λ b. b || holds_tid t (values_of es)) here ∙ none_where look es t found.1 none

-- where no number is of a worker's tid, all stay when its transactions go
pub all_stay : (look : ℕ → Option Prepared) (es : Numbered) (w : ℕ) → Found look es
    → ((t : Tid) (n : ℕ) → t.worker ≡ w → is_of t (look n) ≡ false)
    → filter (λ p. not (p.0.worker == w)) (values_of es) ≡ values_of es
all_stay look [] w found none = refl
all_stay look (e ∷ es) w found none = step (all_stay look es w found.1 none) (e.1.0.worker == w) refl
  where
    step : filter (λ p. not (p.0.worker == w)) (values_of es) ≡ values_of es → (b : Bool) → (e.1.0.worker == w) ≡ b
        → filter (λ p. not (p.0.worker == w)) (e.1 ∷ values_of es) ≡ e.1 ∷ values_of es
    step rest true is =
        let it : is_of e.1.0 (look e.0) ≡ true = ap (is_of e.1.0) found.0 ∙ tid_self e.1.0 in
        absurd (true≢false (sym it ∙ none e.1.0 e.0 (eqb-true e.1.0.worker w is)))
    step rest false is = kept_here (λ p. not (p.0.worker == w)) e.1 (values_of es) (ap not is) ∙ ap (λ l. e.1 ∷ l) rest

-- ---- the first that passes a test

-- the least number that passes it is that of the first transaction that does
pub find_least : (look : ℕ → Option Prepared) (test : Prepared → Bool) (n : ℕ) (p : Prepared) (es : Numbered) → Found look es
    → IsStrictlySortedBy nat_cmp (keys_of es) → under n es ≡ Some p → test p ≡ true
    → ((m : ℕ) (q : Prepared) → look m ≡ Some q → test q ≡ true → n ≤ m) → find test (values_of es) ≡ Some p
find_least look test n p [] found sorted at good_one least = absurd (some_none p (sym at))
find_least look test n p (e ∷ es) found sorted at good_one least =
    by_test (λ k. find_least look test n p es found.1 (sorted_tail nat_cmp e.0 (keys_of es) sorted) k good_one least) (test e.1) refl
  where
    -- the first one passes, so no number below its own is the least
    by_order : (r : Ordering) → nat_cmp n e.0 ≡ r → test e.1 ≡ true → find test (e.1 ∷ values_of es) ≡ Some p
    by_order Less is good = absurd (some_none p (sym at ∙ lookup-none (is_at (nat_cmp n)) (e ∷ es) (none_below_head nat_cmp_total n e es sorted is)))
    by_order Equal is good =
        ap (λ b. cond b (Some e.1) (find test (values_of es))) good
        ∙ sym (ap (λ r. cond (is_eq r) (Some e.1) (under n es)) is)
        ∙ at
    by_order Greater is good = absurd (true≢false (sym (ap is_gt is) ∙ not_above n e.0 (least e.0 e.1 found.0 good)))

    -- it doesn't, so it isn't the one that is found
    past : (b : Bool) → is_at (nat_cmp n) e.0 ≡ b → test e.1 ≡ false → under n es ≡ Some p
    past true is bad =
        let same : e.1 ≡ p = some_once e.1 p (sym (ap (λ b. cond b (Some e.1) (under n es)) is) ∙ at) in
        absurd (true≢false (sym good_one ∙ sym (ap test same) ∙ bad))
    past false is bad = sym (ap (λ b. cond b (Some e.1) (under n es)) is) ∙ at

    by_test : (under n es ≡ Some p → find test (values_of es) ≡ Some p) → (b : Bool) → test e.1 ≡ b → find test (e.1 ∷ values_of es) ≡ Some p
    by_test rest true good = by_order (nat_cmp n e.0) refl good
    by_test rest false bad =
        ap (λ b. cond b (Some e.1) (find test (values_of es))) bad ∙ rest (past (is_at (nat_cmp n) e.0) refl bad)

pub find_none : (look : ℕ → Option Prepared) (test : Prepared → Bool) (es : Numbered) → Found look es
    → ((m : ℕ) (q : Prepared) → look m ≡ Some q → test q ≡ false) → find test (values_of es) ≡ None
find_none look test [] found none = refl
find_none look test (e ∷ es) found none =
    ap (λ b. cond b (Some e.1) (find test (values_of es))) (none e.0 e.1 found.0) ∙ find_none look test es found.1 none

-- ---- one more

abbrev pub AllBelow : ℕ → List ℕ → Type 0
AllBelow n ks = AllByRecursion (λ k. k < n) ks

pub all_below : (n : ℕ) (ks : List ℕ) → All (λ k. k < n) ks → AllBelow n ks
all_below n ks h = recursion_from_All (λ k. k < n) ks h

above : (n m : ℕ) → m < n → nat_cmp n m ≡ Greater
above n m h = grind (arith, nat_tests)

goes_last : (n : ℕ) (p : Prepared) (es : Numbered) → AllBelow n (keys_of es) → insert_entry nat_cmp es n p ≡ es ++ (n, p) ∷ []
goes_last n p [] h = refl
goes_last n p (e ∷ es) h =
    ap (λ r. match_ordering r ((n, p) ∷ e ∷ es) ((e.0, p) ∷ es) (e ∷ insert_entry nat_cmp es n p)) (above n e.0 h.0)
    ∙ ap (λ l. e ∷ l) (goes_last n p es h.1)

pub held_more : (n : ℕ) (p : Prepared) (es new : Numbered) → AllBelow n (keys_of es) → new ≡ insert_entry nat_cmp es n p
    → values_of new ≡ values_of es ++ p ∷ []
held_more n p es new h is = ap values_of (is ∙ goes_last n p es h) ∙ map-append (λ e. e.1) es ((n, p) ∷ [])

pub number_free : (n : ℕ) (es : Numbered) → AllBelow n (keys_of es) → under n es ≡ None
number_free n [] h = refl
number_free n (e ∷ es) h =
    ap (λ r. cond (is_eq r) (Some e.1) (under n es)) (above n e.0 h.0) ∙ number_free n es h.1

-- one above the greatest is above all
pub above_all : (held : BTreeMap ℕ Prepared) (k : ℕ) (r : Option ℕ) → All (λ q. is_lt (nat_cmp k q) ≡ false) (keys held) → SomeIff r (k + 1 < 2 ^ 64) (k + 1)
    → IfSome r (λ n. All (λ q. q < n) (keys held))
above_all held k None h e = tt
above_all held k (Some n) h e =
    All-weaker (λ q. is_lt (nat_cmp k q) ≡ false) (λ q. q < n) (λ q a. omega (arith, ge_from_not_lt k q a, e.1)) (keys held) h

pub above_none : {X : Type 0} (held : BTreeMap ℕ Prepared) (r : Option X) → IsSome r ↔ (0 < btree_map_len held) → r ≡ None → All (λ q. q < 0) (keys held)
above_none held r variant none k d inside =
    absurd (false≢true (sym (ap is_some none) ∙ variant.1 (omega (arith, length-keys_of held.entries, inside))))

-- ---- one less

module _ (n : ℕ) (t : Tid) (p : Prepared) (tid_is : is_tid p.0 t ≡ true) where
  -- the tid is found behind the first, so it isn't the first's
  apart_here : (e : ℕ × Prepared) (es : Numbered) → holds_tid e.1.0 (values_of es) ≡ false → under n es ≡ Some p
      → (b : Bool) → is_tid e.1.0 t ≡ b → b ≡ false
  apart_here e es absent at true is =
      absurd (true≢false (sym (held_where es n t (ap (is_of t) at ∙ tid_is)) ∙ absent_tail e.1 (values_of es) t absent is))
  apart_here e es absent at false is = refl

  pub held_less : (es : Numbered) → AreDistinct (values_of es) → under n es ≡ Some p
      → values_of (remove_entry (is_at (nat_cmp n)) es) ≡ without t (values_of es)
  held_less [] distinct at = refl
  held_less (e ∷ es) distinct at = step (λ k. held_less es distinct.1 k) (is_at (nat_cmp n) e.0) at
    where
      step : (under n es ≡ Some p → values_of (remove_entry (is_at (nat_cmp n)) es) ≡ without t (values_of es)) → (b : Bool) → cond b (Some e.1) (under n es) ≡ Some p
          → values_of (cond b es (e ∷ remove_entry (is_at (nat_cmp n)) es)) ≡ without t (e.1 ∷ values_of es)
      step rest true it =
          let same : e.1 ≡ p = some_once e.1 p it in
          let is : is_tid e.1.0 t ≡ true = ap (λ q. is_tid q.0 t) same ∙ tid_is in
          sym (kept_past (λ q. not (is_tid q.0 t)) e.1 (values_of es) (ap not is) ∙ without_absent t (values_of es) (absent_tail e.1 (values_of es) t distinct.0 is))
      step rest false it =
          let isnt : is_tid e.1.0 t ≡ false = apart_here e es distinct.0 it (is_tid e.1.0 t) refl in
          ap (λ l. e.1 ∷ l) (rest it) ∙ sym (kept_here (λ q. not (is_tid q.0 t)) e.1 (values_of es) (ap not isnt))

  pub given_back : (es : Numbered) → AreDistinct (values_of es) → under n es ≡ Some p
      → prepared_as t (values_of es) ≡ (t, p.1) ∷ []
  given_back [] distinct at = absurd (some_none p (sym at))
  given_back (e ∷ es) distinct at = step (λ k. given_back es distinct.1 k) (is_at (nat_cmp n) e.0) at
    where
      step : (under n es ≡ Some p → prepared_as t (values_of es) ≡ (t, p.1) ∷ []) → (b : Bool) → cond b (Some e.1) (under n es) ≡ Some p → prepared_as t (e.1 ∷ values_of es) ≡ (t, p.1) ∷ []
      step rest true it =
          let same : e.1 ≡ p = some_once e.1 p it in
          let is : is_tid e.1.0 t ≡ true = ap (λ q. is_tid q.0 t) same ∙ tid_is in
          kept_here (λ q. is_tid q.0 t) e.1 (values_of es) is
          ∙ ap (λ l. e.1 ∷ l) (prepared_absent t (values_of es) (absent_tail e.1 (values_of es) t distinct.0 is))
          ∙ ap (λ q. q ∷ []) same
          ∙ ap (λ u. (u, p.1) ∷ []) (one_tid p.0 t tid_is)
      step rest false it =
          kept_past (λ q. is_tid q.0 t) e.1 (values_of es) (apart_here e es distinct.0 it (is_tid e.1.0 t) refl) ∙ rest it

-- ---- by the indexes

module _ (es : Numbered) (index : Index) (is : IsIndexed es index) (found : Found (λ n. under n es) es) where
  -- a tid has a number where it is held
  pub held_if_numbered : (t : Tid) → is_some (get tid_cmp index.places t) ≡ holds_tid t (values_of es)
  held_if_numbered t = step (get tid_cmp index.places t) refl
    where
      step : (r : Option ℕ) → get tid_cmp index.places t ≡ r → is_some r ≡ holds_tid t (values_of es)
      step None h = sym (none_where (λ n. under n es) es t found (λ n. false_from_ne_true (is_of t (under n es)) (λ k. no_number n (sym h ∙ is.agrees.all t n k))))
      step (Some n) h = sym (held_where es n t (is.agrees.found t n h))

  pub not_numbered : (t : Tid) → holds_tid t (values_of es) ≡ false → get tid_cmp index.places t ≡ None
  not_numbered t absent = step (get tid_cmp index.places t) refl
    where
      step : (r : Option ℕ) → get tid_cmp index.places t ≡ r → get tid_cmp index.places t ≡ None
      step None h = h
      step (Some n) h = absurd (true≢false (sym (held_where es n t (is.agrees.found t n h)) ∙ absent))

  -- where no tid of a worker has a number, all stay when its transactions go
  pub all_others : (w : ℕ) → ((t : Tid) → t.worker ≡ w → get tid_cmp index.places t ≡ None) → filter (λ p. not (p.0.worker == w)) (values_of es) ≡ values_of es
  all_others w none =
      all_stay (λ n. under n es) es w found (λ t n mine. false_from_ne_true (is_of t (under n es)) (λ k. no_number n (sym (none t mine) ∙ is.agrees.all t n k)))

  -- what bars a name has it among the names for one that asks so
  module _ (o : Oid) (writing : Bool) where
    barring_is : (n : ℕ) → has (names_for writing index) o n ≡ passes (λ items. bars o writing items) (under n es)
    barring_is n = by_writing writing
      where
        by_writing : (w : Bool) → has (names_for w index) o n ≡ passes (λ items. bars o w items) (under n es)
        by_writing true = is.agrees.named o n
        by_writing false = is.agrees.changed o n

    bars_under : (n : ℕ) (p : Prepared) → under n es ≡ Some p → has (names_for writing index) o n ≡ bars o writing p.1
    bars_under n p at = barring_is n ∙ ap (passes (λ items. bars o writing items)) at

    pub none_bars : ((n : ℕ) → has (names_for writing index) o n ≡ false) → first_barring o writing (values_of es) ≡ None
    none_bars none =
        ap (option_map (λ p. p.0))
        (find_none (λ n. under n es) (λ p. bars o writing p.1) es found (λ n p at. sym (bars_under n p at) ∙ none n))

    pub least_bars : (n : ℕ) (p : Prepared) → IsLeast (has (names_for writing index) o) n → under n es ≡ Some p → first_barring o writing (values_of es) ≡ Some p.0
    least_bars n p h at =
        ap (option_map (λ q. q.0))
        (find_least (λ m. under m es) (λ q. bars o writing q.1) n p es found is.ordered at (sym (bars_under n p at) ∙ h.holds)
        (λ m q there good. h.least m (bars_under m q there ∙ good)))

    -- and is held
    pub least_is_held : (n : ℕ) → IsLeast (has (names_for writing index) o) n → under n es ≡ None → ⊥
    least_is_held n h none = true≢false (sym h.holds ∙ barring_is n ∙ ap (passes (λ items. bars o writing items)) none)
