-- No version of an object at a store outside the set comes to its end: each is raised by a Prepare, and so many are sent as attempts
-- are begun and messages posted.
use Rattle.std.proofs.Common.{◌≡◌, ◌⊎◌, inl, inr, ℕ, suc, ◌+◌, ◌≤◌, ◌<◌, Bool, true, false, not, ◌&&◌, ◌==◌, cond}
use Rattle.std.proofs.Common.{IsTrue, List, [], ◌∷◌, ◌++◌, map, length, Option, Some, None, refl, sym, ap, ◌∙◌, subst, true≢false, arith}
use Rattle.std.specs.Prelude.{if◌then◌else◌, is_some}
use Rattle.std.specs.List.{filter}
use Rattle.std.proofs.lemmas.Bool.{and_parts, both_ways, cases_eq, eq-eqb, eqb-true, ne_eqb}
use Rattle.std.proofs.lemmas.List.{append-nil}
use Rattle.fab_base.specs.declared.entry.Entry.{Entry}
use Rattle.fab_base.specs.declared.object.Oid.{Oid}
use Rattle.fab_base.specs.declared.object.Object.{Object}
use Rattle.fab_base.specs.declared.message.Message.{Message}
use Rattle.fab_base.specs.declared.message.Message.TheVariants as m
use Rattle.fab_base.specs.FlatMap.{FlatMap, is_same}
use Rattle.fab_base.specs.MessageSpelling.{spelled}
use Rattle.fab_net.specs.declared.event.Inner.{Inner}
use Rattle.fab_net.specs.declared.event.Inner.TheVariants as i
use Rattle.fab_net.specs.declared.note.Commit.{Commit}
use Rattle.fab_rights.specs.Computed.{is_node, is_worker}
use Rattle.fab_protocol.specs.Stores as stores
use Rattle.fab_protocol.specs.Stores.{Shelf, keeps_said, shelf_of}
use Rattle.fab_protocol.specs.Versions.{begun, version_of}
use Rattle.fab_world.specs.Machine.{Setting, World, Node, Form, Does, Cuts, Fails, Posts, Crashes, Never}
use Rattle.fab_world.specs.Machine.{at_start, act, at_node, bytes_to, cut, down, enabled, front_of, is_empty, is_evaluating}
use Rattle.fab_world.specs.Machine.{lacks, lands, may, node_of, option_list, posted, ready, record_at, rest_of, shelf, steps, waiting_for, with_at, of_store, kept, parts}
use Rattle.fab_world.specs.Machine as machine
use Rattle.fab_world.specs.Serial.{IsSetting, attempts_at, attempts_in}
use Rattle.fab_world.specs.Workers as workers
use Rattle.fab_world.specs.Workers.{Act, Attempt, Phase, fresh, takes, wakes}
use Rattle.fab_release.specs.Isolation.{posts_at}
use Rattle.fab_release.specs.Sights.{Sight, Public}
use Rattle.fab_isolation.specs.Law.{IsShared}
use Rattle.fab_integrity.proofs.Invariant.{IsStore}
use Rattle.fab_integrity.proofs.Changes.{Changes, cuts_changes, does_changes, down_changes, fails_changes, if_whole}
use Rattle.fab_integrity.proofs.Frames.{shelf_same}
use Rattle.fab_integrity.proofs.Lasting.{shelf_more, shelf_start}
use Rattle.fab_integrity.proofs.Readings.{same_kind, kind_at}
use Rattle.fab_integrity.proofs.Roles.{heard_by_store, no_worker}
use Rattle.fab_integrity.proofs.Steps.{Holds, lacks_none, queues_whole, ready_beside}
use Rattle.fab_integrity.proofs.Transport.{bytes_for, front_and_rest, other_queue, taken_queue}
use Rattle.fab_integrity.proofs.Worlds.{at_same, at_other}
use Rattle.fab_shadow.proofs.Shadow.{never}
use Rattle.fab_shadow.proofs.Asks.{asks, asks_act, asks_in, asks_of, count_append, is_prepare, may_ask}
use Rattle.fab_shadow.proofs.Raises.{hears_rises, measure, one_if}

-- how often a number stands there
abbrev pub times : ℕ → List ℕ → ℕ
times n ns = length (filter (λ m. m == n) ns)

-- ---- a list with one number more, or one less

abbrev add_if : Bool → ℕ → List ℕ → List ℕ
add_if true n ns = n ∷ ns
add_if false n ns = ns

times_here : (n : ℕ) (ns : List ℕ) → times n (n ∷ ns) ≡ suc (times n ns)
times_here n ns = ap (λ b. length (cond b (n ∷ filter (λ m. m == n) ns) (filter (λ m. m == n) ns))) (eq-eqb n n refl)

times_there : (x n : ℕ) (ns : List ℕ) → (x ≡ n → ⊥) → times n (x ∷ ns) ≡ times n ns
times_there x n ns apart = ap (λ b. length (cond b (x ∷ filter (λ m. m == n) ns) (filter (λ m. m == n) ns))) (ne_eqb x n apart)

length_added : (b : Bool) (n : ℕ) (ns : List ℕ) → length (add_if b n ns) ≡ one_if b + length ns
length_added true n ns = omega arith
length_added false n ns = omega arith

times_added : (b : Bool) (n : ℕ) (ns : List ℕ) → times n (add_if b n ns) ≡ one_if b + times n ns
times_added true n ns = let h = times_here n ns in omega (arith, h)
times_added false n ns = omega arith

times_others : (b : Bool) (x n : ℕ) (ns : List ℕ) → (n ≡ x → ⊥) → times n (add_if b x ns) ≡ times n ns
times_others true x n ns apart = times_there x n ns (λ e. apart (sym e))
times_others false x n ns apart = refl

abbrev drop_one : ℕ → List ℕ → List ℕ
drop_one n [] = []
drop_one n (x ∷ xs) = if x == n then xs else x ∷ drop_one n xs

dropped_length : (n : ℕ) (xs : List ℕ) → 1 ≤ times n xs → suc (length (drop_one n xs)) ≡ length xs
dropped_length n [] h = absurd (omega (arith, h))
dropped_length n (x ∷ xs) h = by (x == n) (dropped_length n xs) h
  where
    by : (b : Bool) → (1 ≤ times n xs → suc (length (drop_one n xs)) ≡ length xs) → 1 ≤ length (cond b (x ∷ filter (λ m. m == n) xs) (filter (λ m. m == n) xs))
        → suc (length (if b then xs else x ∷ drop_one n xs)) ≡ suc (length xs)
    by true later some = refl
    by false later some = let rest = later some in omega (arith, rest)

dropped_times : (n : ℕ) (xs : List ℕ) → 1 ≤ times n xs → suc (times n (drop_one n xs)) ≡ times n xs
dropped_times n [] h = absurd (omega (arith, h))
dropped_times n (x ∷ xs) h = by (x == n) refl (dropped_times n xs) h
  where
    by : (b : Bool) → (x == n) ≡ b → (1 ≤ times n xs → suc (times n (drop_one n xs)) ≡ times n xs) → 1 ≤ length (cond b (x ∷ filter (λ m. m == n) xs) (filter (λ m. m == n) xs))
        → suc (times n (if b then xs else x ∷ drop_one n xs)) ≡ length (cond b (x ∷ filter (λ m. m == n) xs) (filter (λ m. m == n) xs))
    by true e later some = refl
    by false e later some =
        let rest = later some in
        let skip = times_there x n (drop_one n xs) (λ same. true≢false (sym (eq-eqb x n same) ∙ e)) in
        omega (arith, rest, skip)

dropped_others : (n k : ℕ) (xs : List ℕ) → (k ≡ n → ⊥) → times k (drop_one n xs) ≡ times k xs
dropped_others n k [] apart = refl
dropped_others n k (x ∷ xs) apart = by (x == n) refl (dropped_others n k xs apart)
  where
    by : (b : Bool) → (x == n) ≡ b → times k (drop_one n xs) ≡ times k xs → times k (if b then xs else x ∷ drop_one n xs) ≡ times k (x ∷ xs)
    by true e later = sym (times_there x k xs (λ same. apart (sym same ∙ eqb-true x n e)))
    by false e later = elim (x == k) as (λ c. length (cond c (x ∷ filter (λ m. m == k) (drop_one n xs)) (filter (λ m. m == k) (drop_one n xs)))
        ≡ length (cond c (x ∷ filter (λ m. m == k) xs) (filter (λ m. m == k) xs))) [
          | true ↦ omega (arith, later)
          | false ↦ later
        ]

module _ (S : Setting) where
  -- Prepares that wait on a way
  abbrev pub waiting_asks : List (List ℕ) → ℕ
  waiting_asks queue = length (filter (λ bytes. asks (S.read bytes)) queue)

  -- for each Prepare that waits for the store or may still be sent a node is listed, and there is room for these and what is prepared
  pub record Slack (w : World) (s count : ℕ) : Type 0 where
    pub left : List ℕ
    pub listed : (n : ℕ) → waiting_asks (w.queue n s) + may_ask (w.node n).attempt.phase ≤ times n left
    pub room : (o : Oid) → version_of (shelf S w s).rows o + length (shelf S w s).prepared + length left ≤ suc count

module _ (S : Setting) where
  -- ---- what moves leave of the slack

  -- node m may ask once more, or not
  slack_acts : (w v : World) (s count m : ℕ) (more : Bool) → shelf S v s ≡ shelf S w s
      → ((x : ℕ) → (x ≡ m → ⊥) → waiting_asks S (v.queue x s) + may_ask (v.node x).attempt.phase ≤ waiting_asks S (w.queue x s) + may_ask (w.node x).attempt.phase)
      → waiting_asks S (v.queue m s) + may_ask (v.node m).attempt.phase ≤ waiting_asks S (w.queue m s) + may_ask (w.node m).attempt.phase + one_if more
      → Slack S w s count → Slack S v s (count + one_if more)
  slack_acts w v s count m more same others here h = record {
    left = add_if more m h.left;
    listed = λ n. elim (cases_eq n m) [
      | inl e ↦ subst (λ z. waiting_asks S (v.queue z s) + may_ask (v.node z).attempt.phase ≤ times z (add_if more m h.left)) (sym e)
          (let old = h.listed m in let all = times_added more m h.left in omega (arith, old, all, here))
      | inr ne ↦ let old = h.listed n in let all = times_others more m n h.left ne in let less = others n ne in omega (arith, old, all, less)
    ];
    room = λ o.
        let old = h.room o in
        let long = length_added more m h.left in
        let still = ap (measure o) same in
        omega (arith, old, long, still);
  }

  -- the store takes a Prepare of node a, or another message
  slack_takes : (w v : World) (s count a : ℕ) (takes : Bool)
      → ((x : ℕ) → (x ≡ a → ⊥) → waiting_asks S (v.queue x s) + may_ask (v.node x).attempt.phase ≤ waiting_asks S (w.queue x s) + may_ask (w.node x).attempt.phase)
      → waiting_asks S (v.queue a s) + may_ask (v.node a).attempt.phase + one_if takes ≤ waiting_asks S (w.queue a s) + may_ask (w.node a).attempt.phase
      → ((o : Oid) → measure o (shelf S v s) ≤ measure o (shelf S w s) + one_if takes)
      → Slack S w s count → Slack S v s count
  slack_takes w v s count a false others here rises h = record {
    left = h.left;
    listed = λ n. elim (cases_eq n a) [
      | inl e ↦ subst (λ z. waiting_asks S (v.queue z s) + may_ask (v.node z).attempt.phase ≤ times z h.left) (sym e) (let old = h.listed a in omega (arith, old, here))
      | inr ne ↦ let old = h.listed n in let less = others n ne in omega (arith, old, less)
    ];
    room = λ o. let old = h.room o in let more = rises o in omega (arith, old, more);
  }
  slack_takes w v s count a true others here rises h =
      let old = h.listed a in
      let some : 1 ≤ times a h.left = omega (arith, old, here) in
      record {
        left = drop_one a h.left;
        listed = λ n. elim (cases_eq n a) [
          | inl e ↦ subst (λ z. waiting_asks S (v.queue z s) + may_ask (v.node z).attempt.phase ≤ times z (drop_one a h.left)) (sym e)
              (let gone = dropped_times a h.left some in omega (arith, old, here, gone))
          | inr ne ↦ let was = h.listed n in let less = others n ne in let same = dropped_others a n h.left ne in omega (arith, was, less, same)
        ];
        room = λ o. let was = h.room o in let more = rises o in let gone = dropped_length a h.left some in omega (arith, was, more, gone);
      }

  slack_more : (w : World) (s count more : ℕ) → Slack S w s count → Slack S w s (count + more)
  slack_more w s count more h = record { left = h.left; listed = h.listed; room = λ o. let old = h.room o in omega (arith, old) }

  -- ---- what waits of an act

  prepare_kind : IsSetting S → (message : Message) → asks (S.read (spelled message)) ≡ true → is_prepare message ≡ true
  prepare_kind given message h = by (S.read (spelled message)) refl h
    where
      of_kind : (sent : Message) → kind_at (spelled sent) ≡ 4 → is_prepare sent ≡ true
      of_kind (m.Prepare t items) k = refl
      of_kind (m.Fetch t o) k = absurd (omega (arith, k))
      of_kind (m.Object t o version x) k = absurd (omega (arith, k))
      of_kind (m.Deny t o reason) k = absurd (omega (arith, k))
      of_kind (m.Vote t answer) k = absurd (omega (arith, k))
      of_kind (m.Commit t) k = absurd (omega (arith, k))
      of_kind (m.Abort t) k = absurd (omega (arith, k))
      of_kind (m.Boot b) k = absurd (omega (arith, k))
      of_kind (m.Inquire t) k = absurd (omega (arith, k))

      read_as : (read : Message) → S.read (spelled message) ≡ Some read → is_prepare read ≡ true → is_prepare message ≡ true
      read_as (m.Prepare t items) e is = of_kind message (same_kind S given message (m.Prepare t items) e)
      read_as (m.Fetch t o) e is = absurd (true≢false (sym is))
      read_as (m.Object t o version x) e is = absurd (true≢false (sym is))
      read_as (m.Deny t o reason) e is = absurd (true≢false (sym is))
      read_as (m.Vote t answer) e is = absurd (true≢false (sym is))
      read_as (m.Commit t) e is = absurd (true≢false (sym is))
      read_as (m.Abort t) e is = absurd (true≢false (sym is))
      read_as (m.Boot b) e is = absurd (true≢false (sym is))
      read_as (m.Inquire t) e is = absurd (true≢false (sym is))

      by : (found : Option Message) → S.read (spelled message) ≡ found → asks found ≡ true → is_prepare message ≡ true
      by None e is = absurd (true≢false (sym is))
      by (Some read) e is = read_as read e is

  waits_step : (s : ℕ) (y : ℕ × Message) (rest : List (ℕ × Message)) → waiting_asks S (bytes_for s rest) ≤ asks_in s rest → (asks (S.read (spelled y.1)) ≡ true → is_prepare y.1 ≡ true)
      → (b : Bool) → (y.0 == s) ≡ b → (c : Bool) → asks (S.read (spelled y.1)) ≡ c → (d : Bool) → is_prepare y.1 ≡ d
      → waiting_asks S (map (λ (z : ℕ × Message). spelled z.1) (cond b (y ∷ filter (λ z. z.0 == s) rest) (filter (λ z. z.0 == s) rest)))
      ≤ length (cond (b && d) (y ∷ filter (asks_of s) rest) (filter (asks_of s) rest))
  waits_step s y rest less is false e c f d g = less
  waits_step s y rest less is true e false f true g =
      let here : waiting_asks S (spelled y.1 ∷ bytes_for s rest) ≡ waiting_asks S (bytes_for s rest) =
      ap (λ c. length (cond c (spelled y.1 ∷ filter (λ bytes. asks (S.read bytes)) (bytes_for s rest)) (filter (λ bytes. asks (S.read bytes)) (bytes_for s rest)))) f in
      omega (arith, less, here)
  waits_step s y rest less is true e false f false g =
      let here : waiting_asks S (spelled y.1 ∷ bytes_for s rest) ≡ waiting_asks S (bytes_for s rest) =
      ap (λ c. length (cond c (spelled y.1 ∷ filter (λ bytes. asks (S.read bytes)) (bytes_for s rest)) (filter (λ bytes. asks (S.read bytes)) (bytes_for s rest)))) f in
      omega (arith, less, here)
  waits_step s y rest less is true e true f true g =
      let here : waiting_asks S (spelled y.1 ∷ bytes_for s rest) ≡ suc (waiting_asks S (bytes_for s rest)) =
      ap (λ c. length (cond c (spelled y.1 ∷ filter (λ bytes. asks (S.read bytes)) (bytes_for s rest)) (filter (λ bytes. asks (S.read bytes)) (bytes_for s rest)))) f in
      omega (arith, less, here)
  waits_step s y rest less is true e true f false g = absurd (both_ways (is_prepare y.1) g (is f))

  waits_few : IsSetting S → (s : ℕ) (sends : List (ℕ × Message)) → waiting_asks S (bytes_for s sends) ≤ asks_in s sends
  waits_few given s [] = omega arith
  waits_few given s (y ∷ ys) = waits_step s y ys (waits_few given s ys) (prepare_kind given y.1) (y.0 == s) refl (asks (S.read (spelled y.1))) refl (is_prepare y.1) refl

  waits_append : (xs ys : List (List ℕ)) → waiting_asks S (xs ++ ys) ≡ waiting_asks S xs + waiting_asks S ys
  waits_append xs ys = count_append (λ bytes. asks (S.read bytes)) xs ys

  -- the front of a queue is one of those that wait
  front_waits : (q : List (List ℕ)) → IsTrue (not (is_empty q)) → waiting_asks S (rest_of q) + one_if (asks (S.read (front_of q))) ≡ waiting_asks S q
  front_waits q some =
      let all = ap (waiting_asks S) (front_and_rest q some) in
      let one = by (asks (S.read (front_of q))) in
      omega (arith, all, one)
    where
      by : (b : Bool) → length (cond b (front_of q ∷ filter (λ bytes. asks (S.read bytes)) (rest_of q)) (filter (λ bytes. asks (S.read bytes)) (rest_of q)))
          ≡ waiting_asks S (rest_of q) + one_if b
      by true = omega arith
      by false = omega arith

begun_step : (root : Oid × Object) (roots : FlatMap) (o : Oid) → version_of (map begun roots) o ≤ 1 → (b : Bool) → (if b then 1 else version_of (map begun roots) o) ≤ 1
begun_step root roots o low true = omega arith
begun_step root roots o low false = low

-- roots begin at version 1
begun_low : (roots : FlatMap) (o : Oid) → version_of (map begun roots) o ≤ 1
begun_low [] o = omega arith
begun_low (root ∷ roots) o = begun_step root roots o (begun_low roots o) (is_same root.0 o)

attempts_are : (e : Inner) → (b : Bool) × (attempts_in e ≡ one_if b)
attempts_are (i.Begin n) = (true, refl)
attempts_are (i.Recover n) = (true, refl)
attempts_are (i.Resume n) = (false, refl)
attempts_are (i.Deliver a b) = (false, refl)
attempts_are (i.Idle n s) = (false, refl)

module _ (S : Setting) (sight : Sight) where
  abbrev pub Bounded : World → ℕ → Type 0
  Bounded w count = (s : ℕ) → IsStore S sight.has never s → Slack S w s count

  module _ (P : Public) (shared : IsShared S sight P) where
    pub bounded_start : Bounded (at_start S) 0
    bounded_start s me =
        let here = shelf_start S.roots s in
        record {
          left = [];
          listed = λ n. omega arith;
          room = λ o. let same = ap (measure o) here in let low = begun_low (filter (λ (root : Oid × Object). root.0.store == s) S.roots) o in omega (arith, same, low);
        }

    module _ (w : World) (cs : List Commit) (count : ℕ) (holds : Holds S sight.has never w cs) (s : ℕ) (me : IsStore S sight.has never s) (h : Slack S w s count) where
      -- nothing changes at the store but that queues to it lose something
      slack_less : (v : World) → (v.node s).entries ≡ (w.node s).entries
          → ((x : ℕ) → waiting_asks S (v.queue x s) + may_ask (v.node x).attempt.phase ≤ waiting_asks S (w.queue x s) + may_ask (w.node x).attempt.phase) → Slack S v s count
      slack_less v entries less =
          slack_takes S w v s count 0 false (λ x ne. less x) (let one = less 0 in omega (arith, one))
          (λ o. let same = ap (measure o) (shelf_same S sight.has never w v s entries) in omega (arith, same)) h

      -- ---- an event of another node

      module _ (e : Inner) (can : IsTrue (may S w e)) (apart : s ≡ node_of e → ⊥) where
        abbrev n : ℕ
        n = node_of e

        beside : (v : World) (entry : Option Entry) (a : Attempt) → Changes w v n entry a
            → ((x : ℕ) → (x ≡ n → ⊥) → waiting_asks S (v.queue x s) ≤ waiting_asks S (w.queue x s))
            → waiting_asks S (v.queue n s) + may_ask a.phase ≤ waiting_asks S (w.queue n s) + may_ask (w.node n).attempt.phase + attempts_in e
            → Slack S v s (count + attempts_in e)
        beside v entry a c less few =
            let more = attempts_are e in
            let attempt : may_ask (v.node n).attempt.phase ≡ may_ask a.phase = ap (λ (b : Attempt). may_ask b.phase) c.attempt in
            let one = more.1 in
            subst (λ k. Slack S v s (count + k)) (sym more.1)
            (slack_acts S w v s count n more.0 (shelf_same S sight.has never w v s (c.other_entries s apart))
            (λ x ne. let same = ap (λ (b : Attempt). may_ask b.phase) (c.other_attempt x ne) in let low = less x ne in omega (arith, same, low))
            (omega (arith, few, attempt, one)) h)

        abbrev done : World
        done = lands S (ready S w e) n (act S w e)

        done_waits : waiting_asks S (done.queue n s) ≤ waiting_asks S (w.queue n s) + asks_in s (act S w e).sends
        done_waits =
            let q = queues_whole S w e (act S w e) in
            let all = ap (waiting_asks S) (q.behind s) in
            let parts = waits_append S ((ready S w e).queue n s) (q.more s) in
            let same = ap (waiting_asks S) (ready_beside S w e n s apart) in
            let few = waits_few S shared.setting s (act S w e).sends in
            elim (q.all s) [
              | inl sent ↦ let one = ap (waiting_asks S) sent in omega (arith, all, parts, same, few, one)
              | inr none ↦ let one = ap (waiting_asks S) none in omega (arith, all, parts, same, one)
            ]

        others_done : Slack S done s (count + attempts_in e)
        others_done =
            let q = queues_whole S w e (act S w e) in
            beside done (act S w e).entry (act S w e).attempt (does_changes S w e)
            (λ x ne. let same = ap (waiting_asks S) (q.beside x s ne ∙ ready_beside S w e x s apart) in omega (arith, same))
            (let waits = done_waits in let few = (asks_act S s w e).few can in omega (arith, waits, few))

        down_waits : (v : World) → ((x : ℕ) → v.queue x s ≡ w.queue x s) → (entry : Option Entry) → Changes w v n entry fresh → Slack S v s (count + attempts_in e)
        down_waits v same entry c =
            beside v entry fresh c (λ x ne. let all = ap (waiting_asks S) (same x) in omega (arith, all)) (let all = ap (waiting_asks S) (same n) in omega (arith, all))

      -- ---- a node that goes down

      fallen : (v : World) (n : ℕ) → Changes w v n None fresh → ((x : ℕ) → waiting_asks S (v.queue x s) ≤ waiting_asks S (w.queue x s)) → Slack S v s count
      fallen v n c less = slack_less v (entries (cases_eq s n)) each
        where
          entries : (s ≡ n) ⊎ (s ≡ n → ⊥) → (v.node s).entries ≡ (w.node s).entries
          entries (inl e) = ap (λ z. (v.node z).entries) e ∙ c.entries ∙ append-nil (w.node n).entries ∙ ap (λ z. (w.node z).entries) (sym e)
          entries (inr ne) = c.other_entries s ne

          phase : (x : ℕ) → (x ≡ n) ⊎ (x ≡ n → ⊥) → may_ask (v.node x).attempt.phase ≤ may_ask (w.node x).attempt.phase
          phase x (inl e) = let none : may_ask (v.node x).attempt.phase ≡ 0 = ap (λ z. may_ask (v.node z).attempt.phase) e ∙ ap (λ (b : Attempt). may_ask b.phase) c.attempt in omega (arith, none)
          phase x (inr ne) = let same = ap (λ (b : Attempt). may_ask b.phase) (c.other_attempt x ne) in omega (arith, same)

          each : (x : ℕ) → waiting_asks S (v.queue x s) + may_ask (v.node x).attempt.phase ≤ waiting_asks S (w.queue x s) + may_ask (w.node x).attempt.phase
          each x = let one = less x in let two = phase x (cases_eq x n) in omega (arith, one, two)

      down_queue : (u : World) (n x : ℕ) → waiting_asks S ((down S u n).queue x s) ≤ waiting_asks S (u.queue x s)
      down_queue u n x = elim (s == n) as (λ b. waiting_asks S (if b then [] else u.queue x s) ≤ waiting_asks S (u.queue x s)) [ true ↦ omega arith | false ↦ omega arith ]

      -- ---- the store itself

      not_worker : is_worker S.rights s ≡ false
      not_worker = no_worker S shared.setting s me.kind

      heard_entry : (a : ℕ) (heard : Option Message) → (machine.hears S w a s heard).entry ≡ (stores.hears S.rights s a heard (shelf S w s)).entry
      heard_entry a heard = ap (λ (x : Act). x.entry) (heard_by_store S shared.setting w s a me.kind heard)

      module _ (a : ℕ) (can : IsTrue (may S w (i.Deliver a s))) where
        abbrev e : Inner
        e = i.Deliver a s

        abbrev heard : Option Message
        heard = S.read (front_of (w.queue a s))

        front : waiting_asks S (rest_of (w.queue a s)) + one_if (asks heard) ≡ waiting_asks S (w.queue a s)
        front = front_waits S (w.queue a s) (and_parts _ _ can).1

        -- its record raises no more than a Prepare
        record_rises : (v : World) → (v.node s).entries ≡ (w.node s).entries ++ option_list (act S w e).entry → (o : Oid)
            → measure o (shelf S v s) ≤ measure o (shelf S w s) + one_if (asks heard)
        record_rises v entries o =
            let now = ap (measure o) (ap (shelf_of S.roots s) entries ∙ shelf_more S.roots s (w.node s).entries (act S w e).entry
            ∙ ap (λ entry. keeps_said entry (shelf S w s)) (heard_entry a heard)) in
            let most = hears_rises S.rights s a (shelf S w s) (holds.inv.store s me) o heard in
            omega (arith, now, most)

        quiet : (asks_in s (act S w e).sends ≡ 0) × (may_ask (act S w e).attempt.phase ≡ 0)
        quiet =
            let few = (asks_act S s w e).few can in
            let idle : may_ask (w.node s).attempt.phase ≡ 0 = ap may_ask (holds.idle s me) in
            (omega (arith, few, idle), omega (arith, few, idle))

        abbrev heard_world : World
        heard_world = lands S (ready S w e) s (act S w e)

        -- what waits for it waited before, but for the front
        waits_still : (x : ℕ) → (x ≡ s) ⊎ (x ≡ s → ⊥) → waiting_asks S (heard_world.queue x s) ≤ waiting_asks S ((ready S w e).queue x s)
        waits_still x (inr ne) = let same = ap (waiting_asks S) ((queues_whole S w e (act S w e)).beside x s ne) in omega (arith, same)
        waits_still x (inl here) =
            subst (λ z. waiting_asks S (heard_world.queue z s) ≤ waiting_asks S ((ready S w e).queue z s)) (sym here)
            (let q = queues_whole S w e (act S w e) in
            let all = ap (waiting_asks S) (q.behind s) in
            let parts = waits_append S ((ready S w e).queue s s) (q.more s) in
            let few = waits_few S shared.setting s (act S w e).sends in
            let none = quiet.0 in
            elim (q.all s) [
              | inl sent ↦ let one = ap (waiting_asks S) sent in omega (arith, all, parts, few, none, one)
              | inr nothing ↦ let one = ap (waiting_asks S) nothing in omega (arith, all, parts, one)
            ])

        phases : (x : ℕ) → (x ≡ s) ⊎ (x ≡ s → ⊥) → may_ask (heard_world.node x).attempt.phase ≤ may_ask (w.node x).attempt.phase
        phases x (inl here) =
            let none : may_ask (heard_world.node x).attempt.phase ≡ may_ask (act S w e).attempt.phase =
            ap (λ z. may_ask (heard_world.node z).attempt.phase) here ∙ ap (λ (b : Attempt). may_ask b.phase) (does_changes S w e).attempt in
            let zero_now = quiet.1 in
            omega (arith, none, zero_now)
        phases x (inr ne) = let same = ap (λ (b : Attempt). may_ask b.phase) ((does_changes S w e).other_attempt x ne) in omega (arith, same)

        heard_done : Slack S heard_world s count
        heard_done =
            slack_takes S w heard_world s count a (asks heard)
            (λ x ne.
            let one = waits_still x (cases_eq x s) in
            let same = ap (waiting_asks S) (other_queue S w a s x s (λ p. ne p.0)) in
            let two = phases x (cases_eq x s) in
            omega (arith, one, same, two))
            (let one = waits_still a (cases_eq a s) in
            let same = ap (waiting_asks S) (taken_queue S w a s) in
            let two = phases a (cases_eq a s) in
            let all = front in
            omega (arith, one, same, two, all))
            (λ o. record_rises heard_world (does_changes S w e).entries o) h

        -- its record is cut
        cut_done : (keep : ℕ) (b : Bool) → (keep == length (record_at S w e)) ≡ b → Slack S (steps S w (Cuts keep e)) s count
        cut_done keep b whole =
            let v = steps S w (Cuts keep e) in
            let c = cuts_changes S w keep e b whole in
            let gone = λ (x : ℕ). ap (waiting_asks S) (at_same ((at_node S (ready S w e) s (cut S keep (act S w e).entry)).queue x) s []) in
            let all = front in
            by v b c gone all
          where
            phase : (v : World) (b : Bool) → Changes w v s (if_whole S b (act S w e).entry) fresh → (x : ℕ) → (x ≡ s) ⊎ (x ≡ s → ⊥)
                → may_ask (v.node x).attempt.phase ≤ may_ask (w.node x).attempt.phase
            phase v b c x (inl here) =
                let none : may_ask (v.node x).attempt.phase ≡ 0 = ap (λ z. may_ask (v.node z).attempt.phase) here ∙ ap (λ (b : Attempt). may_ask b.phase) c.attempt in
                omega (arith, none)
            phase v b c x (inr ne) = let same = ap (λ (b : Attempt). may_ask b.phase) (c.other_attempt x ne) in omega (arith, same)

            by : (v : World) (b : Bool) → Changes w v s (if_whole S b (act S w e).entry) fresh → ((x : ℕ) → waiting_asks S (v.queue x s) ≡ 0)
                → waiting_asks S (rest_of (w.queue a s)) + one_if (asks heard) ≡ waiting_asks S (w.queue a s) → Slack S v s count
            by v true c gone all =
                slack_takes S w v s count a (asks heard)
                (λ x ne. let none = gone x in let two = phase v true c x (cases_eq x s) in omega (arith, none, two))
                (let none = gone a in let two = phase v true c a (cases_eq a s) in omega (arith, none, two, all))
                (λ o. record_rises v c.entries o) h
            by v false c gone all =
                slack_less v (c.entries ∙ append-nil (w.node s).entries)
                (λ x. let none = gone x in let two = phase v false c x (cases_eq x s) in omega (arith, none, two))

      -- it recovers, and asks
      wakes_entry : (act S w (i.Recover s)).entry ≡ None
      wakes_entry = ap (λ b. (if b then wakes S.rights S.cache s (kept S w s) else of_store S (w.node s).attempt (stores.asks (shelf S w s))).entry) not_worker

      wakes_done : IsTrue (may S w (i.Recover s)) → Slack S (steps S w (Does (i.Recover s))) s (count + 1)
      wakes_done can =
          let e = i.Recover s in
          let v = steps S w (Does e) in
          let q = queues_whole S w e (act S w e) in
          let c = does_changes S w e in
          let phase : may_ask (v.node s).attempt.phase ≡ may_ask (act S w e).attempt.phase = ap (λ (b : Attempt). may_ask b.phase) c.attempt in
          let all = ap (waiting_asks S) (q.behind s) in
          let parts = waits_append S (w.queue s s) (q.more s) in
          let few = waits_few S shared.setting s (act S w e).sends in
          let asked = (asks_act S s w e).few can in
          slack_acts S w v s count s true
          (shelf_same S sight.has never w v s (c.entries ∙ ap (λ entry. (w.node s).entries ++ option_list entry) wakes_entry ∙ append-nil (w.node s).entries))
          (λ x ne.
          let same = ap (waiting_asks S) (q.beside x s ne) in
          let two = ap (λ (b : Attempt). may_ask b.phase) (c.other_attempt x ne) in
          omega (arith, same, two))
          (elim (q.all s) [
            | inl sent ↦ let one = ap (waiting_asks S) sent in omega (arith, all, parts, few, asked, phase, one)
            | inr none ↦ let one = ap (waiting_asks S) none in omega (arith, all, parts, asked, phase, one)
          ])
          h

      -- ---- each of its events

      done_here : (e : Inner) → IsTrue (may S w e) → s ≡ node_of e → Slack S (steps S w (Does e)) s (count + attempts_in e)
      done_here (i.Begin x) can at =
          absurd (both_ways (is_worker S.rights x) (subst (λ z. is_worker S.rights z ≡ false) at not_worker) (and_parts _ _ (and_parts _ _ (and_parts _ _ can).0).0).1)
      done_here (i.Resume x) can at = absurd (true≢false (sym (and_parts _ _ can).1 ∙ ap is_evaluating (subst (λ z. (w.node z).attempt.phase ≡ workers.Idle) at (holds.idle s me))))
      done_here (i.Idle x z) can at =
          absurd (lacks_none z (w.node x).attempt.phase (subst (λ y. (w.node y).attempt.phase ≡ workers.Idle) at (holds.idle s me)) (and_parts _ _ (and_parts _ _ can).0).1)
      done_here (i.Deliver a x) can at =
          subst (λ z. IsTrue (may S w (i.Deliver a z)) → Slack S (steps S w (Does (i.Deliver a z))) s (count + 0)) at
          (λ may. slack_more S (steps S w (Does (i.Deliver a s))) s count 0 (heard_done a may)) can
      done_here (i.Recover x) can at = subst (λ z. IsTrue (may S w (i.Recover z)) → Slack S (steps S w (Does (i.Recover z))) s (count + 1)) at wakes_done can

      cut_here : (keep : ℕ) (e : Inner) → IsTrue (may S w e) → is_some (act S w e).entry ≡ true → s ≡ node_of e → Slack S (steps S w (Cuts keep e)) s (count + attempts_in e)
      cut_here keep (i.Begin x) can some at =
          absurd (both_ways (is_worker S.rights x) (subst (λ z. is_worker S.rights z ≡ false) at not_worker) (and_parts _ _ (and_parts _ _ (and_parts _ _ can).0).0).1)
      cut_here keep (i.Resume x) can some at = absurd (true≢false (sym (and_parts _ _ can).1 ∙ ap is_evaluating (subst (λ z. (w.node z).attempt.phase ≡ workers.Idle) at (holds.idle s me))))
      cut_here keep (i.Idle x z) can some at =
          absurd (lacks_none z (w.node x).attempt.phase (subst (λ y. (w.node y).attempt.phase ≡ workers.Idle) at (holds.idle s me)) (and_parts _ _ (and_parts _ _ can).0).1)
      cut_here keep (i.Deliver a x) can some at =
          subst (λ z. IsTrue (may S w (i.Deliver a z)) → Slack S (steps S w (Cuts keep (i.Deliver a z))) s (count + 0)) at
          (λ may. slack_more S (steps S w (Cuts keep (i.Deliver a s))) s count 0 (cut_done a may keep (keep == length (record_at S w (i.Deliver a s))) refl)) can
      cut_here keep (i.Recover x) can some at =
          absurd (true≢false (sym some ∙ subst (λ z. is_some (act S w (i.Recover z)).entry ≡ false) at (ap is_some wakes_entry)))

      -- a hostile node posts one message
      posted_waits : (b d c : Bool) (post : ℕ × List ℕ) → waiting_asks S (if b then (if d then map (λ x. x.1) (cond c (post ∷ []) []) else []) else []) ≤ 1
      posted_waits true true true post =
          elim (asks (S.read post.1)) as (λ z. length (cond z (post.1 ∷ []) []) ≤ 1) [ true ↦ omega arith | false ↦ omega arith ]
      posted_waits true true false post = omega arith
      posted_waits true false c post = omega arith
      posted_waits false d c post = omega arith

      posts_done : (x : ℕ) (posts : List (ℕ × List ℕ)) → Slack S (posted S w x posts) s (count + 1)
      posts_done x [] = slack_more S w s count 1 h
      posts_done x (post ∷ more) =
          let v = posted S w x (post ∷ more) in
          let new = waiting_for S w s (post ∷ []) in
          let few = posted_waits (not (S.hostile s) && (w.node s).up) (is_node S.rights s) (post.0 == s) post in
          let all = ap (waiting_asks S) (ap (λ (f : ℕ → List (List ℕ)). f s) (at_same w.queue x (λ b. w.queue x b ++ waiting_for S w b (post ∷ [])))) in
          let parts = waits_append S (w.queue x s) new in
          slack_acts S w v s count x true refl
          (λ z ne. let same = ap (waiting_asks S) (ap (λ (f : ℕ → List (List ℕ)). f s) (at_other w.queue x (λ b. w.queue x b ++ waiting_for S w b (post ∷ [])) z ne)) in omega (arith, same))
          (omega (arith, all, parts, few)) h

    bounded_by : (w : World) (cs : List Commit) (count : ℕ) → Holds S sight.has never w cs → (s : ℕ) → IsStore S sight.has never s → Slack S w s count → (form : Form)
        → IsTrue (enabled S w form) → Slack S (steps S w form) s (count + attempts_at form + posts_at form)
    bounded_by w cs count holds s me h (Does e) can =
        slack_more S (steps S w (Does e)) s (count + attempts_in e) 0 (elim (cases_eq s (node_of e)) [
          | inl at ↦ done_here w cs count holds s me h e can at
          | inr apart ↦ others_done w cs count holds s me h e can apart
        ])
    bounded_by w cs count holds s me h (Cuts keep e) can =
        let p = and_parts _ _ (and_parts _ _ can).0 in
        slack_more S (steps S w (Cuts keep e)) s (count + attempts_in e) 0 (elim (cases_eq s (node_of e)) [
          | inl at ↦ cut_here w cs count holds s me h keep e p.0 p.1 at
          | inr apart ↦ down_waits w cs count holds s me h e p.0 apart (steps S w (Cuts keep e))
              (λ x. at_other ((at_node S (ready S w e) (node_of e) (cut S keep (act S w e).entry)).queue x) (node_of e) [] s apart ∙ ready_beside S w e x s apart)
              (if_whole S (keep == length (record_at S w e)) (act S w e).entry) (cuts_changes S w keep e (keep == length (record_at S w e)) refl)
        ])
    bounded_by w cs count holds s me h (Fails keep e) can =
        slack_more S (steps S w (Fails keep e)) s (count + attempts_in e) 0 (slack_more S (steps S w (Fails keep e)) s count (attempts_in e)
        (fallen w cs count holds s me h (steps S w (Fails keep e)) (node_of e) (fails_changes S w keep e) (λ x. down_queue w cs count holds s me h w (node_of e) x)))
    bounded_by w cs count holds s me h (Crashes n) can =
        slack_more S (steps S w (Crashes n)) s (count + 0) 0 (slack_more S (steps S w (Crashes n)) s count 0
        (fallen w cs count holds s me h (steps S w (Crashes n)) n (down_changes S w n) (λ x. down_queue w cs count holds s me h w n x)))
    bounded_by w cs count holds s me h (Posts x) can =
        subst (Slack S (steps S w (Posts x)) s) (omega arith) (posts_done w cs count holds s me h x (w.posts x))
    bounded_by w cs count holds s me h Never can = absurd (true≢false (sym can))

    pub bounded_step : (w : World) (cs : List Commit) (form : Form) (count : ℕ) → Holds S sight.has never w cs → IsTrue (enabled S w form) → Bounded w count
        → Bounded (steps S w form) (count + attempts_at form + posts_at form)
    bounded_step w cs form count holds can h s me = bounded_by w cs count holds s me (h s me) form can

    pub bounded_low : (w : World) (count : ℕ) → count ≤ 4000010000 → Bounded w count → (s : ℕ) → IsStore S sight.has never s → (o : Oid)
        → version_of (shelf S w s).rows o < 4294967295
    bounded_low w count few h s me o = let room = (h s me).room o in omega (arith, few, room)
