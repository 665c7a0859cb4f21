-- What a store does with what the worker sends it: it applies the Commit, answers the Fetch by its object, and the Prepare by Yes.
use Rattle.std.proofs.Common.{◌≡◌, inl, inr, ℕ, ◌<◌, ◌≤◌, List, [], ◌∷◌, ◌++◌, map, true, false, not, ◌||◌, IsTrue, cond, lit≤}
use Rattle.std.proofs.Common.{Option, Some, None, refl, sym, ap, ◌∙◌, subst, arith, append-nil, true≢false, if◌then◌else◌}
use Rattle.std.specs.Prelude.{slice_get}
use Rattle.std.specs.List.{AllByRecursion, list_any}
use Rattle.std.proofs.lemmas.Bool.{cases_eq, eq-eqb, or_left}
use Rattle.std.proofs.lemmas.Bool.Decides.{nat_tests}
use Rattle.std.proofs.lemmas.Option.{slice_get_within}
use Rattle.fab_base.specs.declared.entry.Entry.TheVariants as e
use Rattle.fab_base.specs.declared.message.Answer.TheVariants.{Yes, OldTid}
use Rattle.fab_base.specs.declared.message.Items.{Items}
use Rattle.fab_base.specs.declared.message.Message.{Message}
use Rattle.fab_base.specs.declared.message.Message.TheVariants as m
use Rattle.fab_base.specs.declared.message.Why.TheVariants as why
use Rattle.fab_base.specs.declared.object.Oid.{Oid}
use Rattle.fab_base.specs.declared.object.Tid.{Tid}
use Rattle.fab_base.specs.FieldSpelling.{IsTid}
use Rattle.fab_base.specs.MessageSpelling.{spelled}
use Rattle.fab_base.specs.Tids.{is_above}
use Rattle.fab_net.specs.declared.note.Note.TheVariants as note
use Rattle.fab_rights.specs.declared.rights.ClassRights.{ClassRights}
use Rattle.fab_rights.specs.declared.rights.Rights.{Rights}
use Rattle.fab_rights.specs.Computed.{fetches, knows, may_fetch, may_write, writes}
use Rattle.fab_protocol.specs.declared.parts.Parts.{Parts}
use Rattle.fab_protocol.specs.declared.said.Said.{Said}
use Rattle.fab_protocol.specs.declared.sender.Sender.{Sender}
use Rattle.fab_protocol.specs.Parts.{items_at, stores_of}
use Rattle.fab_protocol.specs.Stores.{Prepared, Shelf, behind, does, found, is_own, keeps, keeps_said, last_of, prepared_as, records, replies, sender_in, vote, voted, votes, without}
use Rattle.fab_protocol.specs.Tables.{row_of}
use Rattle.fab_protocol.specs.Versions.{Row, Rows, is_tid, name_of}
use Rattle.fab_protocol.proofs.Senders.{AreRemembered, as_many, sender_at}
use Rattle.fab_protocol.proofs.TableLaws.{row_of_all}
use Rattle.fab_protocol.proofs.Commits.{tid_itself}
use Rattle.fab_world.specs.Machine.{Setting, front_of, is_empty, option_list, rest_of}
use Rattle.fab_world.specs.Serial.{IsSetting}
use Rattle.fab_world.specs.Workers as workers
use Rattle.fab_world.specs.Workers.{Phase}
use Rattle.fab_integrity.proofs.Invariant.{In}
use Rattle.fab_integrity.proofs.Readings.{spelled_so}
use Rattle.fab_integrity.proofs.Transport.{bytes_for}
use Rattle.fab_ended.proofs.Replies.{CanAnswer}
use Rattle.fab_ended.proofs.Short.{object_short}
use Rattle.fab_ended.proofs.Waiting.{read_itself}
use Rattle.fab_alone.proofs.Links.{Asks, IsDue, Link, Owes, Prepares, Queue, Rests, commit_bytes, tid_next}

-- ---- what is known

pub fetched_known : (rights : Rights) (n class : ℕ) → may_fetch rights n class ≡ true → knows rights class ≡ true
fetched_known rights n class h = by (slice_get rights.classes class) refl h
  where
    by : (slot : Option ClassRights) → slice_get rights.classes class ≡ slot → fetches slot n ≡ true → knows rights class ≡ true
    by None e g = absurd (true≢false (sym g))
    by (Some c) e g = let lt = slice_get_within rights.classes class c e in grind (arith, nat_tests, lt)

pub written_known : (rights : Rights) (n class : ℕ) → may_write rights n class ≡ true → knows rights class ≡ true
written_known rights n class h = by (slice_get rights.classes class) refl h
  where
    by : (slot : Option ClassRights) → slice_get rights.classes class ≡ slot → writes slot n ≡ true → knows rights class ≡ true
    by None e g = absurd (true≢false (sym g))
    by (Some c) e g = let lt = slice_get_within rights.classes class c e in grind (arith, nat_tests, lt)

-- ---- queues

-- what goes to one node of one message for it
pub bytes_one : (n : ℕ) (message : Message) → bytes_for n ((n, message) ∷ []) ≡ spelled message ∷ []
bytes_one n message = ap (λ b. map (λ (y : ℕ × Message). spelled y.1) (if b then (n, message) ∷ [] else [])) (eq-eqb n n refl)

-- where nothing is due before it, a message is the front and the last
nothing_due : (n k : ℕ) (table : Rows) (shelf : Shelf) (due : Option Prepared) → [] ≡ commit_bytes due → due ≡ None
nothing_due n k table shelf None h = refl
nothing_due n k table shelf (Some p) h = let no : [] ≡ spelled (m.Commit p.0) ∷ [] = h in absurd (cc)

-- so nothing is prepared, and the table is what the store has
pub record IsClear (n k : ℕ) (table : Rows) (shelf : Shelf) : Type 0 where
  pub prepared : shelf.prepared ≡ []
  pub rows : shelf.rows ≡ table
  pub low : (last_of shelf n).number ≤ k

pub clear : (n k : ℕ) (table : Rows) (shelf : Shelf) → Owes n k table [] shelf → IsClear n k table shelf
clear n k table shelf owes =
    let none = nothing_due n k table shelf owes.due owes.waits in
    record {
      prepared = owes.prepared ∙ ap option_list none;
      rows = ap (λ due. behind (option_list due) shelf.rows) (sym none) ∙ owes.rows;
      low = owes.low;
    }

pub owes_none : (n k : ℕ) (table : Rows) (shelf : Shelf) → IsClear n k table shelf → Owes n k table [] shelf
owes_none n k table shelf c = record { due = None; own = tt; waits = refl; prepared = c.prepared; rows = c.rows; low = c.low }

-- ---- a Commit is applied

as_one : (p : Prepared) → prepared_as p.0 (p ∷ []) ≡ p ∷ []
as_one p = ap (λ b. cond b (p ∷ []) []) (tid_itself p.0)

without_one : (p : Prepared) → without p.0 (p ∷ []) ≡ []
without_one p = ap (λ b. cond (not b) (p ∷ []) []) (tid_itself p.0)

applied : (n k : ℕ) (table : Rows) (shelf : Shelf) (p : Prepared) → shelf.prepared ≡ p ∷ [] → behind (p ∷ []) shelf.rows ≡ table
    → (last_of shelf n).number ≤ k → IsClear n k table (keeps (e.Applied p.0) shelf)
applied n k table shelf p prepared rows low = record {
  prepared = ap (without p.0) prepared ∙ without_one p;
  rows = ap (λ ps. behind (prepared_as p.0 ps) shelf.rows) prepared ∙ ap (λ ps. behind ps shelf.rows) (as_one p) ∙ rows;
  low = low;
}

module _ (rights : Rights) (s n : ℕ) where
  does_commit : (shelf : Shelf) (p : Prepared) → shelf.prepared ≡ p ∷ []
      → does rights s n (m.Commit p.0) shelf ≡ records (e.Applied p.0) (note.Applied p.0 ∷ [])
  does_commit shelf p prepared =
      ap (λ b. if b then records (e.Applied p.0) (note.Applied p.0 ∷ []) else record { entry = None; sends = []; notes = [] })
      (ap (list_any (λ (q : Prepared). is_tid q.0 p.0)) prepared ∙ or_left (is_tid p.0 p.0) false (tid_itself p.0))

  does_fetch : (shelf : Shelf) (t : Tid) (o : Oid) (row : Row) → o.store ≡ s → may_fetch rights n o.class ≡ true → row_of name_of shelf.rows o ≡ Some row
      → does rights s n (m.Fetch t o) shelf ≡ replies n (m.Object t o row.1 row.2)
  does_fetch shelf t o row here allowed there =
      let missing = replies n (m.Deny t o why.Missing) in
      let barred = replies n (m.Deny t o why.Rights) in
      ap (λ b. if not b || not (knows rights o.class) then missing else (if not (may_fetch rights n o.class) then barred else found n t o (row_of name_of shelf.rows o)))
      (eq-eqb o.store s here)
      ∙ ap (λ b. if not b then missing else (if not (may_fetch rights n o.class) then barred else found n t o (row_of name_of shelf.rows o)))
      (fetched_known rights n o.class allowed)
      ∙ ap (λ b. if not b then barred else found n t o (row_of name_of shelf.rows o)) allowed
      ∙ ap (found n t o) there

  does_prepare : (shelf : Shelf) (t : Tid) (items : Items) → is_above t (last_of shelf n) ≡ true → vote rights s n t items shelf ≡ Yes
      → does rights s n (m.Prepare t items) shelf ≡ votes n t Yes (Some (e.Prepared t items))
  does_prepare shelf t items above yes_vote =
      ap (λ b. if not b then votes n t (OldTid (last_of shelf n)) None else votes n t (vote rights s n t items shelf) (Some (voted t items (vote rights s n t items shelf)))) above
      ∙ ap (λ a. votes n t a (Some (voted t items a))) yes_vote

-- ---- behind what it hears

above_last : (n k : ℕ) (l : Tid) → l.boot ≤ 1 → l.number ≤ k → is_above (tid_next n k) l ≡ true
above_last n k l boot number = elim (cases_eq l.boot 1) [
  | inl first ↦ grind (arith, nat_tests)
  | inr other ↦ grind (arith, nat_tests)
]

module _ (S : Setting) (given : IsSetting S) (n s k : ℕ) (parts : Parts) (table : Rows) (shelf : Shelf) (low : n < 64)
    (remembered : AreRemembered shelf.senders) (booted : (last_of shelf n).boot ≤ 1) (can : AllByRecursion CanAnswer shelf.rows) where
  abbrev t : Tid
  t = tid_next n k

  -- the store hears a message of the worker, and the link is as the phase asks
  pub record IsHeard (phase : Phase) (to back : Queue) : Type 0 where
    pub message : Message
    pub read : S.read (front_of to) ≡ Some message
    pub own : is_own n message ≡ true
    pub link : Link S n k parts s table (rest_of to) (back ++ bytes_for n (does S.rights s n message shelf).sends) (keeps_said (does S.rights s n message shelf).entry shelf) phase

  commit_read : (p : Prepared) → IsTid p.0 → S.read (spelled (m.Commit p.0)) ≡ Some (m.Commit p.0)
  commit_read p h = read_itself S given (m.Commit p.0) h (lit≤ tt)

  -- a Commit, with what stands behind it
  module _ (p : Prepared) (own : IsDue n (Some p)) (prepared : shelf.prepared ≡ p ∷ []) (rows : behind (p ∷ []) shelf.rows ≡ table)
      (few : (last_of shelf n).number ≤ k) (phase : Phase) (rest back : Queue)
      (link : Link S n k parts s table rest back (keeps (e.Applied p.0) shelf) phase) where
    heard_commit : IsHeard phase (spelled (m.Commit p.0) ∷ rest) back
    heard_commit = record {
      message = m.Commit p.0;
      read = commit_read p own.0;
      own = eq-eqb p.0.worker n own.1;
      link = subst (λ (x : Said). Link S n k parts s table rest (back ++ bytes_for n x.sends) (keeps_said x.entry shelf) phase) (sym (does_commit S.rights s n shelf p prepared))
          (subst (λ q. Link S n k parts s table rest q (keeps (e.Applied p.0) shelf) phase) (sym (append-nil back)) link);
    }

  -- a store that rests hears its Commit, and rests
  module _ (phase : Phase) (of : (to back : Queue) (shelf : Shelf) → Rests n k table to back shelf → Link S n k parts s table to back shelf phase) where
    rests_hears : (due : Option Prepared) → IsDue n due → shelf.prepared ≡ option_list due → behind (option_list due) shelf.rows ≡ table
        → (last_of shelf n).number ≤ k → (to back : Queue) → to ≡ commit_bytes due → back ≡ [] → IsTrue (not (is_empty to)) → IsHeard phase to back
    rests_hears None own prepared rows few to back waits none some = absurd (true≢false (sym (ap (λ q. not (is_empty q)) (sym waits) ∙ some)))
    rests_hears (Some p) own prepared rows few to back waits none some =
        subst (λ q. IsHeard phase q back) (sym waits)
        (heard_commit p own prepared rows few phase [] back
        (of [] back (keeps (e.Applied p.0) shelf)
        (record { owes = owes_none n k table (keeps (e.Applied p.0) shelf) (applied n k table shelf p prepared rows few); none = none })))

  -- who asks is heard behind its Commit
  module _ (phase : Phase) (asked : Message) (of : (to back : Queue) (shelf : Shelf) → Asks S n k asked table to back shelf → Link S n k parts s table to back shelf phase)
      (read : S.read (spelled asked) ≡ Some asked)
      (alone : (back : Queue) → back ≡ [] → IsClear n k table shelf → IsHeard phase (spelled asked ∷ []) back) where
    asks_hears : (due : Option Prepared) → IsDue n due → shelf.prepared ≡ option_list due → behind (option_list due) shelf.rows ≡ table
        → (last_of shelf n).number ≤ k → (pre to back : Queue) → pre ≡ commit_bytes due → to ≡ pre ++ spelled asked ∷ [] → back ≡ [] → IsHeard phase to back
    asks_hears None own prepared rows few pre to back waits is none =
        subst (λ q. IsHeard phase q back) (sym (is ∙ ap (λ p. p ++ spelled asked ∷ []) waits))
        (alone back none (record { prepared = prepared; rows = rows; low = few }))
    asks_hears (Some p) own prepared rows few pre to back waits is none =
        subst (λ q. IsHeard phase q back) (sym (is ∙ ap (λ p. p ++ spelled asked ∷ []) waits))
        (heard_commit p own prepared rows few phase (spelled asked ∷ []) back
        (of (spelled asked ∷ []) back (keeps (e.Applied p.0) shelf)
        (record {
          pre = [];
          owes = owes_none n k table (keeps (e.Applied p.0) shelf) (applied n k table shelf p prepared rows few);
          waits = refl;
          read = read;
          none = none;
        })))

  nothing_here : (to back : Queue) (phase : Phase) → to ≡ [] → IsTrue (not (is_empty to)) → IsHeard phase to back
  nothing_here to back phase none some = absurd (true≢false (sym (ap (λ q. not (is_empty q)) (sym none) ∙ some)))

  -- ---- a Fetch

  fetch_heard : (o : Oid) → o.store ≡ s → may_fetch S.rights n o.class ≡ true → (row : Row) → row_of name_of table o ≡ Some row
      → S.read (spelled (m.Fetch t o)) ≡ Some (m.Fetch t o) → (back : Queue) → back ≡ [] → IsClear n k table shelf
      → IsHeard (workers.Fetching o) (spelled (m.Fetch t o) ∷ []) back
  fetch_heard o here allowed row there read back none c =
      let found : row_of name_of shelf.rows o ≡ Some row = ap (λ rows. row_of name_of rows o) c.rows ∙ there in
      let body = (spelled_so S given (spelled (m.Fetch t o)) (m.Fetch t o) read).body in
      let answer : CanAnswer row = row_of_all name_of CanAnswer shelf.rows o row can found in
      let reply : S.read (spelled (m.Object t o row.1 row.2)) ≡ Some (m.Object t o row.1 row.2) =
      read_itself S given (m.Object t o row.1 row.2) (body.0, body.1, answer.version, answer.object) (object_short t o row.1 row.2 answer.object) in
      record {
        message = m.Fetch t o;
        read = read;
        own = eq-eqb n n refl;
        link = subst (λ (x : Said). Link S n k parts s table [] (back ++ bytes_for n x.sends) (keeps_said x.entry shelf) (workers.Fetching o))
            (sym (does_fetch S.rights s n shelf t o row here allowed found))
            (inl (
              here,
              inr (record {
                row = row;
                owes = owes_none n k table shelf c;
                none = refl;
                found = there;
                reply = ap (λ q. q ++ bytes_for n ((n, m.Object t o row.1 row.2) ∷ [])) none ∙ bytes_one n (m.Object t o row.1 row.2);
                read = reply;
              }),
            ));
      }

  -- ---- a Prepare

  prepare_heard : (ls : List ℕ) → (IsClear n k table shelf → vote S.rights s n t (items_at parts s) shelf ≡ Yes) → In s ls → In s (stores_of parts) → S.read (spelled (m.Prepare t (items_at parts s))) ≡ Some (m.Prepare t (items_at parts s))
      → (back : Queue) → back ≡ [] → IsClear n k table shelf → IsHeard (workers.Preparing ls) (spelled (m.Prepare t (items_at parts s)) ∷ []) back
  prepare_heard ls says_yes waited part read back none c =
      let items = items_at parts s in
      let after : Shelf = keeps (e.Prepared t items) shelf in
      let last : last_of after n ≡ t =
      ap (λ (x : Sender). x.last) (sender_at shelf.senders n (record (sender_in shelf.senders n) { last = t }) (omega (arith, low, as_many shelf.senders remembered))) in
      record {
        message = m.Prepare t items;
        read = read;
        own = eq-eqb n n refl;
        link = subst (λ (x : Said). Link S n k parts s table [] (back ++ bytes_for n x.sends) (keeps_said x.entry shelf) (workers.Preparing ls))
            (sym (does_prepare S.rights s n shelf t items (above_last n k (last_of shelf n) booted c.low) (says_yes c)))
            (inl (
              waited,
              part,
              inr (record {
                none = refl;
                reply = ap (λ q. q ++ bytes_for n ((n, m.Vote t Yes) ∷ [])) none ∙ bytes_one n (m.Vote t Yes);
                prepared = ap (λ ps. ps ++ (t, items) ∷ []) c.prepared;
                rows = c.rows;
                low = omega (arith, ap (λ (x : Tid). x.number) last);
              }),
            ));
      }

  -- ---- in each phase

  -- whatever waits for the store is heard so
  pub hears_so : (phase : Phase) (there : (o : Oid) → phase ≡ workers.Fetching o → (may_fetch S.rights n o.class ≡ true) × (row : Row) × (o.store ≡ s → row_of name_of table o ≡ Some row))
      (says_yes : (ls : List ℕ) → phase ≡ workers.Preparing ls → IsClear n k table shelf → vote S.rights s n t (items_at parts s) shelf ≡ Yes) (to back : Queue) → Link S n k parts s table to back shelf phase → IsTrue (not (is_empty to)) → IsHeard phase to back
  hears_so workers.Idle there says_yes to back link some =
      let o = link.owes in
      rests_hears workers.Idle (λ q b x r. r) o.due o.own o.prepared o.rows o.low to back o.waits link.none some
  hears_so workers.Evaluating there says_yes to back link some =
      let o = link.owes in
      rests_hears workers.Evaluating (λ q b x r. r) o.due o.own o.prepared o.rows o.low to back o.waits link.none some
  hears_so (workers.Fetching o) there says_yes to back (inr link) some =
      let rests : Rests n k table to back shelf = link.1 in
      let g = rests.owes in
      rests_hears (workers.Fetching o) (λ q b x r. inr (link.0, r)) g.due g.own g.prepared g.rows g.low to back g.waits rests.none some
  hears_so (workers.Fetching o) there says_yes to back (inl (here, inr answers)) some = nothing_here to back (workers.Fetching o) answers.none some
  hears_so (workers.Fetching o) there says_yes to back (inl (here, inl asks)) some =
      let g = asks.owes in
      let f = there o refl in
      asks_hears (workers.Fetching o) (m.Fetch t o) (λ q b x a. inl (here, inl a)) asks.read
      (fetch_heard o here f.0 f.1 (f.2 here) asks.read) g.due g.own g.prepared g.rows g.low asks.pre to back g.waits asks.waits asks.none
  hears_so (workers.Preparing ls) there says_yes to back (inr (inr link)) some =
      let rests : Rests n k table to back shelf = link.2 in
      let g = rests.owes in
      rests_hears (workers.Preparing ls) (λ q b x r. inr (inr (link.0, link.1, r))) g.due g.own g.prepared g.rows g.low to back g.waits rests.none some
  hears_so (workers.Preparing ls) there says_yes to back (inr (inl link)) some =
      let prepares : Prepares n k (items_at parts s) [] table to back shelf = link.2 in
      nothing_here to back (workers.Preparing ls) prepares.none some
  hears_so (workers.Preparing ls) there says_yes to back (inl (waited, part, inr prepares)) some = nothing_here to back (workers.Preparing ls) prepares.none some
  hears_so (workers.Preparing ls) there says_yes to back (inl (waited, part, inl asks)) some =
      let g = asks.owes in
      asks_hears (workers.Preparing ls) (m.Prepare t (items_at parts s)) (λ q b x a. inl (waited, part, inl a)) asks.read
      (prepare_heard ls (says_yes ls refl) waited part asks.read) g.due g.own g.prepared g.rows g.low asks.pre to back g.waits asks.waits asks.none
