-- What stands before a Boot in the queue from a worker to a store.
--
-- A message changes what a store has prepared and its last tids as `Behind` says; what it leaves of the queue is the order.
-- The Boot that recovery sends stands behind the Commits that it tells again, which is what keeps a decision from being dropped.
use Rattle.std.proofs.Common.{◌≡◌, ◌⊎◌, ℕ, zero, suc, ◌+◌, ◌<◌, ◌≤◌, List, [], ◌∷◌, ◌++◌, map, length}
use Rattle.std.proofs.Common.{Bool, true, false, not, cond, ◌&&◌, ◌==◌, Option, Some, None}
use Rattle.std.proofs.Common.{refl, sym, ap, ◌∙◌, subst, inl, inr, arith, append-nil}
use Rattle.std.specs.List.{filter, flat_map, range_with_len}
use Rattle.std.proofs.lemmas.Bool.{and_from, cases_eq, cases_lt, both_ways, eqb-true, eq-eqb, ne_eqb, not-true}
use Rattle.std.proofs.lemmas.List.{set_past, map-append}
use Rattle.std.proofs.lemmas.List.Elements.{filter-append}
use Rattle.fab_base.specs.declared.object.Tid.{Tid}
use Rattle.fab_base.specs.declared.message.Answer.{Answer}
use Rattle.fab_base.specs.declared.message.Answer.TheVariants.{Yes}
use Rattle.fab_base.specs.declared.message.Items.{Items}
use Rattle.fab_base.specs.declared.message.Message.{Message}
use Rattle.fab_base.specs.declared.message.Message.TheVariants as m
use Rattle.fab_base.specs.declared.entry.Entry.TheVariants as e
use Rattle.fab_base.specs.FieldSpelling.{IsTid}
use Rattle.fab_base.specs.MessageSpelling.{spelled}
use Rattle.fab_base.specs.Tids.{is_above}
use Rattle.fab_net.specs.declared.note.Commit.{Commit}
use Rattle.fab_rights.specs.declared.rights.Rights.{Rights}
use Rattle.fab_rights.specs.Computed.{is_store, is_worker, stores_in}
use Rattle.fab_protocol.specs.declared.parts.Decision.{Decision}
use Rattle.fab_protocol.specs.declared.sender.Sender.{Sender}
use Rattle.fab_protocol.specs.Parts.{stores_of}
use Rattle.fab_protocol.specs.Stores as stores
use Rattle.fab_protocol.specs.Stores.{Shelf, Prepared, last_of, sender_in, with_last, with_boot, start_of, shelf_of, keeps, keeps_said, without}
use Rattle.fab_protocol.specs.Stores.{is_prepared, is_own, silent, vote, voted, does}
use Rattle.fab_protocol.specs.Versions.{is_tid}
use Rattle.fab_protocol.proofs.Records.{worker_below, last_at, last_other}
use Rattle.fab_protocol.proofs.Senders.{sender_at, sender_other}
use Rattle.fab_protocol.proofs.StoreActs.{answered, is_due}
use Rattle.fab_protocol.proofs.Commits.{tid_itself}
use Rattle.fab_world.specs.Machine.{Setting, World, at_start, kept, shelf, down, option_list}
use Rattle.fab_world.specs.Serial.{IsSetting}
use Rattle.fab_world.specs.Workers.{to_all, wakes}
use Rattle.fab_integrity.proofs.Invariant.{In, State, deals, parts_by, Standing, standing, limit, rank_of, IsWorker, IsStore, Inv}
use Rattle.fab_integrity.proofs.Invariant.{TakesPart, Before, Boots, Ordered, decision_of}
use Rattle.fab_integrity.proofs.Lists.{in_append, in_right, in_one, in_filter, filter_in, in_map, map_in, in_any, any_in}
use Rattle.fab_integrity.proofs.Lists.{split_at, in_middle, one_split, in_flat, flat_in}
use Rattle.fab_integrity.proofs.Worlds.{IsAsBefore, down_entries}
use Rattle.fab_integrity.proofs.Tids.{above_rank, limit_asleep, early_spelled}
use Rattle.fab_integrity.proofs.Readings.{commit_back, boot_back, commit_no_prepare, commit_no_boot}
use Rattle.fab_integrity.proofs.Lasting.{shelf_more}
use Rattle.fab_integrity.proofs.Frames.{store_is_other, shelf_same}
use Rattle.fab_integrity.proofs.Deals.{deal_of}
use Rattle.fab_integrity.proofs.Transport.{bytes_for, to_all_is}

-- ---- what a message changes of a store

-- it was prepared before, and no Commit of it was heard
pub record Remains (a : ℕ) (heard : Option Message) (before : Shelf) (p : Prepared) : Type 0 where
  pub listed : In p before.prepared
  pub untold : (t : Tid) → heard ≡ Some (m.Commit t) → p.0 ≡ t → p.0.worker ≡ a → ⊥

-- its Prepare was heard, and it is new
pub record Appears (a : ℕ) (heard : Option Message) (before : Shelf) (p : Prepared) : Type 0 where
  pub worker : p.0.worker ≡ a
  pub is : heard ≡ Some (m.Prepare p.0 p.1)
  pub new : is_above p.0 (last_of before a) ≡ true

-- the last tid is that of a Prepare that was heard, or of a Boot
pub record IsAsked (a : ℕ) (heard : Option Message) (after : Shelf) : Type 0 where
  pub tid : Tid
  pub items : Items
  pub is : heard ≡ Some (m.Prepare tid items)
  pub last : last_of after a ≡ tid

-- or of a Boot
pub record IsBooted (a : ℕ) (heard : Option Message) (after : Shelf) : Type 0 where
  pub boot : ℕ
  pub is : heard ≡ Some (m.Boot boot)
  pub last : (last_of after a).boot ≡ boot

-- the last tid of a is what it was, or as was heard
abbrev pub LastIs : ℕ → Option Message → Shelf → Shelf → Type 0
LastIs a heard before after = (last_of after a ≡ last_of before a) ⊎ (IsAsked a heard after ⊎ IsBooted a heard after)

-- behind what node a said
pub record Behind (a : ℕ) (heard : Option Message) (before after : Shelf) : Type 0 where
  pub prepared : (p : Prepared) → In p after.prepared → Remains a heard before p ⊎ Appears a heard before p
  pub others : (n : ℕ) → (n ≡ a → ⊥) → last_of after n ≡ last_of before n
  pub last : LastIs a heard before after

one_commit : (t u : Tid) → Some (m.Commit t) ≡ Some (m.Commit u) → t ≡ u
one_commit t u e = cc

module _ (a : ℕ) where
  -- nothing changes
  nothing_changes : (heard : Option Message) (before : Shelf)
      → ((t : Tid) (p : Prepared) → heard ≡ Some (m.Commit t) → In p before.prepared → p.0 ≡ t → p.0.worker ≡ a → ⊥)
      → Behind a heard before before
  nothing_changes heard before none = record {
    prepared = λ p h. inl (record { listed = h; untold = λ t e same own. none t p e h same own });
    others = λ n ne. refl;
    last = inl refl;
  }

  -- fewer are prepared, by a message that is no Commit
  fewer : (heard : Option Message) (before : Shelf) (ps : List Prepared) → ((t : Tid) → heard ≡ Some (m.Commit t) → ⊥)
      → ((p : Prepared) → In p ps → In p before.prepared) → Behind a heard before (record before { prepared = ps })
  fewer heard before ps none sub = record {
    prepared = λ p h. inl (record { listed = sub p h; untold = λ t e same own. none t e });
    others = λ n ne. refl;
    last = inl refl;
  }

  gone : (t : Tid) (ps : List Prepared) (p : Prepared) → In p (without t ps) → In p ps × (p.0 ≡ t → ⊥)
  gone t ps p h =
      let r = in_filter (λ (q : Prepared). not (is_tid q.0 t)) p ps h in
      (r.0, λ same. both_ways (is_tid p.0 t) (not-true (is_tid p.0 t) r.1) (subst (λ z. is_tid z t ≡ true) (sym same) (tid_itself t)))

  behind_applied : (t : Tid) (before : Shelf) → Behind a (Some (m.Commit t)) before (keeps (e.Applied t) before)
  behind_applied t before = record {
    prepared = λ p h.
        let r = gone t before.prepared p h in
        inl (record { listed = r.0; untold = λ u f same own. r.1 (same ∙ sym (one_commit t u f)) });
    others = λ n ne. refl;
    last = inl refl;
  }

  -- the last tid, once one of the sender is noted
  noted : (senders : List Sender) (t : Tid) → t.worker ≡ a
      → ((sender_in (with_last t senders) a).last ≡ (sender_in senders a).last) ⊎ ((sender_in (with_last t senders) a).last ≡ t)
  noted senders t own = elim (cases_lt t.worker (length senders)) [
    | inl low ↦ inr (subst (λ n. (sender_in (with_last t senders) n).last ≡ t) own (last_at senders t low))
    | inr high ↦ inl (ap (λ (xs : List Sender). (sender_in xs a).last) (set_past senders t.worker (record (sender_in senders t.worker) { last = t }) high))
  ]

  noted_last : (t : Tid) (items : Items) (before : Shelf) (ps : List Prepared) → t.worker ≡ a
      → LastIs a (Some (m.Prepare t items)) before (record before { prepared = ps; senders = with_last t before.senders })
  noted_last t items before ps own = elim (noted before.senders t own) [
    | inl as_it_was ↦ inl as_it_was
    | inr is ↦ inr (inl (record { tid = t; items = items; is = refl; last = is }))
  ]

  behind_refused : (t : Tid) (items : Items) (before : Shelf) → t.worker ≡ a → Behind a (Some (m.Prepare t items)) before (keeps (e.Refused t) before)
  behind_refused t items before own = record {
    prepared = λ p h. inl (record { listed = h; untold = λ u f same mine. absurd (cc) });
    others = λ n ne. last_other before.senders t n (λ f. ne (f ∙ own));
    last = noted_last t items before before.prepared own;
  }

  behind_prepared : (t : Tid) (items : Items) (before : Shelf) → t.worker ≡ a → is_above t (last_of before a) ≡ true
      → Behind a (Some (m.Prepare t items)) before (keeps (e.Prepared t items) before)
  behind_prepared t items before own new = record {
    prepared = λ p h. elim (in_append p before.prepared ((t, items) ∷ []) h) [
      | inl old ↦ inl (record { listed = old; untold = λ u f same mine. absurd (cc) })
      | inr one ↦
          let is : p ≡ (t, items) = in_one p (t, items) one in
          inr (record {
            worker = ap (λ (q : Prepared). q.0.worker) is ∙ own;
            is = sym (ap (λ (q : Prepared). Some (m.Prepare q.0 q.1)) is);
            new = subst (λ (q : Prepared). is_above q.0 (last_of before a) ≡ true) (sym is) new;
          })
    ];
    others = λ n ne. last_other before.senders t n (λ f. ne (f ∙ own));
    last = noted_last t items before (before.prepared ++ (t, items) ∷ []) own;
  }

  behind_voted : (t : Tid) (items : Items) (answer : Answer) (before : Shelf) → t.worker ≡ a → is_above t (last_of before a) ≡ true
      → Behind a (Some (m.Prepare t items)) before (keeps (voted t items answer) before)
  behind_voted t items Yes before own new = behind_prepared t items before own new
  behind_voted t items _ before own new = behind_refused t items before own

  booted_last : (b : ℕ) (before : Shelf) (ps : List Prepared)
      → LastIs a (Some (m.Boot b)) before (record before { prepared = ps; senders = with_boot a b before.senders })
  booted_last b before ps = elim (cases_lt a (length before.senders)) [
    | inl low ↦
        let is = ap (λ (x : Sender). x.last.boot) (sender_at before.senders a (record { last = start_of a b; boot = b }) low) in
        inr (inr (record { boot = b; is = refl; last = is }))
    | inr high ↦ inl (ap (λ (xs : List Sender). (sender_in xs a).last) (set_past before.senders a (record { last = start_of a b; boot = b }) high))
  ]

  behind_booted : (b : ℕ) (before : Shelf) → Behind a (Some (m.Boot b)) before (keeps (e.BootSeen a b) before)
  behind_booted b before = record {
    prepared = λ p h. inl (record { listed = (in_filter (λ (q : Prepared). not (q.0.worker == a)) p before.prepared h).0; untold = λ u f same mine. absurd (cc) });
    others = λ n ne. ap (λ (x : Sender). x.last) (sender_other before.senders a n (record { last = start_of a b; boot = b }) ne);
    last = booted_last b before (filter (λ p. not (p.0.worker == a)) before.prepared);
  }

  module _ (rights : Rights) (s : ℕ) where
    -- a Commit of the sender's, of what is prepared, is applied
    is_applied : (message : Message) (before : Shelf) → is_worker rights a ≡ true → (t : Tid) (p : Prepared) → Some message ≡ Some (m.Commit t)
        → In p before.prepared → p.0 ≡ t → p.0.worker ≡ a → (is_worker rights a && is_own a message && is_due rights s a before message) ≡ true
    is_applied message before kind t p e listed same mine =
        let commit : message ≡ m.Commit t = cc in
        subst (λ x. (is_worker rights a && is_own a x && is_due rights s a before x) ≡ true) (sym commit)
        (and_from (is_worker rights a && (t.worker == a)) (is_prepared t before)
        (and_from (is_worker rights a) (t.worker == a) kind (eq-eqb t.worker a (ap (λ (u : Tid). u.worker) (sym same) ∙ mine)))
        (in_any (λ (q : Prepared). is_tid q.0 t) p before.prepared listed (subst (λ z. is_tid z t ≡ true) (sym same) (tid_itself t))))

    -- whatever a worker says
    pub behind_hears : (heard : Option Message) (before : Shelf) → is_worker rights a ≡ true
        → Behind a heard before (keeps_said (stores.hears rights s a heard before).entry before)
    behind_hears None before kind = nothing_changes None before (λ t p f. absurd (cc))
    behind_hears (Some message) before kind =
        answered rights s a before (λ said. Behind a (Some message) before (keeps_said said.entry before)) message (record {
          rests = λ h. nothing_changes (Some message) before (λ t p e listed same mine. both_ways _ h (is_applied message before kind t p e listed same mine));
          lacks = λ t o h. for_it h.is (nothing_changes (Some (m.Fetch t o)) before (λ u p f. absurd (cc)));
          bars = λ t o h. for_it h.is (nothing_changes (Some (m.Fetch t o)) before (λ u p f. absurd (cc)));
          shows = λ t o row h there. for_it h.is (nothing_changes (Some (m.Fetch t o)) before (λ u p f. absurd (cc)));
          too_late = λ t items h. for_it h.is (nothing_changes (Some (m.Prepare t items)) before (λ u p f. absurd (cc)));
          votes_on = λ t items h above. for_it h.is (behind_voted t items (vote rights s a t items before) before (eqb-true t.worker a h.sender) above);
          applies = λ t h there. for_it h.is (behind_applied t before);
          releases = λ t h there. for_it h.is (fewer (Some (m.Abort t)) before (without t before.prepared) (λ u f. cc) (λ p i. (gone t before.prepared p i).0));
          boots = λ b h later. for_it h.is (behind_booted b before);
        })
      where
        for_it : {own : Message} {after : Shelf} → message ≡ own → Behind a (Some own) before after → Behind a (Some message) before after
        for_it {own} {after} is h = subst (λ x. Behind a (Some x) before after) (sym is) h

    -- what a node that is no worker says changes nothing
    pub stranger_hears : (heard : Option Message) (before : Shelf) → is_worker rights a ≡ false
        → keeps_said (stores.hears rights s a heard before).entry before ≡ before
    stranger_hears None before kind = refl
    stranger_hears (Some message) before kind =
        ap (λ k. keeps_said (cond (k && is_own a message) (does rights s a message before) silent).entry before) kind

one_boot : (b c : ℕ) → Some (m.Boot b) ≡ Some (m.Boot c) → b ≡ c
one_boot b c e = cc

-- ---- what recovery sends to one store

abbrev told : List Decision → List (ℕ × Message)
told ds = flat_map (λ d. to_all d.stores (m.Commit d.tid)) ds

bytes_both : (s : ℕ) (xs ys : List (ℕ × Message)) → bytes_for s (xs ++ ys) ≡ bytes_for s xs ++ bytes_for s ys
bytes_both s xs ys =
    ap (map (λ (y : ℕ × Message). spelled y.1)) (filter-append (λ (y : ℕ × Message). y.0 == s) xs ys)
    ∙ map-append (λ (y : ℕ × Message). spelled y.1) (filter (λ (y : ℕ × Message). y.0 == s) xs) (filter (λ (y : ℕ × Message). y.0 == s) ys)

told_in : (ds : List Decision) (y : ℕ × Message) → In y (told ds) → (t : Tid) × (y.1 ≡ m.Commit t)
told_in ds y h =
    let r = in_flat (λ (d : Decision). to_all d.stores (m.Commit d.tid)) y ds h in
    (r.0.tid, to_all_is r.0.stores (m.Commit r.0.tid) y r.2)

in_told : (ds : List Decision) (d : Decision) (s : ℕ) → In d ds → In s d.stores → In (s, m.Commit d.tid) (told ds)
in_told ds d s h i =
    flat_in (λ (d : Decision). to_all d.stores (m.Commit d.tid)) (s, m.Commit d.tid) d ds h (map_in (λ (z : ℕ). (z, m.Commit d.tid)) s d.stores i)

-- what is told to a store are Commits
all_commits : (ds : List Decision) (s : ℕ) (bytes : List ℕ) → In bytes (bytes_for s (told ds)) → (t : Tid) × (bytes ≡ spelled (m.Commit t))
all_commits ds s bytes h =
    let r = in_map (λ (y : ℕ × Message). spelled y.1) bytes (filter (λ (y : ℕ × Message). y.0 == s) (told ds)) h in
    let f = in_filter (λ (y : ℕ × Message). y.0 == s) r.0 (told ds) r.1 in
    let c = told_in ds r.0 f.0 in
    (c.0, r.2 ∙ ap spelled c.1)

commit_among : (ds : List Decision) (d : Decision) (s : ℕ) → In d ds → In s d.stores → In (spelled (m.Commit d.tid)) (bytes_for s (told ds))
commit_among ds d s h i =
    map_in (λ (y : ℕ × Message). spelled y.1) (s, m.Commit d.tid) (filter (λ (y : ℕ × Message). y.0 == s) (told ds))
    (filter_in (λ (y : ℕ × Message). y.0 == s) (s, m.Commit d.tid) (told ds) (in_told ds d s h i) (eq-eqb s s refl))

-- what is sent to some numbers that pass a test, from a number on, comes to each once at most
abbrev spell_all : List (ℕ × Message) → List (List ℕ)
spell_all sends = map (λ (y : ℕ × Message). spelled y.1) sends

abbrev to_one : ℕ → List (ℕ × Message) → List (ℕ × Message)
to_one s sends = filter (λ (y : ℕ × Message). y.0 == s) sends

abbrev AtMostOnce : Message → List (List ℕ) → Type 0
AtMostOnce message bytes = (bytes ≡ []) ⊎ (bytes ≡ spelled message ∷ [])

none_below : (test : ℕ → Bool) (message : Message) (k s from : ℕ) → s < from → bytes_for s (to_all (filter test (range_with_len from k)) message) ≡ []
none_below test message zero s from low = refl
none_below test message (suc k) s from low =
    let rest = to_all (filter test (range_with_len (from + 1) k)) message in
    let none = none_below test message k s (from + 1) (omega (arith, low)) in
    elim (test from) as (λ b. bytes_for s
    (to_all (cond b (from ∷ filter test (range_with_len (from + 1) k)) (filter test (range_with_len (from + 1) k))) message) ≡ []) [
      | true ↦ ap (λ b. spell_all (cond b ((from, message) ∷ to_one s rest) (to_one s rest))) (ne_eqb from s (λ e. omega (arith, low, e))) ∙ none
      | false ↦ none
    ]

here_once : (message : Message) (s from : ℕ) (rest : List (ℕ × Message)) → AtMostOnce message (bytes_for s rest) → ((from ≡ s) → bytes_for s rest ≡ [])
    → (b : Bool) → (from == s) ≡ b → AtMostOnce message (spell_all (cond b ((from, message) ∷ to_one s rest) (to_one s rest)))
here_once message s from rest h none true e = inr (ap (λ (bs : List (List ℕ)). spelled message ∷ bs) (none (eqb-true from s e)))
here_once message s from rest h none false e = h

at_most_once : (test : ℕ → Bool) (message : Message) (k s from : ℕ) → AtMostOnce message (bytes_for s (to_all (filter test (range_with_len from k)) message))
at_most_once test message zero s from = inl refl
at_most_once test message (suc k) s from =
    elim (test from) as (λ b. AtMostOnce message
    (bytes_for s (to_all (cond b (from ∷ filter test (range_with_len (from + 1) k)) (filter test (range_with_len (from + 1) k))) message))) [
      | true ↦ here_once message s from (to_all (filter test (range_with_len (from + 1) k)) message) (at_most_once test message k s (from + 1))
          (λ same. none_below test message k s (from + 1) (omega (arith, same))) (from == s) refl
      | false ↦ at_most_once test message k s (from + 1)
    ]

one_at_end : (xs : List (List ℕ)) (y x : List ℕ) (pre post : List (List ℕ)) → (xs ≡ []) ⊎ (xs ≡ y ∷ []) → xs ≡ pre ++ x ∷ post → (pre ≡ []) × (x ≡ y)
one_at_end xs y x pre post (inl none) e = absurd (subst (In x) (sym e ∙ none) (in_middle x pre post))
one_at_end xs y x pre post (inr one) e = one_split y x pre post (sym one ∙ e)

module _ (S : Setting) (D ex : ℕ → Bool) (given : IsSetting S) where
  -- ---- one queue, as it changes

  boots_like : (n s : ℕ) (v u : Standing) (before after : Shelf) (to more : List (List ℕ)) → u.deals ≡ v.deals → after ≡ before → more ≡ to
      → Boots S D ex n s v before to → Boots S D ex n s u after more
  boots_like n s v u before after to more same shelves queues h pre post bytes b e r =
      let old = h pre post bytes b (sym queues ∙ e) r in
      record {
        low = λ t items i w. old.low t items (subst (λ (z : Shelf). In (t, items) z.prepared) shelves i) w;
        last = subst (λ (z : Shelf). (last_of z n).boot < b) (sym shelves) old.last;
        sent = old.sent;
        raised = old.raised;
        due = λ t items i c d. old.due t items (subst (λ (z : Shelf). In (t, items) z.prepared) shelves i) c (subst (In c) same d);
      }

  -- the store heard somebody else
  boots_other : (n s a : ℕ) (v u : Standing) (heard : Option Message) (before after : Shelf) (to : List (List ℕ)) → u.deals ≡ v.deals → Behind a heard before after
      → (n ≡ a → ⊥)
      → ((c : Commit) → In c u.deals → c.tid.worker ≡ n) → Boots S D ex n s v before to → Boots S D ex n s u after to
  boots_other n s a v u heard before after to same behind ne own h pre post bytes b e r =
      let old = h pre post bytes b e r in
      record {
        low = λ t items i w. elim (behind.prepared (t, items) i) [ inl k ↦ old.low t items k.listed w | inr k ↦ absurd (ne (sym w ∙ k.worker)) ];
        last = subst (λ (l : Tid). l.boot < b) (sym (behind.others n ne)) old.last;
        sent = old.sent;
        raised = old.raised;
        due = λ t items i c d is part. elim (behind.prepared (t, items) i) [
          | inl k ↦ old.due t items k.listed c (subst (In c) same d) is part
          | inr k ↦ absurd (ne (sym (own c d) ∙ ap (λ (u : Tid). u.worker) is ∙ k.worker))
        ];
      }

  -- the store heard what stood in front
  boots_own : (a s : ℕ) (v u : Standing) (bytes : List ℕ) (rest : List (List ℕ)) (before after : Shelf) → u.deals ≡ v.deals → Behind a (S.read bytes) before after
      → ((c : Commit) → In c u.deals → (c.tid.worker ≡ a) × IsTid c.tid)
      → ((c : Commit) → In c u.deals → TakesPart S s c → rank_of c.tid ≤ rank_of (last_of before a)) → (last_of before a).number < 4294967296
      → Boots S D ex a s v before (bytes ∷ rest) → Boots S D ex a s u after rest
  boots_own a s v u bytes rest before after same behind own aged numbered h pre post other b e r =
      let old = h (bytes ∷ pre) post other b (ap (λ (q : List (List ℕ)). bytes ∷ q) e) r in
      record {
        low = λ t items i w. elim (behind.prepared (t, items) i) [ inl k ↦ old.low t items k.listed w | inr k ↦ old.sent bytes t items (inl refl) k.is ];
        last = elim behind.last [
          | inl is ↦ subst (λ (l : Tid). l.boot < b) (sym is) old.last
          | inr (inl is) ↦ subst (λ (l : Tid). l.boot < b) (sym is.last) (old.sent bytes is.tid is.items (inl refl) is.is)
          | inr (inr is) ↦ subst (λ k. k < b) (sym is.last) (old.raised bytes is.boot (inl refl) is.is)
        ];
        sent = λ x t items i. old.sent x t items (inr i);
        raised = λ x c i. old.raised x c (inr i);
        due = λ t items i c d is part. elim (behind.prepared (t, items) i) [
          | inl k ↦ elim (old.due t items k.listed c (subst (In c) same d) is part) [
            | inl front ↦
                let known = own c d in
                let heard : S.read bytes ≡ Some (m.Commit t) = subst (λ x. S.read x ≡ Some (m.Commit t)) front (commit_back S given t (subst IsTid is known.1)) in
                absurd (k.untold t heard refl (ap (λ (u : Tid). u.worker) (sym is) ∙ known.0))
            | inr there ↦ there
          ]
          | inr k ↦
              let le = subst (λ (z : Tid). rank_of z ≤ rank_of (last_of before a)) is (aged c d part) in
              let lt = above_rank t (last_of before a) k.new numbered in
              absurd (omega (arith, le, lt))
        ];
      }

  -- more comes, and of what comes a Boot is as it should be; what is newly decided is of a boot that none before it is of
  boots_more : (n s : ℕ) (v u : Standing) (before : Shelf) (to more : List (List ℕ)) (boot : ℕ) → Boots S D ex n s v before to
      → ((bytes : List ℕ) (b : ℕ) → In bytes to → S.read bytes ≡ Some (m.Boot b) → b ≤ boot)
      → ((c : Commit) → In c u.deals → In c v.deals ⊎ ((c.tid.worker ≡ n) × (c.tid.boot ≡ boot)))
      → ((front post : List (List ℕ)) (bytes : List ℕ) (b : ℕ) → more ≡ front ++ bytes ∷ post → S.read bytes ≡ Some (m.Boot b)
      → Before S D ex n s u before (to ++ front) b)
      → Boots S D ex n s u before (to ++ more)
  boots_more n s v u before to more boot old low newer new pre post bytes b e r = elim (split_at to more pre post bytes e) [
    | inl i ↦
        let h = old pre i.back bytes b i.is r in
        let le = low bytes b (subst (In bytes) (sym i.is) (in_middle bytes pre i.back)) r in
        record {
          low = h.low;
          last = h.last;
          sent = h.sent;
          raised = h.raised;
          due = λ t items x c d is part. elim (newer c d) [
            | inl known ↦ h.due t items x c known is part
            | inr late ↦
                let lt = h.low t items x (sym (ap (λ (z : Tid). z.worker) is) ∙ late.0) in
                let eq = sym (ap (λ (z : Tid). z.boot) is) ∙ late.1 in
                absurd (omega (arith, lt, eq, le))
          ];
        }
    | inr l ↦ subst (λ q. Before S D ex n s u before q b) (sym l.pre_is) (new l.front post bytes b l.is r)
  ]

  -- ---- each event

  -- at the start nothing waits
  pub ordered_start : Ordered S D ex (at_start S) []
  ordered_start = record { pair = λ n s hn hs pre post bytes b e r. absurd (subst (In bytes) (sym e) (in_middle bytes pre post)) }

  -- nothing of the pairs changes
  pub ordered_calm : (w v : World) (cs : List Commit) → Ordered S D ex w cs
      → ((n : ℕ) → IsWorker S D ex n → IsAsBefore (w.node n) (v.node n)) → ((s : ℕ) → IsStore S D ex s → (v.node s).entries ≡ (w.node s).entries)
      → ((n s : ℕ) → IsWorker S D ex n → IsStore S D ex s → v.queue n s ≡ w.queue n s) → Ordered S D ex v cs
  ordered_calm w v cs ord workers_ stores_ queues = record {
    pair = λ n s hn hs. boots_like n s (standing S D ex w cs n) (standing S D ex v cs n) (shelf S w s) (shelf S v s) (w.queue n s) (v.queue n s) refl
        (ap (shelf_of S.roots s) (stores_ s hs)) (queues n s hn hs) (ord.pair n s hn hs);
  }

  -- worker n acts without a restart
  pub ordered_acts : (w v : World) (cs ds : List Commit) (C : State) (n : ℕ) → Inv S D ex w cs C → IsWorker S D ex n → Ordered S D ex w cs
      → ((x : ℕ) → (x ≡ n → ⊥) → IsAsBefore (w.node x) (v.node x)) → ((x : ℕ) → (x ≡ n → ⊥) → deals ds x ≡ deals cs x)
      → ((c : Commit) → In c (deals ds n) → In c (deals cs n) ⊎ ((c.tid.worker ≡ n) × (c.tid.boot ≡ (kept S w n).boot)))
      → (more : ℕ → List (List ℕ)) → ((x s : ℕ) → IsWorker S D ex x → IsStore S D ex s → (x ≡ n → ⊥) → v.queue x s ≡ w.queue x s)
      → ((s : ℕ) → IsStore S D ex s → v.queue n s ≡ w.queue n s ++ more s)
      → ((s : ℕ) (bytes : List ℕ) (b : ℕ) → In bytes (more s) → S.read bytes ≡ Some (m.Boot b) → ⊥)
      → Ordered S D ex v ds
  ordered_acts w v cs ds C n inv hn ord others others_deals newer more others_queue queues quiet = record { pair = λ x s hx hs. one x s hx hs (cases_eq x n) }
    where
      here : (s : ℕ) → IsStore S D ex s → Boots S D ex n s (standing S D ex v ds n) (shelf S v s) (v.queue n s)
      here s hs =
          boots_like n s (standing S D ex v ds n) (standing S D ex v ds n) (shelf S w s) (shelf S v s) (w.queue n s ++ more s) (v.queue n s) refl
          (shelf_same S D ex w v s (others s (store_is_other S D ex given n s hn hs)).entries) (queues s hs)
          (boots_more n s (standing S D ex w cs n) (standing S D ex v ds n) (shelf S w s) (w.queue n s) (more s) (kept S w n).boot (ord.pair n s hn hs)
          (λ bytes b h r. (inv.pair n s hn hs).says bytes (m.Boot b) h r) newer
          (λ front post bytes b e r. absurd (quiet s bytes b (subst (In bytes) (sym e) (in_middle bytes front post)) r)))

      one : (x s : ℕ) → IsWorker S D ex x → IsStore S D ex s → (x ≡ n) ⊎ (x ≡ n → ⊥) → Boots S D ex x s (standing S D ex v ds x) (shelf S v s) (v.queue x s)
      one x s hx hs (inl e) = subst (λ z. Boots S D ex z s (standing S D ex v ds z) (shelf S v s) (v.queue z s)) (sym e) (here s hs)
      one x s hx hs (inr ne) =
          boots_like x s (standing S D ex w cs x) (standing S D ex v ds x) (shelf S w s) (shelf S v s) (w.queue x s) (v.queue x s) (others_deals x ne)
          (shelf_same S D ex w v s (others s (store_is_other S D ex given n s hn hs)).entries) (others_queue x s hx hs ne) (ord.pair x s hx hs)

  -- behind a restart of worker n
  module _ (w : World) (cs : List Commit) (C : State) (n s : ℕ) (inv : Inv S D ex w cs C) (hn : IsWorker S D ex n) (hs : IsStore S D ex s)
      (is_down : (w.node n).up ≡ false)
      (room : (kept S w n).boot + 1 ≤ 4000000001) (u : Standing) (same : u.deals ≡ deals cs n) where
    early : (t : Tid) → rank_of t < limit (standing S D ex w cs n) → t.boot < suc (kept S w n).boot
    early t h = omega (arith, h, limit_asleep (standing S D ex w cs n) is_down)

    new_boot : (bytes : List ℕ) (b : ℕ) → S.read bytes ≡ Some (m.Boot b) → bytes ≡ spelled (m.Boot (suc (kept S w n).boot)) → suc (kept S w n).boot ≡ b
    new_boot bytes b r is = one_boot (suc (kept S w n).boot) b (sym (boot_back S given (suc (kept S w n).boot) (omega (arith, room))) ∙ ap S.read (sym is) ∙ r)

    listed : (c : Commit) → In c (deals cs n) → TakesPart S s c → In (spelled (m.Commit c.tid)) (bytes_for s (told (kept S w n).decided))
    listed c d part =
        let at_s = any_in (λ k. k == s) (stores_of (parts_by S c)) part in
        let here : In s (stores_of (parts_by S c)) = subst (λ z. In z (stores_of (parts_by S c))) (eqb-true at_s.0 s at_s.2) at_s.1 in
        commit_among (kept S w n).decided (decision_of S c) s
        (subst (In (decision_of S c)) (sym (inv.worker n hn).listed) (map_in (decision_of S) c (deals cs n) d)) here

    at_wake : Before S D ex n s u (shelf S w s) (w.queue n s ++ bytes_for s (told (kept S w n).decided)) (suc (kept S w n).boot)
    at_wake =
        let p = inv.pair n s hn hs in
        record {
          low = λ t items i own. early t (p.kept t items i own).early;
          last = let le = p.booted in omega (arith, le);
          sent = λ bytes t items i r. elim (in_append bytes (w.queue n s) (bytes_for s (told (kept S w n).decided)) i) [
            | inl x ↦ let f = p.says bytes (m.Prepare t items) x r in early t f.early
            | inr y ↦ let c = all_commits (kept S w n).decided s bytes y in absurd (commit_no_prepare S given c.0 t items (ap S.read (sym c.1) ∙ r))
          ];
          raised = λ bytes b i r. elim (in_append bytes (w.queue n s) (bytes_for s (told (kept S w n).decided)) i) [
            | inl x ↦ let le : b ≤ (kept S w n).boot = p.says bytes (m.Boot b) x r in omega (arith, le)
            | inr y ↦ let c = all_commits (kept S w n).decided s bytes y in absurd (commit_no_boot S given c.0 b (ap S.read (sym c.1) ∙ r))
          ];
          due = λ t items i c d is part. in_right (spelled (m.Commit t)) (w.queue n s) (bytes_for s (told (kept S w n).decided))
              (subst (λ z. In (spelled (m.Commit z)) (bytes_for s (told (kept S w n).decided))) is (listed c (subst (In c) same d) part));
        }

    behind_wake : (front post : List (List ℕ)) (bytes : List ℕ) (b : ℕ)
        → bytes_for s (told (kept S w n).decided) ++ bytes_for s (to_all (stores_in S.rights) (m.Boot (suc (kept S w n).boot))) ≡ front ++ bytes ∷ post
        → S.read bytes ≡ Some (m.Boot b) → Before S D ex n s u (shelf S w s) (w.queue n s ++ front) b
    behind_wake front post bytes b e r =
        elim (split_at (bytes_for s (told (kept S w n).decided)) (bytes_for s (to_all (stores_in S.rights) (m.Boot (suc (kept S w n).boot)))) front post bytes e) [
          | inl i ↦
              let c = all_commits (kept S w n).decided s bytes (subst (In bytes) (sym i.is) (in_middle bytes front i.back)) in
              absurd (commit_no_boot S given c.0 b (ap S.read (sym c.1) ∙ r))
          | inr l ↦
              let o = one_at_end (bytes_for s (to_all (stores_in S.rights) (m.Boot (suc (kept S w n).boot))))
              (spelled (m.Boot (suc (kept S w n).boot))) bytes l.front post
              (at_most_once (is_store S.rights) (m.Boot (suc (kept S w n).boot)) 64 s 0) l.is in
              let front_is : front ≡ bytes_for s (told (kept S w n).decided) =
              l.pre_is ∙ ap (λ q. bytes_for s (told (kept S w n).decided) ++ q) o.0 ∙ append-nil (bytes_for s (told (kept S w n).decided)) in
              subst (λ q. Before S D ex n s u (shelf S w s) (w.queue n s ++ q) b) (sym front_is)
              (subst (Before S D ex n s u (shelf S w s) (w.queue n s ++ bytes_for s (told (kept S w n).decided))) (new_boot bytes b r o.1) at_wake)
        ]

  -- worker n restarts: its Commits again, and then the new Boot, or nothing
  pub ordered_wakes : (w v : World) (cs : List Commit) (C : State) (n : ℕ) → Inv S D ex w cs C → IsWorker S D ex n → (w.node n).up ≡ false
      → (kept S w n).boot + 1 ≤ 4000000001 → Ordered S D ex w cs
      → ((x : ℕ) → (x ≡ n → ⊥) → IsAsBefore (w.node x) (v.node x))
      → ((x s : ℕ) → IsWorker S D ex x → IsStore S D ex s → (x ≡ n → ⊥) → v.queue x s ≡ w.queue x s)
      → ((s : ℕ) → IsStore S D ex s
      → (v.queue n s ≡ w.queue n s ++ bytes_for s (wakes S.rights S.cache n (kept S w n)).sends) ⊎ (v.queue n s ≡ w.queue n s))
      → Ordered S D ex v cs
  ordered_wakes w v cs C n inv hn is_down room ord others others_queue queues = record { pair = λ x s hx hs. one x s hx hs (cases_eq x n) }
    where
      sent_is : (s : ℕ) → bytes_for s (wakes S.rights S.cache n (kept S w n)).sends
          ≡ bytes_for s (told (kept S w n).decided) ++ bytes_for s (to_all (stores_in S.rights) (m.Boot (suc (kept S w n).boot)))
      sent_is s = bytes_both s (told (kept S w n).decided) (to_all (stores_in S.rights) (m.Boot (suc (kept S w n).boot)))

      here : (s : ℕ) → IsStore S D ex s
          → (v.queue n s ≡ w.queue n s ++ bytes_for s (wakes S.rights S.cache n (kept S w n)).sends) ⊎ (v.queue n s ≡ w.queue n s)
          → Boots S D ex n s (standing S D ex v cs n) (shelf S v s) (v.queue n s)
      here s hs (inr same) =
          boots_like n s (standing S D ex w cs n) (standing S D ex v cs n) (shelf S w s) (shelf S v s) (w.queue n s) (v.queue n s) refl
          (shelf_same S D ex w v s (others s (store_is_other S D ex given n s hn hs)).entries) same (ord.pair n s hn hs)
      here s hs (inl more) =
          boots_like n s (standing S D ex v cs n) (standing S D ex v cs n) (shelf S w s) (shelf S v s)
          (w.queue n s ++ (bytes_for s (told (kept S w n).decided) ++ bytes_for s (to_all (stores_in S.rights) (m.Boot (suc (kept S w n).boot))))) (v.queue n s) refl
          (shelf_same S D ex w v s (others s (store_is_other S D ex given n s hn hs)).entries) (more ∙ ap (λ q. w.queue n s ++ q) (sent_is s))
          (boots_more n s (standing S D ex w cs n) (standing S D ex v cs n) (shelf S w s) (w.queue n s)
          (bytes_for s (told (kept S w n).decided) ++ bytes_for s (to_all (stores_in S.rights) (m.Boot (suc (kept S w n).boot)))) (kept S w n).boot (ord.pair n s hn hs)
          (λ bytes b h r. (inv.pair n s hn hs).says bytes (m.Boot b) h r) (λ c d. inl d)
          (behind_wake w cs C n s inv hn hs is_down room (standing S D ex v cs n) refl))

      one : (x s : ℕ) → IsWorker S D ex x → IsStore S D ex s → (x ≡ n) ⊎ (x ≡ n → ⊥) → Boots S D ex x s (standing S D ex v cs x) (shelf S v s) (v.queue x s)
      one x s hx hs (inl e) = subst (λ z. Boots S D ex z s (standing S D ex v cs z) (shelf S v s) (v.queue z s)) (sym e) (here s hs (queues s hs))
      one x s hx hs (inr ne) =
          boots_like x s (standing S D ex w cs x) (standing S D ex v cs x) (shelf S w s) (shelf S v s) (w.queue x s) (v.queue x s) refl
          (shelf_same S D ex w v s (others s (store_is_other S D ex given n s hn hs)).entries) (others_queue x s hx hs ne) (ord.pair x s hx hs)

  -- store s hears what is first in the queue from a, which goes
  pub ordered_hears : (w v : World) (cs : List Commit) (C : State) (s a : ℕ) (bytes : List ℕ) (rest : List (List ℕ)) → Inv S D ex w cs C → IsStore S D ex s
      → ((c : Commit) → In c cs → c.tid.number < 4294967296) → Ordered S D ex w cs
      → w.queue a s ≡ bytes ∷ rest → v.queue a s ≡ rest
      → ((x z : ℕ) → IsWorker S D ex x → IsStore S D ex z → ((x ≡ a) × (z ≡ s) → ⊥) → v.queue x z ≡ w.queue x z)
      → ((x : ℕ) → (x ≡ s → ⊥) → IsAsBefore (w.node x) (v.node x))
      → (v.node s).entries ≡ (w.node s).entries ++ option_list (stores.hears S.rights s a (S.read bytes) (shelf S w s)).entry
      → Ordered S D ex v cs
  ordered_hears w v cs C s a bytes rest inv hs small ord front left others_queue others heard = record { pair = λ n z hn hz. one n z hn hz (cases_eq z s) }
    where
      shelf_is : shelf S v s ≡ keeps_said (stores.hears S.rights s a (S.read bytes) (shelf S w s)).entry (shelf S w s)
      shelf_is = ap (shelf_of S.roots s) heard ∙ shelf_more S.roots s (w.node s).entries (stores.hears S.rights s a (S.read bytes) (shelf S w s)).entry

      behind : is_worker S.rights a ≡ true → Behind a (S.read bytes) (shelf S w s) (shelf S v s)
      behind kind = subst (Behind a (S.read bytes) (shelf S w s)) (sym shelf_is) (behind_hears a S.rights s (S.read bytes) (shelf S w s) kind)

      own : (n : ℕ) → (c : Commit) → In c (deals cs n) → c.tid.worker ≡ n
      own n c d = let r = deal_of cs n c d in inv.commits.own c r.0 ∙ r.1

      tid_of_deal : (n : ℕ) → IsWorker S D ex n → (c : Commit) → In c (deals cs n) → (c.tid.worker ≡ n) × IsTid c.tid
      tid_of_deal n hn c d =
          let k = worker_below S.rights n given.workers hn.kind in
          let is = own n c d in
          let ok = inv.worker n hn in
          let low = ok.low in
          (is, early_spelled n (standing S D ex w cs n) c.tid k is (ok.past c d) low (small c (deal_of cs n c d).0))

      here : (n : ℕ) → IsWorker S D ex n → (n ≡ a) ⊎ (n ≡ a → ⊥) → (k : Bool) → is_worker S.rights a ≡ k
          → Boots S D ex n s (standing S D ex v cs n) (shelf S v s) (v.queue n s)
      here n hn (inr ne) true k =
          boots_like n s (standing S D ex v cs n) (standing S D ex v cs n) (shelf S v s) (shelf S v s) (w.queue n s) (v.queue n s) refl refl
          (others_queue n s hn hs (λ e. ne e.0))
          (boots_other n s a (standing S D ex w cs n) (standing S D ex v cs n) (S.read bytes) (shelf S w s) (shelf S v s) (w.queue n s) refl (behind k) ne
          (own n) (ord.pair n s hn hs))
      here n hn (inr ne) false k =
          boots_like n s (standing S D ex w cs n) (standing S D ex v cs n) (shelf S w s) (shelf S v s) (w.queue n s) (v.queue n s) refl
          (shelf_is ∙ stranger_hears a S.rights s (S.read bytes) (shelf S w s) k) (others_queue n s hn hs (λ e. ne e.0)) (ord.pair n s hn hs)
      here n hn (inl e) false k = absurd (both_ways (is_worker S.rights a) k (subst (λ z. is_worker S.rights z ≡ true) e hn.kind))
      here n hn (inl e) true k =
          let ha = subst (IsWorker S D ex) e hn in
          let p = inv.pair a s ha hs in
          subst (λ z. Boots S D ex z s (standing S D ex v cs z) (shelf S v s) (v.queue z s)) (sym e)
          (boots_like a s (standing S D ex v cs a) (standing S D ex v cs a) (shelf S v s) (shelf S v s) rest (v.queue a s) refl refl left
          (boots_own a s (standing S D ex w cs a) (standing S D ex v cs a) bytes rest (shelf S w s) (shelf S v s) refl (behind k) (tid_of_deal a ha) p.aged p.numbered
          (subst (Boots S D ex a s (standing S D ex w cs a) (shelf S w s)) front (ord.pair a s ha hs))))

      one : (n z : ℕ) → IsWorker S D ex n → IsStore S D ex z → (z ≡ s) ⊎ (z ≡ s → ⊥) → Boots S D ex n z (standing S D ex v cs n) (shelf S v z) (v.queue n z)
      one n z hn hz (inl e) =
          subst (λ k. Boots S D ex n k (standing S D ex v cs n) (shelf S v k) (v.queue n k)) (sym e) (here n hn (cases_eq n a) (is_worker S.rights a) refl)
      one n z hn hz (inr ne) =
          boots_like n z (standing S D ex w cs n) (standing S D ex v cs n) (shelf S w z) (shelf S v z) (w.queue n z) (v.queue n z) refl
          (shelf_same S D ex w v z (others z ne).entries) (others_queue n z hn hz (λ e. ne e.1)) (ord.pair n z hn hz)

  -- the message that is first, if it is a Boot
  pub front_boot : (w : World) (cs : List Commit) (s a : ℕ) (bytes : List ℕ) (rest : List (List ℕ)) (b : ℕ) → Ordered S D ex w cs → IsWorker S D ex a → IsStore S D ex s
      → w.queue a s ≡ bytes ∷ rest → S.read bytes ≡ Some (m.Boot b) → Before S D ex a s (standing S D ex w cs a) (shelf S w s) [] b
  front_boot w cs s a bytes rest b ord ha hs front r = ord.pair a s ha hs [] rest bytes b front r

  -- any node goes down
  pub ordered_down : (w : World) (cs : List Commit) → Ordered S D ex w cs → (n : ℕ) → Ordered S D ex (down S w n) cs
  ordered_down w cs ord n = record { pair = λ x s hx hs. empties x s (ord.pair x s hx hs) (s == n) refl }
    where
      same : (s : ℕ) → shelf S (down S w n) s ≡ shelf S w s
      same s = ap (shelf_of S.roots s) (down_entries S w n s)

      empties : (x s : ℕ) → Boots S D ex x s (standing S D ex w cs x) (shelf S w s) (w.queue x s) → (b : Bool) → (s == n) ≡ b
          → Boots S D ex x s (standing S D ex (down S w n) cs x) (shelf S (down S w n) s) (cond (s == n) [] (w.queue x s))
      empties x s h true e =
          boots_like x s (standing S D ex (down S w n) cs x) (standing S D ex (down S w n) cs x) (shelf S (down S w n) s) (shelf S (down S w n) s) []
          (cond (s == n) [] (w.queue x s)) refl refl
          (ap (λ b. cond b [] (w.queue x s)) e) (λ pre post bytes b f r. absurd (subst (In bytes) (sym f) (in_middle bytes pre post)))
      empties x s h false e =
          boots_like x s (standing S D ex w cs x) (standing S D ex (down S w n) cs x) (shelf S w s) (shelf S (down S w n) s) (w.queue x s)
          (cond (s == n) [] (w.queue x s)) refl (same s)
          (ap (λ b. cond b [] (w.queue x s)) e) h
