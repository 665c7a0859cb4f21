-- What a worker makes of an event is one of a few acts: what holds of each of these holds of the act.
--
-- A record has a field for each act, with what is known where it comes. Whoever proves something of all acts of a worker gives such a record, and says
-- nothing of how one is chosen.
use Rattle.std.specs.Prelude.{ℕ, suc, Bool, true, false, not, ◌&&◌, ◌==◌, nat_lt, List, [], ◌∷◌, ◌++◌, Option, Some, None}
use Rattle.std.specs.List.{filter}
use Rattle.std.proofs.Common.{◌≡◌, ◌⊎◌, inl, inr, refl, sym, ap, ◌∙◌, true≢false}
use Rattle.std.proofs.lemmas.Bool.{and_left, and_parts, and_right, cond_both, eqb-true}
use Rattle.fab_base.specs.declared.object.Object.{Object}
use Rattle.fab_base.specs.declared.object.Oid.{Oid}
use Rattle.fab_base.specs.declared.object.Stop.{Stop}
use Rattle.fab_base.specs.declared.object.Stop.TheVariants as stop
use Rattle.fab_base.specs.declared.object.Tid.{Tid}
use Rattle.fab_base.specs.declared.object.Value.{Value}
use Rattle.fab_base.specs.declared.message.Answer.{Answer}
use Rattle.fab_base.specs.declared.message.Answer.TheVariants.{Yes}
use Rattle.fab_base.specs.declared.message.Message.{Message}
use Rattle.fab_base.specs.declared.message.Message.TheVariants as m
use Rattle.fab_base.specs.declared.message.Why.{Why}
use Rattle.fab_base.specs.declared.message.Why.TheVariants as why
use Rattle.fab_base.specs.declared.entry.Entry.{Entry}
use Rattle.fab_base.specs.declared.entry.Entry.TheVariants as e
use Rattle.fab_base.specs.FlatMap.{is_same}
use Rattle.fab_base.proofs.NameOrder.{one_name}
use Rattle.fab_language.specs.declared.ending.Ending.{Ending}
use Rattle.fab_language.specs.declared.ending.Ending.TheVariants as endings
use Rattle.fab_language.specs.Meaning.{Meant}
use Rattle.fab_net.specs.declared.event.Inner.TheVariants as i
use Rattle.fab_net.specs.declared.note.Note.TheVariants as note
use Rattle.fab_net.specs.declared.outcome.Denial.{Denial}
use Rattle.fab_net.specs.declared.outcome.Denial.TheVariants as denial
use Rattle.fab_net.specs.declared.outcome.ReqOutcome.{ReqOutcome}
use Rattle.fab_net.specs.declared.outcome.ReqOutcome.TheVariants.{Conflict, Denied, Failed, Silent, Stopped}
use Rattle.fab_rights.specs.declared.rights.Rights.{Rights}
use Rattle.fab_rights.specs.Computed.{is_store, is_worker, suits}
use Rattle.fab_protocol.specs.declared.parts.Parts.{Parts}
use Rattle.fab_protocol.specs.Caches.{cached_row}
use Rattle.fab_protocol.specs.Parts.{stores_of}
use Rattle.fab_protocol.specs.Stores.{asks, says}
use Rattle.fab_protocol.specs.Versions.{Row, is_tid}
use Rattle.fab_world.specs.Attempts.{parts_of}
use Rattle.fab_world.specs.Machine.{Setting, World, act, hears, kept, of_store, parts, shelf}
use Rattle.fab_world.specs.Workers as workers
use Rattle.fab_world.specs.Workers.{Act, Attempt, Kept, Phase, aborts_in, awaits_object, awaits_vote, dropped, has_decided, is_in, is_made_before, new_downs, new_touches}
use Rattle.fab_world.specs.Workers.{not_voted, noting, sending, stays, telling, tid_of, undecided}

-- whatever the outcome, its request is closed by a record that says so
pub closed_each : (P : Entry → Type 0) (request : ℕ) → ((code node : ℕ) → P (e.Closed request code node)) → (outcome : ReqOutcome) → P (workers.closed request outcome)
closed_each P request each Failed = each 1 65535
closed_each P request each Conflict = each 2 65535
closed_each P request each (Silent n) = each 3 n
closed_each P request each (Denied n denial.Rights) = each 4 n
closed_each P request each (Denied n denial.IllFormed) = each 5 n
closed_each P request each (Stopped stop.Fuel) = each 6 65535
closed_each P request each (Stopped stop.Depth) = each 7 65535
closed_each P request each (Stopped stop.Reads) = each 8 65535
closed_each P request each (Stopped stop.Writes) = each 9 65535
closed_each P request each _ = each 0 65535

-- a vote that is Yes
abbrev pub is_yes : Answer → Bool
is_yes Yes = true
is_yes _ = false

module _ (rights : Rights) (k n : ℕ) (kept : Kept) where
  -- ---- an evaluation goes on

  module _ (a : Attempt) (meant : Meant) where
    -- it ended, and asks these nodes
    abbrev pub ended : Option Value → List ℕ → Act
    ended value ss =
        let parts : Parts = parts_of a.answers meant in
        noting (note.Ended (tid_of n kept a) value (new_touches a meant) (new_downs a meant) parts.writes parts.creates ∷ [])
        (workers.asks_all rights k n kept ss (telling a meant) parts)

    -- each act that may come of it
    pub record OfResume (P : Act → Type 0) : Type 0 where
      -- an object is missing, and cached or not
      pub finds : (site : ℕ) (o : Oid) (row : Row) → meant.ending ≡ endings.Missing site o → cached_row a.caches o ≡ Some row
          → P (workers.needs rights k n kept site o (Some row) a meant)
      pub fetches : (site : ℕ) (o : Oid) → meant.ending ≡ endings.Missing site o → cached_row a.caches o ≡ None → P (workers.needs rights k n kept site o None a meant)
      -- without a participant it is decided at once
      pub decides : (value : Option Value) → meant.ending ≡ endings.Ended value → stores_of (parts_of a.answers meant) ≡ [] → P (ended value [])
      pub asks : (value : Option Value) (s : ℕ) (ss : List ℕ) → meant.ending ≡ endings.Ended value → stores_of (parts_of a.answers meant) ≡ s ∷ ss
          → P (ended value (s ∷ ss))
      pub fails : meant.ending ≡ endings.Failed → P (workers.resumes_at rights k n kept endings.Failed a meant)
      pub stops : (limit : Stop) → meant.ending ≡ endings.Stopped limit → P (workers.resumes_at rights k n kept (endings.Stopped limit) a meant)

    module _ (P : Act → Type 0) (each : OfResume P) where
      needed : (site : ℕ) (o : Oid) → meant.ending ≡ endings.Missing site o → (row : Option Row) → cached_row a.caches o ≡ row
          → P (workers.needs rights k n kept site o row a meant)
      needed site o is None at = each.fetches site o is at
      needed site o is (Some row) at = each.finds site o row is at

      ended_by : (value : Option Value) → meant.ending ≡ endings.Ended value → (ss : List ℕ) → stores_of (parts_of a.answers meant) ≡ ss → P (ended value ss)
      ended_by value is [] at = each.decides value is at
      ended_by value is (s ∷ ss) at = each.asks value s ss is at

      resumed_at : (ending : Ending) → meant.ending ≡ ending → P (workers.resumes_at rights k n kept ending a meant)
      resumed_at (endings.Missing site o) is = needed site o is (cached_row a.caches o) refl
      resumed_at (endings.Ended value) is = ended_by value is (stores_of (parts_of a.answers meant)) refl
      resumed_at endings.Failed is = each.fails is
      resumed_at (endings.Stopped limit) is = each.stops limit is

      pub resumed : P (workers.resumes rights k n kept a meant)
      resumed = resumed_at meant.ending refl

  -- ---- a message of node s is heard

  abbrev one_more : Attempt → Act
  one_more a = stays (record (dropped a) { tries = suc a.tries })

  -- another try, from nothing
  abbrev pub again : Attempt → Act
  again a = noting (undecided rights k n kept a) (one_more a)

  module _ (s : ℕ) (a : Attempt) (p : Parts) where
    -- the attempt fetches this object, and awaits such an answer of store s
    pub record Fetches (t : Tid) (o : Oid) : Type 0 where
      pub store : is_store rights s ≡ true
      pub phase_is : a.phase ≡ workers.Fetching o
      pub same : is_tid t (tid_of n kept a) ≡ true
      pub place : o.store ≡ s
      pub passes : awaits_object rights k n kept s t o a a.phase ≡ true

    -- it is being prepared, and awaits a vote of store s, which takes part
    pub record Prepares (t : Tid) : Type 0 where
      pub store : is_store rights s ≡ true
      pub waiting : List ℕ
      pub phase_is : a.phase ≡ workers.Preparing waiting
      pub same : is_tid t (tid_of n kept a) ≡ true
      pub part : is_in s (stores_of p) ≡ true
      pub passes : awaits_vote rights k n kept s t a p a.phase ≡ true

    -- those that haven't voted behind a Yes
    abbrev pub left : List ℕ
    left = filter (λ l. not (l == s)) (not_voted a.phase)

    abbrev pub is_last_try : Bool
    is_last_try = suc a.tries == 8

    -- the message is for the attempt
    abbrev pub is_meant : Message → Bool
    is_meant (m.Object t o version x) = awaits_object rights k n kept s t o a a.phase
    is_meant (m.Deny t o reason) = awaits_object rights k n kept s t o a a.phase
    is_meant (m.Vote t answer) = awaits_vote rights k n kept s t a p a.phase
    is_meant (m.Inquire t) = t.worker == n
    is_meant _ = false

    -- an object that may be answered
    abbrev pub fits : Oid → ℕ → Object → Bool
    fits o version x = suits rights o x && nat_lt 0 version && is_made_before rights k n kept o a

    module _ (message : Message) where
      pub record IsObject : Type 0 where
        pub tid : Tid
        pub name : Oid
        pub version : ℕ
        pub object : Object
        pub is : message ≡ m.Object tid name version object
        pub awaited : Fetches tid name

      pub record IsMissing : Type 0 where
        pub tid : Tid
        pub name : Oid
        pub is : message ≡ m.Deny tid name why.Missing
        pub awaited : Fetches tid name

      -- why a store's answer ends the request
      abbrev pub DeniedFor : Tid → Oid → Denial → Type 0
      DeniedFor t o denial.Rights = message ≡ m.Deny t o why.Rights
      DeniedFor t o denial.IllFormed = (version : ℕ) × (x : Object) × (message ≡ m.Object t o version x) × (fits o version x ≡ false)

      pub record IsDenied (reason : Denial) : Type 0 where
        pub tid : Tid
        pub name : Oid
        pub is : DeniedFor tid name reason
        pub awaited : Fetches tid name

      pub record IsNo : Type 0 where
        pub tid : Tid
        pub answer : Answer
        pub is : message ≡ m.Vote tid answer
        pub other : is_yes answer ≡ false
        pub awaited : Prepares tid

      -- a Yes, or a question of who has prepared
      pub record IsYes : Type 0 where
        pub tid : Tid
        pub is : (message ≡ m.Vote tid Yes) ⊎ (message ≡ m.Inquire tid)
        pub awaited : Prepares tid

      pub record IsInquire : Type 0 where
        pub tid : Tid
        pub is : message ≡ m.Inquire tid
        pub store : is_store rights s ≡ true

      -- each act that may come of the message
      pub record OfMessage (P : Act → Type 0) : Type 0 where
        -- it isn't for the attempt
        pub rests : (is_store rights s && is_meant message) ≡ false → P (stays a)
        -- an object that was asked for; what is denied, or ill formed, ends the request
        pub learns : (x : IsObject) → fits x.name x.version x.object ≡ true
            → P (stays (record a { phase = workers.Evaluating; answers = a.answers ++ (x.name, x.version, x.object) ∷ [] }))
        pub denied : (reason : Denial) → IsDenied reason → P (workers.gives rights k n kept (Denied s reason) a)
        -- an object that is missing, at the last try and before
        pub tires : IsMissing → is_last_try ≡ true → P (workers.gives rights k n kept Conflict a)
        pub tries : IsMissing → is_last_try ≡ false → P (again a)
        -- a No, at the last try and before
        pub gives_up : IsNo → is_last_try ≡ true → P (sending (workers.aborts rights k n kept a p) (workers.gives rights k n kept Conflict a))
        pub aborts : IsNo → is_last_try ≡ false → P (sending (workers.aborts rights k n kept a p) (again a))
        -- a Yes that is the last, or isn't
        pub decides : IsYes → left ≡ [] → P (workers.decides rights k n kept a p)
        pub waits : IsYes → (l : ℕ) (ls : List ℕ) → left ≡ l ∷ ls → P (stays (record a { phase = workers.Preparing (l ∷ ls) }))
        -- a question after what is decided, or is neither that nor being prepared
        pub commits : (x : IsInquire) → has_decided rights k n kept x.tid s ≡ true → P (sending ((s, m.Commit x.tid) ∷ []) (stays a))
        pub forgets : (x : IsInquire) → has_decided rights k n kept x.tid s ≡ false → awaits_vote rights k n kept s x.tid a p a.phase ≡ false
            → P (sending ((s, m.Abort x.tid) ∷ []) (stays a))

    fetching : is_store rights s ≡ true → (t : Tid) (o : Oid) → awaits_object rights k n kept s t o a a.phase ≡ true → Fetches t o
    fetching is t o h = by a.phase refl h
      where
        by : (phase : Phase) → a.phase ≡ phase → awaits_object rights k n kept s t o a phase ≡ true → Fetches t o
        by (workers.Fetching wanted) at g =
            let both = and_parts (is_tid t (tid_of n kept a) && is_same o wanted) (o.store == s) g in
            let name = and_parts (is_tid t (tid_of n kept a)) (is_same o wanted) both.0 in
            record {
              store = is;
              phase_is = at ∙ ap workers.Fetching (sym (one_name o wanted name.1));
              same = name.0;
              place = eqb-true o.store s both.1;
              passes = h;
            }
        by _ at g = absurd (true≢false (sym g))

    preparing : is_store rights s ≡ true → (t : Tid) → awaits_vote rights k n kept s t a p a.phase ≡ true → Prepares t
    preparing is t h = by a.phase refl h
      where
        by : (phase : Phase) → a.phase ≡ phase → awaits_vote rights k n kept s t a p phase ≡ true → Prepares t
        by (workers.Preparing ls) at g =
            let both = and_parts (is_tid t (tid_of n kept a)) (is_in s (stores_of p)) g in
            record { store = is; waiting = ls; phase_is = at; same = both.0; part = both.1; passes = h }
        by _ at g = absurd (true≢false (sym g))

    module _ (P : Act → Type 0) (is : is_store rights s ≡ true) where
      got : (t : Tid) (o : Oid) (version : ℕ) (x : Object) → OfMessage (m.Object t o version x) P → Fetches t o → P (workers.got rights k n kept s o version x a)
      got t o version x each awaited =
          let heard : IsObject (m.Object t o version x) = record { tid = t; name = o; version = version; object = x; is = refl; awaited = awaited } in
          cond_both (fits o version x) _ _ P (λ h. each.learns heard h)
          (λ h. each.denied denial.IllFormed (record { tid = t; name = o; is = (version, x, refl, h); awaited = awaited }))

      refused : (t : Tid) (o : Oid) (reason : Why) → OfMessage (m.Deny t o reason) P → Fetches t o → P (workers.denied rights k n kept s reason a)
      refused t o why.Missing each awaited =
          let heard : IsMissing (m.Deny t o why.Missing) = record { tid = t; name = o; is = refl; awaited = awaited } in
          cond_both is_last_try (workers.closes rights k n kept Conflict a) (one_more a) (λ act. P (noting (undecided rights k n kept a) act))
          (λ h. each.tires heard h) (λ h. each.tries heard h)
      refused t o why.Rights each awaited = each.denied denial.Rights (record { tid = t; name = o; is = refl; awaited = awaited })

      declined : (t : Tid) (answer : Answer) → is_yes answer ≡ false → OfMessage (m.Vote t answer) P → Prepares t
          → P (sending (workers.aborts rights k n kept a p) (workers.try_ends rights k n kept a))
      declined t answer other each awaited =
          let heard : IsNo (m.Vote t answer) = record { tid = t; answer = answer; is = refl; other = other; awaited = awaited } in
          cond_both is_last_try (workers.closes rights k n kept Conflict a) (one_more a)
          (λ act. P (sending (workers.aborts rights k n kept a p) (noting (undecided rights k n kept a) act)))
          (λ h. each.gives_up heard h) (λ h. each.aborts heard h)

      agreed : (message : Message) → OfMessage message P → IsYes message → (ls : List ℕ) → left ≡ ls → P (workers.waits_for rights k n kept ls a p)
      agreed message each heard [] h = each.decides heard h
      agreed message each heard (l ∷ ls) h = each.waits heard l ls h

      voted : (t : Tid) (answer : Answer) → OfMessage (m.Vote t answer) P → Prepares t → P (workers.voted_by rights k n kept s answer a p)
      voted t Yes each awaited = agreed (m.Vote t Yes) each (record { tid = t; is = inl refl; awaited = awaited }) left refl
      voted t answer each awaited = declined t answer refl each awaited

      inquired : (t : Tid) → OfMessage (m.Inquire t) P → P (workers.inquired rights k n kept s t a p)
      inquired t each =
          let heard : IsInquire (m.Inquire t) = record { tid = t; is = refl; store = is } in
          cond_both (has_decided rights k n kept t s) _ _ P (λ h. each.commits heard h)
          (λ none. cond_both (awaits_vote rights k n kept s t a p a.phase) _ _ P
          (λ h. agreed (m.Inquire t) each (record { tid = t; is = inr refl; awaited = preparing is t h }) left refl) (λ h. each.forgets heard none h))

      taken_any : (message : Message) → OfMessage message P → P (workers.takes_any rights k n kept s message a p)
      taken_any (m.Object t o version x) each =
          cond_both (awaits_object rights k n kept s t o a a.phase) _ _ P (λ h. got t o version x each (fetching is t o h)) (λ h. each.rests (and_right _ _ h))
      taken_any (m.Deny t o reason) each =
          cond_both (awaits_object rights k n kept s t o a a.phase) _ _ P (λ h. refused t o reason each (fetching is t o h)) (λ h. each.rests (and_right _ _ h))
      taken_any (m.Vote t answer) each =
          cond_both (awaits_vote rights k n kept s t a p a.phase) _ _ P (λ h. voted t answer each (preparing is t h)) (λ h. each.rests (and_right _ _ h))
      taken_any (m.Inquire t) each = cond_both (t.worker == n) _ _ P (λ _. inquired t each) (λ h. each.rests (and_right _ _ h))
      taken_any message each = each.rests (and_right (is_store rights s) (is_meant message) refl)

    pub taken : (message : Message) (P : Act → Type 0) → OfMessage message P → P (workers.takes rights k n kept s message a p)
    taken message P each =
        cond_both (is_store rights s) _ _ P (λ is. taken_any P is message each) (λ h. each.rests (and_left (is_store rights s) (is_meant message) h))

    -- ---- node s is silent

    pub silenced : (P : Act → Type 0) → P (workers.gives rights k n kept (Silent s) a)
        → ((ls : List ℕ) → a.phase ≡ workers.Preparing ls → P (sending (workers.aborts rights k n kept a p) (workers.gives rights k n kept (Silent s) a)))
        → P (workers.gives_up rights k n kept s a p)
    silenced P gone aborted = by a.phase refl
      where
        by : (phase : Phase) → a.phase ≡ phase → P (sending (aborts_in rights k n kept phase a p) (workers.gives rights k n kept (Silent s) a))
        by (workers.Preparing ls) is = aborted ls is
        by _ is = gone

-- ---- a node hears, or comes back

module _ (S : Setting) (w : World) (P : Act → Type 0) where
  -- node b hears what came of node a
  pub heard : (a b : ℕ) → P (stays (w.node b).attempt)
      → ((message : Message) → is_worker S.rights b ≡ true → P (workers.takes S.rights S.cache b (kept S w b) a message (w.node b).attempt (parts S w b)))
      → ((message : Message) → is_worker S.rights b ≡ false → P (of_store S (w.node b).attempt (says S.rights b a message (shelf S w b))))
      → (read : Option Message) → P (hears S w a b read)
  heard a b rests worker store None = rests
  heard a b rests worker store (Some message) = cond_both (is_worker S.rights b) _ _ P (worker message) (store message)

  pub woken : (n : ℕ) → (is_worker S.rights n ≡ true → P (workers.wakes S.rights S.cache n (kept S w n)))
      → (is_worker S.rights n ≡ false → P (of_store S (w.node n).attempt (asks (shelf S w n)))) → P (act S w (i.Recover n))
  woken n worker store = cond_both (is_worker S.rights n) _ _ P worker store
