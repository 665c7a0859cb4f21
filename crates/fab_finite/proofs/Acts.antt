-- What acts bring about: no more than was to be expected of the attempt, and of the message that is heard.
use Rattle.std.proofs.Common.{◌≡◌, ◌⊎◌, ℕ, suc, ◌+◌, ◌*◌, ◌≤◌, List, [], ◌∷◌, ◌++◌, length, map, Bool, true, false, cond, ◌==◌, Option, Some, None, refl, sym, ap, ◌∙◌, subst, inl, inr, arith, true≢false, length-append}
use Rattle.std.specs.List.{flat_map, range_with_len}
use Rattle.std.proofs.Math.Nat.{mul-le-mul_left, mul-le-mul_right}
use Rattle.std.proofs.lemmas.List.{map-append}
use Rattle.std.proofs.lemmas.Bool.{eqb-true}
use Rattle.fab_base.specs.declared.object.Oid.{Oid}
use Rattle.fab_base.specs.declared.object.Object.{Object}
use Rattle.fab_base.specs.declared.object.Tid.{Tid}
use Rattle.fab_base.specs.declared.entry.Entry.{Entry}
use Rattle.fab_base.specs.declared.entry.Entry.TheVariants as e
use Rattle.fab_base.specs.declared.message.Answer.{Answer}
use Rattle.fab_base.specs.declared.message.Answer.TheVariants.{Yes, OldTid}
use Rattle.fab_base.specs.declared.message.Items.{Items}
use Rattle.fab_base.specs.declared.message.Why.TheVariants as why
use Rattle.fab_base.specs.declared.message.Message.{Message}
use Rattle.fab_base.specs.declared.message.Message.TheVariants as m
use Rattle.fab_base.specs.MessageSpelling.{spelled}
use Rattle.fab_base.specs.FlatMap.{FlatMap, map_of, put}
use Rattle.fab_map.proofs.Rows.{put_more}
use Rattle.fab_language.specs.declared.ending.Ending.TheVariants as endings
use Rattle.fab_language.specs.Heaps.{touched}
use Rattle.fab_language.specs.Meaning.{Meant}
use Rattle.fab_net.specs.declared.outcome.ReqOutcome.{ReqOutcome}
use Rattle.fab_net.specs.declared.outcome.ReqOutcome.TheVariants as ends
use Rattle.fab_net.specs.declared.note.Note.{Note}
use Rattle.fab_net.specs.declared.note.Note.TheVariants as note
use Rattle.fab_rights.specs.Computed.{is_store, stores_in}
use Rattle.fab_protocol.specs.declared.parts.Decision.{Decision}
use Rattle.fab_protocol.specs.declared.parts.Parts.{Parts}
use Rattle.fab_protocol.specs.declared.said.Said.{Said}
use Rattle.fab_protocol.specs.Caches.{cached_row}
use Rattle.fab_protocol.specs.Parts.{stores_of, items_at}
use Rattle.fab_protocol.specs.Stores as stores
use Rattle.fab_protocol.specs.Stores.{Prepared, Shelf, last_of, records, replies, silent, vote, voted, votes}
use Rattle.fab_protocol.specs.Versions.{Row, Rows, name_of, objects_of}
use Rattle.fab_protocol.proofs.TableLaws.{row_of_name}
use Rattle.fab_world.specs.Attempts.{parts_of}
use Rattle.fab_world.specs.Machine.{Setting, of_store, lacks}
use Rattle.fab_world.specs.Serial.{IsEvaluation}
use Rattle.fab_world.specs.Workers as workers
use Rattle.fab_world.specs.Workers.{Kept, Phase, Attempt, Act, aborts, aborts_in, asks_all, begins, closed, closes, decides, gives, gives_up, needs, request_of, resumes, sending, stays, takes, telling, tid_of, to_all, wakes}
use Rattle.fab_protocol.proofs.StoreActs.{answered}
use Rattle.fab_world.proofs.WorkerActs.{again, closed_each, resumed, taken}
use Rattle.fab_integrity.proofs.Lasting.{kept_behind}
use Rattle.fab_lined.proofs.Begun.{one}
use Rattle.fab_finite.specs.Finite.{TouchesWhatWasMissing, of_decision, of_prepare, of_start}
use Rattle.fab_finite.proofs.Rising.{times, times_once, rising_filter, rising_range, rising_stores}
use Rattle.fab_finite.proofs.Weights.{weight, weight_some, out, out_all, out_append, told, asked, gain, gains, work, of_answers, of_prepared}

-- ---- one answer more

objects_last : (answers : Rows) (row : Row) → map_of (objects_of (answers ++ row ∷ [])) ≡ put row.0 row.2 (map_of (objects_of answers))
objects_last answers row =
    ap map_of (map-append (λ (r : Row). (r.0, r.2)) answers (row ∷ [])) ∙ put_more (objects_of answers) (row.0, row.2) []

-- what is got for a message: its weight, toward its sender
abbrev pub got_for : ℕ → ℕ → Message → ℕ → ℕ
got_for starts s message y = cond (s == y) (weight starts (spelled message)) 0

got_some : (starts s : ℕ) (message : Message) (y : ℕ) → one (s == y) ≤ got_for starts s message y
got_some starts s message y = by (s == y)
  where
    by : (b : Bool) → one b ≤ cond b (weight starts (spelled message)) 0
    by true = weight_some starts (spelled message)
    by false = omega arith

-- no request that is closed is told to anybody
closed_gains : (y request : ℕ) (outcome : ReqOutcome) → gain y (closed request outcome) ≡ 0
closed_gains y request outcome = closed_each (λ entry. gain y entry ≡ 0) request (λ code node. refl) outcome

module _ (S : Setting) (T n : ℕ) (kept : Kept) where
  abbrev k : ℕ
  k = S.cache

  -- ---- answers are counted

  -- the meaning over the answers
  abbrev pub meant_at : Attempt → Meant
  meant_at a = S.means n (request_of kept) (tid_of n kept a) (map_of (objects_of a.answers))

  -- as many objects were touched as were answered
  abbrev pub Few : Attempt → Type 0
  Few a = length a.answers ≤ length (touched (meant_at a).touches)

  -- where an object is missing
  abbrev pub Counted : Attempt → Phase → Type 0
  Counted a workers.Idle = Unit {0}
  Counted a workers.Evaluating = (site : ℕ) (o : Oid) → (meant_at a).ending ≡ endings.Missing site o → Few a
  Counted a (workers.Fetching o) = (site : ℕ) × ((meant_at a).ending ≡ endings.Missing site o) × Few a
  Counted a (workers.Preparing ls) = Unit {0}

  -- behind an act its node is idle, or what lasts of it is the same and its answers are counted
  abbrev pub CountsOn : Act → Type 0
  CountsOn act = (act.attempt.phase ≡ workers.Idle) ⊎ (((c : Kept) → kept_behind act.entry c ≡ c) × Counted act.attempt act.attempt.phase)

  -- ---- what an act brings about

  abbrev pub had : Attempt → ℕ
  had a = work T a.phase (length a.answers)

  -- of the attempt, by messages to y, and by them once its node comes back
  abbrev pub comes_to : ℕ → Act → ℕ
  comes_to y act = had act.attempt + out T y act.sends + T * gains y act.entry

  -- No more than was to be expected of the attempt a: so much is paid in it, and so much is given from elsewhere.
  pub record Brings (a : Attempt) (act : Act) (paid given : ℕ → ℕ) : Type 0 where
    pub cost : (y : ℕ) → comes_to y act + paid y ≤ had a + given y
    pub counted : CountsOn act

  abbrev On : Attempt → Act → ℕ → Type 0
  On a act paid = Brings a act (λ y. paid) (λ y. 0)

  -- hearing a message is paid with what it brings from its sender
  abbrev pub Hears : Attempt → Act → ℕ → Message → Type 0
  Hears a act s message = Brings a act (λ y. one (s == y)) (got_for T s message)

  on_hears : (a : Attempt) (act : Act) (s : ℕ) (message : Message) → On a act 0 → Hears a act s message
  on_hears a act s message on = record {
    cost = λ y. let h = on.cost y in let g = got_some T s message y in omega (arith, h, g);
    counted = on.counted;
  }

  -- ---- a worker's acts

  pub on_stays : (a : Attempt) → Counted a a.phase → On a (stays a) 0
  on_stays a counted = record { cost = λ y. omega arith; counted = inr (λ c. refl, counted) }

  commits : (y : ℕ) (ss : List ℕ) (t : Tid) → out T y (to_all ss (m.Commit t)) ≡ times y ss
  commits y ss t = let h = out_all T y ss (m.Commit t) in omega (arith, h)

  on_decides : (a : Attempt) (parts : Parts) (paid : ℕ) → of_decision T + paid ≤ had a → On a (decides S.rights k n kept a parts) paid
  on_decides a parts paid h = record {
    cost = λ y.
        let once = times_once y 0 (stores_of parts) (rising_stores parts) in
        let sent = commits y (stores_of parts) (tid_of n kept a) in
        let later = mul-le-mul_left T once in
        omega (arith, h, once, sent, later);
    counted = inl refl;
  }

  on_closes : (outcome : ReqOutcome) (a : Attempt) (paid : ℕ) → paid ≤ had a → On a (closes S.rights k n kept outcome a) paid
  on_closes outcome a paid h = record {
    cost = λ y. let later = ap (λ g. T * g) (closed_gains y (request_of kept) outcome) in omega (arith, h, later);
    counted = inl refl;
  }

  on_gives : (outcome : ReqOutcome) (a : Attempt) (paid : ℕ) → paid ≤ had a → On a (gives S.rights k n kept outcome a) paid
  on_gives outcome a paid h = let g = on_closes outcome a paid h in record { cost = g.cost; counted = inl refl }

  on_again : (a : Attempt) → On a (again S.rights k n kept a) 0
  on_again a = record { cost = λ y. omega arith; counted = inl refl }

  -- the objects of one answer more: if another one is missing, one more was touched
  few_more : TouchesWhatWasMissing S → (a : Attempt) (site : ℕ) (o : Oid) (row : Row) → (meant_at a).ending ≡ endings.Missing site o → Few a → row.0 ≡ o
      → (N : FlatMap) → N ≡ put row.0 row.2 (map_of (objects_of a.answers)) → (other : ℕ) (p : Oid)
      → (S.means n (request_of kept) (tid_of n kept a) N).ending ≡ endings.Missing other p
      → length (a.answers ++ row ∷ []) ≤ length (touched (S.means n (request_of kept) (tid_of n kept a) N).touches)
  few_more grows a site o row missing few same N is other p lacks =
      let same_map : N ≡ put o row.2 (map_of (objects_of a.answers)) = is ∙ ap (λ q. put q row.2 (map_of (objects_of a.answers))) same in
      let more = grows n (request_of kept) (tid_of n kept a) (map_of (objects_of a.answers)) site other o p row.2 missing
      (subst (λ M. (S.means n (request_of kept) (tid_of n kept a) M).ending ≡ endings.Missing other p) same_map lacks) in
      let touches = ap (λ M. length (touched (S.means n (request_of kept) (tid_of n kept a) M).touches)) same_map in
      let count = length-append a.answers (row ∷ []) in
      omega (arith, few, more, touches, count)

  module _ (law : IsEvaluation S) (grows : TouchesWhatWasMissing S) where
    -- no more than so many answers, where an object is missing
    few_answers : (a : Attempt) → Few a → length a.answers ≤ 1024
    few_answers a few =
        let touches = law.few_touched n (request_of kept) (tid_of n kept a) (map_of (objects_of a.answers)) in omega (arith, few, touches)

    on_needs : (site : ℕ) (o : Oid) (row : Option Row) (a : Attempt) → cached_row a.caches o ≡ row → a.phase ≡ workers.Evaluating
        → (meant_at a).ending ≡ endings.Missing site o → Few a → On a (needs S.rights k n kept site o row a (meant_at a)) 1
    on_needs site o (Some row) a found is missing few = record {
      cost = λ y.
          let most = few_answers a few in
          let count = length-append a.answers (row ∷ []) in
          let before = ap (λ p. work T p (length a.answers)) is in
          let after = ap (λ p. work T p (length (a.answers ++ row ∷ []))) is in
          omega (arith, most, count, before, after);
      counted = inr (
        λ c. refl,
        subst (Counted (record (telling a (meant_at a)) { answers = a.answers ++ row ∷ [] })) (sym is)
            (λ other p lacks.
            few_more grows a site o row missing few (row_of_name name_of _ o row found) (map_of (objects_of (a.answers ++ row ∷ [])))
            (objects_last a.answers row) other p lacks),
      );
    }
    on_needs site o None a found is missing few = record {
      cost = λ y.
          let most = few_answers a few in
          let before = ap (λ p. work T p (length a.answers)) is in
          let sent = fetch_sent y (o.store == y) in
          omega (arith, most, before, sent);
      counted = inr (λ c. refl, (site, missing, few));
    }
      where
        fetch_sent : (y : ℕ) (b : Bool) → cond b 2 0 + 0 ≤ 2
        fetch_sent y true = omega arith
        fetch_sent y false = omega arith

    prepares : (y : ℕ) (ss : List ℕ) (a : Attempt) (parts : Parts)
        → out T y (map (λ s. (s, m.Prepare (tid_of n kept a) (items_at parts s))) ss) ≡ times y ss * of_prepare T
    prepares y [] a parts = omega arith
    prepares y (s ∷ ss) a parts = by (s == y) (prepares y ss a parts)
      where
        by : (b : Bool) → out T y (map (λ s. (s, m.Prepare (tid_of n kept a) (items_at parts s))) ss) ≡ times y ss * of_prepare T
            → cond b (of_prepare T) 0 + out T y (map (λ s. (s, m.Prepare (tid_of n kept a) (items_at parts s))) ss)
            ≡ (cond b 1 0 + times y ss) * of_prepare T
        by true h = omega (arith, h)
        by false h = omega (arith, h)

    on_asks : (s : ℕ) (ss : List ℕ) (a : Attempt) (parts : Parts) → ((y : ℕ) → times y (s ∷ ss) ≤ 1) → 1 + of_prepare T + of_prepared T ≤ had a
        → On a (asks_all S.rights k n kept (s ∷ ss) a parts) 1
    on_asks s ss a parts once h = record {
      cost = λ y.
          let sent = prepares y (s ∷ ss) a parts in
          let few = mul-le-mul_right (of_prepare T) (once y) in
          let none = out_append T y (map (λ s. (s, m.Prepare (tid_of n kept a) (items_at parts s))) (s ∷ ss)) [] in
          omega (arith, sent, few, none, h);
      counted = inr (λ c. refl, tt);
    }

    pub on_resumes : (a : Attempt) → a.phase ≡ workers.Evaluating → Counted a a.phase → On a (resumes S.rights k n kept a (meant_at a)) 1
    on_resumes a is counted =
        let parts : Parts = parts_of a.answers (meant_at a) in
        let before : had a ≡ of_answers T (length a.answers) = ap (λ p. work T p (length a.answers)) is in
        let once = λ (y : ℕ). times_once y 0 (stores_of parts) (rising_stores parts) in
        resumed S.rights k n kept a (meant_at a) (λ act. On a act 1) (record {
          finds = λ site o row e found. on_needs site o (Some row) a found is e (subst (Counted a) is counted site o e);
          fetches = λ site o e none. on_needs site o None a none is e (subst (Counted a) is counted site o e);
          decides = λ value e none. let g = on_decides (telling a (meant_at a)) parts 1 (omega (arith, before)) in record { cost = g.cost; counted = g.counted };
          asks = λ value s ss e at.
              let g = on_asks s ss (telling a (meant_at a)) parts (λ y. subst (λ zs. times y zs ≤ 1) at (once y)) (omega (arith, before)) in
              record { cost = g.cost; counted = g.counted };
          fails = λ e. let g = on_closes ends.Failed a 1 (omega (arith, before)) in record { cost = g.cost; counted = inl refl };
          stops = λ limit e. let g = on_closes (ends.Stopped limit) a 1 (omega (arith, before)) in record { cost = g.cost; counted = inl refl };
        })

    -- ---- a message from store s

    on_learns : (o : Oid) (version : ℕ) (x : Object) (a : Attempt) → a.phase ≡ workers.Fetching o → Counted a (workers.Fetching o)
        → On a (stays (record a { phase = workers.Evaluating; answers = a.answers ++ (o, version, x) ∷ [] })) 0
    on_learns o version x a is counted = record {
      cost = λ y.
          let count = length-append a.answers ((o, version, x) ∷ []) in
          let before = ap (λ q. work T q (length a.answers)) is in
          omega (arith, count, before);
      counted = inr (
        λ c. refl,
        λ other q lacks.
            few_more grows a counted.0 o (o, version, x) counted.1 counted.2 refl (map_of (objects_of (a.answers ++ (o, version, x) ∷ [])))
            (objects_last a.answers (o, version, x)) other q lacks,
      );
    }

    aborted : (y : ℕ) (ss : List ℕ) (t : Tid) → out T y (to_all ss (m.Abort t)) ≡ times y ss
    aborted y ss t = let h = out_all T y ss (m.Abort t) in omega (arith, h)

    -- each of them hears of it, behind an act that sends nothing
    on_aborts : (a : Attempt) (act : Act) (parts : Parts) (paid : ℕ) → act.sends ≡ [] → act.attempt.phase ≡ workers.Idle → ((y : ℕ) → gains y act.entry ≡ 0)
        → 1 + paid ≤ had a → On a (sending (aborts S.rights k n kept a parts) act) paid
    on_aborts a act parts paid silent idle none h = record {
      cost = λ y.
          let once = times_once y 0 (stores_of parts) (rising_stores parts) in
          let sent = aborted y (stores_of parts) (tid_of n kept a) in
          let both = out_append T y (aborts S.rights k n kept a parts) act.sends in
          let no_more = ap (out T y) silent in
          let rests = ap (λ p. work T p (length act.attempt.answers)) idle in
          let gained = none y in
          let later = ap (λ g. T * g) gained in
          omega (arith, once, sent, both, no_more, rests, later, h);
      counted = inl idle;
    }

    -- one answer of weight 1 to an Inquire
    hears_answer : (s : ℕ) (t : Tid) (answer : Message) (a : Attempt) → Counted a a.phase → weight T (spelled answer) ≡ 1
        → Hears a (sending ((s, answer) ∷ []) (stays a)) s (m.Inquire t)
    hears_answer s t answer a counted one_more = record {
      cost = λ y. let h = by (s == y) in omega (arith, h);
      counted = inr (λ c. refl, counted);
    }
      where
        by : (b : Bool) → cond b (weight T (spelled answer)) 0 + one b ≤ cond b 2 0
        by true = omega (arith, one_more)
        by false = omega arith

    module _ (s : ℕ) (a : Attempt) (parts : Parts) (counted : Counted a a.phase) where
      prepared : (ls : List ℕ) → a.phase ≡ workers.Preparing ls → of_prepared T ≤ had a
      prepared ls is = let same = ap (λ p. work T p (length a.answers)) is in omega (arith, same)

      pub hears_takes : (message : Message) → Hears a (takes S.rights k n kept s message a parts) s message
      hears_takes message = taken S.rights k n kept s a parts message (λ act. Hears a act s message) (record {
        rests = λ e. on_hears a _ s message (on_stays a counted);
        learns = λ x e.
            on_hears a _ s message (on_learns x.name x.version x.object a x.awaited.phase_is (subst (Counted a) x.awaited.phase_is counted));
        denied = λ reason x. on_hears a _ s message (on_gives (ends.Denied s reason) a 0 (omega arith));
        tires = λ x e. on_hears a _ s message (on_gives ends.Conflict a 0 (omega arith));
        tries = λ x e. on_hears a _ s message (on_again a);
        gives_up = λ x e.
            let h = prepared x.awaited.waiting x.awaited.phase_is in
            on_hears a _ s message (on_aborts a (gives S.rights k n kept ends.Conflict a) parts 0 refl refl (λ y. refl) (omega (arith, h)));
        aborts = λ x e.
            let h = prepared x.awaited.waiting x.awaited.phase_is in
            on_hears a _ s message (on_aborts a (again S.rights k n kept a) parts 0 refl refl (λ y. refl) (omega (arith, h)));
        decides = λ x e.
            let h = prepared x.awaited.waiting x.awaited.phase_is in on_hears a _ s message (on_decides a parts 0 (omega (arith, h)));
        waits = λ x l ls e.
            let h = prepared x.awaited.waiting x.awaited.phase_is in
            on_hears a _ s message (record { cost = λ y. omega (arith, h); counted = inr (λ c. refl, tt) });
        commits = λ x e. subst (Hears a _ s) (sym x.is) (hears_answer s x.tid (m.Commit x.tid) a counted refl);
        forgets = λ x e g. subst (Hears a _ s) (sym x.is) (hears_answer s x.tid (m.Abort x.tid) a counted refl);
      })

    -- ---- the other events of a worker

    pub on_gives_up : (s : ℕ) (a : Attempt) (parts : Parts) → lacks s a.phase ≡ true → On a (gives_up S.rights k n kept s a parts) 1
    on_gives_up s a parts lacking = by a.phase refl lacking
      where
        by : (phase : Phase) → a.phase ≡ phase → lacks s phase ≡ true
            → On a (sending (aborts_in S.rights k n kept phase a parts) (gives S.rights k n kept (ends.Silent s) a)) 1
        by workers.Idle is h = absurd (true≢false (sym h))
        by workers.Evaluating is h = absurd (true≢false (sym h))
        by (workers.Fetching o) is h =
            let before = ap (λ p. work T p (length a.answers)) is in
            let g = on_gives (ends.Silent s) a 1 (omega (arith, before)) in
            record { cost = g.cost; counted = inl refl }
        by (workers.Preparing ls) is h =
            let before = ap (λ p. work T p (length a.answers)) is in
            on_aborts a (gives S.rights k n kept (ends.Silent s) a) parts 1 refl refl (λ y. refl) (omega (arith, before))

    pub begins_bring : (a : Attempt) → Brings a (begins S.rights k n kept a) (λ y. 1) (λ y. of_start T)
    begins_bring a = record { cost = λ y. omega arith; counted = inr (λ c. refl, λ site o lacks. omega arith) }

  -- who comes back tells each decision again, and its new boot
  wakes_decided : (y : ℕ) (ds : List Decision) → out T y (flat_map (λ d. to_all d.stores (m.Commit d.tid)) ds) ≡ told y ds
  wakes_decided y [] = refl
  wakes_decided y (d ∷ ds) =
      let both = out_append T y (to_all d.stores (m.Commit d.tid)) (flat_map (λ d. to_all d.stores (m.Commit d.tid)) ds) in
      let here = commits y d.stores d.tid in let h = wakes_decided y ds in omega (arith, both, here, h)

  pub wakes_sent : (y : ℕ) → out T y (wakes S.rights k n kept).sends ≤ told y kept.decided + 1
  wakes_sent y =
      let boot = m.Boot (suc kept.boot) in
      let both = out_append T y (flat_map (λ d. to_all d.stores (m.Commit d.tid)) kept.decided) (to_all (stores_in S.rights) boot) in
      let here = wakes_decided y kept.decided in
      let more = out_all T y (stores_in S.rights) boot in
      let once = times_once y 0 (stores_in S.rights) (rising_filter (is_store S.rights) 0 (range_with_len 0 64) (rising_range 0 64)) in
      omega (arith, both, here, more, once)

-- ---- a store's acts

-- what store n says to a message of s costs no more than the message brings, and its record is no worker's
pub record Answers (T s : ℕ) (message : Message) (said : Said) : Type 0 where
  pub cost : (y : ℕ) → out T y said.sends + T * gains y said.entry + one (s == y) ≤ got_for T s message y
  pub same : (c : Kept) → kept_behind said.entry c ≡ c

module _ (S : Setting) (T s n : ℕ) where
  says_nothing : (message : Message) → Answers T s message silent
  says_nothing message = record { cost = λ y. let h = got_some T s message y in omega (arith, h); same = λ c. refl }

  says_reply : (t : Tid) (o : Oid) (reply : Message) → weight T (spelled reply) ≡ 1 → Answers T s (m.Fetch t o) (replies s reply)
  says_reply t o reply one_more = record { cost = λ y. let h = by (s == y) in omega (arith, h); same = λ c. refl }
    where
      by : (b : Bool) → cond b (weight T (spelled reply)) 0 + one b ≤ cond b 2 0
      by true = omega (arith, one_more)
      by false = omega arith

  -- a vote, and a record by which at most one transaction of its sender is prepared
  says_vote : (t : Tid) (items : Items) (answer : Answer) (entry : Option Entry) → ((y : ℕ) → gains y entry ≤ 2 * one (s == y))
      → ((c : Kept) → kept_behind entry c ≡ c) → Answers T s (m.Prepare t items) (votes s t answer entry)
  says_vote t items answer entry few same = record {
    cost = λ y. let h = by (s == y) in let later = mul-le-mul_left T (few y) in omega (arith, h, later);
    same = same;
  }
    where
      by : (b : Bool) → cond b 1 0 + T * (2 * one b) + one b ≤ cond b (of_prepare T) 0
      by true = omega arith
      by false = omega arith

  says_voted : (t : Tid) (items : Items) (answer : Answer) → (t.worker == s) ≡ true → Answers T s (m.Prepare t items) (votes s t answer (Some (voted t items answer)))
  says_voted t items answer own = says_vote t items answer (Some (voted t items answer)) (few answer) (same answer)
    where
      few : (a : Answer) (y : ℕ) → gains y (Some (voted t items a)) ≤ 2 * one (s == y)
      few Yes y = let e = ap (λ z. one (z == y)) (eqb-true t.worker s own) in omega (arith, e)
      few _ y = omega arith

      same : (a : Answer) (c : Kept) → kept_behind (Some (voted t items a)) c ≡ c
      same Yes c = refl
      same _ c = refl

  -- a record by which nothing is prepared
  says_record : (entry : Entry) (notes : List Note) (message : Message) → ((y : ℕ) → gain y entry ≡ 0) → ((c : Kept) → kept_behind (Some entry) c ≡ c)
      → Answers T s message (records entry notes)
  says_record entry notes message none same = record {
    cost = λ y.
        let h = got_some T s message y in
        let later = ap (λ g. T * g) (none y) in
        omega (arith, h, later);
    same = same;
  }

  says_any : (message : Message) (shelf : Shelf) → Answers T s message (stores.says S.rights n s message shelf)
  says_any message shelf = answered S.rights n s shelf (Answers T s message) message (record {
    rests = λ h. says_nothing message;
    lacks = λ t o h. for_it h.is (says_reply t o (m.Deny t o why.Missing) refl);
    bars = λ t o h. for_it h.is (says_reply t o (m.Deny t o why.Rights) refl);
    shows = λ t o row h there. for_it h.is (says_reply t o (m.Object t o row.1 row.2) refl);
    too_late = λ t items h. for_it h.is (says_vote t items (OldTid (last_of shelf s)) None (λ y. omega arith) (λ c. refl));
    votes_on = λ t items h above. for_it h.is (says_voted t items (vote S.rights n s t items shelf) h.sender);
    applies = λ t h there. says_record (e.Applied t) (note.Applied t ∷ []) message (λ y. refl) (λ c. refl);
    releases = λ t h there. says_record (e.Released t) [] message (λ y. refl) (λ c. refl);
    boots = λ b h later. says_record (e.BootSeen s b) [] message (λ y. refl) (λ c. refl);
  })
    where
      for_it : {own : Message} {said : Said} → message ≡ own → Answers T s own said → Answers T s message said
      for_it {own} {said} is h = subst (λ x. Answers T s x said) (sym is) h

  pub hears_says : (kept : Kept) (message : Message) (shelf : Shelf) (a : Attempt) → Counted S T n kept a a.phase
      → Hears S T n kept a (of_store S a (stores.says S.rights n s message shelf)) s message
  hears_says kept message shelf a counted =
      let said = says_any message shelf in
      record { cost = λ y. let h = said.cost y in omega (arith, h); counted = inr (said.same, counted) }

-- who comes back asks about each prepared transaction, and each is answered
pub asks_sent : (T y : ℕ) (ps : List Prepared) → out T y (map (λ p. (p.0.worker, m.Inquire p.0)) ps) ≡ 2 * asked y ps
asks_sent T y [] = omega arith
asks_sent T y (p ∷ ps) = by (p.0.worker == y) (asks_sent T y ps)
  where
    by : (b : Bool) → out T y (map (λ q. (q.0.worker, m.Inquire q.0)) ps) ≡ 2 * asked y ps → cond b 2 0 + out T y (map (λ q. (q.0.worker, m.Inquire q.0)) ps) ≡ 2 * (cond b 1 0 + asked y ps)
    by true h = omega (arith, h)
    by false h = omega (arith, h)
