-- A worker outside D keeps the invariant at each of its events, but where it decides.
use Rattle.std.proofs.Common.{◌≡◌, ℕ, suc, ◌+◌, ◌<◌, ◌≤◌, Bool, true, false, not, ◌&&◌, ◌==◌, nat_lt, IsTrue, IsFalse}
use Rattle.std.proofs.Common.{List, [], ◌∷◌, ◌++◌, map, Option, Some, None, unwrap_or, refl, sym, ap, ◌∙◌, subst, ◌⊎◌, inl, inr, arith}
use Rattle.std.specs.Prelude.{slice_get}
use Rattle.std.specs.List.{filter, flat_map, range_with_len, AllByRecursion}
use Rattle.std.proofs.lemmas.Bool.{cases_eq, ne_eqb, and_parts, and_from, both_ways, false_from_ne_true}
use Rattle.std.proofs.lemmas.List.{append-nil, map-append}
use Rattle.fab_base.specs.declared.entry.Entry.{Entry}
use Rattle.fab_base.specs.declared.message.Message.{Message}
use Rattle.fab_base.specs.declared.message.Message.TheVariants as m
use Rattle.fab_base.specs.declared.object.Oid.{Oid}
use Rattle.fab_base.specs.declared.object.Object.{Object}
use Rattle.fab_base.specs.declared.object.Tid.{Tid}
use Rattle.fab_base.specs.declared.object.Value.{Value}
use Rattle.fab_base.specs.FieldSpelling.{IsTid, IsObject, sent_version}
use Rattle.fab_base.specs.FlatMap.{is_among}
use Rattle.fab_base.specs.MessageSpelling.{IsMessage}
use Rattle.fab_base.proofs.Lists.{all_map}
use Rattle.fab_language.specs.declared.ending.Ending.TheVariants as endings
use Rattle.fab_net.specs.declared.note.Commit.{Commit}
use Rattle.fab_net.specs.declared.note.Note.{Note}
use Rattle.fab_net.specs.declared.note.Note.TheVariants as note
use Rattle.fab_net.specs.declared.outcome.ReqOutcome.{ReqOutcome}
use Rattle.fab_net.specs.declared.outcome.ReqOutcome.TheVariants.{Silent}
use Rattle.fab_rights.specs.Computed.{is_store, suits, stores_in}
use Rattle.fab_protocol.specs.Caches.{cached_row}
use Rattle.fab_protocol.specs.declared.parts.Decision.{Decision}
use Rattle.fab_protocol.specs.declared.parts.Parts.{Parts}
use Rattle.fab_protocol.specs.Parts.{stores_of, items_at}
use Rattle.fab_protocol.specs.Tables.{row_of, OnlyOnce}
use Rattle.fab_protocol.specs.Versions.{Row, Rows, name_of, names_of, objects_of, is_tid}
use Rattle.fab_protocol.proofs.NameLists.{once_append}
use Rattle.fab_protocol.proofs.TableLaws.{row_of_name}
use Rattle.fab_world.specs.Machine.{Setting, World, kept, shelf, meant, parts, lacks}
use Rattle.fab_world.specs.Serial.{IsSetting, IsEvaluation, Excludes, IsFit, AreFit}
use Rattle.fab_world.specs.Workers as workers
use Rattle.fab_world.specs.Workers.{Act, Attempt, Kept, Phase, is_in, closed, dropped, stays, noting, sending, begins, needs, ends, asks_all, closes}
use Rattle.fab_world.specs.Workers.{gives, undecided}
use Rattle.fab_world.specs.Workers.{telling, new_touches, new_downs, awaits_vote, aborts, aborts_in, is_made_before}
use Rattle.fab_world.specs.Workers.{waits_for, has_decided, gives_up, wakes, request_of, tid_of, to_all}
use Rattle.fab_world.proofs.WorkerActs.{Fetches, again}
use Rattle.fab_integrity.proofs.Invariant.{In, State, Standing, Inv, Pair, IsWorker, IsStore, WorkerOk, IsHad, IsAwaited, IsEnded, IsPreparing, Known, Says}
use Rattle.fab_integrity.proofs.Invariant.{Has, Voted, TakesPart}
use Rattle.fab_integrity.proofs.Invariant.{current, decision_of, parts_by, tid_at, standing, deals, limit_at, rank_of}
use Rattle.fab_integrity.proofs.Lists.{in_append, in_one, filter_in, in_map, map_in, any_in, in_any, all_of, in_flat, slot_in, number_in, in_numbers}
use Rattle.fab_integrity.proofs.Lists.{in_blank}
use Rattle.fab_integrity.proofs.WorkerMoves.{closed_keeps, had_on, after, GoesOn, goes_on}
use Rattle.fab_integrity.proofs.WorkerSpelling.{missing_fits, missing_is_new, prepare_spelled}
use Rattle.fab_integrity.proofs.Worlds.{Lands}
use Rattle.fab_integrity.proofs.Tids.{tid_is, tid_same, limit_at_most, tid_spelled, early_spelled}
use Rattle.fab_protocol.proofs.Records.{worker_below}
use Rattle.fab_integrity.proofs.Lasting.{kept_behind}
use Rattle.fab_integrity.proofs.Frames.{moves_refl, holder_is}
use Rattle.fab_integrity.proofs.Maps.{row_listed}
use Rattle.fab_integrity.proofs.Deals.{dealt, deal_of}
use Rattle.fab_integrity.proofs.Transport.{to_all_is}

-- ---- caches

-- an object that is found stands in one of the caches, under its name
pub record IsFound (caches : List Rows) (o : Oid) (row : Row) : Type 0 where
  pub rows : Rows
  pub cache : In rows caches
  pub listed : In row rows
  pub name : row.0 ≡ o

pub found_in_cache : (caches : List Rows) (o : Oid) (row : Row) → cached_row caches o ≡ Some row → IsFound caches o row
found_in_cache caches o row h = by_slot (slice_get caches o.store) refl h
  where
    by_slot : (slot : Option Rows) → slice_get caches o.store ≡ slot → row_of name_of (unwrap_or slot []) o ≡ Some row → IsFound caches o row
    by_slot None e g = let no : None ≡ Some row = g in cc
    by_slot (Some rows) e g =
        record { rows = rows; cache = slot_in caches o.store rows e; listed = row_listed name_of rows o row g; name = row_of_name name_of rows o row g }

once_more : (rows : Rows) (row : Row) → OnlyOnce (names_of rows) → IsFalse (is_among row.0 (names_of rows)) → OnlyOnce (names_of (rows ++ row ∷ []))
once_more rows row h new = subst OnlyOnce (sym (map-append name_of rows (row ∷ []))) (once_append (names_of rows) (row.0 ∷ []) h (refl, tt) (new, tt))

module _ (S : Setting) (D ex : ℕ → Bool) (given : IsSetting S) (law : IsEvaluation S) (hyp : Excludes S D ex) (w v : World) (cs : List Commit) (C : State)
    (n : ℕ) (inv : Inv S D ex w cs C) (me : IsWorker S D ex n) (up : (w.node n).up ≡ true) where
  abbrev k : Kept
  k = kept S w n

  abbrev a : Attempt
  a = (w.node n).attempt

  abbrev p : Parts
  p = parts S w n

  abbrev st : Standing
  st = standing S D ex w cs n

  -- the same, and up
  abbrev here : Standing
  here = record { kept = k; attempt = a; up = true; deals = deals cs n }

  is_here : st ≡ here
  is_here = λ i. record { kept = k; attempt = a; up = up i; deals = deals cs n }

  ok : WorkerOk S D ex n here C
  ok = subst (λ u. WorkerOk S D ex n u C) is_here (inv.worker n me)

  pair : (s : ℕ) → IsStore S D ex s → Pair S D ex n s here (shelf S w s) (w.queue n s) (w.queue s n) C
  pair s hs = subst (λ u. Pair S D ex n s u (shelf S w s) (w.queue n s) (w.queue s n) C) is_here (inv.pair n s me hs)

  -- where it stands behind an act
  abbrev behind : Act → Standing
  behind act = after S D ex given w v cs C n inv me act

  acts : (act : Act) → Lands n act w v → GoesOn S D ex n here (behind act) C
      → ((s : ℕ) → IsStore S D ex s → (message : Message) → In (s, message) act.sends → IsMessage sent_version message × Says S n s (behind act) message)
      → ((s : ℕ) → IsStore S D ex s → (ls : List ℕ) → act.attempt.phase ≡ workers.Preparing ls
      → TakesPart S s (current S n (behind act)) → IsFalse (is_in s ls)
      → Has S (shelf S w s) (tid_at n (behind act)))
      → Inv S D ex v cs C
  acts act lands goes says voted =
      goes_on S D ex given w v cs C n inv me act lands
      (subst (λ x. GoesOn S D ex n x (behind act) C) (sym is_here) goes) says voted

  -- the attempt's own tid is in range
  named : IsTid (tid_of n k a)
  named = tid_spelled n k a (worker_below S.rights n given.workers me.kind) ok.low

  answers_fit : AreFit S (objects_of a.answers)
  answers_fit = all_map (IsFit S) (λ row. (row.0, row.2)) a.answers (all_of (λ row. IsFit S (row.0, row.2)) a.answers (λ r h. (ok.answers r h).fit))

  answers_low : AllByRecursion (λ row. row.1 < 4294967296) a.answers
  answers_low = all_of (λ row. row.1 < 4294967296) a.answers (λ r h. (ok.answers r h).version)

  -- ---- the attempt stays as it is

  as_it_is : GoesOn S D ex n here here C
  as_it_is = record {
    moves = moves_refl S D ex n here;
    deals = refl;
    decided = refl;
    answers = ok.answers;
    cached = ok.cached;
    once = ok.once;
    awaited = ok.awaited;
    ended = ok.ended;
    low = ok.low;
  }

  -- nothing changes
  pub keeps_stays : Lands n (stays a) w v → Inv S D ex v cs C
  keeps_stays lands = acts (stays a) lands as_it_is (λ s hs x h. absurd h) (λ s hs ls ph part out. (pair s hs).voted ls ph part out)

  -- it says one thing
  speaks : (s : ℕ) (message : Message) → (IsStore S D ex s → IsMessage sent_version message × Says S n s here message)
      → Lands n (sending ((s, message) ∷ []) (stays a)) w v → Inv S D ex v cs C
  speaks s message says lands =
      acts (sending ((s, message) ∷ []) (stays a)) lands as_it_is
      (λ z hz x h.
      let e : (z, x) ≡ (s, message) = in_one (z, x) (s, message) h in
      let to : z ≡ s = ap (λ (y : ℕ × Message). y.0) e in
      let what : x ≡ message = ap (λ (y : ℕ × Message). y.1) e in
      let q = says (subst (IsStore S D ex) to hz) in
      subst (λ y. IsMessage sent_version y × Says S n z here y) (sym what) (q.0, subst (λ y. Says S n y here message) (sym to) q.1))
      (λ z hz ls ph part out. (pair z hz).voted ls ph part out)

  -- ---- an attempt goes on, or ends, and isn't prepared

  tries : (act : Act) → Lands n act w v → (kept_behind act.entry k).boot ≡ k.boot → (kept_behind act.entry k).decided ≡ k.decided
      → a.number ≤ act.attempt.number → limit_at a.phase a.number ≤ limit_at act.attempt.phase act.attempt.number → (IsPreparing act.attempt.phase → ⊥)
      → ((r : Row) → In r act.attempt.answers → In r a.answers ⊎ IsHad S D ex n here C r)
      → ((rows : Rows) → In rows act.attempt.caches → In rows a.caches ⊎ (rows ≡ []))
      → OnlyOnce (names_of act.attempt.answers)
      → ((o : Oid) → act.attempt.phase ≡ workers.Fetching o → IsAwaited S D ex (behind act) o)
      → k.boot + act.attempt.number ≤ 4000000001
      → ((s : ℕ) → IsStore S D ex s → (message : Message) → In (s, message) act.sends → IsMessage sent_version message × Says S n s (behind act) message)
      → Inv S D ex v cs C
  tries act lands boot decided later limits shut answers less once awaited low says =
      let u = behind act in
      acts act lands
      (record {
        moves = record {
          later = omega (arith, boot, limits);
          boots = omega (arith, boot);
          opens = λ t o. absurd (shut o.waits);
          live = λ t c l. elim l [ inl o ↦ absurd (shut (o.0).waits) | inr d ↦ inl (inr d) ];
          decided = λ c h. h;
        };
        deals = refl;
        decided = decided;
        answers = λ r h. elim (answers r h) [
          | inl old ↦ had_on S D ex n here u C r boot later (ok.answers r old)
          | inr new ↦ had_on S D ex n here u C r boot later new
        ];
        cached = λ rows r i j. elim (less rows i) [
          | inl old ↦ had_on S D ex n here u C r boot later (ok.cached rows r old j)
          | inr none ↦ absurd (subst (In r) none j)
        ];
        once = once;
        awaited = awaited;
        ended = λ x. absurd (shut x);
        low = omega (arith, boot, low);
      })
      says
      (λ s hs ls ph part out. absurd (shut (subst IsPreparing (sym ph) tt)))

  -- a new attempt begins
  pub keeps_begins : a.phase ≡ workers.Idle → k.boot + suc a.number ≤ 4000000001 → Lands n (begins S.rights S.cache n k a) w v → Inv S D ex v cs C
  keeps_begins idle room lands =
      let e : limit_at a.phase a.number ≡ suc a.number = ap (λ x. limit_at x a.number) idle in
      tries (begins S.rights S.cache n k a) lands refl refl (omega arith) (omega (arith, e)) (λ x. x) (λ r h. absurd h) (λ rows h. inl h) tt
      (λ o e. absurd (cc)) room (λ s hs x h. absurd h)

  needs_by : a.phase ≡ workers.Evaluating → (site : ℕ) (o : Oid) → (meant S w n).ending ≡ endings.Missing site o → (found : Option Row) → cached_row a.caches o ≡ found
      → Lands n (needs S.rights S.cache n k site o found a (meant S w n)) w v → Inv S D ex v cs C
  needs_by ev site o e (Some row) there lands =
      let f = found_in_cache a.caches o row there in
      let new : IsFalse (is_among o (names_of a.answers)) = missing_is_new S law n (request_of k) (tid_of n k a) a.answers named answers_fit site o e in
      tries (needs S.rights S.cache n k site o (Some row) a (meant S w n)) lands refl refl (omega arith) (omega arith) (λ x. subst IsPreparing ev x)
      (λ r h. elim (in_append r a.answers (row ∷ []) h) [
        | inl old ↦ inl old
        | inr one ↦ inr (subst (IsHad S D ex n here C) (sym (in_one r row one)) (ok.cached f.rows row f.cache f.listed))
      ])
      (λ rows h. inl h) (once_more a.answers row ok.once (subst (λ q. IsFalse (is_among q (names_of a.answers))) (sym f.name) new))
      (λ q g. let no : workers.Evaluating ≡ workers.Fetching q = sym ev ∙ g in absurd (cc)) ok.low (λ s hs x h. absurd h)
  needs_by ev site o e None there lands =
      let at : limit_at a.phase a.number ≡ a.number = ap (λ x. limit_at x a.number) ev in
      let fit = missing_fits S law n (request_of k) (tid_of n k a) a.answers named answers_fit site o e in
      let new : IsFalse (is_among o (names_of a.answers)) = missing_is_new S law n (request_of k) (tid_of n k a) a.answers named answers_fit site o e in
      let act = needs S.rights S.cache n k site o None a (meant S w n) in
      tries act lands refl refl (omega arith) (omega (arith, at)) (λ x. x) (λ r h. inl h) (λ rows h. inl h) ok.once
      (λ q g. let same : o ≡ q = cc in subst (IsAwaited S D ex (behind act)) same (record { fit = fit; new = new })) ok.low
      (λ s hs x h.
      let what : x ≡ m.Fetch (tid_of n k a) o = ap (λ (y : ℕ × Message). y.1) (in_one (s, x) (o.store, m.Fetch (tid_of n k a) o) h) in
      subst (λ y. IsMessage sent_version y × Says S n s (behind act) y) (sym what) (record { known = refl; body = (named, fit.spelled) }, tt))

  -- at Evaluating, by what the meaning over the answers came to
  pub keeps_needs : a.phase ≡ workers.Evaluating → (site : ℕ) (o : Oid) → (meant S w n).ending ≡ endings.Missing site o
      → Lands n (needs S.rights S.cache n k site o (cached_row a.caches o) a (meant S w n)) w v → Inv S D ex v cs C
  keeps_needs ev site o e lands = needs_by ev site o e (cached_row a.caches o) refl lands

  -- ---- it asks its participants

  abbrev asks_by : Option Value → List ℕ → Act
  asks_by value ss =
      noting (note.Ended (tid_of n k a) value (new_touches a (meant S w n)) (new_downs a (meant S w n)) p.writes p.creates ∷ [])
      (asks_all S.rights S.cache n k ss (telling a (meant S w n)) p)

  abbrev prepare_to : ℕ → ℕ × Message
  prepare_to y = (y, m.Prepare (tid_of n k a) (items_at p y))

  -- what each is sent fits, and is within range
  prepares : a.phase ≡ workers.Evaluating → (s : ℕ) (ss : List ℕ) → stores_of p ≡ s ∷ ss → (value : Option Value) (z : ℕ) (x : Message)
      → In (z, x) (map prepare_to (s ∷ ss))
      → IsMessage sent_version x × Says S n z (behind (asks_by value (s ∷ ss))) x
  prepares ev s ss e value z x h =
      let at : limit_at a.phase a.number ≡ a.number = ap (λ x. limit_at x a.number) ev in
      let t = tid_of n k a in
      let r = in_map prepare_to (z, x) (s ∷ ss) h in
      let to : z ≡ r.0 = ap (λ (y : ℕ × Message). y.0) r.2 in
      let what : x ≡ m.Prepare t (items_at p z) = ap (λ (y : ℕ × Message). y.1) r.2 ∙ ap (λ y. m.Prepare t (items_at p y)) (sym to) in
      let taken : IsTrue (is_in z (stores_of p)) = number_in z (stores_of p) (subst (In z) (sym e) (subst (λ y. In y (s ∷ ss)) (sym to) r.1)) in
      subst (λ y. IsMessage sent_version y × Says S n z (behind (asks_by value (s ∷ ss))) y) (sym what) (
        prepare_spelled S law n (request_of k) t a.answers named answers_fit answers_low z,
        record {
          early = omega arith;
          numbered = let low = ok.low in omega (arith, low);
          part = λ c l. elim l [
            | inl o ↦ subst (λ y. TakesPart S z y) (sym o.1) taken
            | inr d ↦ let lt = ok.past c d.0 in let same : rank_of c.tid ≡ rank_of t = ap rank_of d.1 in absurd (omega (arith, lt, same, at))
          ];
          items = λ c l. elim l [
            | inl o ↦ ap (λ y. items_at (parts_by S y) z) (sym o.1)
            | inr d ↦ let lt = ok.past c d.0 in let same : rank_of c.tid ≡ rank_of t = ap rank_of d.1 in absurd (omega (arith, lt, same, at))
          ];
        },
      )

  -- an evaluation that ended asks its participants
  pub keeps_asks : a.phase ≡ workers.Evaluating → IsEnded (meant S w n).ending → (s : ℕ) (ss : List ℕ) → stores_of p ≡ s ∷ ss → (value : Option Value)
      → Lands n (ends S.rights S.cache n k value a (meant S w n) p) w v → Inv S D ex v cs C
  keeps_asks ev fin s ss e value lands =
      let at : limit_at a.phase a.number ≡ a.number = ap (λ x. limit_at x a.number) ev in
      let t = tid_of n k a in
      let act = asks_by value (s ∷ ss) in
      let u = behind act in
      acts act (subst (λ xs. Lands n (asks_by value xs) w v) e lands)
      (record {
        moves = record {
          later = omega (arith, at);
          boots = omega arith;
          opens = λ x o. let same : rank_of x ≡ rank_of t = ap rank_of o.tid in inr (omega (arith, at, same));
          live = λ x c l. elim l [
            | inl o ↦ let same : rank_of x ≡ rank_of t = ap rank_of (o.0).tid in inr (omega (arith, at, same))
            | inr d ↦ inl (inr d)
          ];
          decided = λ c h. h;
        };
        deals = refl;
        decided = refl;
        answers = λ r h. had_on S D ex n here u C r refl (omega arith) (ok.answers r h);
        cached = λ rows r i j. had_on S D ex n here u C r refl (omega arith) (ok.cached rows r i j);
        once = ok.once;
        awaited = λ o g. absurd (cc);
        ended = λ _. fin;
        low = ok.low;
      })
      (λ z hz x h. elim (in_append (z, x) (map prepare_to (s ∷ ss)) [] h) [
        | inl i ↦ prepares ev s ss e value z x i
        | inr none ↦ absurd none
      ])
      (λ z hz ls g part out.
      let same : s ∷ ss ≡ ls = cc in
      absurd (both_ways (is_in z ls) out (subst (λ xs. IsTrue (is_in z xs)) (e ∙ same) part)))

  -- ---- it ends without a commit

  -- Aborts of the attempt alone, and none unless it is being prepared
  abbrev OnlyAborts : List (ℕ × Message) → Type 0
  OnlyAborts sends = (s : ℕ) (x : Message) → In {A = ℕ × Message} (s, x) sends → (x ≡ m.Abort (tid_of n k a)) × IsPreparing a.phase

  pub nothing : OnlyAborts []
  nothing s x h = absurd h

  and_nothing : (sends : List (ℕ × Message)) → OnlyAborts sends → OnlyAborts (sends ++ [])
  and_nothing sends only s x h = only s x (subst (In {A = ℕ × Message} (s, x)) (append-nil sends) h)

  drops : (entry : Option Entry) (i : ℕ) (sends : List (ℕ × Message)) (notes : List Note) → (kept_behind entry k).boot ≡ k.boot
      → (kept_behind entry k).decided ≡ k.decided → OnlyAborts sends
      → Lands n (record { entry = entry; attempt = record (dropped a) { tries = i }; sends = sends; notes = notes }) w v → Inv S D ex v cs C
  drops entry i sends notes boot decided only lands =
      let act : Act = record { entry = entry; attempt = record (dropped a) { tries = i }; sends = sends; notes = notes } in
      tries act lands boot decided (omega arith) (limit_at_most a.phase a.number) (λ x. x) (λ r h. absurd h) (λ rows h. inr (in_blank a.caches rows h)) tt
      (λ o g. absurd (cc)) ok.low
      (λ s hs x h.
      let q = only s x h in
      subst (λ y. IsMessage sent_version y × Says S n s (behind act) y) (sym q.0) (
        record { known = refl; body = named },
        record {
          early = omega (arith, boot);
          dead = λ c l. elim l [ inl o ↦ (o.0).waits | inr d ↦ ok.closed c d.0 (record { tid = d.1; waits = q.1 }) ];
        },
      ))

  closes_with : (outcome : ReqOutcome) (sends : List (ℕ × Message)) (notes : List Note) → OnlyAborts sends
      → Lands n (record { entry = Some (closed (request_of k) outcome); attempt = record (dropped a) { tries = 0 }; sends = sends; notes = notes }) w v
      → Inv S D ex v cs C
  closes_with outcome sends notes only lands =
      let c = closed_keeps (request_of k) outcome k in
      drops (Some (closed (request_of k) outcome)) 0 sends notes c.0 c.1 only lands

  -- an evaluation that came to nothing closes the request
  pub keeps_fails : a.phase ≡ workers.Evaluating → (notes : List Note) (outcome : ReqOutcome)
      → Lands n (noting notes (closes S.rights S.cache n k outcome a)) w v → Inv S D ex v cs C
  keeps_fails ev notes outcome lands = closes_with outcome [] (notes ++ note.Closed (request_of k) outcome ∷ []) nothing lands

  -- a request that ends, or a try, and maybe Aborts of it
  pub keeps_gives : (outcome : ReqOutcome) (sends : List (ℕ × Message)) → OnlyAborts sends
      → Lands n (sending sends (gives S.rights S.cache n k outcome a)) w v → Inv S D ex v cs C
  keeps_gives outcome sends only lands =
      closes_with outcome (sends ++ []) (undecided S.rights S.cache n k a ++ note.Closed (request_of k) outcome ∷ []) (and_nothing sends only) lands

  pub keeps_again : (sends : List (ℕ × Message)) → OnlyAborts sends → Lands n (sending sends (again S.rights S.cache n k a)) w v → Inv S D ex v cs C
  keeps_again sends only lands = drops None (suc a.tries) (sends ++ []) (undecided S.rights S.cache n k a ++ []) refl refl (and_nothing sends only) lands

  -- ---- an answer to a Fetch

  pub keeps_learns : (s : ℕ) (t : Tid) (o : Oid) (version : ℕ) (x : Object) → Fetches S.rights S.cache n k s a p t o
      → (IsStore S D ex s → ex o.class ≡ true → o.store ≡ s → Known C (o, version, x)) → version < 4294967296 → IsObject sent_version x
      → IsTrue (suits S.rights o x && nat_lt 0 version && is_made_before S.rights S.cache n k o a)
      → Lands n (stays (record a { phase = workers.Evaluating; answers = a.answers ++ (o, version, x) ∷ [] })) w v → Inv S D ex v cs C
  keeps_learns s t o version x asked heard low spelled test lands =
      let at : limit_at a.phase a.number ≡ a.number = ap (λ y. limit_at y a.number) asked.phase_is in
      let both = and_parts (suits S.rights o x && nat_lt 0 version) (is_made_before S.rights S.cache n k o a) test in
      let suited = (and_parts (suits S.rights o x) (nat_lt 0 version) both.0).0 in
      let waits = ok.awaited o asked.phase_is in
      let had : IsHad S D ex n here C (o, version, x) = record {
        fit = record { name = waits.fit; suited = suited; spelled = spelled };
        version = low;
        before = both.1;
        known = λ c. heard (subst (IsStore S D ex) asked.place (holder_is S D ex given hyp o c waits.fit)) c asked.place;
      } in
      tries (stays (record a { phase = workers.Evaluating; answers = a.answers ++ (o, version, x) ∷ [] })) lands refl refl (omega arith) (omega (arith, at)) (λ y. y)
      (λ r h. elim (in_append r a.answers ((o, version, x) ∷ []) h) [
        | inl old ↦ inl old
        | inr one ↦ inr (subst (IsHad S D ex n here C) (sym (in_one r (o, version, x) one)) had)
      ])
      (λ rows h. inl h) (once_more a.answers (o, version, x) ok.once waits.new) (λ q g. absurd (cc)) ok.low (λ z hz y h. absurd h)

  -- ---- votes

  awaits_from : (s : ℕ) (t : Tid) (ph : Phase) → IsPreparing ph → IsTrue (is_tid t (tid_of n k a)) → IsTrue (is_in s (stores_of p))
      → awaits_vote S.rights S.cache n k s t a p ph ≡ true
  awaits_from s t workers.Idle h same taken = absurd h
  awaits_from s t workers.Evaluating h same taken = absurd h
  awaits_from s t (workers.Fetching o) h same taken = absurd h
  awaits_from s t (workers.Preparing ls) h same taken = and_from (is_tid t (tid_of n k a)) (is_in s (stores_of p)) same taken

  abbrev abort_to : ℕ → ℕ × Message
  abort_to z = (z, m.Abort (tid_of n k a))

  pub only_aborts : IsPreparing a.phase → OnlyAborts (aborts S.rights S.cache n k a p)
  only_aborts waits s x h = let r = in_map abort_to (s, x) (stores_of p) h in (ap (λ (y : ℕ × Message). y.1) r.2, waits)

  -- behind a yes of s, who isn't waited for any longer has prepared
  pub voted_then : (s : ℕ) (ls : List ℕ) → a.phase ≡ workers.Preparing ls → (IsStore S D ex s → Voted S n s st (shelf S w s) (tid_at n st))
      → (z : ℕ) → IsStore S D ex z → TakesPart S z (current S n st) → IsFalse (is_in z (filter (λ l. not (l == s)) ls)) → Has S (shelf S w z) (tid_at n st)
  voted_then s ls ph heard z hz part out = elim (cases_eq z s) [
    | inl e ↦ subst (λ y. Has S (shelf S w y) (tid_at n st)) (sym e)
        ((heard (subst (IsStore S D ex) e hz)).has (record { tid = refl; waits = subst IsPreparing (sym ph) tt }))
    | inr ne ↦ (pair z hz).voted ls ph part
        (false_from_ne_true (is_in z ls)
        (λ t. both_ways (is_in z (filter (λ l. not (l == s)) ls)) out
        (number_in z (filter (λ l. not (l == s)) ls) (filter_in (λ l. not (l == s)) z ls (in_numbers z ls t) (ap not (ne_eqb z s ne))))))
  ]

  -- a yes that isn't the last
  pub keeps_yes : (s : ℕ) → IsTrue (is_store S.rights s) → (ls : List ℕ) → a.phase ≡ workers.Preparing ls → (l : ℕ) (left : List ℕ)
      → filter (λ l. not (l == s)) ls ≡ l ∷ left
      → (IsStore S D ex s → Voted S n s st (shelf S w s) (tid_at n st)) → Lands n (waits_for S.rights S.cache n k (l ∷ left) a p) w v → Inv S D ex v cs C
  keeps_yes s kind ls ph l left e heard lands =
      let at : limit_at a.phase a.number ≡ suc a.number = ap (λ x. limit_at x a.number) ph in
      let waits : IsPreparing a.phase = subst IsPreparing (sym ph) tt in
      let act = waits_for S.rights S.cache n k (l ∷ left) a p in
      let u = behind act in
      acts act lands
      (record {
        moves = record {
          later = omega (arith, at);
          boots = omega arith;
          opens = λ t o. inl (record { tid = o.tid; waits = waits });
          live = λ t c j. elim j [ inl o ↦ inl (inl (record { tid = (o.0).tid; waits = waits }, o.1)) | inr d ↦ inl (inr d) ];
          decided = λ c h. h;
        };
        deals = refl;
        decided = refl;
        answers = λ r h. had_on S D ex n here u C r refl (omega arith) (ok.answers r h);
        cached = λ rows r i j. had_on S D ex n here u C r refl (omega arith) (ok.cached rows r i j);
        once = ok.once;
        awaited = λ o g. absurd (cc);
        ended = λ _. ok.ended waits;
        low = ok.low;
      })
      (λ z hz x h. absurd h)
      (λ z hz ms g part out.
      let same : ms ≡ filter (λ l. not (l == s)) ls = let there : ms ≡ l ∷ left = cc in there ∙ sym e in
      voted_then s ls ph heard z hz part (subst (λ xs. IsFalse (is_in z xs)) same out))

  -- ---- asked what became of a tid

  -- a store asks after what is decided
  pub keeps_told_commit : (s : ℕ) (t : Tid) → IsTid t → IsTrue (has_decided S.rights S.cache n k t s)
      → Lands n (sending ((s, m.Commit t) ∷ []) (stays a)) w v → Inv S D ex v cs C
  keeps_told_commit s t spelled h lands =
      let r = any_in (λ (d : Decision). is_tid d.tid t && is_in s d.stores) k.decided h in
      let d = dealt S (deals cs n) k.decided ok.listed r.0 r.1 in
      let same = tid_is (r.0).tid t (and_parts (is_tid (r.0).tid t) (is_in s (r.0).stores) r.2).0 in
      speaks s (m.Commit t)
      (λ hs. (
        record { known = refl; body = spelled },
        record { commit = d.commit; listed = d.listed; tid = sym (ap (λ (x : Decision). x.tid) d.same) ∙ same },
      ))
      lands

  -- or after what isn't, and won't be
  pub keeps_told_abort : (s : ℕ) (t : Tid) → IsTid t → IsFalse (has_decided S.rights S.cache n k t s)
      → IsFalse (awaits_vote S.rights S.cache n k s t a p a.phase)
      → (IsStore S D ex s → Voted S n s st (shelf S w s) t) → Lands n (sending ((s, m.Abort t) ∷ []) (stays a)) w v → Inv S D ex v cs C
  keeps_told_abort s t spelled undecided unasked heard lands =
      speaks s (m.Abort t)
      (λ hs.
      let y : Voted S n s here (shelf S w s) t = subst (λ u. Voted S n s u (shelf S w s) t) is_here (heard hs) in (
        record { known = refl; body = spelled },
        record {
          early = y.early;
          dead = λ c l. elim l [
            | inl o ↦ both_ways (awaits_vote S.rights S.cache n k s t a p a.phase) unasked
                (awaits_from s t a.phase (o.0).waits (tid_same t (tid_of n k a) (o.0).tid) (subst (TakesPart S s) o.1 (y.part c (inl o))))
            | inr d ↦ both_ways (has_decided S.rights S.cache n k t s) undecided
                (in_any (λ (x : Decision). is_tid x.tid t && is_in s x.stores) (decision_of S c) k.decided
                (subst (In (decision_of S c)) (sym ok.listed) (map_in (decision_of S) c (deals cs n) d.0))
                (and_from (is_tid c.tid t) (is_in s (stores_of (parts_by S c))) (tid_same c.tid t d.1) (y.part c (inr d))))
          ];
        },
      ))
      lands

  -- ---- a store was silent

  given_up : (ph : Phase) → a.phase ≡ ph → OnlyAborts (aborts_in S.rights S.cache n k ph a p)
  given_up workers.Idle ph = nothing
  given_up workers.Evaluating ph = nothing
  given_up (workers.Fetching o) ph = nothing
  given_up (workers.Preparing ls) ph = only_aborts (subst IsPreparing (sym ph) tt)

  -- so the attempt ends
  pub keeps_gives_up : (s : ℕ) → IsTrue (lacks s a.phase) → Lands n (gives_up S.rights S.cache n k s a p) w v → Inv S D ex v cs C
  keeps_gives_up s lacking lands = keeps_gives (Silent s) (aborts_in S.rights S.cache n k a.phase a p) (given_up a.phase refl) lands

-- ---- it wakes: each Commit again, and the new boot

module _ (S : Setting) (D ex : ℕ → Bool) (given : IsSetting S) (w v : World) (cs : List Commit) (C : State)
    (n : ℕ) (inv : Inv S D ex w cs C) (me : IsWorker S D ex n) (down : (w.node n).up ≡ false) where
  abbrev old : Kept
  old = kept S w n

  -- as it is while it is down
  abbrev asleep : Standing
  asleep = record { kept = old; attempt = (w.node n).attempt; up = false; deals = deals cs n }

  is_asleep : standing S D ex w cs n ≡ asleep
  is_asleep = λ i. record { kept = old; attempt = (w.node n).attempt; up = down i; deals = deals cs n }

  sound : WorkerOk S D ex n asleep C
  sound = subst (λ u. WorkerOk S D ex n u C) is_asleep (inv.worker n me)

  -- what is decided is known by a tid in range, if its number is
  own_spelled : (c : Commit) → In c (deals cs n) → c.tid.number < 4294967296 → IsTid c.tid
  own_spelled c listed number =
      let there = deal_of cs n c listed in
      early_spelled n asleep c.tid (worker_below S.rights n given.workers me.kind) (inv.commits.own c there.0 ∙ there.1) (sound.past c listed) sound.low number

  -- a Commit of what is decided says so
  told_again : ((c : Commit) → In c (deals cs n) → c.tid.number < 4294967296) → (s : ℕ) (d : Decision) → In d old.decided
      → IsMessage sent_version (m.Commit d.tid) × Says S n s (after S D ex given w v cs C n inv me (wakes S.rights S.cache n old)) (m.Commit d.tid)
  told_again numbered s d h =
      let r = dealt S (deals cs n) old.decided sound.listed d h in
      let same : d.tid ≡ (r.commit).tid = ap (λ (x : Decision). x.tid) r.same in (
        record { known = refl; body = subst IsTid (sym same) (own_spelled r.commit r.listed (numbered r.commit r.listed)) },
        record { commit = r.commit; listed = r.listed; tid = sym same },
      )

  -- a restart, at the next boot
  pub keeps_wakes : ((c : Commit) → In c (deals cs n) → c.tid.number < 4294967296) → old.boot + 1 ≤ 4000000001
      → Lands n (wakes S.rights S.cache n old) w v → Inv S D ex v cs C
  keeps_wakes numbered room lands =
      let act = wakes S.rights S.cache n old in
      let u = after S D ex given w v cs C n inv me act in
      goes_on S D ex given w v cs C n inv me act lands
      (subst (λ x. GoesOn S D ex n x u C) (sym is_asleep)
      (record {
        moves = record {
          later = omega arith;
          boots = omega arith;
          opens = λ t o. absurd o.waits;
          live = λ t c l. elim l [ inl o ↦ absurd (o.0).waits | inr d ↦ inl (inr d) ];
          decided = λ c h. h;
        };
        deals = refl;
        decided = refl;
        answers = λ r h. absurd h;
        cached = λ rows r i j. absurd (subst (In r) (in_blank (range_with_len 0 64) rows i) j);
        once = tt;
        awaited = λ o g. absurd (cc);
        ended = λ x. absurd x;
        low = omega (arith, room);
      }))
      (λ s hs x h. elim (in_append (s, x) (flat_map (λ d. to_all d.stores (m.Commit d.tid)) old.decided) (to_all (stores_in S.rights) (m.Boot (suc old.boot))) h) [
        | inl i ↦
            let r = in_flat (λ (d : Decision). to_all d.stores (m.Commit d.tid)) (s, x) old.decided i in
            let what = to_all_is (r.0).stores (m.Commit (r.0).tid) (s, x) r.2 in
            subst (λ y. IsMessage sent_version y × Says S n s u y) (sym what) (told_again numbered s r.0 r.1)
        | inr j ↦
            let what = to_all_is (stores_in S.rights) (m.Boot (suc old.boot)) (s, x) j in
            subst (λ y. IsMessage sent_version y × Says S n s u y) (sym what) (record { known = refl; body = omega (arith, room) }, omega arith)
      ])
      (λ s hs ls g. absurd (cc))
