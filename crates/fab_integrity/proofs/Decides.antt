-- A worker outside D decides: its commit, replayed over the map so far, does what its attempt did, and the invariant holds with it in the list.
use Rattle.std.specs.Prelude.{◌≡◌, ◌⊎◌, ℕ, suc, ◌+◌, ◌<◌, ◌≤◌, Bool, true, false, not, ◌==◌, nat_lt, IsTrue, IsFalse, if◌then◌else◌}
use Rattle.std.specs.Prelude.{List, [], ◌∷◌, ◌++◌, map, length, Option, Some, None, option_map, IsSome}
use Rattle.std.specs.List.{AllByRecursion}
use Rattle.std.proofs.Common.{refl, sym, ap, ◌∙◌, subst, inl, inr, true≢false, arith, le_refl, lt_of_lt_of_le}
use Rattle.std.proofs.lemmas.Bool.{false_from_ne_true, not-false, ltb-false}
use Rattle.fab_base.specs.declared.object.Oid.{Oid}
use Rattle.fab_base.specs.declared.object.Object.{Object}
use Rattle.fab_base.specs.declared.object.Tid.{Tid}
use Rattle.fab_base.specs.declared.message.Items.{Items}
use Rattle.fab_base.specs.declared.message.Message.{Message}
use Rattle.fab_base.specs.declared.message.Message.TheVariants as m
use Rattle.fab_base.specs.declared.entry.Entry.TheVariants as e
use Rattle.fab_base.specs.Tids.{is_above}
use Rattle.fab_base.specs.MessageSpelling.{spelled}
use Rattle.fab_base.specs.FieldSpelling.{IsTid}
use Rattle.fab_base.specs.FlatMap.{FlatMap, get, put_all, map_of, ascends, is_among}
use Rattle.fab_language.specs.Heaps.{touched}
use Rattle.fab_language.specs.Meaning.{Meant}
use Rattle.fab_net.specs.declared.note.Commit.{Commit}
use Rattle.fab_net.specs.declared.outcome.ReqOutcome.TheVariants.{Committed}
use Rattle.fab_rights.specs.Computed.{may_write}
use Rattle.fab_protocol.specs.declared.parts.Parts.{Parts}
use Rattle.fab_protocol.specs.Caches.{cached}
use Rattle.fab_protocol.specs.Parts.{stores_of, items_at, puts_of}
use Rattle.fab_protocol.specs.Shelves.{IsCurrent, IsAllowed}
use Rattle.fab_protocol.specs.Stores.{Prepared, Item, Write, Create, item_name, all_in, last_of, lacks_right}
use Rattle.fab_protocol.specs.Tables.{row_of}
use Rattle.fab_protocol.specs.Versions.{Row, Rows, name_of, objects_of, version_of, is_made_in, maker_of, risen, raised, begun, left_by}
use Rattle.fab_protocol.proofs.VersionLaws.{version_in, version_by_row, version_of_row, no_row}
use Rattle.fab_world.specs.Attempts.{parts_of}
use Rattle.fab_world.specs.Machine.{Setting, World, kept, shelf}
use Rattle.fab_world.specs.Serial.{IsSetting, IsEvaluation, Excludes, IsFit, IsFitName, AreFit, NoneMadeIn, AreAlike, again, changes_of, outside}
use Rattle.fab_integrity.specs.Redone.{IsRedone}
use Rattle.fab_world.specs.Workers as workers
use Rattle.fab_world.specs.Workers.{Attempt, Phase, decides, kept_of, is_in, is_made_before, tid_of}
use Rattle.fab_integrity.proofs.Invariant.{In, rank, rank_of, deals, Standing, limit, limit_in, tid_at, Open, Decided, IsEnded, State, committed, Rises}
use Rattle.fab_integrity.proofs.Invariant.{meant_by, parts_by, current, decision_of, TakesPart, Has, Says, IsWorker, IsStore, Settled, CellOk, IsHad, WorkerOk}
use Rattle.fab_integrity.proofs.Invariant.{AreCommits, standing, Inv, Moves}
use Rattle.fab_integrity.proofs.Lists.{in_append, in_left, in_right, in_one, in_filter, filter_in, in_map, map_in, each_of, all_of}
use Rattle.fab_integrity.proofs.Maps.{key, in_get, among_in, in_among, put_all_other, put_all_one, put_all_from, ascends_put_all, ascends_map_of, row_once}
use Rattle.fab_integrity.proofs.Maps.{IsAnswer, answer_of, in_row, version_there, nothing_there, among_row, row_among}
use Rattle.fab_integrity.proofs.Frames.{worker_keeps, known_rises, holder_is}
use Rattle.fab_integrity.proofs.Replays.{changes_in, behind_one, same_parts, IsWritten, written_from, written_to, made_from, made_to, change_from, change_to}
use Rattle.fab_integrity.proofs.Replays.{touched_part, made_part, some_is, touched_item}
use Rattle.fab_integrity.proofs.Replays.{in_cached, put_from, risen_is, risen_low, fresh_is}
use Rattle.fab_integrity.proofs.Replays.{ended_is}
use Rattle.fab_integrity.proofs.Worlds.{IsSent, Lands}
use Rattle.std.proofs.lemmas.List.{length-append}
use Rattle.std.proofs.lemmas.Option.{none-some, same_Some}
use Rattle.fab_integrity.proofs.Tids.{tid_is, made_in_one, above_itself, not_above, tid_spelled}
use Rattle.fab_protocol.proofs.Records.{worker_below}
use Rattle.fab_integrity.proofs.Readings.{read_back}
use Rattle.fab_integrity.proofs.Lasting.{kept_more}
use Rattle.fab_integrity.proofs.Deals.{in_deals, deals_more, deals_others, decisions_more}
use Rattle.fab_integrity.proofs.Items.{in_writes, in_creates, write_here, create_here, locks_out}

too_late : (a b l : ℕ) → a ≡ b → a < l → l ≤ b → ⊥
too_late a b l e low high = omega (arith, e, low, high)

old_boot : (b k : ℕ) → b ≡ 0 → b ≡ k → 1 ≤ k → ⊥
old_boot b k e f low = omega (arith, e, f, low)

module _ (S : Setting) (D ex : ℕ → Bool) (given : IsSetting S) (law : IsEvaluation S) (hyp : Excludes S D ex) (w : World) (cs : List Commit)
    (C : State) (n : ℕ) (inv : Inv S D ex w cs C) (me : IsWorker S D ex n) where
  -- ---- the attempt that is decided

  abbrev before : Standing
  before = standing S D ex w cs n

  abbrev this : Commit
  this = current S n before

  abbrev own : Tid
  own = tid_at n before

  abbrev answers : Rows
  answers = before.attempt.answers

  -- what is seen of the answers, and what of the map so far
  abbrev seen : FlatMap
  seen = map_of (objects_of answers)

  abbrev others : FlatMap
  others = outside ex (objects_of answers)

  abbrev replayed : FlatMap
  replayed = put_all others C.map

  abbrev first : Meant
  first = meant_by S this

  abbrev parts : Parts
  parts = parts_by S this

  -- either the tid is being prepared, or it is new and no store takes part
  abbrev pub IsReady : Type 0
  IsReady = Open n before own ⊎ ((limit before ≤ rank_of own) × (stores_of parts ≡ []))

  ok : WorkerOk S D ex n before C
  ok = inv.worker n me

  -- ---- what was answered

  answer : (o : Oid) (x : Object) → get seen o ≡ Some x → IsAnswer answers o x
  answer o x h = answer_of answers o x ok.once h

  in_seen : (r : Oid × Object) → In r seen → IsAnswer answers r.0 r.1
  in_seen r i = answer r.0 r.1 (in_get seen r.0 r.1 (ascends_map_of (objects_of answers)) i)

  fit_seen : AreFit S seen
  fit_seen = all_of (IsFit S) seen (λ r i. let a = in_seen r i in subst (IsFit S) (λ i. (a.name i, a.object i)) (ok.answers a.row a.listed).fit)

  answer_unmade : (r : Row) → In r answers → is_made_in own r.0 ≡ false
  answer_unmade r i = false_from_ne_true (is_made_in own r.0) (λ h.
      true≢false (sym (ok.answers r i).before ∙ above_itself n before.kept.boot before.attempt.number r.0 h))

  unmade_seen : NoneMadeIn own seen
  unmade_seen = all_of (λ (r : Oid × Object). IsFalse (is_made_in own r.0)) seen (λ r i. let a = in_seen r i in
      subst (λ o. IsFalse (is_made_in own o)) a.name (answer_unmade a.row a.listed))

  -- ---- the tid isn't decided yet

  deal_here : (d : Commit) → In d cs → d.tid ≡ own → In d before.deals
  deal_here d i e = in_deals cs n d i (sym (inv.commits.own d i) ∙ ap (λ (t : Tid). t.worker) e)

  not_decided : IsReady → (d : Commit) → In d cs → d.tid ≡ own → ⊥
  not_decided (inl opened) d i e = ok.closed d (deal_here d i e) (subst (Open n before) (sym e) opened)
  not_decided (inr late) d i e = too_late (rank_of d.tid) (rank_of own) (limit before) (ap rank_of e) (ok.past d (deal_here d i e)) late.0

  own_unmade : IsReady → (o : Oid) → 1 ≤ C.version o → is_made_in own o ≡ false
  own_unmade ready o there = false_from_ne_true (is_made_in own o) (λ h. elim (inv.commits.made o there) [
    | inl root ↦ old_boot o.boot before.kept.boot root (ap (λ (t : Tid). t.boot) (tid_is (maker_of o) own h)) ok.booted
    | inr made ↦ not_decided ready made.0 made.1 (made_in_one made.0.tid own o made.2 h)
  ])

  in_others : (r : Oid × Object) → In r others → (y : Row) × In y answers × (r ≡ (y.0, y.2)) × (ex r.0.class ≡ false)
  in_others r i =
      let f = in_filter (λ (row : Oid × Object). not (ex row.0.class)) r (objects_of answers) i in
      let a = in_map (λ (row : Row). (row.0, row.2)) r answers f.0 in
      (a.0, a.1, a.2, false_from_ne_true (ex r.0.class) (λ h. true≢false (sym f.1 ∙ ap not h)))

  unmade_replayed : IsReady → NoneMadeIn own replayed
  unmade_replayed ready = all_of (λ (r : Oid × Object). IsFalse (is_made_in own r.0)) replayed (λ r i.
      elim (put_all_from others C.map r.0 r.1 (in_get replayed r.0 r.1 (ascends_put_all others C.map inv.commits.ascending) i)) [
        | inl put ↦ let a = in_others r put in subst (λ (q : Oid × Object). IsFalse (is_made_in own q.0)) (sym a.2) (answer_unmade a.0 a.1)
        | inr was ↦ own_unmade ready r.0 (inv.commits.there r.0 r.1 was)
      ])

  -- ---- stores of objects in ex

  store_here : (o : Oid) → ex o.class ≡ true → IsFitName S o → IsStore S D ex o.store
  store_here o x fit = holder_is S D ex given hyp o x fit

  fit_touched : (o : Oid) → In o (touched first.touches) → IsFitName S o
  fit_touched o i = each_of (IsFitName S) (touched first.touches) o (law.touches n this.request own seen fit_seen) i

  answered : (o : Oid) → In o (touched first.touches) → (x : Object) × (get seen o ≡ Some x)
  answered o i = some_is (get seen o) (each_of (λ o. IsSome (get seen o)) (touched first.touches) o (law.there n this.request own seen) i)

  small : before.kept.boot + before.attempt.number < 4294967296
  small = let low = ok.low in omega (arith, low)

  spelled_tid : IsTid own
  spelled_tid = tid_spelled n before.kept before.attempt (worker_below S.rights n given.workers me.kind) ok.low

  ascends_first : IsTrue (ascends first.map)
  ascends_first = law.once n this.request own seen (ascends_map_of (objects_of answers))

  fit_first : AreFit S first.map
  fit_first = law.fits n this.request own seen spelled_tid (ascends_map_of (objects_of answers)) fit_seen

  written_touched : (o : Oid) → In o first.written → In o (touched first.touches)
  written_touched o i =
      among_in o (touched first.touches)
      (each_of (λ o. IsTrue (is_among o (touched first.touches))) first.written o (law.written n this.request own seen) i)

  -- ---- what stores have prepared of it

  module _ (ready : IsReady) (ended : IsEnded (meant_by S (current S n (standing S D ex w cs n))).ending)
      (has : (s : ℕ) → IsStore S D ex s → TakesPart S s (current S n (standing S D ex w cs n)) → Has S (shelf S w s) (tid_at n (standing S D ex w cs n))) where
    open_by : (s : ℕ) → TakesPart S s this → Open n before own
    open_by s part = elim ready [
      | inl opened ↦ opened
      | inr late ↦ absurd (true≢false (sym part ∙ ap (is_in s) late.1))
    ]

    mine : (s : ℕ) → IsStore S D ex s → TakesPart S s this → In (own, items_at parts s) (shelf S w s).prepared
    mine s hs part =
        let h = has s hs part in
        let f = (inv.pair n s me hs).kept own h.items h.listed refl in
        subst (λ (is : Items). In (own, is) (shelf S w s).prepared) (f.items this (inl (open_by s part, refl))) h.listed

    theirs : (s : ℕ) → IsStore S D ex s → (q : Prepared) → In q (shelf S w s).prepared → q.0 ≡ own → q.1 ≡ items_at parts s
    theirs s hs q i e =
        let f = (inv.pair n s me hs).kept q.0 q.1 i (ap (λ (t : Tid). t.worker) e) in
        elim ready [
          | inl opened ↦ f.items this (inl (subst (Open n before) (sym e) opened, refl))
          | inr late ↦ absurd (too_late (rank_of q.0) (rank_of own) (limit before) (ap rank_of e) f.early late.0)
        ]

    not_settled : (q : Prepared) → q.0 ≡ own → Settled S D ex cs q → ⊥
    not_settled q e settled = not_decided ready settled.commit settled.listed (settled.tid ∙ e)

    -- nothing that is settled leaves what it has prepared
    clear : (s : ℕ) → IsStore S D ex s → TakesPart S s this → (i : Item) → In i (all_in (items_at parts s))
        → (q : Prepared) → In q (shelf S w s).prepared → Settled S D ex cs q → (r : Row) → In r (left_by q.1) → r.0 ≡ item_name i → ⊥
    clear s hs part i named q listed settled r leaves e =
        not_settled q (sym (ap (λ (p : Prepared). p.0)
        (locks_out (shelf S w s).prepared (own, items_at parts s) q i r (inv.store s hs).apart (mine s hs part) listed named leaves e))) settled

    -- so what it has prepared stands as committed
    stands_committed : (o : Oid) → ex o.class ≡ true → (hs : IsStore S D ex o.store) → TakesPart S o.store this
        → (i : Item) → In i (all_in (items_at parts o.store)) → item_name i ≡ o
        → row_of name_of (shelf S w o.store).rows o ≡ committed C o
    stands_committed o x hs part i named e =
        (inv.cells o x hs).free (λ q listed settled r leaves f. clear o.store hs part i named q listed settled r leaves (f ∙ sym e))

    current_there : (s : ℕ) → IsStore S D ex s → TakesPart S s this → (i : Item) → In i (all_in (items_at parts s)) → IsCurrent (shelf S w s) i
    current_there s hs part i named =
        each_of (IsCurrent (shelf S w s)) (all_in (items_at parts s)) i
        (each_of (λ (p : Prepared). AllByRecursion (IsCurrent (shelf S w s)) (all_in p.1)) (shelf S w s).prepared (own, items_at parts s)
        (inv.store s hs).current (mine s hs part)) named

    -- ---- the replay's evaluation

    record Stands (o : Oid) : Type 0 where
      version : version_of answers o ≡ C.version o
      object : get C.map o ≡ get seen o
      there : 1 ≤ C.version o

    stands : (o : Oid) → ex o.class ≡ true → In o (touched first.touches) → Stands o
    stands o x i =
        let hs = store_here o x (fit_touched o i) in
        let part = touched_part answers first o i in
        let it = touched_item answers first o i in
        let found = answered o i in
        let a = answer o found.0 found.1 in
        let row = stands_committed o x hs part it.item it.listed it.name in
        let fresh = fresh_is (version_of (shelf S w o.store).rows o) (version_of answers o)
        (it.dated (shelf S w o.store).rows (current_there o.store hs part it.item it.listed)) in
        let by_row = version_by_row (shelf S w o.store).rows o ∙ ap version_in row in
        let version : version_of answers o ≡ C.version o =
        fresh.0 ∙ by_row ∙ version_there o (C.version o) (get C.map o) (λ e. fresh.1 (by_row ∙ e)) in
        let known = (ok.answers a.row a.listed).known (subst (λ (p : Oid). ex p.class ≡ true) (sym a.name) x) in
        let read : a.row.1 ≡ version_of answers o = sym (version_of_row answers o a.row a.found) in
        let same : get C.map a.row.0 ≡ Some a.row.2 = known.same (read ∙ version ∙ ap C.version (sym a.name)) in
        let low : 1 ≤ a.row.1 = known.at_least in
        record {
          version = version;
          object = ap (get C.map) (sym a.name) ∙ same ∙ ap Some a.object ∙ sym found.1;
          there = subst (λ k. 1 ≤ k) (read ∙ version) low;
        }

    others_lack : (o : Oid) → ex o.class ≡ true → IsFalse (is_among o (map key others))
    others_lack o x = false_from_ne_true (is_among o (map key others)) (λ h.
        let r = in_map key o others (among_in o (map key others) h) in
        true≢false (sym (subst (λ (p : Oid). ex p.class ≡ true) r.2 x) ∙ (in_others r.0 r.1).3))

    one_answer : (o : Oid) (x : Object) → IsAnswer answers o x → (y : Object) → In (o, y) others → y ≡ x
    one_answer o x a y i =
        let r = in_others (o, y) i in
        let named : o ≡ r.0.0 = ap (λ (q : Oid × Object). q.0) r.2 in
        let found : row_of name_of answers o ≡ Some r.0 = subst (λ p. row_of name_of answers p ≡ Some r.0) (sym named) (row_once name_of answers r.0 ok.once r.1) in
        ap (λ (q : Oid × Object). q.1) r.2 ∙ ap (λ (y : Row). y.2) (same_Some r.0 a.row (sym found ∙ a.found)) ∙ a.object

    same_seen : (o : Oid) → In o (touched first.touches) → (b : Bool) → ex o.class ≡ b → get seen o ≡ get replayed o
    same_seen o i true x = sym (put_all_other others C.map o (others_lack o x) ∙ (stands o x i).object)
    same_seen o i false x =
        let found = answered o i in
        let a = answer o found.0 found.1 in
        let listed : In (a.row.0, a.row.2) others = filter_in (λ (row : Oid × Object). not (ex row.0.class)) (a.row.0, a.row.2) (objects_of answers)
        (map_in (λ (row : Row). (row.0, row.2)) a.row answers a.listed) (ap not (subst (λ (p : Oid). ex p.class ≡ false) (sym a.name) x)) in
        let among : IsTrue (is_among o (map key others)) =
        in_among o (map key others) (subst (λ p. In p (map key others)) a.name (map_in key (a.row.0, a.row.2) others listed)) in
        found.1 ∙ sym (put_all_one others C.map o found.0 (one_answer o found.0 a) among)

    -- the replay's evaluation does what the attempt's did
    pub again_alike : AreAlike (meant_by S (current S n (standing S D ex w cs n))) (again S ex C.map (current S n (standing S D ex w cs n)))
    again_alike =
        let e = ended_is first.ending ended in
        law.local n this.request own seen replayed e.0 unmade_seen (unmade_replayed ready) e.1
        (all_of (λ o. get seen o ≡ get replayed o) (touched first.touches) (λ o i. same_seen o i (ex o.class) refl))

    fit_replayed : AreFit S replayed
    fit_replayed = all_of (IsFit S) replayed (λ r i.
        elim (put_all_from others C.map r.0 r.1 (in_get replayed r.0 r.1 (ascends_put_all others C.map inv.commits.ascending) i)) [
          | inl put ↦ let a = in_others r put in subst (IsFit S) (sym a.2) (ok.answers a.0 a.1).fit
          | inr was ↦ inv.commits.fits r.0 r.1 was
        ])

    pub redone : IsRedone S ex C.map (current S n (standing S D ex w cs n))
    redone = record {
      value = (ended_is first.ending ended).0;
      ended = sym again_alike.ending ∙ (ended_is first.ending ended).1;
      alike = again_alike;
      up = inv.commits.ascending;
      inside = inv.commits.within;
      both = ascends_put_all others C.map inv.commits.ascending;
      fits = fit_replayed;
    }

    -- ---- what the commit changes

    abbrev second : Meant
    second = again S ex C.map this

    parts_again : parts_of answers second ≡ parts
    parts_again =
        same_parts answers first second ascends_first
        (law.once n this.request own replayed (ascends_put_all others C.map inv.commits.ascending)) again_alike

    abbrev changed : FlatMap
    changed = changes_in S ex C.map this

    abbrev behind : State
    behind = behind_one S ex C this

    -- an object of a class in ex that the attempt writes or makes, as it is behind it
    record IsChange (o : Oid) (x : Object) : Type 0 where
      inside : ex o.class ≡ true
      how : In o first.written ⊎ In o first.made
      stands : In (o, x) first.map

    change_is : (c : Oid × Object) → In c changed → IsChange c.0 c.1
    change_is c i =
        let f = in_filter (λ (row : Oid × Object). ex row.0.class) c (changes_of (parts_of answers second)) i in
        let g = change_from answers first c (subst (λ p. In c (changes_of p)) parts_again f.0) in
        record { inside = f.1; how = g.0; stands = g.1 }

    is_change : (o : Oid) (x : Object) → IsChange o x → In (o, x) changed
    is_change o x h =
        filter_in (λ (row : Oid × Object). ex row.0.class) (o, x) (changes_of (parts_of answers second))
        (subst (λ p. In (o, x) (changes_of p)) (sym parts_again) (change_to answers first o x h.how h.stands)) h.inside

    -- a name that changes is that of such an object
    change_of : (o : Oid) → IsTrue (is_among o (map key changed)) → (x : Object) × IsChange o x
    change_of o h =
        let r = among_row o changed h in (r.0, change_is (o, r.0) r.1)

    among_changed : (o : Oid) (x : Object) → IsChange o x → IsTrue (is_among o (map key changed))
    among_changed o x h = row_among o x changed (is_change o x h)

    one_object : (o : Oid) (x y : Object) → In (o, x) first.map → In (o, y) first.map → y ≡ x
    one_object o x y i j = same_Some y x (sym (in_get first.map o y ascends_first j) ∙ in_get first.map o x ascends_first i)

    version_new : (o : Oid) (x : Object) → IsChange o x → behind.version o ≡ suc (C.version o)
    version_new o x h = ap (λ b. if b then suc (C.version o) else C.version o) (among_changed o x h)

    map_new : (o : Oid) (x : Object) → IsChange o x → get behind.map o ≡ Some x
    map_new o x h = put_all_one changed C.map o x (λ y i. one_object o x y h.stands (change_is (o, y) i).stands) (among_changed o x h)

    version_old : (o : Oid) → is_among o (map key changed) ≡ false → behind.version o ≡ C.version o
    version_old o h = ap (λ b. if b then suc (C.version o) else C.version o) h

    map_old : (o : Oid) → is_among o (map key changed) ≡ false → get behind.map o ≡ get C.map o
    map_old o h = put_all_other changed C.map o h

    committed_old : (o : Oid) → is_among o (map key changed) ≡ false → committed behind o ≡ committed C o
    committed_old o h = row_same o (behind.version o) (C.version o) (get behind.map o) (get C.map o) (version_old o h) (map_old o h)
      where
        row_same : (o : Oid) (k l : ℕ) (x y : Option Object) → k ≡ l → x ≡ y → option_map (in_row o k) x ≡ option_map (in_row o l) y
        row_same o k l x y e f = λ i. option_map (in_row o (e i)) (f i)

    committed_new : (o : Oid) (x : Object) → IsChange o x → committed behind o ≡ Some (o, suc (C.version o), x)
    committed_new o x h = row_is o (behind.version o) (suc (C.version o)) (get behind.map o) x (version_new o x h) (map_new o x h)
      where
        row_is : (o : Oid) (k l : ℕ) (found : Option Object) (x : Object) → k ≡ l → found ≡ Some x → option_map (in_row o k) found ≡ Some (in_row o l x)
        row_is o k l found x e f = λ i. option_map (in_row o (e i)) (f i)

    -- ---- where it is prepared

    -- what an object that changes has at its store, which takes part
    record Placed (o : Oid) : Type 0 where
      store : IsStore S D ex o.store
      part : TakesPart S o.store this
      item : Item
      listed : In item (all_in (items_at parts o.store))
      name : item_name item ≡ o
      writes : IsFalse (lacks_right S.rights n item) → IsTrue (may_write S.rights n o.class)
      row : Row
      leaves : In row (left_by (items_at parts o.store))
      named : row.0 ≡ o

    placed_how : (o : Oid) (x : Object) → IsChange o x → In o first.written ⊎ In o first.made → Placed o
    placed_how o x h (inl wrote) =
        let i = written_touched o wrote in
        let r = written_to answers first o x wrote h.stands in
        let r_here = write_here parts (o, version_of answers o, x) r in
        record {
          store = store_here o h.inside (fit_touched o i);
          part = touched_part answers first o i;
          item = Write o (version_of answers o) x;
          listed = in_writes (items_at parts o.store) (o, version_of answers o, x) r_here;
          name = refl;
          writes = λ may. not-false (may_write S.rights n o.class) may;
          row = raised (o, version_of answers o, x);
          leaves = in_left (raised (o, version_of answers o, x)) (map raised (items_at parts o.store).writes) (map begun (items_at parts o.store).creates)
              (map_in raised (o, version_of answers o, x) (items_at parts o.store).writes r_here);
          named = refl;
        }
    placed_how o x h (inr makes) =
        let r = made_to answers first o x makes h.stands in
        let r_here = create_here parts (o, x) r in
        record {
          store = store_here o h.inside (each_of (IsFit S) first.map (o, x) fit_first h.stands).name;
          part = made_part answers first (o, x) r;
          item = Create o x;
          listed = in_creates (items_at parts o.store) (o, x) r_here;
          name = refl;
          writes = λ may. not-false (may_write S.rights n o.class) may;
          row = begun (o, x);
          leaves = in_right (begun (o, x)) (map raised (items_at parts o.store).writes) (map begun (items_at parts o.store).creates)
              (map_in begun (o, x) (items_at parts o.store).creates r_here);
          named = refl;
        }

    placed : (o : Oid) (x : Object) → IsChange o x → Placed o
    placed o x h = placed_how o x h h.how

    -- what it changes of a class in ex it may write
    pub righted : (o : Oid) → ex o.class ≡ true
        → IsTrue (is_among o (map (λ (r : Oid × Object). r.0) (changes_in S ex C.map (current S n (standing S D ex w cs n))))) → IsTrue (may_write S.rights n o.class)
    righted o x h =
        let c = change_of o h in
        let p = placed o c.0 c.1 in
        p.writes (each_of (λ i. IsFalse (lacks_right S.rights n i)) (all_in (items_at parts o.store)) p.item
        (each_of (IsAllowed S.rights) (shelf S w o.store).prepared (own, items_at parts o.store) (inv.store o.store p.store).allowed
        (mine o.store p.store p.part)) p.listed)

    -- ---- versions behind it

    -- an object that is made isn't there
    made_new : (o : Oid) (x : Object) → ex o.class ≡ true → In o first.made → In (o, x) first.map → (get C.map o ≡ None) × (C.version o ≡ 0)
    made_new o x inside makes stands =
        let r = made_to answers first o x makes stands in
        let hs = store_here o inside (each_of (IsFit S) first.map (o, x) fit_first stands).name in
        let part = made_part answers first (o, x) r in
        let listed = in_creates (items_at parts o.store) (o, x) (create_here parts (o, x) r) in
        let row = stands_committed o inside hs part (Create o x) listed refl in
        let new : nat_lt 0 (version_of (shelf S w o.store).rows o) ≡ false = current_there o.store hs part (Create o x) listed in
        let none = no_row (shelf S w o.store).rows o (inv.store o.store hs).versions (no_version (version_of (shelf S w o.store).rows o) new) in
        let gone = nothing_there o (C.version o) (get C.map o) (sym row ∙ none) in
        (gone, inv.commits.gone o gone)
      where
        no_version : (k : ℕ) → nat_lt 0 k ≡ false → k ≡ 0
        no_version k h = let low : k ≤ 0 = ltb-false 0 k h in omega (arith, low)

    module _ (few : length cs ≤ 4000000000) where
      version_low : (o : Oid) → C.version o < 4294967295
      version_low o = let low : C.version o ≤ suc (length cs) = inv.commits.few o in omega (arith, few, low)

      -- the rows that it leaves are what is committed behind it
      raised_row : (o : Oid) (x : Object) → IsChange o x → In o first.written → committed behind o ≡ Some (raised (o, version_of answers o, x))
      raised_row o x h wrote =
          let v = (stands o h.inside (written_touched o wrote)).version in
          committed_new o x h ∙ ap (λ k. Some (in_row o k x)) (sym (risen_is (C.version o) (version_low o)) ∙ ap risen (sym v))

      begun_row : (o : Oid) (x : Object) → IsChange o x → In o first.made → committed behind o ≡ Some (begun (o, x))
      begun_row o x h makes =
          let v : C.version o ≡ 0 = (made_new o x h.inside makes h.stands).1 in
          committed_new o x h ∙ ap (λ k. Some (in_row o k x)) (ap suc v ∙ one)
        where
          one : suc 0 ≡ 1
          one = omega arith

      -- a row that it leaves is of an object that changes
      left_row : (s : ℕ) (r : Row) → In r (left_by (items_at parts s)) → ex r.0.class ≡ true
          → ((x : Object) × IsChange r.0 x) × (committed behind r.0 ≡ Some r)
      left_row s r i inside = elim (in_append r (map raised (items_at parts s).writes) (map begun (items_at parts s).creates) i) [
        | inl a ↦
            let g = in_map raised r (items_at parts s).writes a in
            let f = in_filter (λ (v : Row). v.0.store == s) g.0 parts.writes g.1 in
            let wrote = written_from answers first g.0 f.0 in
            let c : IsChange g.0.0 g.0.2 = record {
              inside = subst (λ (q : Row). ex q.0.class ≡ true) g.2 inside;
              how = inl wrote.listed;
              stands = wrote.object;
            } in
            subst (λ (q : Row). ((x : Object) × IsChange q.0 x) × (committed behind q.0 ≡ Some q)) (sym g.2)
            ((g.0.2, c), raised_row g.0.0 g.0.2 c wrote.listed ∙ ap (λ k. Some (in_row g.0.0 (risen k) g.0.2)) (sym wrote.version))
        | inr b ↦
            let g = in_map begun r (items_at parts s).creates b in
            let f = in_filter (λ (d : Oid × Object). d.0.store == s) g.0 parts.creates g.1 in
            let makes = made_from answers first g.0 f.0 in
            let c : IsChange g.0.0 g.0.1 = record {
              inside = subst (λ (q : Row). ex q.0.class ≡ true) g.2 inside;
              how = inr makes.0;
              stands = makes.1;
            } in
            subst (λ (q : Row). ((x : Object) × IsChange q.0 x) × (committed behind q.0 ≡ Some q)) (sym g.2)
            ((g.0.1, c), begun_row g.0.0 g.0.1 c makes.0)
      ]

      rises_by : (o : Oid) (b : Bool) → is_among o (map key changed) ≡ b
          → ((behind.version o ≡ C.version o) × (get behind.map o ≡ get C.map o)) ⊎ (C.version o < behind.version o)
      rises_by o true h = let c = change_of o h in let v : behind.version o ≡ suc (C.version o) = version_new o c.0 c.1 in inr (omega (arith, v))
      rises_by o false h = inl (version_old o h, map_old o h)

      rises : Rises C behind
      rises = record { each = λ o. rises_by o (is_among o (map key changed)) refl }

      -- ---- objects at their stores

      -- who is settled now was, or is this attempt
      settled_split : (q : Prepared) → Settled S D ex (cs ++ this ∷ []) q → Settled S D ex cs q ⊎ (q.0 ≡ own)
      settled_split q st = elim (in_append st.commit cs (this ∷ []) st.listed) [
        | inl old ↦ inl (record { outside = st.outside; commit = st.commit; listed = old; tid = st.tid })
        | inr new ↦ inr (sym st.tid ∙ ap (λ (c : Commit). c.tid) (in_one st.commit this new))
      ]

      settled_on : (q : Prepared) → Settled S D ex cs q → Settled S D ex (cs ++ this ∷ []) q
      settled_on q st = record { outside = st.outside; commit = st.commit; listed = in_left st.commit cs (this ∷ []) st.listed; tid = st.tid }

      settled_mine : (s : ℕ) → Settled S D ex (cs ++ this ∷ []) (own, items_at parts s)
      settled_mine s = record { outside = me.outside; commit = this; listed = in_right this cs (this ∷ []) (inl refl); tid = refl }

      cell_by : (o : Oid) → ex o.class ≡ true → IsStore S D ex o.store → (b : Bool) → is_among o (map key changed) ≡ b
          → CellOk S D ex o (cs ++ this ∷ []) (shelf S w o.store) behind
      cell_by o x hs false h =
          let cell = inv.cells o x hs in
          let v = version_old o h in
          let low : version_of (shelf S w o.store).rows o ≤ C.version o = cell.below in
          record {
            below = subst (λ k. version_of (shelf S w o.store).rows o ≤ k) (sym v) low;
            equal = λ e. cell.equal (e ∙ v) ∙ sym (committed_old o h);
            free = λ none. cell.free (λ q i st. none q i (settled_on q st)) ∙ sym (committed_old o h);
            taken = λ q i st r leaves e. elim (settled_split q st) [
              | inl old ↦ committed_old o h ∙ cell.taken q i old r leaves e
              | inr now ↦
                  let mine_left = subst (λ (is : Items). In r (left_by is)) (theirs o.store hs q i now) leaves in
                  let c = (left_row o.store r mine_left (subst (λ (p : Oid). ex p.class ≡ true) (sym e) x)).0 in
                  absurd (true≢false (sym (subst (λ p. IsTrue (is_among p (map key changed))) e (among_changed r.0 c.0 c.1)) ∙ h))
            ];
          }
      cell_by o x hs true h =
          let cell = inv.cells o x hs in
          let c = change_of o h in
          let p = placed o c.0 c.1 in
          let v : behind.version o ≡ suc (C.version o) = version_new o c.0 c.1 in
          let low : version_of (shelf S w o.store).rows o ≤ C.version o = cell.below in
          record {
            below = omega (arith, v, low);
            equal = λ e. absurd (omega (arith, v, low, e));
            free = λ none. absurd (none (own, items_at parts o.store) (mine o.store hs p.part) (settled_mine o.store) p.row p.leaves p.named);
            taken = λ q i st r leaves e. elim (settled_split q st) [
              | inl old ↦ absurd (clear o.store hs p.part p.item p.listed q i old r leaves (e ∙ sym p.name))
              | inr now ↦
                  let mine_left = subst (λ (is : Items). In r (left_by is)) (theirs o.store hs q i now) leaves in
                  let row = (left_row o.store r mine_left (subst (λ (p : Oid). ex p.class ≡ true) (sym e) x)).1 in
                  subst (λ p. committed behind p ≡ Some r) e row
            ];
          }

      -- ---- the commits

      there_by : (o : Oid) (x : Object) → get behind.map o ≡ Some x → (b : Bool) → is_among o (map key changed) ≡ b → 1 ≤ behind.version o
      there_by o x g true h = let c = change_of o h in let v : behind.version o ≡ suc (C.version o) = version_new o c.0 c.1 in omega (arith, v)
      there_by o x g false h = subst (λ k. 1 ≤ k) (sym (version_old o h)) (inv.commits.there o x (sym (map_old o h) ∙ g))

      gone_by : (o : Oid) → get behind.map o ≡ None → (b : Bool) → is_among o (map key changed) ≡ b → behind.version o ≡ 0
      gone_by o g true h = let c = change_of o h in absurd (none-some c.0 (sym g ∙ map_new o c.0 c.1))
      gone_by o g false h = version_old o h ∙ inv.commits.gone o (sym (map_old o h) ∙ g)

      few_by : (o : Oid) (b : Bool) → is_among o (map key changed) ≡ b → behind.version o ≤ suc (length (cs ++ this ∷ []))
      few_by o true h =
          let c = change_of o h in
          let v : behind.version o ≡ suc (C.version o) = version_new o c.0 c.1 in
          let low : C.version o ≤ suc (length cs) = inv.commits.few o in
          let long : length (cs ++ this ∷ []) ≡ length cs + 1 = length-append cs (this ∷ []) in
          omega (arith, v, low, long)
      few_by o false h =
          let v : behind.version o ≡ C.version o = version_old o h in
          let low : C.version o ≤ suc (length cs) = inv.commits.few o in
          let long : length (cs ++ this ∷ []) ≡ length cs + 1 = length-append cs (this ∷ []) in
          omega (arith, v, low, long)

      made_further : (o : Oid) → (o.boot ≡ 0) ⊎ ((c : Commit) × In c cs × IsTrue (is_made_in c.tid o))
          → (o.boot ≡ 0) ⊎ ((c : Commit) × In c (cs ++ this ∷ []) × IsTrue (is_made_in c.tid o))
      made_further o (inl root) = inl root
      made_further o (inr made) = inr (made.0, in_left made.0 cs (this ∷ []) made.1, made.2)

      made_how : (o : Oid) (x : Object) → IsChange o x → In o first.written ⊎ In o first.made
          → (o.boot ≡ 0) ⊎ ((c : Commit) × In c (cs ++ this ∷ []) × IsTrue (is_made_in c.tid o))
      made_how o x h (inl wrote) = made_further o (inv.commits.made o (stands o h.inside (written_touched o wrote)).there)
      made_how o x h (inr makes) =
          inr (this, in_right this cs (this ∷ []) (inl refl), each_of (λ o. IsTrue (is_made_in own o)) first.made o (law.made n this.request own seen) makes)

      made_by : (o : Oid) → 1 ≤ behind.version o → (b : Bool) → is_among o (map key changed) ≡ b
          → (o.boot ≡ 0) ⊎ ((c : Commit) × In c (cs ++ this ∷ []) × IsTrue (is_made_in c.tid o))
      made_by o low true h = let c = change_of o h in made_how o c.0 c.1 c.1.how
      made_by o low false h = made_further o (inv.commits.made o (subst (λ k. 1 ≤ k) (version_old o h) low))

      each_commit : (P : Commit → Type 0) → ((c : Commit) → In c cs → P c) → P this → (c : Commit) → In c (cs ++ this ∷ []) → P c
      each_commit P old new c i = elim (in_append c cs (this ∷ []) i) [
        | inl a ↦ old c a
        | inr b ↦ subst P (sym (in_one c this b)) new
      ]

      commits_behind : AreCommits S D ex (cs ++ this ∷ []) behind
      commits_behind = record {
        own = each_commit (λ c. c.tid.worker ≡ c.worker) inv.commits.own refl;
        outside = each_commit (λ c. D c.worker ≡ false) inv.commits.outside me.outside;
        numbered = each_commit (λ c. c.tid.number < 4294967296) inv.commits.numbered (let few = small in omega (arith, few));
        ascending = ascends_put_all changed C.map inv.commits.ascending;
        within = λ o x g. elim (put_all_from changed C.map o x g) [
          | inl i ↦ (change_is (o, x) i).inside
          | inr was ↦ inv.commits.within o x was
        ];
        fits = λ o x g. elim (put_all_from changed C.map o x g) [
          | inl i ↦ each_of (IsFit S) first.map (o, x) fit_first (change_is (o, x) i).stands
          | inr was ↦ inv.commits.fits o x was
        ];
        there = λ o x g. there_by o x g (is_among o (map key changed)) refl;
        gone = λ o g. gone_by o g (is_among o (map key changed)) refl;
        few = λ o. few_by o (is_among o (map key changed)) refl;
        made = λ o low. made_by o low (is_among o (map key changed)) refl;
      }

      -- ---- the worker behind it

      abbrev attempt_behind : Attempt
      attempt_behind = record {
        number = before.attempt.number;
        tries = 0;
        phase = workers.Idle;
        answers = [];
        caches = cached S.cache (puts_of answers parts) 0 before.attempt.caches;
        told = (0, 0);
      }

      abbrev after : Standing
      after = record {
        kept = record before.kept {
          decided = before.kept.decided ++ decision_of S this ∷ [];
          outcomes = before.kept.outcomes ++ Committed own parts.value ∷ [];
        };
        attempt = attempt_behind;
        up = true;
        deals = before.deals ++ this ∷ [];
      }

      module _ (up : (w.node n).up ≡ true) where
        -- the tids so far are below the limit behind it
        limit_least : limit before ≤ limit after
        limit_least = least before.attempt.phase (w.node n).up up
          where
            least : (phase : Phase) (running : Bool) → running ≡ true
                → limit_in running before.kept.boot (record before.attempt { phase = phase }) ≤ rank before.kept.boot (suc before.attempt.number)
            least workers.Idle true e = omega arith
            least workers.Evaluating true e = omega arith
            least (workers.Fetching o) true e = omega arith
            least (workers.Preparing ls) true e = omega arith
            least phase false e = absurd (true≢false (sym e))

        moves : Moves S D ex n before after
        moves = record {
          later = limit_least;
          boots = le_refl before.kept.boot;
          opens = λ t opened. absurd opened.waits;
          live = λ t c l. elim l [
            | inl opened ↦ absurd opened.0.waits
            | inr listed ↦ elim (in_append c before.deals (this ∷ []) listed.0) [
              | inl old ↦ inl (inr (old, listed.1))
              | inr new ↦
                  let same = in_one c this new in
                  let named : own ≡ t = sym (ap (λ (c : Commit). c.tid) same) ∙ listed.1 in
                  elim ready [
                    | inl opened ↦ inl (inl (subst (Open n before) named opened, same))
                    | inr late ↦ inr (subst (λ (t : Tid). limit before ≤ rank_of t) named late.0)
                  ]
            ]
          ];
          decided = λ c i. in_left c before.deals (this ∷ []) i;
        }

        had_behind : (r : Row) → IsHad S D ex n before C r → IsHad S D ex n after behind r
        had_behind r h = record { fit = h.fit; version = h.version; before = h.before; known = λ x. known_rises C behind r rises (h.known x) }

        -- what it wrote, as it is behind it
        had_written : (r : Row) → IsWritten answers first r → IsHad S D ex n after behind (raised r)
        had_written r wrote =
            let i = written_touched r.0 wrote.listed in
            let found = answered r.0 i in
            let a = answer r.0 found.0 found.1 in
            let h = ok.answers a.row a.listed in
            let read : a.row.1 ≡ r.1 = sym (version_of_row answers r.0 a.row a.found) ∙ sym wrote.version in
            record {
              fit = each_of (IsFit S) first.map (r.0, r.2) fit_first wrote.object;
              version = risen_low r.1 (subst (λ k. k < 4294967296) read h.version);
              before = subst (λ o. IsTrue (is_made_before S.rights S.cache n before.kept o before.attempt)) a.name h.before;
              known = λ x.
                  let c : IsChange r.0 r.2 = record { inside = x; how = inl wrote.listed; stands = wrote.object } in
                  let v : behind.version r.0 ≡ suc (C.version r.0) = version_new r.0 r.2 c in
                  let risen_one : risen r.1 ≡ suc (C.version r.0) =
                  ap risen (wrote.version ∙ (stands r.0 x i).version) ∙ risen_is (C.version r.0) (version_low r.0) in
                  record {
                    at_least = omega (arith, risen_one);
                    at_most = omega (arith, risen_one, v);
                    same = λ e. map_new r.0 r.2 c;
                  };
            }

        had_cached : (rows : Rows) (r : Row) → In rows attempt_behind.caches → In r rows → IsHad S D ex n after behind r
        had_cached rows r i j = elim (in_cached S.cache (puts_of answers parts) 0 before.attempt.caches rows r i j) [
          | inl old ↦ had_behind r (ok.cached old.0 r old.1 old.2)
          | inr new ↦ elim (put_from answers parts r new) [
            | inl wrote ↦ subst (IsHad S D ex n after behind) (sym wrote.2) (had_written wrote.0 (written_from answers first wrote.0 wrote.1))
            | inr read ↦ had_behind r (ok.answers r read)
          ]
        ]

        ok_after : WorkerOk S D ex n after behind
        ok_after = record {
          answers = λ r i. absurd i;
          cached = had_cached;
          once = tt;
          awaited = λ o e. absurd (idle_fetches o e);
          past = λ c i. elim (in_append c before.deals (this ∷ []) i) [
            | inl old ↦ lt_of_lt_of_le (ok.past c old) limit_least
            | inr new ↦ subst (λ (c : Commit). rank_of c.tid < limit after) (sym (in_one c this new)) (omega arith)
          ];
          closed = λ c i opened. opened.waits;
          ended = λ waits. absurd waits;
          listed = ap (λ ds. ds ++ decision_of S this ∷ []) ok.listed ∙ sym (decisions_more S before.deals this);
          booted = ok.booted;
          low = ok.low;
        }
          where
            idle_fetches : (o : Oid) → workers.Idle ≡ workers.Fetching o → ⊥
            idle_fetches o e = cc

        module _ (a : Attempt) (number : a.number ≡ (w.node n).attempt.number) (same_answers : a.answers ≡ (w.node n).attempt.answers)
            (same_caches : a.caches ≡ (w.node n).attempt.caches) (v : World)
            (lands : Lands n (decides S.rights S.cache n (kept S w n) a (parts_by S (current S n (standing S D ex w cs n)))) w v) where
          abbrev ds : List Commit
          ds = cs ++ this ∷ []

          tid_stays : tid_of n before.kept a ≡ own
          tid_stays = λ i. record { worker = n; boot = before.kept.boot; number = number i }

          kept_is : kept S v n ≡ after.kept
          kept_is =
              ap kept_of lands.entries
              ∙ kept_more (w.node n).entries (e.Decided (tid_of n before.kept a) this.request parts.value (stores_of parts))
              ∙ (λ i. record before.kept {
                decided = before.kept.decided ++ record { tid = tid_stays i; request = this.request; stores = stores_of parts; value = parts.value } ∷ [];
                outcomes = before.kept.outcomes ++ Committed (tid_stays i) parts.value ∷ [];
              })

          attempt_is : (v.node n).attempt ≡ attempt_behind
          attempt_is = lands.attempt ∙ (λ i. record {
            number = number i;
            tries = 0;
            phase = workers.Idle;
            answers = [];
            caches = cached S.cache (puts_of (same_answers i) parts) 0 (same_caches i);
            told = (0, 0);
          })

          is_after : standing S D ex v ds n ≡ after
          is_after = λ i. record { kept = kept_is i; attempt = attempt_is i; up = lands.up i; deals = deals_more cs this i }

          says_commit : (s : ℕ) (bytes : List ℕ) (message : Message)
              → IsSent (decides S.rights S.cache n (kept S w n) a parts) s bytes → S.read bytes ≡ Some message → Says S n s (standing S D ex v ds n) message
          says_commit s bytes message sent read =
              let r = in_map (λ (z : ℕ). (z, m.Commit (tid_of n before.kept a))) (s, sent.message) (stores_of parts) sent.listed in
              let is : sent.message ≡ m.Commit own = ap (λ (x : ℕ × Message). x.1) r.2 ∙ ap m.Commit tid_stays in
              let one : message ≡ m.Commit own = read_back S given (m.Commit own) message spelled_tid
              (subst (λ (x : Message). S.read (spelled x) ≡ Some message) is (subst (λ b. S.read b ≡ Some message) sent.spells read)) in
              let decided : Decided after own = record { commit = this; listed = in_right this before.deals (this ∷ []) (inl refl); tid = refl } in
              subst (Says S n s (standing S D ex v ds n)) (sym one) (subst (λ z. Decided z own) (sym is_after) decided)

          aged_by : (s : ℕ) → IsStore S D ex s → (c : Commit) → In c (deals ds n) → TakesPart S s c → rank_of c.tid ≤ rank_of (last_of (shelf S w s) n)
          aged_by s hs c i part = elim (in_append c before.deals (this ∷ []) (subst (In c) (deals_more cs this) i)) [
            | inl old ↦ (inv.pair n s me hs).aged c old part
            | inr new ↦
                let same = in_one c this new in
                let listed = mine s hs (subst (TakesPart S s) same part) in
                let low : own.number < 4294967296 = let few = small in omega (arith, few) in
                subst (λ (c : Commit). rank_of c.tid ≤ rank_of (last_of (shelf S w s) n)) (sym same)
                (not_above own (last_of (shelf S w s) n) (each_of (λ (p : Prepared). IsFalse (is_above p.0 (last_of (shelf S w s) p.0.worker)))
                (shelf S w s).prepared (own, items_at parts s) (inv.store s hs).tids listed) low)
          ]

          idle_prepares : (ls : List ℕ) → (v.node n).attempt.phase ≡ workers.Preparing ls → ⊥
          idle_prepares ls h = idle_waits ls (sym (ap (λ (a : Attempt). a.phase) attempt_is) ∙ h)
            where
              idle_waits : (ls : List ℕ) → workers.Idle ≡ workers.Preparing ls → ⊥
              idle_waits ls e = cc

          -- what holds holds behind the decision, with its commit as the last
          pub keeps_decides : Inv S D ex v (cs ++ current S n (standing S D ex w cs n) ∷ []) (behind_one S ex C (current S n (standing S D ex w cs n)))
          keeps_decides =
              worker_keeps S D ex given (IsSent (decides S.rights S.cache n (kept S w n) a parts)) w v cs ds C behind n inv me lands.follows
              (deals_others cs this) (subst (Moves S D ex n before) (sym is_after) moves) rises
              (subst (λ z. WorkerOk S D ex n z behind) (sym is_after) ok_after)
              (λ s hs. says_commit s) (λ s hs ls h. absurd (idle_prepares ls h)) aged_by
              (λ o x hs. cell_by o x hs (is_among o (map key changed)) refl) commits_behind
