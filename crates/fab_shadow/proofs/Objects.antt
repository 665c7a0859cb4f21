-- A store answers a worker outside the set with an object.
use Rattle.std.proofs.Common.{◌≡◌, inl, inr, ℕ, Bool, true, false, not, ◌&&◌, ◌||◌, List, [], ◌∷◌, ◌++◌, Some, refl, sym, ap, ◌∙◌, subst, true≢false, arith}
use Rattle.std.specs.Prelude.{◌==◌, nat_lt, if◌then◌else◌}
use Rattle.std.specs.List.{filter}
use Rattle.std.proofs.lemmas.Bool.{and_parts, cond_both, eqb-true}
use Rattle.fab_base.specs.declared.message.Message.{Message}
use Rattle.fab_base.specs.declared.message.Message.TheVariants as m
use Rattle.fab_base.specs.declared.object.Object.{Object}
use Rattle.fab_base.specs.declared.object.Oid.{Oid}
use Rattle.fab_base.specs.declared.object.Tid.{Tid}
use Rattle.fab_base.specs.FlatMap.{is_among, is_same}
use Rattle.fab_base.specs.Tids.{is_above}
use Rattle.fab_base.proofs.NameOrder.{one_name}
use Rattle.fab_net.specs.declared.note.Commit.{Commit}
use Rattle.fab_net.specs.declared.note.Logged.{Logged}
use Rattle.fab_net.specs.declared.outcome.Denial.TheVariants.{IllFormed}
use Rattle.fab_net.specs.declared.outcome.ReqOutcome.TheVariants.{Denied}
use Rattle.fab_protocol.specs.declared.parts.Parts.{Parts}
use Rattle.fab_protocol.specs.Versions.{Row, is_tid, maker_of, names_of}
use Rattle.fab_rights.specs.Computed.{is_store, suits}
use Rattle.fab_world.specs.Machine.{Setting, World, front_of, kept, meant, parts, shelf}
use Rattle.fab_world.specs.Workers as workers
use Rattle.fab_world.specs.Workers.{Act, Attempt, Phase, aborts_in, awaits_object, gives, got, is_made_before, request_of, stays, takes_any}
use Rattle.fab_release.specs.declared.release.Release.{Release}
use Rattle.fab_release.specs.Sights.{Sight, Public}
use Rattle.fab_release.specs.Record.{seen_by}
use Rattle.fab_release.specs.Replay as replay
use Rattle.fab_release.specs.Replay.{Rebuilt, WorkerSeen, Runs, Waits, Votes, is_shown, knows, tid_of, worker_hears}
use Rattle.fab_isolation.specs.Law.{IsShared}
use Rattle.fab_integrity.proofs.Invariant.{In, IsStore, IsWorker, Standing, limit_at, standing, tid_at}
use Rattle.fab_integrity.proofs.Lists.{in_append, in_one}
use Rattle.fab_shadow.proofs.Shadow.{never, Stands, Dated, Fetches, InPhase, Keeps, Knows, ShadowsWorker, seen_names}
use Rattle.fab_shadow.proofs.Fold.{AtWorker, after, tells}
use Rattle.fab_shadow.proofs.Logs.{seen_mine}
use Rattle.fab_shadow.proofs.Deeds.{Makes}
use Rattle.fab_shadow.proofs.Frames.{stands_after}
use Rattle.fab_shadow.proofs.Here.{answer_dated, at_as, calm_made, limit_here, recorded_calm, same_tid, shadows}
use Rattle.fab_shadow.proofs.Knowing.{knows_inside, knows_outside}
use Rattle.fab_shadow.proofs.Outcomes.{evaluates_on, new_row, untold}
use Rattle.fab_shadow.proofs.Hearing.{at_calm, at_heard, entries, gives_made, made_quietly, says_mute, stays_made}

-- an attempt that fetches this object, of this store
pub record IsFetching (phase : Phase) (s : ℕ) (t tid : Tid) (o : Oid) : Type 0 where
  pub fetching : phase ≡ workers.Fetching o
  pub tid_is : is_tid t tid ≡ true
  pub place : o.store ≡ s

module _ (S : Setting) (sight : Sight) (P : Public) (shared : IsShared S sight P) (w : World) (log : List Logged) (cs : List Commit) (k : Rebuilt)
    (stands : Stands S sight P w log cs k) (n : ℕ) (me : IsWorker S sight.has never n) (up : (w.node n).up ≡ true) (s : ℕ) where
  abbrev a : Attempt
  a = (w.node n).attempt

  abbrev here : Standing
  here = standing S sight.has never w cs n

  abbrev y : WorkerSeen
  y = k.worker n

  abbrev whole : Parts
  whole = parts S w n

  abbrev bytes : List ℕ
  bytes = front_of (w.queue s n)

  abbrev tid : Tid
  tid = tid_at n here

  keeps : Keeps S sight P here y
  keeps = (shadows S sight P shared w log cs k stands n me).keeps

  pub fetching_at : (t : Tid) (o : Oid) (phase : Phase) → awaits_object S.rights S.cache n (kept S w n) s t o a phase ≡ true → IsFetching phase s t tid o
  fetching_at t o workers.Idle h = absurd (true≢false (sym h))
  fetching_at t o workers.Evaluating h = absurd (true≢false (sym h))
  fetching_at t o (workers.Preparing ls) h = absurd (true≢false (sym h))
  fetching_at t o (workers.Fetching q) h =
      let both = and_parts (is_tid t tid && is_same o q) (o.store == s) h in
      let named = and_parts (is_tid t tid) (is_same o q) both.0 in
      record { fetching = ap workers.Fetching (sym (one_name o q named.1)); tid_is = named.0; place = eqb-true o.store s both.1 }

  -- no one is told that an attempt is over that fetches
  pub none_told : (o : Oid) → a.phase ≡ workers.Fetching o → [] ≡ aborts_in S.rights S.cache n (kept S w n) a.phase a whole
  none_told o fetching = sym (ap (λ q. aborts_in S.rights S.cache n (kept S w n) q a whole) fetching)

  module _ (t : Tid) (o : Oid) (version : ℕ) (x : Object) where
    -- the tests of the worker, and those of the replay
    abbrev is_well : Bool
    is_well = suits S.rights o x && nat_lt 0 version && is_made_before S.rights S.cache n (kept S w n) o a

    abbrev is_answer : Oid → Bool
    is_answer p =
        is_tid t (tid_of sight P n y) && is_same o p && (o.store == s) && suits P.rights o x && nat_lt 0 version && (not (o.worker == n) || is_above (tid_of sight P n y) (maker_of o))

    answer_so : (p : Oid) → is_answer p
        ≡ (is_tid t tid && is_same o p && (o.store == s) && suits S.rights o x && nat_lt 0 version && is_made_before S.rights S.cache n (kept S w n) o a)
    answer_so p =
        let same = same_tid S sight P shared w log cs k stands n me y keeps up in
        let rights = shared.public_is.rights in
        λ i. is_tid t (same i) && is_same o p && (o.store == s) && suits (rights i) o x && nat_lt 0 version && (not (o.worker == n) || is_above (same i) (maker_of o))

    abbrev learned : WorkerSeen
    learned = record (knows sight P ((o, version, x) ∷ []) y) { stage = Runs }

    -- where the worker waits for nothing or another, it changes nothing
    unasked_by : (b : Bool) (p : Oid) → (is_tid t tid && is_same o p && (o.store == s)) ≡ false → replay.answers sight P n s t o version x (if b then Waits p else Runs) y ≡ y
    unasked_by false p e = refl
    unasked_by true p e =
        ap (λ c. if c then learned else y)
        (answer_so p ∙ ap (λ c. c && suits S.rights o x && nat_lt 0 version && is_made_before S.rights S.cache n (kept S w n) o a) e)

    unasked : (phase : Phase) → InPhase S sight P n phase here log y → awaits_object S.rights S.cache n (kept S w n) s t o a phase ≡ false
        → worker_hears sight P n s (m.Object t o version x) y ≡ y
    unasked workers.Idle h e = ap (λ q. replay.answers sight P n s t o version x q y) h
    unasked workers.Evaluating h e = ap (λ q. replay.answers sight P n s t o version x q y) h.stage
    unasked (workers.Preparing ls) h e = ap (λ q. replay.answers sight P n s t o version x q y) h.stage
    unasked (workers.Fetching p) h e = ap (λ q. replay.answers sight P n s t o version x q y) h.stage ∙ unasked_by (sight.has p.store) p e

  module _ (is : is_store S.rights s ≡ true) (t : Tid) (o : Oid) (version : ℕ) (x : Object) (read : S.read bytes ≡ Some (m.Object t o version x)) where
    abbrev es : List Release
    es = entries S sight P shared w log cs k stands n me up s (sight.has s)

    abbrev row : Row
    row = (o, version, x)

    mute : tells sight P k es ≡ []
    mute = says_mute S sight P shared w log cs k stands n me up s is (m.Object t o version x) read (sight.has s) (λ _. refl)

    not_asked : awaits_object S.rights S.cache n (kept S w n) s t o a a.phase ≡ false → Makes S sight P w log cs k n es (stays a) []
    not_asked e =
        stays_made S sight P shared w log cs k stands n me up s es []
        (at_calm S sight P shared w log cs k stands n me up s is (m.Object t o version x) read (sight.has s)
        (λ _. unasked t o version x a.phase (shadows S sight P shared w log cs k stands n me).phase e))
        (λ d inside. ap (filter (λ (z : ℕ × Message). z.0 == d)) mute)

    -- it was asked for
    module _ (queued : In bytes (w.queue s n)) (asked : awaits_object S.rights S.cache n (kept S w n) s t o a a.phase ≡ true) where
      it : IsFetching a.phase s t tid o
      it = fetching_at t o a.phase asked

      fetches : Fetches S sight P n o here log y
      fetches = subst (λ q. InPhase S sight P n q here log y) it.fetching (shadows S sight P shared w log cs k stands n me).phase

      abbrev seen : List Oid
      seen = seen_names S sight P (meant S w n).touches

      first_tests : (is_tid t tid && is_same o o && (o.store == s)) ≡ true
      first_tests = subst (λ q. awaits_object S.rights S.cache n (kept S w n) s t o a q ≡ true) it.fetching asked

      stage_is : sight.has s ≡ true → y.stage ≡ Waits o
      stage_is inside = fetches.stage ∙ ap (λ (b : Bool). if b then Waits o else Runs) (ap sight.has it.place ∙ inside)

      heard_so : sight.has s ≡ true → (b : Bool) → is_well t o version x ≡ b → worker_hears sight P n s (m.Object t o version x) y ≡ (if b then learned t o version x else y)
      heard_so inside b e =
          ap (λ q. replay.answers sight P n s t o version x q y) (stage_is inside)
          ∙ ap (λ c. if c then learned t o version x else y)
          (answer_so t o version x o
          ∙ ap (λ c. c && suits S.rights o x && nat_lt 0 version && is_made_before S.rights S.cache n (kept S w n) o a) first_tests ∙ e)

      -- it is ill formed
      ill : is_well t o version x ≡ false → Makes S sight P w log cs k n es (gives S.rights S.cache n (kept S w n) (Denied s IllFormed) a) []
      ill e =
          gives_made S sight P shared w log cs k stands n me up s es
          (at_calm S sight P shared w log cs k stands n me up s is (m.Object t o version x) read (sight.has s) (λ inside. heard_so inside false e)) mute (Denied s IllFormed) []
          (none_told o it.fetching)

      -- it is taken, and known in the replay if the store is in the set
      abbrev takes : Act
      takes = stays (record a { phase = workers.Evaluating; answers = a.answers ++ row ∷ [] })

      record IsTaken (v : WorkerSeen) : Type 0 where
        at : AtWorker k (after sight P k es) n v k.table
        keeps_so : Keeps S sight P here v
        request : v.request ≡ request_of (kept S w n)
        stage : v.stage ≡ Runs
        given : v.given ≡ y.given
        known : Knows S sight P seen (a.answers ++ row ∷ []) v.known

      new : is_among o (names_of a.answers) ≡ false
      new = new_row S sight P shared w log cs k stands n me up fetches.site o fetches.lacks row refl

      taken_inside : sight.has s ≡ true → is_well t o version x ≡ true → IsTaken (learned t o version x)
      taken_inside inside well = record {
        at = at_as sight P k (after sight P k es) n (if sight.has s then worker_hears sight P n s (m.Object t o version x) y else y) (learned t o version x) k.table
            (ap (λ (b : Bool). if b then worker_hears sight P n s (m.Object t o version x) y else y) inside ∙ heard_so inside true well)
            (at_heard S sight P shared w log cs k stands n me up s is (m.Object t o version x) read (sight.has s));
        keeps_so = record {
          boot = keeps.boot;
          number = keeps.number;
          commits = keeps.commits;
          parties = keeps.parties;
          wide = keeps.wide;
          wide_too = keeps.wide_too;
          cached = keeps.cached;
        };
        request = fetches.request;
        stage = refl;
        given = refl;
        known = knows_inside S sight P seen a.answers y.known fetches.told.knows row new (ap sight.has it.place ∙ inside);
      }

      taken_outside : sight.has s ≡ false → IsTaken y
      taken_outside outside = record {
        at = at_as sight P k (after sight P k es) n (if sight.has s then worker_hears sight P n s (m.Object t o version x) y else y) y k.table
            (ap (λ (b : Bool). if b then worker_hears sight P n s (m.Object t o version x) y else y) outside)
            (at_heard S sight P shared w log cs k stands n me up s is (m.Object t o version x) read (sight.has s));
        keeps_so = keeps;
        request = fetches.request;
        stage = fetches.stage ∙ ap (λ (b : Bool). if b then Waits o else Runs) (ap sight.has it.place ∙ outside);
        given = refl;
        known = knows_outside S sight P seen a.answers y.known fetches.told.knows row new (ap sight.has it.place ∙ outside)
            (untold S sight P shared w log cs k stands n me up fetches.site o fetches.lacks);
      }

      -- so it evaluates on
      goes_on : (v : WorkerSeen) → IsTaken v → (more : List Logged) → seen_by sight n more ≡ seen_by sight n log
          → ShadowsWorker S sight P n (stands_after S sight P here here.deals takes) more v
      goes_on v h more same = record {
        keeps = record {
          boot = h.keeps_so.boot;
          number = λ _. h.keeps_so.number up;
          commits = h.keeps_so.commits;
          parties = h.keeps_so.parties;
          wide = h.keeps_so.wide;
          wide_too = h.keeps_so.wide_too;
          cached = h.keeps_so.cached;
        };
        phase = evaluates_on S sight P shared w log cs k stands n me up fetches.site o fetches.lacks row refl (record a { phase = workers.Evaluating }) v more
            fetches.told.touched fetches.told.downed (same ∙ fetches.told.seen) h.request h.stage (h.given ∙ fetches.told.given) h.known;
      }

      dated : (r : Row) → In r (a.answers ++ row ∷ []) → is_shown sight P r.0 ≡ true → IsStore S sight.has never r.0.store
          → Dated S sight P k.table cs (shelf S w r.0.store) r
      dated r i shown there = elim (in_append r a.answers (row ∷ []) i) [
        | inl old ↦ answer_dated S sight P shared w log cs k stands n me r old shown
        | inr one ↦
            let same = in_one r row one in
            subst (λ (z : Row). Dated S sight P k.table cs (shelf S w z.0.store) z) (sym same)
            (subst (λ z. Dated S sight P k.table cs (shelf S w z) row) (sym it.place)
            (stands.shadow.tabled.objects n s me (subst (IsStore S sight.has never) (ap (λ (z : Row). z.0.store) same ∙ it.place) there) bytes queued t o version x read
            (subst (λ (z : Row). is_shown sight P z.0 ≡ true) same shown) it.place))
      ]

      taken : (v : WorkerSeen) → IsTaken v → Makes S sight P w log cs k n es takes []
      taken v h =
          made_quietly S sight P shared w log cs k stands n me up s es takes refl
          (calm_made S sight P shared w log cs k stands n me takes es v refl tt h.at
          (λ z logged. goes_on v h (log ++ z ∷ []) (seen_mine sight n [] log z logged))
          (λ z logged. recorded_calm S sight P shared w log cs k stands n me takes z logged (λ t. refl)
          (let at = limit_here S sight P shared w log cs k stands n me up in
          let number : limit_at a.phase a.number ≡ a.number = ap (λ q. limit_at q a.number) it.fetching in
          omega (arith, at, number))
          (λ waits. absurd waits))
          dated (λ rows i r j. (rows, i, j)) (λ d inside. ap (filter (λ (z : ℕ × Message). z.0 == d)) mute))

      well_taken : (b : Bool) → sight.has s ≡ b → is_well t o version x ≡ true → Makes S sight P w log cs k n es takes []
      well_taken true inside well = taken (learned t o version x) (taken_inside inside well)
      well_taken false outside well = taken y (taken_outside outside)

      asked_for : Makes S sight P w log cs k n es (got S.rights S.cache n (kept S w n) s o version x a) []
      asked_for =
          cond_both (is_well t o version x) takes (gives S.rights S.cache n (kept S w n) (Denied s IllFormed) a) (λ act. Makes S sight P w log cs k n es act [])
          (well_taken (sight.has s) refl) ill

    pub object_made : In bytes (w.queue s n) → Makes S sight P w log cs k n es (takes_any S.rights S.cache n (kept S w n) s (m.Object t o version x) a whole) []
    object_made queued =
        cond_both (awaits_object S.rights S.cache n (kept S w n) s t o a a.phase) (got S.rights S.cache n (kept S w n) s o version x a) (stays a)
        (λ act. Makes S sight P w log cs k n es act []) (asked_for queued) not_asked
