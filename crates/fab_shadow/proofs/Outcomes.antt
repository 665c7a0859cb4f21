-- What comes of an evaluation of a worker outside the set, once all that it touched and downgraded in view is told.
use Rattle.std.proofs.Common.{◌≡◌, ℕ, Bool, true, false, cond}
use Rattle.std.proofs.Common.{List, [], ◌∷◌, ◌++◌, length, Option, Some, None, refl, sym, ap, ◌∙◌, subst}
use Rattle.std.specs.Prelude.{◌==◌, if◌then◌else◌, option_map}
use Rattle.std.specs.List.{filter}
use Rattle.std.proofs.lemmas.Bool.{both_ways, or_right, ne_eqb, false_from_ne_true}
use Rattle.std.proofs.lemmas.Option.{none-some}
use Rattle.fab_base.specs.declared.object.Object.{Object}
use Rattle.fab_base.specs.declared.object.Oid.{Oid}
use Rattle.fab_base.specs.declared.message.Message.{Message}
use Rattle.fab_base.specs.declared.message.Message.TheVariants as m
use Rattle.fab_base.specs.FlatMap.{map_of, is_among, is_same}
use Rattle.fab_base.proofs.NameOrder.{one_name}
use Rattle.fab_language.specs.declared.ending.Ending.TheVariants as endings
use Rattle.fab_language.specs.Meaning.{Meant}
use Rattle.fab_fewer.specs.Fewer.{AreKnown}
use Rattle.fab_laws.specs.Locality.{IsPart, GoesOn}
use Rattle.fab_net.specs.declared.note.Commit.{Commit}
use Rattle.fab_net.specs.declared.note.Logged.{Logged}
use Rattle.fab_protocol.specs.Caches.{cached_row}
use Rattle.fab_protocol.specs.Tables.{row_of}
use Rattle.fab_protocol.specs.Versions.{Row, Rows, name_of, names_of, objects_of}
use Rattle.fab_world.specs.Machine.{Setting, World, kept, meant}
use Rattle.fab_world.specs.Workers as workers
use Rattle.fab_world.specs.Workers.{Act, Attempt, needs, request_of, telling}
use Rattle.fab_release.specs.declared.release.Release.{Release}
use Rattle.fab_release.specs.declared.release.Release.TheVariants.{Ask}
use Rattle.fab_release.specs.Sights.{Sight, Public}
use Rattle.fab_release.specs.Record.{seen_by}
use Rattle.fab_release.specs.Replay.{Rebuilt, WorkerSeen, Runs, Waits, asks_by, asked_by, fetch, run, tid_of, unless_cached}
use Rattle.fab_isolation.specs.Law.{IsShared}
use Rattle.fab_isolation.specs.Owed.{Follows, given_by, is_seen, seen_in}
use Rattle.fab_protocol.proofs.TableLaws.{row_of_name}
use Rattle.fab_world.specs.Serial.{IsFitName}
use Rattle.fab_integrity.proofs.Invariant.{IsWorker, Standing, standing, tid_at}
use Rattle.fab_integrity.proofs.Lasting.{kept_behind}
use Rattle.fab_integrity.proofs.Lists.{in_filter, in_map, map_in}
use Rattle.fab_integrity.proofs.Maps.{among_in, get_answers, in_among, none_answered}
use Rattle.fab_shadow.proofs.Shadow.{never, Stands, Keeps, Knows, Evaluates, Fetches, InPhase, ShadowsWorker, seen_names, cache_of}
use Rattle.fab_shadow.proofs.Fold.{AtWorker, after, tells}
use Rattle.fab_shadow.proofs.Frames.{stands_after}
use Rattle.fab_shadow.proofs.Here.{at_as, at_next, named, over_ascends, over_fit, worker_ok}
use Rattle.fab_shadow.proofs.Knowing.{knows_inside, knows_outside, not_found, once_more, row_behind, told_shown, touched_answered}
use Rattle.fab_shadow.proofs.Gots.{RunsIt, all_known, run_follows}

module _ (S : Setting) (sight : Sight) (P : Public) (shared : IsShared S sight P) (w : World) (log : List Logged) (cs : List Commit) (k : Rebuilt)
    (stands : Stands S sight P w log cs k) (n : ℕ) (me : IsWorker S sight.has never n) (up : (w.node n).up ≡ true) where
  abbrev a : Attempt
  a = (w.node n).attempt

  abbrev here : Standing
  here = standing S sight.has never w cs n

  abbrev full : Meant
  full = meant S w n

  -- all is told
  pub record ToldAll (next : Rebuilt) (v : WorkerSeen) : Type 0 where
    pub at : AtWorker k next n v k.table
    pub keeps : Keeps S sight P here v
    pub stage : v.stage ≡ Runs
    pub it : RunsIt S sight P shared w log cs k stands n me v
    pub knows : Knows S sight P (seen_names S sight P full.touches) a.answers v.known

  abbrev seen : List Oid
  seen = seen_names S sight P full.touches

  -- what came of it: where the replay's worker stands, and what was said
  pub record Came (next : Rebuilt) (entries : List Release) (act : Act) : Type 0 where
    pub behind : WorkerSeen
    pub at : AtWorker k (after sight P next entries) n behind k.table
    pub seen_so : (more : List Logged) → seen_by sight n more ≡ seen → ShadowsWorker S sight P n (stands_after S sight P here here.deals act) more behind
    pub tells : (d : ℕ) → sight.has d ≡ true → filter (λ z. z.0 == d) (tells sight P next entries) ≡ filter (λ z. z.0 == d) act.sends

  -- ---- an object is missing

  module _ (site : ℕ) (o : Oid) (e : full.ending ≡ endings.Missing site o) where
    -- it may be asked for, isn't answered, and wasn't told
    fits : IsFitName S o
    fits = shared.evaluates.missing n (request_of (kept S w n)) (tid_at n here) (map_of (objects_of a.answers)) site o
        (named S sight P shared w log cs k stands n me) (over_fit S sight P shared w log cs k stands n me) e

    unanswered : is_among o (names_of a.answers) ≡ false
    unanswered = none_answered a.answers o (shared.evaluates.absent n (request_of (kept S w n)) (tid_at n here) (map_of (objects_of a.answers)) site o e)

    pub untold : is_among o seen ≡ false
    untold = false_from_ne_true (is_among o seen) (λ h.
        let r = in_map (λ (t : ℕ × Oid). t.1) o (filter (is_seen sight) full.touches) (among_in o seen h) in
        let answer = touched_answered S sight P shared w log cs k stands n me r.0 (in_filter (is_seen sight) r.0 full.touches r.1).0 in
        none-some answer.0 (sym (subst (λ p. row_of name_of a.answers p ≡ None) r.2 (not_found a.answers o unanswered)) ∙ answer.1))

    -- over its answer the evaluation goes on
    module _ (row : Row) (name : row.0 ≡ o) where
      pub new_row : is_among row.0 (names_of a.answers) ≡ false
      new_row = subst (λ p. is_among p (names_of a.answers) ≡ false) (sym name) unanswered

      part_step : (p : Oid) (x : Object) (b : Bool) → is_same row.0 p ≡ b → option_map (λ (r : Row). r.2) (row_of name_of a.answers p) ≡ Some x
          → option_map (λ (r : Row). r.2) (if b then Some row else row_of name_of a.answers p) ≡ Some x
      part_step p x false same h = h
      part_step p x true same h =
          let none = not_found a.answers p (subst (λ q. is_among q (names_of a.answers) ≡ false) (one_name row.0 p same) new_row) in
          absurd (none-some x (sym (ap (option_map (λ (r : Row). r.2)) none) ∙ h))

      pub larger : IsPart (map_of (objects_of a.answers)) (map_of (objects_of (a.answers ++ row ∷ [])))
      larger p x h =
          let once = (worker_ok S sight P shared w log cs k stands n me).once in
          get_answers (a.answers ++ row ∷ []) p (once_more a.answers row once new_row)
          ∙ ap (option_map (λ (r : Row). r.2)) (row_behind a.answers row p new_row)
          ∙ part_step p x (is_same row.0 p) refl (sym (get_answers a.answers p once) ∙ h)

      goes_on : GoesOn full (S.means n (request_of (kept S w n)) (tid_at n here) (map_of (objects_of (a.answers ++ row ∷ []))))
      goes_on = shared.followed.grows n (request_of (kept S w n)) (tid_at n here) (map_of (objects_of a.answers)) (map_of (objects_of (a.answers ++ row ∷ []))) larger

      -- so it evaluates, with an answer more
      pub evaluates_on : (b : Attempt) (y : WorkerSeen) (more : List Logged) → b.told.0 ≡ length full.touches → b.told.1 ≡ length full.downs
          → seen_by sight n more ≡ seen → y.request ≡ request_of (kept S w n) → y.stage ≡ Runs → y.given ≡ given_by sight full
          → Knows S sight P seen (a.answers ++ row ∷ []) y.known
          → Evaluates S sight P n (record { kept = kept S w n; attempt = record b { number = a.number; answers = a.answers ++ row ∷ [] }; up = true; deals = here.deals }) more y
      evaluates_on b y more touched downed told request stage given knows = record {
        request = request;
        stage = stage;
        touches = full.touches;
        downs = full.downs;
        told = record { touched = touched; downed = downed; seen = told; given = given; knows = knows };
        more_touches = goes_on.touches;
        more_downs = goes_on.downs;
      }

  -- ---- all is told

  module _ (next : Rebuilt) (v : WorkerSeen) (h : ToldAll next v) where
    pub follows : Follows sight full (map_of (objects_of v.known)) (run sight P n v)
    follows = run_follows S sight P shared w log cs k stands n me v seen h.it h.knows (told_shown S sight P full.touches)

    pub knows_seen : AreKnown (map_of (objects_of v.known)) (seen_in sight full)
    knows_seen = all_known S sight P shared w log cs k stands n me v.known seen (filter (is_seen sight) full.touches) h.knows (λ u i. (
      (in_filter (is_seen sight) u full.touches i).0,
      or_right (sight.has u.1.store) (is_among u.1 seen) (in_among u.1 seen (map_in (λ (t : ℕ × Oid). t.1) u (filter (is_seen sight) full.touches) i)),
    ))

    -- beside its attempt the worker is as it was
    pub keeps_on : (act : Act) (y : WorkerSeen) → act.entry ≡ None → act.attempt.number ≡ a.number → act.attempt.caches ≡ a.caches → Keeps S sight P here y
        → Keeps S sight P (stands_after S sight P here here.deals act) y
    keeps_on act y entry number caches keeps = record {
      boot = keeps.boot ∙ ap (λ e. (kept_behind e (kept S w n)).boot) (sym entry);
      number = λ _. keeps.number up ∙ sym number;
      commits = keeps.commits;
      parties = keeps.parties;
      wide = ap length caches ∙ keeps.wide;
      wide_too = keeps.wide_too;
      cached = λ s inside. keeps.cached s inside ∙ ap (λ (c : List Rows). cache_of c s) (sym caches);
    }

    module _ (evaluating : a.phase ≡ workers.Evaluating) (site : ℕ) (o : Oid) (e : full.ending ≡ endings.Missing site o) where
      -- cached or not, at a store in the set or not
      abbrev CameBy : Bool → Option Row → Type 0
      CameBy b found = Came next (if b then Ask n ∷ [] else []) (needs S.rights S.cache n (kept S w n) site o found a full)

      inside_ending : sight.has o.store ≡ true → (run sight P n v).ending ≡ endings.Missing site o
      inside_ending inside = follows.misses knows_seen site o e
          (shared.followed.lacks n (request_of (kept S w n)) (tid_at n here) (map_of (objects_of a.answers)) site o (over_ascends S sight P shared w log cs k stands n me)
          (over_fit S sight P shared w log cs k stands n me) e inside (fits site o e).placed)

      same_cached : sight.has o.store ≡ true → (found : Option Row) → cached_row a.caches o ≡ found → cached_row v.caches o ≡ found
      same_cached inside found there = ap (λ c. row_of name_of c o) (h.keeps.cached o.store inside) ∙ there

      asked_so : sight.has o.store ≡ true → (found : Option Row) → cached_row a.caches o ≡ found → asks_by sight P (run sight P n v).ending v ≡ asked_by sight P o found v
      asked_so inside found there =
          ap (λ ending. asks_by sight P ending v) (inside_ending inside)
          ∙ ap (λ b. if b then asked_by sight P o (cached_row v.caches o) v else v) inside
          ∙ ap (λ x. asked_by sight P o x v) (same_cached inside found there)

      at_asked : sight.has o.store ≡ true → (found : Option Row) → cached_row a.caches o ≡ found → AtWorker k (after sight P next (Ask n ∷ [])) n (asked_by sight P o found v) k.table
      at_asked inside found there =
          at_as sight P k (after sight P next (Ask n ∷ [])) n (asks_by sight P (run sight P n v).ending v) (asked_by sight P o found v) k.table (asked_so inside found there)
          (at_next sight P k next n v k.table (λ u. asks_by sight P (run sight P n u).ending u) h.at)

      says_so : sight.has o.store ≡ true → (found : Option Row) → cached_row a.caches o ≡ found
          → tells sight P next (Ask n ∷ []) ≡ unless_cached sight P found ((o.store, m.Fetch (tid_at n here) o) ∷ []) ++ []
      says_so inside found there =
          ap (λ u. fetch sight P n (run sight P n u).ending u ++ []) h.at.worker
          ∙ ap (λ ending. fetch sight P n ending v ++ []) (inside_ending inside)
          ∙ ap (λ b. (if b then unless_cached sight P (cached_row v.caches o) ((o.store, m.Fetch (tid_of sight P n v) o) ∷ []) else []) ++ []) inside
          ∙ ap (λ x. unless_cached sight P x ((o.store, m.Fetch (tid_of sight P n v) o) ∷ []) ++ []) (same_cached inside found there)
          ∙ ap (λ t. unless_cached sight P found ((o.store, m.Fetch t o) ∷ []) ++ []) h.it.tid_is

      -- it waits for the object
      fetches_on : (b : Bool) → sight.has o.store ≡ b → (y : WorkerSeen) → y.request ≡ request_of (kept S w n) → y.given ≡ given_by sight full → Knows S sight P seen a.answers y.known
          → y.stage ≡ (if b then Waits o else Runs) → (more : List Logged) → seen_by sight n more ≡ seen
          → Fetches S sight P n o (stands_after S sight P here here.deals (needs S.rights S.cache n (kept S w n) site o None a full)) more y
      fetches_on b is y request given knows stage more told = record {
        request = request;
        stage = stage ∙ ap (λ c. if c then Waits o else Runs) (sym is);
        site = site;
        lacks = e;
        told = record { touched = refl; downed = refl; seen = told; given = given; knows = knows };
      }

      -- it goes on evaluating
      goes_evaluating : (row : Row) → cached_row a.caches o ≡ Some row → (y : WorkerSeen) → Keeps S sight P here y → y.request ≡ request_of (kept S w n) → y.stage ≡ Runs
          → y.given ≡ given_by sight full → Knows S sight P seen (a.answers ++ row ∷ []) y.known → (more : List Logged) → seen_by sight n more ≡ seen
          → ShadowsWorker S sight P n (stands_after S sight P here here.deals (needs S.rights S.cache n (kept S w n) site o (Some row) a full)) more y
      goes_evaluating row there y keeps request stage given knows more told = record {
        keeps = keeps_on (needs S.rights S.cache n (kept S w n) site o (Some row) a full) y refl refl refl keeps;
        phase = subst (λ q. InPhase S sight P n q (stands_after S sight P here here.deals (needs S.rights S.cache n (kept S w n) site o (Some row) a full)) more y) (sym evaluating)
            (evaluates_on site o e row (row_of_name name_of (cache_of a.caches o.store) o row there) (telling a full) y more refl refl told request stage given knows);
      }

      came_by : (b : Bool) → sight.has o.store ≡ b → (found : Option Row) → cached_row a.caches o ≡ found → CameBy b found
      came_by true inside (Some row) there =
          let name : row.0 ≡ o = row_of_name name_of (cache_of a.caches o.store) o row there in
          record {
            behind = record v { known = v.known ++ row ∷ [] };
            at = at_asked inside (Some row) there;
            seen_so = λ more told. goes_evaluating row there (record v { known = v.known ++ row ∷ [] }) (record {
              boot = h.keeps.boot;
              number = h.keeps.number;
              commits = h.keeps.commits;
              parties = h.keeps.parties;
              wide = h.keeps.wide;
              wide_too = h.keeps.wide_too;
              cached = h.keeps.cached;
            }) h.it.request_is h.stage h.it.given_is
                (knows_inside S sight P seen a.answers v.known h.knows row (new_row site o e row name) (subst (λ (p : Oid). sight.has p.store ≡ true) (sym name) inside)) more told;
            tells = λ d bad. ap (filter (λ (z : ℕ × Message). z.0 == d)) (says_so inside (Some row) there);
          }
      came_by true inside None there = record {
        behind = record v { stage = Waits o };
        at = at_asked inside None there;
        seen_so = λ more told. record {
          keeps = keeps_on (needs S.rights S.cache n (kept S w n) site o None a full) (record v { stage = Waits o }) refl refl refl (record {
            boot = h.keeps.boot;
            number = h.keeps.number;
            commits = h.keeps.commits;
            parties = h.keeps.parties;
            wide = h.keeps.wide;
            wide_too = h.keeps.wide_too;
            cached = h.keeps.cached;
          });
          phase = fetches_on true inside (record v { stage = Waits o }) h.it.request_is h.it.given_is h.knows refl more told;
        };
        tells = λ d bad. ap (filter (λ (z : ℕ × Message). z.0 == d)) (says_so inside None there);
      }
      came_by false outside (Some row) there =
          let name : row.0 ≡ o = row_of_name name_of (cache_of a.caches o.store) o row there in
          record {
            behind = v;
            at = h.at;
            seen_so = λ more told. goes_evaluating row there v h.keeps h.it.request_is h.stage h.it.given_is
                (knows_outside S sight P seen a.answers v.known h.knows row (new_row site o e row name) (subst (λ (p : Oid). sight.has p.store ≡ false) (sym name) outside)
                (subst (λ p. is_among p seen ≡ false) (sym name) (untold site o e))) more told;
            tells = λ d bad. refl;
          }
      came_by false outside None there = record {
        behind = v;
        at = h.at;
        seen_so = λ more told. record {
          keeps = keeps_on (needs S.rights S.cache n (kept S w n) site o None a full) v refl refl refl h.keeps;
          phase = fetches_on false outside v h.it.request_is h.it.given_is h.knows h.stage more told;
        };
        tells = λ d bad. sym (ap (λ b. cond b ((o.store, m.Fetch (tid_at n here) o) ∷ []) []) (ne_eqb o.store d (λ same. both_ways (sight.has o.store) outside (ap sight.has same ∙ bad))));
      }

      -- so it came
      pub missing_came : Came next (if sight.has o.store then Ask n ∷ [] else []) (needs S.rights S.cache n (kept S w n) site o (cached_row a.caches o) a full)
      missing_came = came_by (sight.has o.store) refl (cached_row a.caches o) refl
