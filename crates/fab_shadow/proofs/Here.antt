-- What holds at a worker outside the set before each of its events, and what is to be shown of an act that decides nothing.
use Rattle.std.proofs.Common.{◌≡◌, ℕ, ◌≤◌, true, not, IsTrue, List, [], ◌∷◌, ◌++◌, refl, sym, ap, ◌∙◌, subst, arith}
use Rattle.std.specs.Prelude.{◌==◌}
use Rattle.std.specs.List.{filter}
use Rattle.std.proofs.lemmas.List.{append-nil}
use Rattle.fab_base.specs.declared.object.Oid.{Oid}
use Rattle.fab_base.specs.declared.object.Tid.{Tid}
use Rattle.fab_base.specs.FieldSpelling.{IsTid}
use Rattle.fab_base.specs.FlatMap.{FlatMap, map_of}
use Rattle.fab_base.specs.FlatMap as flat
use Rattle.fab_base.proofs.Lists.{all_map}
use Rattle.fab_net.specs.declared.note.Commit.{Commit}
use Rattle.fab_net.specs.declared.note.Logged.{Logged}
use Rattle.fab_protocol.specs.declared.parts.Parts.{Parts}
use Rattle.fab_protocol.specs.Versions.{Row, Rows, objects_of}
use Rattle.fab_protocol.proofs.Records.{worker_below}
use Rattle.fab_world.specs.Machine.{Setting, World, kept, shelf}
use Rattle.fab_world.specs.Serial.{AreFit, IsFit, IsFitName}
use Rattle.fab_world.specs.Workers.{Act, Attempt, Kept}
use Rattle.fab_release.specs.declared.release.Release.{Release}
use Rattle.fab_release.specs.declared.release.Release.TheVariants.{Decided}
use Rattle.fab_release.specs.Sights.{Sight, Public}
use Rattle.fab_release.specs.Replay as replay
use Rattle.fab_release.specs.Replay.{Votes, committed, decided, enters, leaves, Rebuilt, WorkerSeen, is_shown, tid_of, at_worker}
use Rattle.fab_release.specs.Record.{changes_of}
use Rattle.fab_isolation.specs.Law.{IsShared}
use Rattle.fab_integrity.proofs.Invariant.{In, Standing, WorkerOk, IsPreparing, IsStore, IsWorker, current, limit, limit_at, limit_in, parts_by, rank, standing, tid_at}
use Rattle.fab_integrity.proofs.Awaited.{named_store}
use Rattle.fab_integrity.proofs.Costs.{noted_commits, noted_outside}
use Rattle.fab_integrity.proofs.Lists.{all_of}
use Rattle.fab_integrity.proofs.Maps.{all_put, ascends_map_of}
use Rattle.fab_integrity.proofs.Tids.{tid_spelled}
use Rattle.fab_integrity.proofs.Worlds.{Lands, at_same, at_other}
use Rattle.std.proofs.lemmas.Bool.{and_parts, not-true}
use Rattle.fab_shadow.proofs.Shadow.{never, Stands, ShadowsWorker, Keeps, Recorded, Dated, changed_names}
use Rattle.fab_shadow.proofs.Fold.{AtWorker, after, tells}
use Rattle.fab_shadow.proofs.Notes.{AreOwn}
use Rattle.fab_shadow.proofs.Logs.{IsLogged, changes_told, changes_mine}
use Rattle.fab_shadow.proofs.Frames.{stands_after, shadow_worker, tabled_worker}
use Rattle.fab_shadow.proofs.Deeds.{Did}

-- ---- a replay that changes at one worker

module _ (sight : Sight) (P : Public) where
  -- once more
  pub at_next : (k next : Rebuilt) (n : ℕ) (v : WorkerSeen) (table : Rows) (change : WorkerSeen → WorkerSeen) → AtWorker k next n v table
      → AtWorker k (at_worker sight P next n change) n (change v) table
  at_next k next n v table change h = record {
    worker = at_same next.worker n (change (next.worker n)) ∙ ap change h.worker;
    others = λ m ne. at_other next.worker n (change (next.worker n)) m ne ∙ h.others m ne;
    store = h.store;
    tabled = h.tabled;
  }

  -- the same in other words
  pub at_as : (k next : Rebuilt) (n : ℕ) (v u : WorkerSeen) (table : Rows) → v ≡ u → AtWorker k next n v table → AtWorker k next n u table
  at_as k next n v u table e h = subst (λ x. AtWorker k next n x table) e h

  -- a commit is decided: what it leaves enters the table
  pub at_decided : (k next : Rebuilt) (n : ℕ) (y : WorkerSeen) (part : Parts) → y.stage ≡ Votes part → AtWorker k next n y k.table
      → AtWorker k (replay.next sight P (Decided n true) next) n (committed sight P n y.stage y) (leaves sight P part ++ k.table)
  at_decided k next n y part stage h = record {
    worker = at_same next.worker n (decided sight P n true (next.worker n)) ∙ ap (decided sight P n true) h.worker;
    others = λ m ne. at_other next.worker n (decided sight P n true (next.worker n)) m ne ∙ h.others m ne;
    store = h.store;
    tabled = ap (λ (v : WorkerSeen). enters sight P true v.stage ++ next.table) h.worker ∙ ap (λ s. enters sight P true s ++ next.table) stage
        ∙ ap (λ rows. leaves sight P part ++ rows) h.tabled;
  }

-- ---- the worker

module _ (S : Setting) (sight : Sight) (P : Public) (shared : IsShared S sight P) (w : World) (log : List Logged) (cs : List Commit) (k : Rebuilt)
    (stands : Stands S sight P w log cs k) (n : ℕ) (me : IsWorker S sight.has never n) where
  abbrev pub kept_now : Kept
  kept_now = kept S w n

  abbrev pub attempt_now : Attempt
  attempt_now = (w.node n).attempt

  -- where it stands, and what the replay has of it
  abbrev pub st : Standing
  st = standing S sight.has never w cs n

  abbrev pub seen_now : WorkerSeen
  seen_now = k.worker n

  pub shadows : ShadowsWorker S sight P n st log seen_now
  shadows = stands.shadow.worker n me

  pub records : Recorded S sight P n st log
  records = stands.shadow.recorded n me

  pub worker_ok : WorkerOk S sight.has never n st stands.holds.state
  worker_ok = stands.holds.inv.worker n me

  -- how far the numbers of its attempts go, as it is up
  pub limit_here : (w.node n).up ≡ true → limit st ≡ rank kept_now.boot (limit_at attempt_now.phase attempt_now.number)
  limit_here up = ap (λ b. limit_in b kept_now.boot attempt_now) up

  -- its tid, which the replay has where it is up
  abbrev pub tid_now : Tid
  tid_now = tid_at n st

  pub named : IsTid tid_now
  named = tid_spelled n kept_now attempt_now (worker_below S.rights n shared.setting.workers me.kind) worker_ok.low

  pub same_tid : (y : WorkerSeen) → Keeps S sight P st y → (w.node n).up ≡ true → tid_of sight P n y ≡ tid_now
  same_tid y keeps up = let boot = keeps.boot in let number = keeps.number up in λ i. record { worker = n; boot = boot i; number = number i }

  -- ---- what it knows

  abbrev pub over_answers : FlatMap
  over_answers = map_of (objects_of attempt_now.answers)

  pub over_ascends : IsTrue (flat.ascends over_answers)
  over_ascends = ascends_map_of (objects_of attempt_now.answers)

  pub over_fit : AreFit S over_answers
  over_fit =
      all_put (IsFit S) (objects_of attempt_now.answers) []
      (all_map (IsFit S) (λ row. (row.0, row.2)) attempt_now.answers (all_of (λ row. IsFit S (row.0, row.2)) attempt_now.answers (λ r i. (worker_ok.answers r i).fit))) tt

  -- a fitting name of which something is shown is at a store outside the set
  pub shown_store : (o : Oid) → IsFitName S o → is_shown sight P o ≡ true → IsStore S sight.has never o.store
  shown_store o fit shown =
      record { kind = named_store S shared.setting o fit; outside = not-true (sight.has o.store) (and_parts (sight.shows o.class) _ shown).1 }

  -- an object of a store in the set is of a seen class
  pub held_shown : (o : Oid) → IsFitName S o → sight.has o.store ≡ true → sight.shows o.class ≡ true
  held_shown o fit inside = shared.sight_is.holds o.store o.class inside fit.placed

  -- what was answered of a seen object outside the set is in the table
  pub answer_dated : (r : Row) → In r attempt_now.answers → is_shown sight P r.0 ≡ true → Dated S sight P k.table cs (shelf S w r.0.store) r
  answer_dated r i shown = stands.shadow.tabled.answers n me r i shown (shown_store r.0 (worker_ok.answers r i).fit.name shown)

  -- ---- an act that decides nothing

  -- Nothing that is decided or prepared changes what was told, where it prepares nothing new.
  pub recorded_calm : (act : Act) (x : Logged) → IsLogged n act.notes x → ((t : Tid) → changes_told t act.notes ≡ [])
      → limit st ≤ limit (stands_after S sight P st st.deals act)
      → (IsPreparing act.attempt.phase → IsPreparing attempt_now.phase × (current S n (stands_after S sight P st st.deals act) ≡ current S n st))
      → Recorded S sight P n (stands_after S sight P st st.deals act) (log ++ x ∷ [])
  recorded_calm act x logged none limits prepares =
      record {
        own = records.own;
        ended = λ c i. told c.tid ∙ records.ended c i;
        asked = λ waits.
            let p = prepares waits in
            told _ ∙ ap (λ (c : Commit). changes_of c.tid log) p.1 ∙ records.asked p.0 ∙ ap (λ (c : Commit). changed_names (parts_by S c)) (sym p.1);
        later = λ t at late. told t ∙ records.later t at (omega (arith, limits, late));
      }
    where
      told : (t : Tid) → changes_of t (log ++ x ∷ []) ≡ changes_of t log
      told t = changes_mine n act.notes t log x logged ∙ ap (λ ys. changes_of t log ++ ys) (none t) ∙ append-nil (changes_of t log)

  -- so this is left to show
  pub calm_made : (act : Act) (entries : List Release) (y : WorkerSeen) → noted_commits act.notes ≡ [] → AreOwn n act.notes
      → AtWorker k (after sight P k entries) n y k.table
      → ((x : Logged) → IsLogged n act.notes x → ShadowsWorker S sight P n (stands_after S sight P st st.deals act) (log ++ x ∷ []) y)
      → ((x : Logged) → IsLogged n act.notes x → Recorded S sight P n (stands_after S sight P st st.deals act) (log ++ x ∷ []))
      → ((r : Row) → In r act.attempt.answers → is_shown sight P r.0 ≡ true → IsStore S sight.has never r.0.store → Dated S sight P k.table cs (shelf S w r.0.store) r)
      → ((rows : Rows) → In rows act.attempt.caches → (r : Row) → In r rows → (old : Rows) × In old attempt_now.caches × In r old)
      → ((d : ℕ) → sight.has d ≡ true → filter (λ z. z.0 == d) (tells sight P k entries) ≡ filter (λ z. z.0 == d) act.sends)
      → (x : Logged) → IsLogged n act.notes x → (v : World) → Lands n act w v
      → Did S sight P v (log ++ x ∷ []) (cs ++ noted_outside sight.has act.notes) k entries act.sends
  calm_made act entries y none own at ok recorded answers cached said x logged v lands =
      subst (λ ds. Did S sight P v (log ++ x ∷ []) ds k entries act.sends)
      (sym (ap (λ xs. cs ++ filter (λ (c : Commit). not (sight.has c.worker)) xs) none ∙ append-nil cs))
      (record {
        shadow = shadow_worker S sight P shared w v log cs cs k n me act lands stands.shadow (after sight P k entries) y k.table x at logged own (λ m ne. refl)
            (ok x logged) (recorded x logged) (tabled_worker S sight P shared w v log cs cs k n me act lands stands.shadow answers cached);
        tells = said;
      })
