-- A worker outside the set begins an attempt, or gives one up.
use Rattle.std.proofs.Common.{◌≡◌, ℕ, suc, IsTrue, List, [], ◌∷◌, ◌++◌, true, false, refl, sym, ap, ◌∙◌, arith}
use Rattle.std.specs.Prelude.{◌==◌, ◌||◌, Some, None}
use Rattle.std.specs.List.{filter}
use Rattle.std.proofs.lemmas.Bool.{and_parts}
use Rattle.std.proofs.lemmas.List.{append-nil}
use Rattle.fab_base.specs.FlatMap.{is_among}
use Rattle.fab_base.specs.declared.message.Message.{Message}
use Rattle.fab_net.specs.declared.event.Inner.TheVariants as i
use Rattle.fab_net.specs.declared.note.Commit.{Commit}
use Rattle.fab_net.specs.declared.note.Logged.{Logged}
use Rattle.fab_net.specs.declared.note.Note.TheVariants as note
use Rattle.fab_net.specs.declared.outcome.ReqOutcome.TheVariants.{Silent}
use Rattle.fab_world.specs.Machine.{Setting, World, kept, may, parts}
use Rattle.fab_world.specs.Workers.{Attempt, begins, request_of, aborts_in, undecided, closed}
use Rattle.fab_release.specs.declared.release.Release.TheVariants.{Begin, Decided}
use Rattle.fab_release.specs.Sights.{Sight, Public}
use Rattle.fab_release.specs.Replay.{Rebuilt, WorkerSeen, Runs, closes, over, no_caches}
use Rattle.fab_isolation.specs.Law.{IsShared}
use Rattle.fab_integrity.proofs.Invariant.{IsWorker, Standing, current, limit, limit_at, limit_in, meant_by, rank, standing}
use Rattle.fab_integrity.proofs.WorkerMoves.{closed_keeps}
use Rattle.fab_integrity.proofs.Transport.{running_up}
use Rattle.fab_integrity.proofs.WorkerSteps.{is_idle_at}
use Rattle.fab_shadow.proofs.Shadow.{never, Stands, ShadowsWorker}
use Rattle.fab_shadow.proofs.Lists.{cond_same}
use Rattle.fab_shadow.proofs.Fold.{at_worker_refl}
use Rattle.fab_shadow.proofs.Logs.{IsLogged, seen_mine}
use Rattle.fab_shadow.proofs.Frames.{stands_after}
use Rattle.fab_shadow.proofs.Deeds.{Goes}
use Rattle.fab_shadow.proofs.Here.{at_next, calm_made, recorded_calm, same_tid, shadows}
use Rattle.fab_shadow.proofs.Drops.{aborts_told, dropped_made}

module _ (S : Setting) (sight : Sight) (P : Public) (shared : IsShared S sight P) (w : World) (log : List Logged) (cs : List Commit) (k : Rebuilt)
    (stands : Stands S sight P w log cs k) (n : ℕ) (me : IsWorker S sight.has never n) where
  abbrev a : Attempt
  a = (w.node n).attempt

  abbrev here : Standing
  here = standing S sight.has never w cs n

  abbrev y : WorkerSeen
  y = k.worker n

  -- an attempt of which nothing is known begins
  abbrev begun : WorkerSeen
  begun = record y { number = suc y.number; request = request_of (kept S w n); stage = Runs; known = []; given = [] }

  begun_seen : (w.node n).up ≡ true → (x : Logged) → IsLogged n (begins S.rights S.cache n (kept S w n) a).notes x
      → ShadowsWorker S sight P n (stands_after S sight P here here.deals (begins S.rights S.cache n (kept S w n) a)) (log ++ x ∷ []) begun
  begun_seen up x logged =
      let old = (shadows S sight P shared w log cs k stands n me).keeps in
      record {
        keeps = record {
          boot = old.boot;
          number = λ _. ap suc (old.number up);
          commits = old.commits;
          parties = old.parties;
          wide = old.wide;
          wide_too = old.wide_too;
          cached = old.cached;
        };
        phase = record {
          request = refl;
          stage = refl;
          touches = [];
          downs = [];
          told = record {
            touched = refl;
            downed = refl;
            seen = seen_mine sight n (begins S.rights S.cache n (kept S w n) a).notes log x logged;
            given = refl;
            knows = record { each = λ o. sym (cond_same (sight.has o.store || is_among o []) None); once = tt };
          };
          more_touches = ((meant_by S (current S n (stands_after S sight P here here.deals (begins S.rights S.cache n (kept S w n) a)))).touches, refl);
          more_downs = ((meant_by S (current S n (stands_after S sight P here here.deals (begins S.rights S.cache n (kept S w n) a)))).downs, refl);
        };
      }

  pub begin_goes : IsTrue (may S w (i.Begin n)) → Goes S sight P w log cs k (i.Begin n)
  begin_goes can =
      let p = and_parts _ _ (and_parts _ _ can).0 in
      let up = running_up S w n (and_parts _ _ p.0).0 in
      let idle = is_idle_at a.phase p.1 in
      calm_made S sight P shared w log cs k stands n me (begins S.rights S.cache n (kept S w n) a) (Begin n (request_of (kept S w n)) ∷ []) begun refl ((λ t ne. refl), tt)
      (at_next sight P k k n y k.table (λ v. record v { number = suc v.number; request = request_of (kept S w n); stage = Runs; known = []; given = [] }) (at_worker_refl k n))
      (begun_seen up)
      (λ x logged. recorded_calm S sight P shared w log cs k stands n me (begins S.rights S.cache n (kept S w n) a) x logged (λ t. refl)
      (let at : limit here ≡ rank (kept S w n).boot (limit_at a.phase a.number) = ap (λ b. limit_in b (kept S w n).boot a) up in
      let number : limit_at a.phase a.number ≡ suc a.number = ap (λ q. limit_at q a.number) idle in
      omega (arith, at, number))
      (λ waits. absurd waits))
      (λ r i. absurd i) (λ rows i r j. (rows, i, j)) (λ d inside. refl)

  pub idle_goes : (s : ℕ) → IsTrue (may S w (i.Idle n s)) → Goes S sight P w log cs k (i.Idle n s)
  idle_goes s can =
      let p = and_parts _ _ (and_parts _ _ can).0 in
      let up = running_up S w n (and_parts _ _ p.0).0 in
      let c = closed_keeps (request_of (kept S w n)) (Silent s) (kept S w n) in
      let h = shadows S sight P shared w log cs k stands n me in
      let tid = same_tid S sight P shared w log cs k stands n me y h.keeps up in
      dropped_made S sight P shared w log cs k stands n me up (Some (closed (request_of (kept S w n)) (Silent s))) 0
      (aborts_in S.rights S.cache n (kept S w n) a.phase a (parts S w n) ++ [])
      (undecided S.rights S.cache n (kept S w n) a ++ note.Closed (request_of (kept S w n)) (Silent s) ∷ []) (Decided n false ∷ []) y
      c.0 refl ((λ t ne. refl), ((λ t ne. refl), tt)) (λ t. refl) h.keeps
      (at_next sight P k k n y k.table (over sight P (no_caches sight P)) (at_worker_refl k n))
      (λ d inside. ap (filter (λ (z : ℕ × Message). z.0 == d)) (append-nil (closes sight P n false y.stage y))
      ∙ aborts_told S sight P shared w log cs k stands n me up y tid a.phase h.phase d inside
      ∙ ap (filter (λ (z : ℕ × Message). z.0 == d)) (sym (append-nil (aborts_in S.rights S.cache n (kept S w n) a.phase a (parts S w n)))))
