-- A worker outside the set evaluates: downgrades and versions are told, and then what came of it.
use Rattle.std.proofs.Common.{◌≡◌, inl, inr, ℕ, true, IsTrue, List, [], ◌∷◌}
use Rattle.std.proofs.Common.{◌++◌, Option, Some, None, refl, sym, ap, ◌∙◌, subst, arith}
use Rattle.std.specs.Prelude.{◌==◌, if◌then◌else◌}
use Rattle.std.specs.List.{filter}
use Rattle.std.proofs.lemmas.Bool.{and_parts}
use Rattle.fab_base.specs.declared.object.Oid.{Oid}
use Rattle.fab_base.specs.declared.object.Tid.{Tid}
use Rattle.fab_base.specs.declared.message.Message.{Message}
use Rattle.fab_language.specs.declared.ending.Ending.{Ending}
use Rattle.fab_language.specs.declared.ending.Ending.TheVariants as endings
use Rattle.fab_language.specs.Meaning.{Meant}
use Rattle.fab_net.specs.declared.event.Inner.TheVariants as i
use Rattle.fab_net.specs.declared.note.Commit.{Commit}
use Rattle.fab_net.specs.declared.note.Logged.{Logged}
use Rattle.fab_net.specs.declared.note.Note.{Note}
use Rattle.fab_net.specs.declared.note.Note.TheVariants as note
use Rattle.fab_net.specs.declared.outcome.ReqOutcome.{ReqOutcome}
use Rattle.fab_net.specs.declared.outcome.ReqOutcome.TheVariants as outcomes
use Rattle.fab_protocol.specs.Caches.{cached_row}
use Rattle.fab_protocol.specs.Versions.{Row}
use Rattle.fab_world.specs.Machine.{Setting, World, kept, may, meant, shelf}
use Rattle.fab_world.specs.Serial.{commit_in}
use Rattle.fab_world.specs.Workers as workers
use Rattle.fab_world.specs.Workers.{Act, Attempt, Phase, needs, new_touches, new_downs, request_of, resumes_at, closed, closes, noting, tid_of}
use Rattle.fab_release.specs.declared.release.Release.{Release}
use Rattle.fab_release.specs.declared.release.Release.TheVariants as release
use Rattle.fab_release.specs.Sights.{Sight, Public}
use Rattle.fab_release.specs.Record.{changes_in, of_note, seen_by}
use Rattle.fab_release.specs.Replay.{Rebuilt, at_worker, is_shown, next, over, no_caches, sends}
use Rattle.fab_isolation.specs.Law.{IsShared}
use Rattle.fab_integrity.proofs.Invariant.{In, IsPreparing, IsWorker, Standing, IsStore, limit, limit_at, standing}
use Rattle.fab_integrity.proofs.Lists.{in_append, in_one}
use Rattle.fab_integrity.proofs.WorkerMoves.{closed_keeps}
use Rattle.fab_integrity.proofs.Transport.{running_up}
use Rattle.fab_integrity.proofs.WorkerEvents.{found_in_cache}
use Rattle.fab_integrity.proofs.WorkerSteps.{is_evaluating_at}
use Rattle.fab_shadow.proofs.Shadow.{never, Stands, Dated}
use Rattle.fab_shadow.proofs.Fold.{AtWorker, after, tells}
use Rattle.fab_shadow.proofs.Notes.{IsOwn}
use Rattle.fab_shadow.proofs.Logs.{seen_mine}
use Rattle.fab_shadow.proofs.Deeds.{Goes, Makes}
use Rattle.fab_shadow.proofs.Here.{answer_dated, at_next, calm_made, limit_here, recorded_calm}
use Rattle.fab_shadow.proofs.Drops.{dropped_made}
use Rattle.fab_shadow.proofs.Outcomes.{Came, missing_came}
use Rattle.fab_shadow.proofs.Ends.{ended_goes}
use Rattle.fab_shadow.proofs.Telling.{all_told, entries_are, got, says_are, second, seen_all, told_now, told_with}

module _ (S : Setting) (sight : Sight) (P : Public) (shared : IsShared S sight P) (w : World) (log : List Logged) (cs : List Commit) (k : Rebuilt)
    (stands : Stands S sight P w log cs k) (n : ℕ) (me : IsWorker S sight.has never n) (up : (w.node n).up ≡ true) (evaluating : (w.node n).attempt.phase ≡ workers.Evaluating) where
  abbrev a : Attempt
  a = (w.node n).attempt

  abbrev here : Standing
  here = standing S sight.has never w cs n

  abbrev full : Meant
  full = meant S w n

  -- behind what is told
  abbrev after_told : Rebuilt
  after_told = second S sight P shared w log cs k stands n me up evaluating

  abbrev with_told : List Release → List Release
  with_told rest = told_with S sight P shared w log cs k stands n me up evaluating rest

  limit_evaluating : limit_at a.phase a.number ≡ a.number
  limit_evaluating = ap (λ q. limit_at q a.number) evaluating

  -- ---- an object is missing

  module _ (site : ℕ) (o : Oid) (e : full.ending ≡ endings.Missing site o) where
    abbrev asking : List Release
    asking = if sight.has o.store then release.Ask n ∷ [] else []

    came : (found : Option Row) → cached_row a.caches o ≡ found
        → Came S sight P shared w log cs k stands n me up after_told asking (needs S.rights S.cache n (kept S w n) site o found a full)
    came found there =
        subst (λ f. Came S sight P shared w log cs k stands n me up after_told asking (needs S.rights S.cache n (kept S w n) site o f a full)) there
        (missing_came S sight P shared w log cs k stands n me up after_told (told_now S sight P shared w log cs k stands n me up evaluating)
        (all_told S sight P shared w log cs k stands n me up evaluating) evaluating site o e)

    cached_dated : (row : Row) → cached_row a.caches o ≡ Some row → (r : Row) → In r (a.answers ++ row ∷ []) → is_shown sight P r.0 ≡ true
        → IsStore S sight.has never r.0.store → Dated S sight P k.table cs (shelf S w r.0.store) r
    cached_dated row there r i shown at = elim (in_append r a.answers (row ∷ []) i) [
      | inl old ↦ answer_dated S sight P shared w log cs k stands n me r old shown
      | inr new ↦
          let found = found_in_cache a.caches o row there in
          stands.shadow.tabled.cached n me found.rows found.cache r (subst (λ z. In z found.rows) (sym (in_one r row new)) found.listed) shown at
    ]

    missing_by : (found : Option Row) → cached_row a.caches o ≡ found → Makes S sight P w log cs k n [] (needs S.rights S.cache n (kept S w n) site o found a full) []
    missing_by (Some row) there =
        let c = came (Some row) there in
        let act = needs S.rights S.cache n (kept S w n) site o (Some row) a full in
        calm_made S sight P shared w log cs k stands n me act ((with_told asking ++ []) ++ []) c.behind refl ((λ t ne. refl), tt)
        (subst (λ z. AtWorker k z n c.behind k.table) (sym (entries_are S sight P shared w log cs k stands n me up evaluating asking)) c.at)
        (λ x logged. c.seen_so (log ++ x ∷ []) (seen_mine sight n act.notes log x logged ∙ seen_all S sight P shared w log cs k stands n me up evaluating))
        (λ x logged. recorded_calm S sight P shared w log cs k stands n me act x logged (λ t. refl) (let at = limit_here S sight P shared w log cs k stands n me up in omega (arith, at))
        (λ waits. absurd (subst IsPreparing evaluating waits)))
        (cached_dated row there) (λ rows i r j. (rows, i, j))
        (λ d inside. ap (filter (λ (z : ℕ × Message). z.0 == d)) (says_are S sight P shared w log cs k stands n me up evaluating asking) ∙ c.tells d inside)
    missing_by None there =
        let c = came None there in
        let act = needs S.rights S.cache n (kept S w n) site o None a full in
        calm_made S sight P shared w log cs k stands n me act ((with_told asking ++ []) ++ []) c.behind refl ((λ t ne. refl), tt)
        (subst (λ z. AtWorker k z n c.behind k.table) (sym (entries_are S sight P shared w log cs k stands n me up evaluating asking)) c.at)
        (λ x logged. c.seen_so (log ++ x ∷ []) (seen_mine sight n act.notes log x logged ∙ seen_all S sight P shared w log cs k stands n me up evaluating))
        (λ x logged. recorded_calm S sight P shared w log cs k stands n me act x logged (λ t. refl)
        (let at = limit_here S sight P shared w log cs k stands n me up in let number = limit_evaluating in omega (arith, at, number)) (λ waits. absurd waits))
        (λ r i shown at. answer_dated S sight P shared w log cs k stands n me r i shown) (λ rows i r j. (rows, i, j))
        (λ d inside. ap (filter (λ (z : ℕ × Message). z.0 == d)) (says_are S sight P shared w log cs k stands n me up evaluating asking) ∙ c.tells d inside)

    missing_goes : Makes S sight P w log cs k n [] (needs S.rights S.cache n (kept S w n) site o (cached_row a.caches o) a full) []
    missing_goes = missing_by (cached_row a.caches o) refl

  -- ---- it failed or was stopped

  fails_goes : (told : Note) (came : Release) (outcome : ReqOutcome) → of_note sight n (seen_by sight n log) log told ≡ with_told (came ∷ [])
      → ((j : Rebuilt) → next sight P came j ≡ at_worker sight P j n (over sight P (no_caches sight P))) → ((j : Rebuilt) → sends sight P came j ≡ [])
      → commit_in told ≡ [] → IsOwn n told → ((t : Tid) → changes_in t told ≡ [])
      → Makes S sight P w log cs k n [] (noting (told ∷ []) (closes S.rights S.cache n (kept S w n) outcome a)) []
  fails_goes told came outcome entries ends quiet no_commit own no_change =
      let c = closed_keeps (request_of (kept S w n)) outcome (kept S w n) in
      let y = told_now S sight P shared w log cs k stands n me up evaluating in
      let notes = told ∷ note.Closed (request_of (kept S w n)) outcome ∷ [] in
      let same = ap (λ es. (es ++ []) ++ []) entries in
      dropped_made S sight P shared w log cs k stands n me up (Some (closed (request_of (kept S w n)) outcome)) 0 [] notes
      ((of_note sight n (seen_by sight n log) log told ++ []) ++ []) y c.0 (ap (λ cs. cs ++ []) no_commit) (own, ((λ t ne. refl), tt)) (λ t. ap (λ os. os ++ []) (no_change t))
      (all_told S sight P shared w log cs k stands n me up evaluating).keeps
      (subst (λ z. AtWorker k z n (over sight P (no_caches sight P) y) k.table)
      (sym (ap (after sight P k) same ∙ entries_are S sight P shared w log cs k stands n me up evaluating (came ∷ []) ∙ ends after_told))
      (at_next sight P k after_told n y k.table (over sight P (no_caches sight P)) (got S sight P shared w log cs k stands n me up evaluating).at))
      (λ d inside. ap (filter (λ (z : ℕ × Message). z.0 == d))
      (ap (tells sight P k) same ∙ says_are S sight P shared w log cs k stands n me up evaluating (came ∷ []) ∙ ap (λ zs. zs ++ []) (quiet after_told)))

  resumed_goes : (ending : Ending) → full.ending ≡ ending → Makes S sight P w log cs k n [] (resumes_at S.rights S.cache n (kept S w n) ending a full) []
  resumed_goes (endings.Missing site o) e = missing_goes site o e
  resumed_goes endings.Failed e =
      fails_goes (note.Failed (tid_of n (kept S w n) a) (new_touches a full) (new_downs a full)) (release.Failed n) outcomes.Failed refl (λ j. refl) (λ j. refl) refl (λ t ne. refl) (λ t. refl)
  resumed_goes (endings.Stopped limit) e =
      fails_goes (note.Stopped (tid_of n (kept S w n) a) limit (new_touches a full) (new_downs a full)) (release.Stopped n) (outcomes.Stopped limit) refl (λ j. refl) (λ j. refl) refl
      (λ t ne. refl) (λ t. refl)
  resumed_goes (endings.Ended value) e = ended_goes S sight P shared w log cs k stands n me up evaluating value e

module _ (S : Setting) (sight : Sight) (P : Public) (shared : IsShared S sight P) (w : World) (log : List Logged) (cs : List Commit) (k : Rebuilt)
    (stands : Stands S sight P w log cs k) (n : ℕ) (me : IsWorker S sight.has never n) where
  pub resume_goes : IsTrue (may S w (i.Resume n)) → Goes S sight P w log cs k (i.Resume n)
  resume_goes can =
      let p = and_parts _ _ can in
      resumed_goes S sight P shared w log cs k stands n me (running_up S w n p.0) (is_evaluating_at (w.node n).attempt.phase p.1) (meant S w n).ending refl
