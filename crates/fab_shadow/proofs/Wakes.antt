-- A worker outside the set recovers.
use Rattle.std.proofs.Common.{◌≡◌, ℕ, suc, true, false, IsTrue, List, [], ◌∷◌, ◌++◌, map, refl, sym, ap, ◌∙◌, subst, arith}
use Rattle.std.specs.Prelude.{◌==◌, if◌then◌else◌}
use Rattle.std.specs.List.{filter, flat_map, range_with_len}
use Rattle.std.proofs.lemmas.Bool.{and_parts, not-true}
use Rattle.std.proofs.lemmas.List.{append-nil}
use Rattle.std.proofs.lemmas.List.Elements.{filter-append}
use Rattle.fab_base.specs.declared.message.Message.{Message}
use Rattle.fab_base.specs.declared.message.Message.TheVariants as m
use Rattle.fab_net.specs.declared.event.Inner.TheVariants as i
use Rattle.fab_net.specs.declared.note.Commit.{Commit}
use Rattle.fab_net.specs.declared.note.Logged.{Logged}
use Rattle.fab_protocol.specs.declared.parts.Decision.{Decision}
use Rattle.fab_protocol.specs.Parts.{stores_of}
use Rattle.fab_protocol.specs.Stores.{asks}
use Rattle.fab_rights.specs.Computed.{is_worker, stores_in}
use Rattle.fab_rights.specs.declared.rights.Rights.{Rights}
use Rattle.fab_world.specs.Machine.{Setting, World, kept, may, of_store, shelf}
use Rattle.fab_world.specs.Workers.{Act, Attempt, fresh, to_all, wakes}
use Rattle.fab_release.specs.declared.release.Release.TheVariants.{Recover}
use Rattle.fab_release.specs.Sights.{Sight, Public}
use Rattle.fab_release.specs.Replay as replay
use Rattle.fab_release.specs.Replay.{Rebuilt, WorkerSeen, Commitment, Rests, at_worker}
use Rattle.fab_isolation.specs.Law.{IsShared}
use Rattle.fab_integrity.proofs.Invariant.{In, IsWorker, Standing, parts_by, decision_of, standing}
use Rattle.fab_integrity.proofs.Lists.{in_blank}
use Rattle.fab_integrity.proofs.Tids.{limit_asleep}
use Rattle.fab_shadow.proofs.Shadow.{never, Stands, InPhase, ShadowsWorker, cache_of, commitment}
use Rattle.fab_shadow.proofs.Fold.{AtWorker, after, at_worker_refl, tells}
use Rattle.fab_shadow.proofs.Deeds.{Goes, Makes}
use Rattle.fab_shadow.proofs.Frames.{stands_after}
use Rattle.fab_shadow.proofs.Here.{at_next, calm_made, recorded_calm, shadows, worker_ok}
use Rattle.fab_shadow.proofs.Drops.{sent_of_each}

-- a filter of what is sent, part by part
filter_parts : (xs ys zs us : List (ℕ × Message)) (d : ℕ) → filter (λ z. z.0 == d) xs ≡ filter (λ z. z.0 == d) zs → filter (λ z. z.0 == d) ys ≡ filter (λ z. z.0 == d) us
    → filter (λ z. z.0 == d) (xs ++ ys) ≡ filter (λ z. z.0 == d) (zs ++ us)
filter_parts xs ys zs us d e g =
    filter-append (λ (z : ℕ × Message). z.0 == d) xs ys ∙ (λ i. e i ++ g i) ∙ sym (filter-append (λ (z : ℕ × Message). z.0 == d) zs us)

module _ (S : Setting) (sight : Sight) (P : Public) (shared : IsShared S sight P) (w : World) (log : List Logged) (cs : List Commit) (k : Rebuilt)
    (stands : Stands S sight P w log cs k) (n : ℕ) (me : IsWorker S sight.has never n) where
  abbrev here : Standing
  here = standing S sight.has never w cs n

  abbrev y : WorkerSeen
  y = k.worker n

  abbrev woken : WorkerSeen
  woken = record y { boot = suc y.boot; number = 0 }

  -- each Commit goes again to those of the set that take part
  commits_told : (ds : List Commit) (d : ℕ) → sight.has d ≡ true
      → filter (λ z. z.0 == d) (flat_map (λ c. to_all c.stores (m.Commit c.tid)) (map (commitment S sight P) ds))
      ≡ filter (λ z. z.0 == d) (flat_map (λ x. to_all x.stores (m.Commit x.tid)) (map (decision_of S) ds))
  commits_told [] d inside = refl
  commits_told (c ∷ ds) d inside =
      filter_parts (to_all (filter sight.has (stores_of (parts_by S c))) (m.Commit c.tid)) (flat_map (λ (c : Commitment). to_all c.stores (m.Commit c.tid)) (map (commitment S sight P) ds))
      (to_all (stores_of (parts_by S c)) (m.Commit c.tid)) (flat_map (λ (x : Decision). to_all x.stores (m.Commit x.tid)) (map (decision_of S) ds)) d
      (sent_of_each sight.has (λ s. m.Commit c.tid) (stores_of (parts_by S c)) d inside) (commits_told ds d inside)

  -- and then the new boot to each store of the set
  wakes_told : (d : ℕ) → sight.has d ≡ true
      → filter (λ z. z.0 == d) (replay.wakes sight P y ++ []) ≡ filter (λ z. z.0 == d) (wakes S.rights S.cache n (kept S w n)).sends
  wakes_told d inside =
      let h = (shadows S sight P shared w log cs k stands n me).keeps in
      let listed = (worker_ok S sight P shared w log cs k stands n me).listed in
      ap (filter (λ (z : ℕ × Message). z.0 == d)) (append-nil (replay.wakes sight P y))
      ∙ filter_parts (flat_map (λ (c : Commitment). to_all c.stores (m.Commit c.tid)) y.commits) (to_all (filter sight.has (stores_in P.rights)) (m.Boot (suc y.boot)))
      (flat_map (λ (x : Decision). to_all x.stores (m.Commit x.tid)) (kept S w n).decided) (to_all (stores_in S.rights) (m.Boot (suc (kept S w n).boot))) d
      (ap (λ (ds : List Commitment). filter (λ (z : ℕ × Message). z.0 == d) (flat_map (λ c. to_all c.stores (m.Commit c.tid)) ds)) h.commits
      ∙ commits_told here.deals d inside
      ∙ ap (λ (ds : List Decision). filter (λ (z : ℕ × Message). z.0 == d) (flat_map (λ x. to_all x.stores (m.Commit x.tid)) ds)) (sym listed))
      (ap (λ (rights : Rights). filter (λ (z : ℕ × Message). z.0 == d) (to_all (filter sight.has (stores_in rights)) (m.Boot (suc y.boot)))) shared.public_is.rights
      ∙ sent_of_each sight.has (λ s. m.Boot (suc y.boot)) (stores_in S.rights) d inside
      ∙ ap (λ b. filter (λ (z : ℕ × Message). z.0 == d) (to_all (stores_in S.rights) (m.Boot (suc b)))) h.boot)

  -- of its attempt nothing was left
  module _ (down : (w.node n).up ≡ false) where
    abbrev act : Act
    act = wakes S.rights S.cache n (kept S w n)

    none_left : (w.node n).attempt ≡ fresh
    none_left = stands.shadow.asleep n me down

    rests : y.stage ≡ Rests
    rests =
        subst (λ (a : Attempt). InPhase S sight P n a.phase here log y → y.stage ≡ Rests) (sym none_left) (λ h. h)
        (shadows S sight P shared w log cs k stands n me).phase

    woken_seen : (more : List Logged) → ShadowsWorker S sight P n (stands_after S sight P here here.deals act) more woken
    woken_seen more =
        let old = (shadows S sight P shared w log cs k stands n me).keeps in
        record {
          keeps = record {
            boot = ap suc old.boot;
            number = λ _. refl;
            commits = old.commits;
            parties = old.parties;
            wide = refl;
            wide_too = old.wide_too;
            cached = λ s inside. old.cached s inside ∙ ap (λ (a : Attempt). cache_of a.caches s) none_left;
          };
          phase = rests;
        }

    at_woken : AtWorker k (after sight P k (Recover n ∷ [])) n woken k.table
    at_woken =
        let is : is_worker P.rights n ≡ true = ap (λ (rights : Rights). is_worker rights n) shared.public_is.rights ∙ me.kind in
        subst (λ b. AtWorker k (if b then at_worker sight P k n (λ v. record v { boot = suc v.boot; number = 0 }) else k) n woken k.table) (sym is)
        (at_next sight P k k n y k.table (λ v. record v { boot = suc v.boot; number = 0 }) (at_worker_refl k n))

    says_so : tells sight P k (Recover n ∷ []) ≡ replay.wakes sight P y ++ []
    says_so =
        let is : is_worker P.rights n ≡ true = ap (λ (rights : Rights). is_worker rights n) shared.public_is.rights ∙ me.kind in
        ap (λ b. (if b then replay.wakes sight P y else (asks (k.store n).shelf).sends) ++ []) is

    wakes_made : Makes S sight P w log cs k n [] act (Recover n ∷ [])
    wakes_made =
        calm_made S sight P shared w log cs k stands n me act (Recover n ∷ []) woken refl tt at_woken (λ x logged. woken_seen (log ++ x ∷ []))
        (λ x logged. recorded_calm S sight P shared w log cs k stands n me act x logged (λ t. refl)
        (let at = limit_asleep here down in omega (arith, at)) (λ waits. absurd waits))
        (λ r i. absurd i) (λ rows i r j. absurd (subst (In r) (in_blank (range_with_len 0 64) rows i) j))
        (λ d inside. ap (filter (λ (z : ℕ × Message). z.0 == d)) says_so ∙ wakes_told d inside)

  pub worker_wakes_goes : IsTrue (may S w (i.Recover n)) → Goes S sight P w log cs k (i.Recover n)
  worker_wakes_goes can =
      subst (λ b. Makes S sight P w log cs k n [] (if b then wakes S.rights S.cache n (kept S w n) else of_store S (w.node n).attempt (asks (shelf S w n))) (Recover n ∷ [])) (sym me.kind)
      (wakes_made (not-true (w.node n).up (and_parts _ _ (and_parts _ _ can).0).1))
