-- A store outside the set or in it votes yes: a worker outside the set waits for the others that take part, or decides.
use Rattle.std.proofs.Common.{◌≡◌, inl, inr, ℕ, suc, true, not, cond, List, [], ◌∷◌, ◌++◌, refl, sym, ap, ◌∙◌, subst, arith, IsFalse}
use Rattle.std.specs.Prelude.{◌==◌}
use Rattle.std.specs.List.{filter}
use Rattle.std.proofs.lemmas.List.{append-nil}
use Rattle.fab_base.specs.declared.message.Message.{Message}
use Rattle.fab_base.specs.declared.object.Tid.{Tid}
use Rattle.fab_net.specs.declared.note.Commit.{Commit}
use Rattle.fab_net.specs.declared.note.Logged.{Logged}
use Rattle.fab_protocol.specs.declared.parts.Parts.{Parts}
use Rattle.fab_world.specs.Machine.{Setting, World, kept, parts, shelf}
use Rattle.fab_world.specs.Workers as workers
use Rattle.fab_world.specs.Workers.{Act, Attempt, decides, is_in, not_voted, stays, waits_for, yes_from}
use Rattle.fab_release.specs.declared.release.Release.{Release}
use Rattle.fab_release.specs.declared.release.Release.TheVariants.{Decided}
use Rattle.fab_release.specs.Sights.{Sight, Public}
use Rattle.fab_release.specs.Record.{changes_of}
use Rattle.fab_release.specs.Replay as replay
use Rattle.fab_release.specs.Replay.{Rebuilt, WorkerSeen, Rests, Votes, committed, leaves, next}
use Rattle.fab_isolation.specs.Law.{IsShared}
use Rattle.fab_integrity.proofs.Invariant.{Has, In, IsPreparing, IsStore, IsWorker, Standing, TakesPart, Voted, current, deals, limit, limit_at, parts_by, rank, standing, tid_at}
use Rattle.fab_integrity.proofs.Costs.{noted_outside}
use Rattle.fab_integrity.proofs.Deals.{deals_more, deals_others}
use Rattle.fab_integrity.proofs.Lists.{in_append, in_one}
use Rattle.fab_integrity.proofs.Runs.{excludes_none}
use Rattle.fab_integrity.proofs.WorkerEvents.{voted_then}
use Rattle.fab_shadow.proofs.Shadow.{never, Stands, Keeps, InPhase, Prepares, Recorded, ShadowsWorker, changed_names}
use Rattle.fab_shadow.proofs.Fold.{AtWorker, after, after_append, tells, tells_append}
use Rattle.fab_shadow.proofs.Logs.{IsLogged, changes_mine}
use Rattle.fab_shadow.proofs.Deeds.{Did, Makes}
use Rattle.fab_shadow.proofs.Frames.{shadow_worker, stands_after}
use Rattle.fab_shadow.proofs.Here.{answer_dated, at_decided, calm_made, limit_here, recorded_calm, records, same_tid, shadows, worker_ok}
use Rattle.fab_shadow.proofs.Drops.{closes_votes}
use Rattle.fab_shadow.proofs.Decides.{decided_keeps, decided_tabled}
use Rattle.fab_shadow.proofs.Hearing.{made_by, made_quietly}

module _ (S : Setting) (sight : Sight) (P : Public) (shared : IsShared S sight P) (w : World) (log : List Logged) (cs : List Commit) (k : Rebuilt)
    (stands : Stands S sight P w log cs k) (n : ℕ) (me : IsWorker S sight.has never n) (up : (w.node n).up ≡ true) (s : ℕ)
    (es : List Release) (at : AtWorker k (after sight P k es) n (k.worker n) k.table) (mute : tells sight P k es ≡ [])
    (ls : List ℕ) (waiting : (w.node n).attempt.phase ≡ workers.Preparing ls) where
  abbrev a : Attempt
  a = (w.node n).attempt

  abbrev here : Standing
  here = standing S sight.has never w cs n

  abbrev y : WorkerSeen
  y = k.worker n

  abbrev whole : Parts
  whole = parts S w n

  abbrev tid : Tid
  tid = tid_at n here

  abbrev c : Commit
  c = current S n here

  keeps : Keeps S sight P here y
  keeps = (shadows S sight P shared w log cs k stands n me).keeps

  preparing : Prepares S sight P n here y
  preparing = subst (λ q. InPhase S sight P n q here log y) waiting (shadows S sight P shared w log cs k stands n me).phase

  waits : IsPreparing a.phase
  waits = subst IsPreparing (sym waiting) tt

  limit_now : limit here ≡ rank (kept S w n).boot (suc a.number)
  limit_now = limit_here S sight P shared w log cs k stands n me up ∙ ap (λ q. rank (kept S w n).boot (limit_at q a.number)) waiting

  -- ---- others are still waited for

  module _ (l : ℕ) (left : List ℕ) where
    abbrev waits_on : Act
    waits_on = stays (record a { phase = workers.Preparing (l ∷ left) })

    waits_seen : (more : List Logged) → ShadowsWorker S sight P n (stands_after S sight P here here.deals waits_on) more y
    waits_seen more = record {
      keeps = record {
        boot = keeps.boot;
        number = λ _. keeps.number up;
        commits = keeps.commits;
        parties = keeps.parties;
        wide = keeps.wide;
        wide_too = keeps.wide_too;
        cached = keeps.cached;
      };
      phase = record { parts = preparing.parts; stage = preparing.stage; shade = preparing.shade };
    }

    waits_made : Makes S sight P w log cs k n es waits_on []
    waits_made =
        made_quietly S sight P shared w log cs k stands n me up s es waits_on refl
        (calm_made S sight P shared w log cs k stands n me waits_on es y refl tt at (λ x logged. waits_seen (log ++ x ∷ []))
        (λ x logged. recorded_calm S sight P shared w log cs k stands n me waits_on x logged (λ t. refl)
        (let now = limit_now in omega (arith, now)) (λ _. (waits, refl)))
        (λ r i shown there. answer_dated S sight P shared w log cs k stands n me r i shown) (λ rows i r j. (rows, i, j))
        (λ d inside. ap (filter (λ (z : ℕ × Message). z.0 == d)) mute))

  -- ---- it was the last

  module _ (all : (z : ℕ) → IsStore S sight.has never z → TakesPart S z c → Has S (shelf S w z) tid) where
    abbrev act : Act
    act = decides S.rights S.cache n (kept S w n) a whole

    abbrev ds : List Commit
    ds = cs ++ c ∷ []

    abbrev entries : List Release
    entries = es ++ Decided n true ∷ []

    at_closed : AtWorker k (after sight P k entries) n (committed sight P n y.stage y) (leaves sight P whole ++ k.table)
    at_closed =
        subst (λ z. AtWorker k z n (committed sight P n y.stage y) (leaves sight P whole ++ k.table)) (sym (after_append sight P k es (Decided n true ∷ [])))
        (subst (λ rows. AtWorker k (next sight P (Decided n true) (after sight P k es)) n (committed sight P n y.stage y) (rows ++ k.table)) preparing.shade.left
        (at_decided sight P k (after sight P k es) n y preparing.parts preparing.stage at))

    says_closed : (d : ℕ) → sight.has d ≡ true → filter (λ z. z.0 == d) (tells sight P k entries) ≡ filter (λ z. z.0 == d) act.sends
    says_closed d inside =
        ap (filter (λ (z : ℕ × Message). z.0 == d))
        (tells_append sight P k es (Decided n true ∷ []) ∙ ap (λ zs. zs ++ tells sight P (after sight P k es) (Decided n true ∷ [])) mute
        ∙ append-nil (replay.closes sight P n true ((after sight P k es).worker n).stage ((after sight P k es).worker n))
        ∙ ap (λ (v : WorkerSeen). replay.closes sight P n true v.stage v) at.worker
        ∙ ap (λ q. replay.closes sight P n true q y) preparing.stage)
        ∙ closes_votes S sight P shared w log cs k stands n me up true y preparing.parts (same_tid S sight P shared w log cs k stands n me y keeps up) preparing.shade.stores d inside

    -- what it decides is noted
    noted_is : cs ++ noted_outside sight.has act.notes ≡ ds
    noted_is = ap (λ b. cs ++ cond (not b) (c ∷ []) []) me.outside

    -- it tells of no changes anew
    told_so : (t : Tid) (x : Logged) → IsLogged n act.notes x → changes_of t (log ++ x ∷ []) ≡ changes_of t log
    told_so t x logged = changes_mine n act.notes t log x logged ∙ append-nil (changes_of t log)

    decided_recorded : (x : Logged) → IsLogged n act.notes x → Recorded S sight P n (stands_after S sight P here (deals ds n) act) (log ++ x ∷ [])
    decided_recorded x logged =
        let old = records S sight P shared w log cs k stands n me in
        record {
          own = λ d i. elim (in_append d (deals cs n) (c ∷ []) (subst (In d) (deals_more cs c) i)) [
            | inl before ↦ old.own d before
            | inr new ↦ ap (λ (z : Commit). z.tid.worker) (in_one d c new)
          ];
          ended = λ d i. told_so d.tid x logged ∙ elim (in_append d (deals cs n) (c ∷ []) (subst (In d) (deals_more cs c) i)) [
            | inl before ↦ old.ended d before
            | inr new ↦
                let same = in_one d c new in
                ap (λ (z : Commit). changes_of z.tid log) same ∙ old.asked waits ∙ ap (λ (z : Commit). changed_names (parts_by S z)) (sym same)
          ];
          asked = λ waits. absurd waits;
          later = λ t mine late. told_so t x logged ∙ old.later t mine (let now = limit_now in omega (arith, now, late));
        }

    decides_made : Makes S sight P w log cs k n es act []
    decides_made =
        made_by S sight P shared w log cs k stands n me up s es (Decided n true ∷ []) act refl
        (λ x logged v lands. subst (λ zs. Did S sight P v (log ++ x ∷ []) zs k entries act.sends) (sym noted_is)
        (let ready = inl (record { tid = refl; waits = waits }) in
        let ended = (worker_ok S sight P shared w log cs k stands n me).ended waits in
        record {
          shadow = shadow_worker S sight P shared w v log cs ds k n me act lands stands.shadow (after sight P k entries) (committed sight P n y.stage y)
              (leaves sight P whole ++ k.table) x at_closed logged ((λ t ne. refl), ((λ t ne. refl), tt)) (λ z ne. deals_others cs c z ne)
              (record {
                keeps = decided_keeps S sight P shared w log cs k stands n me up ready ended all a refl refl refl y preparing.parts keeps preparing.stage preparing.shade;
                phase = ap (λ q. (committed sight P n q y).stage) preparing.stage;
              })
              (decided_recorded x logged)
              (decided_tabled S sight P shared w log cs k stands n me up ready ended all a refl refl refl v lands);
          tells = says_closed;
        }))

  -- ---- a yes

  module _ (heard : IsStore S sight.has never s → Voted S n s here (shelf S w s) tid) where
    by_left : (left : List ℕ) → filter (λ l. not (l == s)) ls ≡ left → Makes S sight P w log cs k n es (waits_for S.rights S.cache n (kept S w n) left a whole) []
    by_left (l ∷ left) e = waits_made l left
    by_left [] e =
        decides_made (λ z hz part.
        voted_then S sight.has never shared.setting shared.evaluates (excludes_none S sight.has shared.sight_is.hostile) w w cs stands.holds.state n stands.holds.inv me up s ls waiting heard z hz part
        (subst (λ xs. IsFalse (is_in z xs)) (sym e) refl))

    pub yes_made : Makes S sight P w log cs k n es (yes_from S.rights S.cache n (kept S w n) s a whole) []
    yes_made =
        subst (λ q. Makes S sight P w log cs k n es (waits_for S.rights S.cache n (kept S w n) (filter (λ l. not (l == s)) (not_voted q)) a whole) []) (sym waiting)
        (by_left (filter (λ l. not (l == s)) ls) refl)
