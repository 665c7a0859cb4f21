-- An evaluation of a worker outside the set ended: it asks for votes, or decides where nobody takes part.
use Rattle.std.proofs.Common.{◌≡◌, ◌⊎◌, inl, inr, ℕ, suc, ◌≤◌, true, not, cond, IsTrue, List, [], ◌∷◌, ◌++◌, map, Option, refl, sym, ap, ◌∙◌, subst, true≢false, arith}
use Rattle.std.specs.Prelude.{◌==◌}
use Rattle.std.specs.List.{filter}
use Rattle.std.proofs.lemmas.Bool.{false_from_ne_true}
use Rattle.std.proofs.lemmas.List.{append-nil}
use Rattle.std.proofs.lemmas.List.Elements.{filter-append}
use Rattle.fab_base.specs.declared.object.Tid.{Tid}
use Rattle.fab_base.specs.declared.object.Value.{Value}
use Rattle.fab_base.specs.declared.message.Message.{Message}
use Rattle.fab_base.specs.declared.message.Message.TheVariants as m
use Rattle.fab_language.specs.declared.ending.Ending.TheVariants as endings
use Rattle.fab_language.specs.Meaning.{Meant}
use Rattle.fab_net.specs.declared.note.Commit.{Commit}
use Rattle.fab_net.specs.declared.note.Logged.{Logged}
use Rattle.fab_net.specs.declared.note.Note.{Note}
use Rattle.fab_net.specs.declared.note.Note.TheVariants as note
use Rattle.fab_net.specs.declared.outcome.ReqOutcome.TheVariants.{Committed}
use Rattle.fab_protocol.specs.declared.parts.Parts.{Parts}
use Rattle.fab_protocol.specs.Parts.{stores_of, items_at}
use Rattle.fab_protocol.specs.Versions.{is_tid}
use Rattle.fab_protocol.proofs.Commits.{tid_itself}
use Rattle.fab_world.specs.Attempts.{parts_of}
use Rattle.fab_world.specs.Machine.{Setting, World, kept, meant, parts, shelf}
use Rattle.fab_world.specs.Workers as workers
use Rattle.fab_world.specs.Workers.{Act, Attempt, asks_all, decides, ends, is_in, new_downs, new_touches, noting, request_of, telling, to_all}
use Rattle.fab_release.specs.declared.release.Release.{Release}
use Rattle.fab_release.specs.declared.release.Release.TheVariants as release
use Rattle.fab_release.specs.Sights.{Sight, Public}
use Rattle.fab_release.specs.Record.{changes_of}
use Rattle.fab_release.specs.Replay as replay
use Rattle.fab_release.specs.Replay.{Rebuilt, WorkerSeen, Votes, committed, ends_by, leaves, next, prepares, run, sharers, tid_of}
use Rattle.fab_isolation.specs.Law.{IsShared}
use Rattle.fab_integrity.proofs.Invariant.{Has, In, IsEnded, IsStore, IsWorker, Open, Standing, TakesPart, current, deals, limit, limit_at, limit_in, parts_by, rank, rank_of, standing, tid_at}
use Rattle.fab_integrity.proofs.Costs.{noted_outside}
use Rattle.fab_integrity.proofs.Deals.{deals_more, deals_others}
use Rattle.fab_integrity.proofs.Lists.{in_append, in_one}
use Rattle.fab_integrity.proofs.Tids.{tid_is}
use Rattle.fab_integrity.proofs.WorkerSteps.{lands_noting}
use Rattle.fab_shadow.proofs.Shadow.{never, Stands, Keeps, IsShade, Recorded, changed_names}
use Rattle.fab_shadow.proofs.Fold.{AtWorker, after, after_append, tells, tells_append}
use Rattle.fab_shadow.proofs.Notes.{IsOwn, own_ended}
use Rattle.fab_shadow.proofs.Logs.{IsLogged, changes_mine, changes_told}
use Rattle.fab_shadow.proofs.Frames.{shadow_worker, stands_after}
use Rattle.fab_shadow.proofs.Deeds.{Did, Makes}
use Rattle.fab_shadow.proofs.Here.{answer_dated, at_as, at_decided, at_next, calm_made, records, worker_ok}
use Rattle.fab_shadow.proofs.Drops.{closes_votes, sent_alike, sent_of_each}
use Rattle.fab_shadow.proofs.Outcomes.{ToldAll, follows, keeps_on, knows_seen}
use Rattle.fab_shadow.proofs.Shades.{shade_of}
use Rattle.fab_shadow.proofs.Decides.{decided_keeps, decided_tabled}
use Rattle.fab_shadow.proofs.Telling.{all_after, all_tells, all_told, entries_are, says_are, second, told_now, told_with}

module _ (S : Setting) (sight : Sight) (P : Public) (shared : IsShared S sight P) (w : World) (log : List Logged) (cs : List Commit) (k : Rebuilt)
    (stands : Stands S sight P w log cs k) (n : ℕ) (me : IsWorker S sight.has never n) (up : (w.node n).up ≡ true) (evaluating : (w.node n).attempt.phase ≡ workers.Evaluating)
    (value : Option Value) (e : (meant S w n).ending ≡ endings.Ended value) where
  abbrev a : Attempt
  a = (w.node n).attempt

  abbrev here : Standing
  here = standing S sight.has never w cs n

  abbrev full : Meant
  full = meant S w n

  abbrev whole : Parts
  whole = parts S w n

  abbrev tid : Tid
  tid = tid_at n here

  -- ---- what the replay computes

  abbrev after_told : Rebuilt
  after_told = second S sight P shared w log cs k stands n me up evaluating

  abbrev y : WorkerSeen
  y = told_now S sight P shared w log cs k stands n me up evaluating

  told : ToldAll S sight P shared w log cs k stands n me up after_told y
  told = all_told S sight P shared w log cs k stands n me up evaluating

  abbrev ran : Meant
  ran = run sight P n y

  abbrev part : Parts
  part = parts_of y.known ran

  ran_ends : (u : Option Value) × (ran.ending ≡ endings.Ended u)
  ran_ends =
      (follows S sight P shared w log cs k stands n me up after_told y told).ends
      (knows_seen S sight P shared w log cs k stands n me up after_told y told) value e

  shade : IsShade S sight P a.answers y.known whole part
  shade =
      shade_of S sight P shared w log cs k stands n me y.known ran value e told.knows
      ((follows S sight P shared w log cs k stands n me up after_told y told).same
      (knows_seen S sight P shared w log cs k stands n me up after_told y told) value e)

  abbrev asking : WorkerSeen
  asking = record y { stage = Votes part }

  asking_keeps : Keeps S sight P here asking
  asking_keeps = record {
    boot = told.keeps.boot;
    number = told.keeps.number;
    commits = told.keeps.commits;
    parties = told.keeps.parties;
    wide = told.keeps.wide;
    wide_too = told.keeps.wide_too;
    cached = told.keeps.cached;
  }

  ends_so : ends_by sight P n ran.ending y ≡ asking
  ends_so = ap (λ ending. ends_by sight P n ending y) ran_ends.1

  at_ended : AtWorker k (after sight P after_told (release.Ended n ∷ [])) n asking k.table
  at_ended =
      at_as sight P k (after sight P after_told (release.Ended n ∷ [])) n (ends_by sight P n ran.ending y) asking k.table ends_so
      (at_next sight P k after_told n y k.table (λ v. ends_by sight P n (run sight P n v).ending v) told.at)

  -- those of the set that take part are asked for votes
  says_ended : (d : ℕ) → sight.has d ≡ true → filter (λ z. z.0 == d) (tells sight P after_told (release.Ended n ∷ []))
      ≡ filter (λ z. z.0 == d) (map (λ s. (s, m.Prepare tid (items_at whole s))) (stores_of whole))
  says_ended d inside =
      ap (filter (λ (z : ℕ × Message). z.0 == d))
      (append-nil (prepares sight P n (ends_by sight P n (run sight P n (after_told.worker n)).ending (after_told.worker n)).stage (after_told.worker n))
      ∙ ap (λ (v : WorkerSeen). prepares sight P n (ends_by sight P n (run sight P n v).ending v).stage v) told.at.worker
      ∙ ap (λ (v : WorkerSeen). prepares sight P n v.stage y) ends_so
      ∙ ap (λ t. map (λ s. (s, m.Prepare t (items_at part s))) (sharers sight P part)) told.it.tid_is
      ∙ ap (map (λ s. (s, m.Prepare tid (items_at part s)))) shade.stores)
      ∙ sent_of_each sight.has (λ s. m.Prepare tid (items_at part s)) (stores_of whole) d inside
      ∙ sent_alike (λ s. m.Prepare tid (items_at part s)) (λ s. m.Prepare tid (items_at whole s)) (stores_of whole) d (ap (m.Prepare tid) (shade.items d inside))

  -- ---- what the log says that it changes

  abbrev ended_note : Note
  ended_note = note.Ended tid value (new_touches a full) (new_downs a full) whole.writes whole.creates

  limit_is : limit here ≡ rank_of tid
  limit_is = ap (λ b. limit_in b (kept S w n).boot a) up ∙ ap (λ q. rank (kept S w n).boot (limit_at q a.number)) evaluating

  module _ (rest : List Note) (none : (t : Tid) → changes_told t rest ≡ []) (x : Logged) (logged : IsLogged n (ended_note ∷ rest) x) where
    told_it : changes_of tid (log ++ x ∷ []) ≡ changed_names whole
    told_it =
        changes_mine n (ended_note ∷ rest) tid log x logged
        ∙ ap (λ os. os ++ changes_told tid (ended_note ∷ rest)) ((records S sight P shared w log cs k stands n me).later tid refl (let at = limit_is in omega (arith, at)))
        ∙ ap (λ b. cond b (changed_names whole) [] ++ changes_told tid rest) (tid_itself tid)
        ∙ ap (λ os. changed_names whole ++ os) (none tid) ∙ append-nil (changed_names whole)

    told_others : (t : Tid) → (rank_of t ≡ rank_of tid → ⊥) → changes_of t (log ++ x ∷ []) ≡ changes_of t log
    told_others t apart =
        changes_mine n (ended_note ∷ rest) t log x logged
        ∙ ap (λ b. changes_of t log ++ (cond b (changed_names whole) [] ++ changes_told t rest))
        (false_from_ne_true (is_tid tid t) (λ same. apart (ap rank_of (sym (tid_is tid t same)))))
        ∙ ap (λ os. changes_of t log ++ os) (none t) ∙ append-nil (changes_of t log)

    told_before : (c : Commit) → In c here.deals → changes_of c.tid (log ++ x ∷ []) ≡ changes_of c.tid log
    told_before c i =
        let past = (worker_ok S sight P shared w log cs k stands n me).past c i in
        let at = limit_is in
        told_others c.tid (λ same. omega (arith, past, at, same))

    told_later : (t : Tid) → t.worker ≡ n → rank (kept S w n).boot (suc a.number) ≤ rank_of t → changes_of t (log ++ x ∷ []) ≡ []
    told_later t at late =
        let now = limit_is in
        told_others t (λ same. omega (arith, late, same))
        ∙ (records S sight P shared w log cs k stands n me).later t at (omega (arith, late, now))

  -- ---- it asks for votes

  abbrev with_told : List Release → List Release
  with_told rest = told_with S sight P shared w log cs k stands n me up evaluating rest

  abbrev ended_by : List ℕ → Act
  ended_by ss = noting (ended_note ∷ []) (asks_all S.rights S.cache n (kept S w n) ss (telling a full) whole)

  ended_own : IsOwn n ended_note
  ended_own = own_ended n tid refl value (new_touches a full) (new_downs a full) whole.writes whole.creates

  asks_goes : (s : ℕ) (ss : List ℕ) → stores_of whole ≡ s ∷ ss → Makes S sight P w log cs k n [] (ended_by (s ∷ ss)) []
  asks_goes s ss all =
      let act = ended_by (s ∷ ss) in
      let records_now = records S sight P shared w log cs k stands n me in
      calm_made S sight P shared w log cs k stands n me act ((with_told (release.Ended n ∷ []) ++ []) ++ []) asking refl (ended_own, tt)
      (subst (λ z. AtWorker k z n asking k.table) (sym (entries_are S sight P shared w log cs k stands n me up evaluating (release.Ended n ∷ []))) at_ended)
      (λ x logged. record {
        keeps = keeps_on S sight P shared w log cs k stands n me up after_told y told act asking refl refl refl asking_keeps;
        phase = record { parts = part; stage = refl; shade = shade };
      })
      (λ x logged. record {
        own = records_now.own;
        ended = λ c i. told_before [] (λ t. refl) x logged c i ∙ records_now.ended c i;
        asked = λ waits. told_it [] (λ t. refl) x logged;
        later = told_later [] (λ t. refl) x logged;
      })
      (λ r i shown at. answer_dated S sight P shared w log cs k stands n me r i shown) (λ rows i r j. (rows, i, j))
      (λ d inside. ap (filter (λ (z : ℕ × Message). z.0 == d)) (says_are S sight P shared w log cs k stands n me up evaluating (release.Ended n ∷ [])) ∙ says_ended d inside
      ∙ ap (λ zs. filter (λ (z : ℕ × Message). z.0 == d) (map (λ s. (s, m.Prepare tid (items_at whole s))) zs)) all
      ∙ sym (ap (filter (λ (z : ℕ × Message). z.0 == d)) (append-nil (map (λ s. (s, m.Prepare tid (items_at whole s))) (s ∷ ss)))))

  -- ---- it decides at once

  abbrev c : Commit
  c = current S n here

  module _ (none : stores_of whole ≡ []) where
    abbrev act : Act
    act = ended_by []

    abbrev ds : List Commit
    ds = cs ++ c ∷ []

    abbrev decision : List Note
    decision = note.Decided tid (request_of (kept S w n)) true a.answers ∷ note.Closed (request_of (kept S w n)) (Committed tid whole.value) ∷ []

    -- the entries: it ended, and it is decided
    abbrev first_said : List Release
    first_said = with_told (release.Ended n ∷ [])

    abbrev entries : List Release
    entries = (first_said ++ release.Decided n true ∷ []) ++ []

    abbrev asked_for_votes : Rebuilt
    asked_for_votes = after sight P k first_said

    at_asked : AtWorker k asked_for_votes n asking k.table
    at_asked = subst (λ z. AtWorker k z n asking k.table) (sym (all_after S sight P shared w log cs k stands n me up evaluating (release.Ended n ∷ []))) at_ended

    entries_go : after sight P k entries ≡ next sight P (release.Decided n true) asked_for_votes
    entries_go = ap (after sight P k) (append-nil (first_said ++ release.Decided n true ∷ [])) ∙ after_append sight P k first_said (release.Decided n true ∷ [])

    at_closed : AtWorker k (after sight P k entries) n (committed sight P n asking.stage asking) (leaves sight P whole ++ k.table)
    at_closed =
        subst (λ z. AtWorker k z n (committed sight P n asking.stage asking) (leaves sight P whole ++ k.table)) (sym entries_go)
        (subst (λ rows. AtWorker k (next sight P (release.Decided n true) asked_for_votes) n (committed sight P n asking.stage asking) (rows ++ k.table)) shade.left
        (at_decided sight P k asked_for_votes n asking part refl at_asked))

    -- nobody takes part
    nobody : (s : ℕ) → IsStore S sight.has never s → TakesPart S s c → Has S (shelf S w s) tid
    nobody s at part = absurd (true≢false (sym (subst (λ ss. IsTrue (is_in s ss)) none part)))

    ready : Open n here tid ⊎ ((limit here ≤ rank_of tid) × (stores_of (parts_by S c) ≡ []))
    ready = let at = limit_is in inr (omega (arith, at), none)

    nothing_said : (d : ℕ) → sight.has d ≡ true → filter (λ z. z.0 == d) (tells sight P k entries) ≡ []
    nothing_said d inside =
        ap (filter (λ (z : ℕ × Message). z.0 == d))
        (ap (tells sight P k) (append-nil (first_said ++ release.Decided n true ∷ [])) ∙ tells_append sight P k first_said (release.Decided n true ∷ []))
        ∙ filter-append (λ (z : ℕ × Message). z.0 == d) (tells sight P k first_said) (replay.closes sight P n true (asked_for_votes.worker n).stage (asked_for_votes.worker n) ++ [])
        ∙ ap (λ zs. zs ++ filter (λ (z : ℕ × Message). z.0 == d) (replay.closes sight P n true (asked_for_votes.worker n).stage (asked_for_votes.worker n) ++ []))
        (ap (filter (λ (z : ℕ × Message). z.0 == d)) (all_tells S sight P shared w log cs k stands n me up evaluating (release.Ended n ∷ []))
        ∙ says_ended d inside ∙ ap (λ ss. filter (λ (z : ℕ × Message). z.0 == d) (map (λ s. (s, m.Prepare tid (items_at whole s))) ss)) none)
        ∙ ap (filter (λ (z : ℕ × Message). z.0 == d)) (append-nil (replay.closes sight P n true (asked_for_votes.worker n).stage (asked_for_votes.worker n)))
        ∙ ap (λ (v : WorkerSeen). filter (λ (z : ℕ × Message). z.0 == d) (replay.closes sight P n true v.stage v)) at_asked.worker
        ∙ closes_votes S sight P shared w log cs k stands n me up true asking part told.it.tid_is shade.stores d inside
        ∙ ap (λ ss. filter (λ (z : ℕ × Message). z.0 == d) (to_all ss (m.Commit tid))) none

    -- what it decides is noted
    noted_is : cs ++ noted_outside sight.has act.notes ≡ ds
    noted_is = ap (λ b. cs ++ cond (not b) (c ∷ []) []) me.outside

    decided_recorded : (x : Logged) → IsLogged n act.notes x → Recorded S sight P n (stands_after S sight P here (deals ds n) act) (log ++ x ∷ [])
    decided_recorded x logged =
        let old = records S sight P shared w log cs k stands n me in
        record {
          own = λ d i. elim (in_append d (deals cs n) (c ∷ []) (subst (In d) (deals_more cs c) i)) [
            | inl before ↦ old.own d before
            | inr new ↦ ap (λ (z : Commit). z.tid.worker) (in_one d c new)
          ];
          ended = λ d i. elim (in_append d (deals cs n) (c ∷ []) (subst (In d) (deals_more cs c) i)) [
            | inl before ↦ told_before decision (λ t. refl) x logged d before ∙ old.ended d before
            | inr new ↦
                let same = in_one d c new in
                ap (λ (z : Commit). changes_of z.tid (log ++ x ∷ [])) same ∙ told_it decision (λ t. refl) x logged ∙ ap (λ (z : Commit). changed_names (parts_by S z)) (sym same)
          ];
          asked = λ waits. absurd waits;
          later = told_later decision (λ t. refl) x logged;
        }

    decides_goes : Makes S sight P w log cs k n [] (ended_by []) []
    decides_goes x logged v lands =
        subst (λ zs. Did S sight P v (log ++ x ∷ []) zs k entries act.sends) (sym noted_is)
        (record {
          shadow = shadow_worker S sight P shared w v log cs ds k n me act lands stands.shadow (after sight P k entries) (committed sight P n asking.stage asking)
              (leaves sight P whole ++ k.table) x at_closed logged (ended_own, ((λ t ne. refl), ((λ t ne. refl), tt)))
              (λ z ne. deals_others cs c z ne)
              (record {
                keeps = decided_keeps S sight P shared w log cs k stands n me up ready (subst IsEnded (sym e) tt) nobody (telling a full) refl refl refl asking part asking_keeps refl shade;
                phase = refl;
              })
              (decided_recorded x logged)
              (decided_tabled S sight P shared w log cs k stands n me up ready (subst IsEnded (sym e) tt) nobody (telling a full) refl refl refl v
              (lands_noting n act (decides S.rights S.cache n (kept S w n) (telling a full) whole) w v refl refl refl lands));
          tells = λ d inside. nothing_said d inside ∙ sym (ap (λ ss. filter (λ (z : ℕ × Message). z.0 == d) (to_all ss (m.Commit tid))) none);
        })

  by_stores : (ss : List ℕ) → stores_of whole ≡ ss → Makes S sight P w log cs k n [] (ended_by ss) []
  by_stores [] all = decides_goes all
  by_stores (s ∷ ss) all = asks_goes s ss all

  pub ended_goes : Makes S sight P w log cs k n [] (ends S.rights S.cache n (kept S w n) value a full (parts_of a.answers full)) []
  ended_goes = by_stores (stores_of whole) refl
