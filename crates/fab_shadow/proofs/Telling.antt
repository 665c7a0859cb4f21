-- What an evaluation of a worker outside the set tells: behind it the replay has all that it touched and downgraded in view.
use Rattle.std.proofs.Common.{◌≡◌, ℕ, true, List, [], ◌++◌, map, drop, length, sym, ap, ◌∙◌, subst}
use Rattle.std.specs.List.{filter}
use Rattle.std.proofs.Math.Seq.{drop-append_seam}
use Rattle.std.proofs.lemmas.List.{append-nil, map-append}
use Rattle.std.proofs.lemmas.List.Elements.{filter-append}
use Rattle.fab_base.specs.declared.object.Oid.{Oid}
use Rattle.fab_base.specs.declared.object.Value.{Value}
use Rattle.fab_base.specs.FlatMap.{is_among}
use Rattle.fab_language.specs.Meaning.{Meant}
use Rattle.fab_net.specs.declared.note.Commit.{Commit}
use Rattle.fab_net.specs.declared.note.Logged.{Logged}
use Rattle.fab_world.specs.Machine.{Setting, World, meant}
use Rattle.fab_world.specs.Workers as workers
use Rattle.fab_world.specs.Workers.{Act, Attempt, Phase, needs, new_touches, new_downs, request_of, resumes_at, closed, closes, noting, tid_of}
use Rattle.fab_release.specs.declared.release.Release.{Release}
use Rattle.fab_release.specs.Sights.{Sight, Public}
use Rattle.fab_release.specs.Record.{downs_to, gots_to, is_in_view, seen_by}
use Rattle.fab_release.specs.Replay.{Rebuilt, WorkerSeen}
use Rattle.fab_isolation.specs.Law.{IsShared}
use Rattle.fab_isolation.specs.Owed.{given_by, is_seen}
use Rattle.fab_integrity.proofs.Invariant.{IsWorker, Standing, standing}
use Rattle.fab_shadow.proofs.Shadow.{never, Stands, Evaluates, InPhase, Keeps, seen_names, values_given}
use Rattle.fab_shadow.proofs.Fold.{after, after_append, at_worker_refl, tells, tells_append}
use Rattle.fab_shadow.proofs.Lists.{filter_of_map, map_twice}
use Rattle.fab_shadow.proofs.Here.{same_tid, shadows}
use Rattle.fab_shadow.proofs.Knowing.{knows_as}
use Rattle.fab_shadow.proofs.Gots.{GotAll, downs_quiet, downs_told, gets_all, versioned}
use Rattle.fab_shadow.proofs.Outcomes.{ToldAll}

module _ (S : Setting) (sight : Sight) (P : Public) (shared : IsShared S sight P) (w : World) (log : List Logged) (cs : List Commit) (k : Rebuilt)
    (stands : Stands S sight P w log cs k) (n : ℕ) (me : IsWorker S sight.has never n) (up : (w.node n).up ≡ true) (evaluating : (w.node n).attempt.phase ≡ workers.Evaluating) where
  abbrev pub a : Attempt
  a = (w.node n).attempt

  abbrev pub here : Standing
  here = standing S sight.has never w cs n

  abbrev pub y : WorkerSeen
  y = k.worker n

  abbrev pub full : Meant
  full = meant S w n

  pub keeps : Keeps S sight P here y
  keeps = (shadows S sight P shared w log cs k stands n me).keeps

  ev : Evaluates S sight P n here log y
  ev = subst (λ q. InPhase S sight P n q here log y) evaluating (shadows S sight P shared w log cs k stands n me).phase

  -- ---- what is told now

  abbrev pub downs : List (ℕ × Value)
  downs = new_downs a full

  abbrev pub touches : List (ℕ × Oid × ℕ)
  touches = new_touches a full

  downs_are : downs ≡ ev.more_downs.0
  downs_are = ap (λ i. drop i full.downs) ev.told.downed ∙ ap (drop (length ev.downs)) ev.more_downs.1 ∙ drop-append_seam ev.downs ev.more_downs.0

  touches_are : touches ≡ map (versioned S sight P shared w log cs k stands n me) ev.more_touches.0
  touches_are =
      ap (map (versioned S sight P shared w log cs k stands n me))
      (ap (λ i. drop i full.touches) ev.told.touched ∙ ap (drop (length ev.touches)) ev.more_touches.1 ∙ drop-append_seam ev.touches ev.more_touches.0)

  abbrev pub given_now : WorkerSeen
  given_now = record y { given = y.given ++ map (λ d. d.1) (filter (λ d. sight.into_view d.0) downs) }

  -- all that it downgraded into view is given
  given_all : given_now.given ≡ given_by sight full
  given_all =
      ap (λ g. g ++ values_given S sight P downs) ev.told.given ∙ ap (λ ds. values_given S sight P ev.downs ++ values_given S sight P ds) downs_are
      ∙ sym (ap (map (λ (d : ℕ × Value). d.1)) (filter-append (λ (d : ℕ × Value). sight.into_view d.0) ev.downs ev.more_downs.0)
      ∙ map-append (λ (d : ℕ × Value). d.1) (filter (λ (d : ℕ × Value). sight.into_view d.0) ev.downs) (filter (λ (d : ℕ × Value). sight.into_view d.0) ev.more_downs.0))
      ∙ ap (values_given S sight P) (sym ev.more_downs.1)

  abbrev pub first : Rebuilt
  first = after sight P k (downs_to sight n downs)

  abbrev pub gots : List Release
  gots = gots_to sight n (seen_by sight n log) touches

  pub got : GotAll S sight P shared w log cs k stands n me first given_now gots
  got =
      subst (λ ts. GotAll S sight P shared w log cs k stands n me first given_now (gots_to sight n (seen_by sight n log) ts)) (sym touches_are)
      (gets_all S sight P shared w log cs k stands n me ev.more_touches.0 first given_now (seen_by sight n log) ev.touches
      (downs_told sight P k n downs k y k.table (at_worker_refl k n))
      (record { request_is = ev.request; tid_is = same_tid S sight P shared w log cs k stands n me y keeps up; given_is = given_all })
      (knows_as S sight P (seen_names S sight P ev.touches) (seen_by sight n log) a.answers y.known (λ o. ap (is_among o) (sym ev.told.seen)) ev.told.knows)
      (λ o. ap (is_among o) ev.told.seen) ev.more_touches.1)

  abbrev pub second : Rebuilt
  second = after sight P first gots

  abbrev pub told_now : WorkerSeen
  told_now = record given_now { known = got.known }

  pub all_told : ToldAll S sight P shared w log cs k stands n me up second told_now
  all_told = record {
    at = got.at;
    keeps = record {
      boot = keeps.boot;
      number = keeps.number;
      commits = keeps.commits;
      parties = keeps.parties;
      wide = keeps.wide;
      wide_too = keeps.wide_too;
      cached = keeps.cached;
    };
    stage = ev.stage;
    it = record { request_is = ev.request; tid_is = same_tid S sight P shared w log cs k stands n me y keeps up; given_is = given_all };
    knows = got.knows;
  }

  -- and the log says so
  pub seen_all : seen_by sight n log ++ map (λ (x : ℕ × Oid × ℕ). x.1) (filter (is_in_view sight) touches) ≡ seen_names S sight P full.touches
  seen_all =
      ap (λ os. os ++ map (λ (x : ℕ × Oid × ℕ). x.1) (filter (is_in_view sight) touches)) ev.told.seen
      ∙ ap (λ ts. seen_names S sight P ev.touches ++ map (λ (x : ℕ × Oid × ℕ). x.1) (filter (is_in_view sight) ts)) touches_are
      ∙ ap (λ ts. seen_names S sight P ev.touches ++ map (λ (x : ℕ × Oid × ℕ). x.1) ts)
      (filter_of_map (is_in_view sight) (versioned S sight P shared w log cs k stands n me) ev.more_touches.0)
      ∙ ap (λ os. seen_names S sight P ev.touches ++ os)
      (map_twice (λ (x : ℕ × Oid × ℕ). x.1) (versioned S sight P shared w log cs k stands n me) (filter (is_seen sight) ev.more_touches.0))
      ∙ sym (ap (map (λ (t : ℕ × Oid). t.1)) (filter-append (is_seen sight) ev.touches ev.more_touches.0)
      ∙ map-append (λ (t : ℕ × Oid). t.1) (filter (is_seen sight) ev.touches) (filter (is_seen sight) ev.more_touches.0))
      ∙ ap (seen_names S sight P) (sym ev.more_touches.1)

  -- ---- the entries in order

  pub all_after : (rest : List Release) → after sight P k (downs_to sight n downs ++ gots ++ rest) ≡ after sight P second rest
  all_after rest =
      after_append sight P k (downs_to sight n downs ++ gots) rest ∙ ap (λ j. after sight P j rest) (after_append sight P k (downs_to sight n downs) gots)

  pub all_tells : (rest : List Release) → tells sight P k (downs_to sight n downs ++ gots ++ rest) ≡ tells sight P second rest
  all_tells rest =
      tells_append sight P k (downs_to sight n downs ++ gots) rest
      ∙ ap (λ xs. xs ++ tells sight P (after sight P k (downs_to sight n downs ++ gots)) rest)
      (tells_append sight P k (downs_to sight n downs) gots ∙ ap (λ xs. xs ++ tells sight P first gots) (downs_quiet sight P k n downs k) ∙ got.quiet)
      ∙ ap (λ j. tells sight P j rest) (after_append sight P k (downs_to sight n downs) gots)

  abbrev pub told_with : List Release → List Release
  told_with rest = downs_to sight n downs ++ gots ++ rest

  -- with nothing behind
  pub entries_nil : (rest : List Release) → told_with rest ≡ ((told_with rest ++ []) ++ [])
  entries_nil rest = sym (append-nil (told_with rest ++ []) ∙ append-nil (told_with rest))

  -- so what is behind them, and what is said at them, is what the rest makes
  pub entries_are : (rest : List Release) → after sight P k ((told_with rest ++ []) ++ []) ≡ after sight P second rest
  entries_are rest = ap (after sight P k) (sym (entries_nil rest)) ∙ all_after rest

  pub says_are : (rest : List Release) → tells sight P k ((told_with rest ++ []) ++ []) ≡ tells sight P second rest
  says_are rest = ap (tells sight P k) (sym (entries_nil rest)) ∙ all_tells rest
