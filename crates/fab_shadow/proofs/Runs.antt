-- Every run, and the laws.
use Rattle.std.proofs.Common.{◌≡◌, ℕ, ◌+◌, ◌≤◌, true, false, not, IsTrue, List, [], ◌∷◌, ◌++◌, length, fold, refl, sym, ap, ◌∙◌, subst, arith}
use Rattle.std.specs.List.{flat_map}
use Rattle.std.proofs.lemmas.Bool.{and_parts}
use Rattle.std.proofs.lemmas.List.{append_assoc, append-nil, length-append}
use Rattle.fab_base.proofs.Lists.{few_pass}
use Rattle.fab_net.specs.declared.note.Commit.{Commit}
use Rattle.fab_net.specs.declared.note.Logged.{Logged}
use Rattle.fab_world.specs.Machine.{Setting, World, Move, form_of, step, enabled, are_enabled, logged, logs, runs, at_start, notes_at}
use Rattle.fab_world.specs.Serial.{IsRun, attempts_at, commit_in, commits_of}
use Rattle.fab_release.specs.Sights.{Sight, Public}
use Rattle.fab_release.specs.Record.{of_event, released_behind}
use Rattle.fab_release.specs.Replay as replay
use Rattle.fab_release.specs.Replay.{Rebuilt, sent_behind}
use Rattle.fab_release.specs.Isolation.{IsIsolated, posts_at}
use Rattle.fab_isolation.specs.Law.{IsShared, IsIsolation, AreIsolatedAlike, BundlesAreIsolated}
use Rattle.fab_isolation.proofs.Alike.{alike}
use Rattle.fab_isolation.proofs.Followed.{followed}
use Rattle.fab_settings.proofs.Gives.{gives_setting}
use Rattle.fab_settings.proofs.Meanings.{evaluates}
use Rattle.fab_integrity.proofs.Costs.{noted_outside}
use Rattle.fab_integrity.proofs.Counts.{Counted, counted_start, counted_step}
use Rattle.fab_integrity.proofs.Once.{commits_more}
use Rattle.fab_integrity.proofs.Runs.{counting, counts_grow, excludes_none, front_run, holds_run}
use Rattle.fab_integrity.proofs.Steps.{Holds}
use Rattle.fab_shadow.proofs.Shadow.{never, Shadow, Stands}
use Rattle.fab_shadow.proofs.Fold.{behind, sent_append}
use Rattle.fab_shadow.proofs.Bounds.{Bounded, bounded_start, bounded_step, bounded_low}
use Rattle.fab_shadow.proofs.Opening.{shadow_start}
use Rattle.fab_shadow.proofs.Steps.{any_steps}

module _ (S : Setting) (sight : Sight) (P : Public) (shared : IsShared S sight P) where
  abbrev posting : ℕ → List Move → ℕ
  posting count moves = fold (λ n move. n + posts_at (form_of move)) count moves

  posts_grow : (count : ℕ) (moves : List Move) → count ≤ posting count moves
  posts_grow count [] = omega arith
  posts_grow count (move ∷ moves) = let h = posts_grow (count + posts_at (form_of move)) moves in omega (arith, h)

  -- so far so many commits, attempts and posts, and integrity's invariant behind each front of the moves that are left
  pub record SoFar (w : World) (log : List Logged) (cs : List Commit) (k : Rebuilt) (moves : List Move) : Type 0 where
    pub shadow : Shadow S sight P w log cs k
    pub commits : ℕ
    pub tries : ℕ
    pub posts : ℕ
    pub counted : Counted S w commits tries
    pub listed : length cs ≤ commits
    pub bounded : Bounded S sight w (tries + posts)
    pub few : counting tries moves ≤ 4000000000
    pub few_posts : posting posts moves ≤ 10000
    pub holds : (front rest : List Move) → moves ≡ front ++ rest → Holds S sight.has never (runs S w front) (cs ++ commits_of sight.has (logs S w front))

  run_goes : (moves : List Move) (w : World) (log : List Logged) (cs : List Commit) (k : Rebuilt) → IsTrue (are_enabled S w moves) → SoFar w log cs k moves
      → (n d : ℕ) → sight.has n ≡ false → sight.has d ≡ true
      → (runs S w moves).sent n d ≡ w.sent n d ++ sent_behind sight P k (released_behind sight log (logs S w moves)) n d
  run_goes [] w log cs k can h n d out bad = sym (append-nil (w.sent n d))
  run_goes (move ∷ moves) w log cs k can h n d out bad =
      let p = and_parts (enabled S w (form_of move)) (are_enabled S (step S w move) moves) can in
      let grown = counts_grow (h.tries + attempts_at (form_of move)) moves in
      let posted = posts_grow (h.posts + posts_at (form_of move)) moves in
      let few = h.few in
      let few_posts = h.few_posts in
      let listed = h.listed in
      let all = h.counted.few in
      let now = h.holds [] (move ∷ moves) refl in
      let holds : Holds S sight.has never w cs = subst (Holds S sight.has never w) (append-nil cs) now in
      let stands : Stands S sight P w log cs k = record {
        holds = holds;
        shadow = h.shadow;
        low = λ s me o. bounded_low S sight P shared w (h.tries + h.posts) (omega (arith, grown, posted, few, few_posts)) h.bounded s me o;
        few = omega (arith, listed, all, grown, few);
      } in
      let r = any_steps S sight P shared w log cs k stands move p.0 (λ m. let low = h.counted.low m in omega (arith, low, grown, few)) in
      let short = few_pass (λ (c : Commit). not (sight.has c.worker)) (flat_map commit_in (logged S w move).notes) in
      let long = length-append cs (noted_outside sight.has (notes_at S w (form_of move))) in
      let entries = of_event sight log move.event (logged S w move) in
      run_goes moves (step S w move) (log ++ logged S w move ∷ []) (cs ++ noted_outside sight.has (notes_at S w (form_of move))) (behind sight P k entries) p.1
      (record {
        shadow = r.shadow;
        commits = h.commits + length (flat_map commit_in (logged S w move).notes);
        tries = h.tries + attempts_at (form_of move);
        posts = h.posts + posts_at (form_of move);
        counted = counted_step S w move h.commits h.tries p.0 h.counted;
        listed = omega (arith, listed, short, long);
        bounded = subst (Bounded S sight (step S w move)) (omega arith)
            (bounded_step S sight P shared w cs (form_of move) (h.tries + h.posts) holds p.0 h.bounded);
        few = few;
        few_posts = few_posts;
        holds = λ front rest e. subst (Holds S sight.has never (runs S (step S w move) front))
            (sym (commits_more S sight.has cs (logged S w move) (logs S (step S w move) front)))
            (h.holds (move ∷ front) rest (ap (λ ms. move ∷ ms) e));
      })
      n d out bad
      ∙ ap (λ xs. xs ++ sent_behind sight P (behind sight P k entries) (released_behind sight (log ++ logged S w move ∷ []) (logs S (step S w move) moves)) n d)
      (r.sent n d out bad)
      ∙ append_assoc (w.sent n d) (sent_behind sight P k entries n d) _
      ∙ ap (λ xs. w.sent n d ++ xs)
      (sym (sent_append sight P k entries (released_behind sight (log ++ logged S w move ∷ []) (logs S (step S w move) moves)) n d))

  -- each node outside the set has sent each of its nodes the public replay of what was released
  pub isolated : IsIsolated S sight P
  isolated moves n d run few out bad =
      run_goes moves (at_start S) [] [] (replay.at_start sight P) run.enabled
      (record {
        shadow = shadow_start S sight P shared;
        commits = 0;
        tries = 0;
        posts = 0;
        counted = counted_start S;
        listed = omega arith;
        bounded = bounded_start S sight P shared;
        few = run.few;
        few_posts = few;
        holds = λ front rest e. holds_run S sight.has never shared.setting shared.evaluates (excludes_none S sight.has shared.sight_is.hostile) front
            (front_run S front rest (subst (IsRun S) e run));
      })
      n d out bad

pub isolation : IsIsolation
isolation S sight P shared = isolated S sight P shared

pub isolated_alike : AreIsolatedAlike
isolated_alike S T sight P first second = alike S T sight P (isolated S sight P first) (isolated T sight P second)

-- an accepted bundle and a set of nodes give all that isolation asks
pub bundles_isolated : BundlesAreIsolated
bundles_isolated s rights nodes sees shows h =
    let given = followed s rights nodes sees shows h in
    isolated _ _ _ (record {
      setting = gives_setting s rights h.accepted;
      evaluates = evaluates s rights h.accepted;
      sight_is = given.0;
      public_is = given.1;
      followed = given.2;
    })
