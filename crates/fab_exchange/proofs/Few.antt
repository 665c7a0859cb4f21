-- A run that keeps the lines of an accepted bundle has few attempts and recoveries: 64 nodes with at most 100,000 requests and 1,000 lines each.
use Rattle.std.proofs.Common.{◌≡◌, ℕ, ◌+◌, ◌*◌, ◌≤◌, ◌<◌, List, [], ◌∷◌, length, ◌==◌, None}
use Rattle.std.proofs.Common.{refl, subst, arith}
use Rattle.std.specs.List.{filter, range_with_len, sum_by}
use Rattle.std.proofs.lemmas.List.{length-map}
use Rattle.std.proofs.lemmas.List.Sums.{sum_by-cons}
use Rattle.fab_base.proofs.Lists.{few_pass}
use Rattle.fab_tree.specs.declared.start.Start.{Start}
use Rattle.fab_tree.specs.declared.start.Session.{Session}
use Rattle.fab_tree.specs.declared.resolved.Crash.{Crash}
use Rattle.fab_tree.specs.declared.resolved.Resolved.{Resolved}
use Rattle.fab_tree.specs.Limits.{first_passed}
use Rattle.fab_tree.proofs.Within.{is_within}
use Rattle.fab_language.specs.Numbers.{crash_of, resolved}
use Rattle.fab_attempts.specs.Sessions.{requests_of}
use Rattle.fab_attempts.proofs.Programs.{asked_within}
use Rattle.fab_lined.specs.Lined.{begins_of, recoveries_of}
use Rattle.fab_lined.proofs.Begun.{are_few}
use Rattle.fab_lined.proofs.Lines.{few_crashes}
use Rattle.fab_lined.proofs.Sums.{sum_of_nodes}
use Rattle.fab_settings.specs.Settings.{lines_of}
use Rattle.fab_world.specs.Machine.{Move}
use Rattle.fab_world.specs.Serial.{IsRun, attempts}
use Rattle.fab_world.specs.Crashing.{KeepsLines}
use Rattle.fab_node.specs.Standing.{GivenModel, IsGiven}
use Rattle.fab_core.specs.Cores.{setting}
use Rattle.fab_core.proofs.Tables.{node_below}

module _ (s : Start) (limits : first_passed s ≡ None) where
  few_requests : (n : ℕ) → length (requests_of (resolved s) n) ≤ 100000
  few_requests n =
      let all : sum_by (λ (x : Session). length x.requests) s.sessions ≤ 100000 = (is_within s limits).requests in
      let own = asked_within s n s.sessions in omega (arith, all, own)

  few_lines : (n : ℕ) → length (lines_of (resolved s) n) ≤ 1000
  few_lines n =
      let all : length s.crashes ≤ 1000 = (is_within s limits).crashes in
      let mapped = length-map s.crashes (crash_of s) in
      let own = few_pass (λ (c : Crash). c.node == n) (resolved s).crashes in
      let seen : length (lines_of (resolved s) n) ≡ length (filter (λ (c : Crash). c.node == n) (resolved s).crashes) = length-map (filter (λ (c : Crash). c.node == n) (resolved s).crashes) (λ (c : Crash). record { after = c.after; keep = c.keep }) in
      omega (arith, all, mapped, own, seen)

-- what is at most so much for each is at most that for all
bounded : (f : ℕ → ℕ) → ((n : ℕ) → f n ≤ 809000) → (ns : List ℕ) → sum_by f ns ≤ 809000 * length ns
bounded f each [] = omega arith
bounded f each (n ∷ ns) =
    let here = each n in let later = bounded f each ns in let p = sum_by-cons f n ns in omega (arith, here, later, p)

module _ (g : GivenModel) (given : IsGiven g) (moves : List Move) (run : IsRun (setting g) moves) (keeps : KeepsLines (setting g) (lines_of g.program) moves) where
  requests_few : (n : ℕ) → length (requests_of g.program n) ≤ 100000
  requests_few n = subst (λ (r : Resolved). length (requests_of r n) ≤ 100000) given.program (few_requests given.start given.accepted.within n)

  lines_few : (n : ℕ) → length (lines_of g.program n) ≤ 1000
  lines_few n = subst (λ (r : Resolved). length (lines_of r n) ≤ 1000) given.program (few_lines given.start given.accepted.within n)

  at_each : (n : ℕ) → begins_of n moves + recoveries_of n moves ≤ 809000
  at_each n =
      let few = are_few (setting g) n moves run.enabled in
      let begun = few.0 in let back = few.1 in
      let made = few_crashes (setting g) (lines_of g.program) n moves keeps in
      let requests = requests_few n in let lines = lines_few n in
      omega (arith, begun, back, made, requests, lines)

  pub few_attempts : attempts moves < 4000000000
  few_attempts =
      let all = sum_of_nodes (setting g) (λ n is. node_below g.rights n given.accepted.workers given.accepted.stores is) moves run.enabled in
      let most = bounded (λ n. begins_of n moves + recoveries_of n moves) at_each (range_with_len 0 64) in
      let long : length (range_with_len 0 64) ≡ 64 = refl in omega (arith, all, most, long)
