-- An accepted bundle has few events, and its roots stand at their numbers.
use Rattle.std.specs.Prelude.{◌≡◌, ◌≤◌, length, None}
use Rattle.std.proofs.Common.{sym, ◌∙◌, subst, arith}
use Rattle.std.proofs.lemmas.List.{length-map}
use Rattle.fab_language.specs.Numbers.{event_of, resolved}
use Rattle.fab_tree.specs.declared.start.Start.{Start}
use Rattle.fab_tree.specs.declared.resolved.Resolved.{Resolved}
use Rattle.fab_tree.specs.Limits.{first_passed}
use Rattle.fab_tree.proofs.Within.{is_within}
use Rattle.fab_lines.specs.Numbered.{AreNumbered}
use Rattle.fab_evaluation.proofs.RootObjects.{numbered}
use Rattle.fab_node.specs.Standing.{GivenModel, IsGiven}

few_in : (s : Start) → first_passed s ≡ None → length s.schedule ≤ 100000
few_in s limits = (is_within s limits).events

few_resolved : (s : Start) → first_passed s ≡ None → length (resolved s).schedule ≤ 100000
few_resolved s limits = let n = length-map s.schedule (event_of s) in let few = few_in s limits in omega (arith, n, few)

module _ (g : GivenModel) (given : IsGiven g) (program : Resolved) (same : program ≡ g.program) where
  pub few_events : length program.schedule ≤ 100000
  few_events = subst (λ (r : Resolved). length r.schedule ≤ 100000) (given.program ∙ sym same) (few_resolved given.start given.accepted.within)

  pub are_numbered : AreNumbered program.roots
  are_numbered = subst (λ (r : Resolved). AreNumbered r.roots) (given.program ∙ sym same) (numbered given.start)
