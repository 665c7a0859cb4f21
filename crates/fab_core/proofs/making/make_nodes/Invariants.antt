use Rattle.std.proofs.Common.{◌≡◌, ◌+◌, ◌++◌, ◌≤◌, [], length, map, reverse}
use Rattle.std.specs.Prelude.{vec_capacity}
use Rattle.std.specs.List.{AllByRecursion}
use Rattle.fab_core.specs.Cores.{count_in}
use Rattle.fab_core.specs.Honest.{AreFor, honest_up}
use Rattle.fab_core.specs.Starts.{AreAtStart, nodes_faults}
use Rattle.fab_core.proofs.Left.{IsHeaded, journals_in}
use Rattle.fab_core.proofs.making.make_nodes.Given as goal

abbrev pub invariant-numbers : goal.invariant-numbers
invariant-numbers g l =
    let J = g.J.Journal in
    record {
      started : AreAtStart l.given 0 l.nodes.items;
      long : length l.nodes.items ≡ l.number;
      taken : nodes_faults l.nodes.items ++ reverse (map (λ j. (J.faults j, J.sure j)) l.rest.items)
          ≡ reverse (map (λ j. (J.faults j, J.sure j)) l.fn.journals.items);
      empty : AllByRecursion (λ j. J.content j ≡ []) l.rest.items;
      headed : AreFor IsHeaded (honest_up l.given l.number) (journals_in l.nodes.items);
      places : length l.rest.items + count_in l.nodes.items ≤ vec_capacity l.rest;
    }
