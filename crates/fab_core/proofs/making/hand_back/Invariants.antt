use Rattle.std.proofs.Common.{◌≡◌, ◌+◌, ◌++◌, ◌≤◌, length, map, reverse}
use Rattle.std.specs.Prelude.{vec_capacity, vec_len}
use Rattle.fab_core.specs.Cores.{count_in}
use Rattle.fab_core.proofs.Left.{journals_in}
use Rattle.fab_core.proofs.making.hand_back.Given as goal

abbrev pub invariant-made : goal.invariant-made
invariant-made g l =
    let J = g.J.Journal in
    record {
      taken : journals_in l.made.items
          ++ reverse (map (λ journal. record { content = J.content journal; synced = J.synced journal; room = J.room journal; faults = J.faults journal; sure = J.sure journal }) l.journals.items)
          ≡ journals_in l.fn.nodes.items
          ++ reverse (map (λ journal. record { content = J.content journal; synced = J.synced journal; room = J.room journal; faults = J.faults journal; sure = J.sure journal }) l.fn.rest.items);
      places : length l.journals.items + count_in l.made.items ≤ vec_capacity l.journals;
    }

abbrev pub decreases-made : goal.decreases-made
decreases-made g l = vec_len l.made
