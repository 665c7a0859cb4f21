use Rattle.std.proofs.Common.{◌≡◌, ◌+◌, ◌++◌, ◌≤◌, length, map, reverse}
use Rattle.std.specs.Prelude.{vec_capacity, vec_len}
use Rattle.fab_core.specs.Cores.{count_in}
use Rattle.fab_core.specs.Telling.{those_in}
use Rattle.fab_core.proofs.reading.journals_of.Given as goal

-- the journals of those that are left come behind those that were taken
abbrev pub invariant-nodes : goal.invariant-nodes
invariant-nodes g l =
    let J = g.J.Journal in
    record {
      taken : map (λ journal. record { content = J.content journal; synced = J.synced journal; room = J.room journal; faults = J.faults journal; sure = J.sure journal }) l.journals.items
          ++ map (λ node. node.journal) (those_in (reverse l.rest.items)) ≡ map (λ node. node.journal) (those_in l.fn.nodes.items);
      places : length l.journals.items + count_in l.rest.items ≤ vec_capacity l.journals;
    }

abbrev pub decreases-nodes : goal.decreases-nodes
decreases-nodes g l = vec_len l.rest
