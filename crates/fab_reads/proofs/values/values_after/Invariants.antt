use Rattle.std.proofs.Common.{◌≡◌, ◌≤◌, ◌++◌, length, map}
use Rattle.std.specs.List.{AllByRecursion}
use Rattle.fab_rights.specs.Computed.{has_bit}
use Rattle.fab_reads.specs.Reads.{NeverFall}
use Rattle.fab_reads.specs.Walks.{map_after, values_there}
use Rattle.fab_reads.proofs.values.values_after.Given as goal

-- what was read, and what is read from here on, is all that is to be read; the numbers to come are no smaller than where the walk stands
abbrev pub invariant-loop-count : goal.invariant-loop-count
invariant-loop-count l = record {
  there : l.gone ≤ length l.commits;
  later : AllByRecursion (λ count. l.gone ≤ count) l.rest;
  rising : NeverFall l.rest;
  here : l.map ≡ map_after l.program (has_bit l.classes) l.commits l.gone;
  read : l.rows ++ map (values_there l.program (has_bit l.classes) l.commits l.oid) l.rest ≡ map (values_there l.program (has_bit l.classes) l.commits l.oid) l.counts;
}

abbrev pub decreases-loop-count : goal.decreases-loop-count
decreases-loop-count l = length l.rest
