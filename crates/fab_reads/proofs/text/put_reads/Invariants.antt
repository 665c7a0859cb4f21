use Rattle.std.proofs.Common.{◌≡◌, ◌+◌, ◌≤◌, ◌++◌, length, suc}
use Rattle.std.specs.List.{AllByRecursion}
use Rattle.fab_rights.specs.Computed.{has_bit}
use Rattle.fab_reads.specs.Reads.{NeverFall, lines_from}
use Rattle.fab_reads.specs.Walks.{map_after, values_there}
use Rattle.fab_reads.proofs.text.put_reads.Given as goal

-- the lines so far, and those from here on, are all lines; the numbers to come are no smaller than where the walk stands
abbrev pub invariant-loop-count : goal.invariant-loop-count
invariant-loop-count l = record {
  there : l.gone ≤ length l.commits;
  later : AllByRecursion (λ count. l.gone ≤ count) l.rest;
  rising : NeverFall l.rest;
  here : l.map ≡ map_after l.program (has_bit l.classes) l.commits l.gone;
  number : l.number + length l.rest ≡ length l.counts;
  lines : l.out ++ lines_from l.program (values_there l.program (has_bit l.classes) l.commits l.oid) (suc l.number) l.rest
      ≡ l.initial.out ++ lines_from l.program (values_there l.program (has_bit l.classes) l.commits l.oid) 1 l.counts;
}

abbrev pub decreases-loop-count : goal.decreases-loop-count
decreases-loop-count l = length l.rest
