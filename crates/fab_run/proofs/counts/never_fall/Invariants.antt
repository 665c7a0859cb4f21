use Rattle.std.proofs.Common.{◌≤◌, length}
use Rattle.std.specs.List.{AllByRecursion}
use Rattle.fab_reads.specs.Reads.{NeverFall}
use Rattle.fab_run.proofs.counts.never_fall.Given as goal

-- none of all falls exactly where none of those that are left does, and none of these is less than the last one
abbrev pub invariant-loop-count : goal.invariant-loop-count
invariant-loop-count l = record {
  back : NeverFall l.rest → AllByRecursion (λ count. l.last ≤ count) l.rest → NeverFall l.counts;
  on : NeverFall l.counts → NeverFall l.rest × AllByRecursion (λ count. l.last ≤ count) l.rest;
}

abbrev pub decreases-loop-count : goal.decreases-loop-count
decreases-loop-count l = length l.rest
