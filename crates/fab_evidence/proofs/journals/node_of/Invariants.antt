use Rattle.std.proofs.Common.{◌≡◌, ◌≤◌, length}
use Rattle.fab_reports.specs.Reading.{kind_from, kind_at}
use Rattle.fab_evidence.specs.Reading.{name_before}
use Rattle.fab_evidence.proofs.journals.node_of.Given as goal

abbrev pub invariant-nodes : goal.invariant-nodes
invariant-nodes l = record {
  going : kind_from (name_before l.program) l.longest l.rest l.bytes ≡ kind_at (name_before l.program) l.nodes l.bytes;
  within : l.longest ≤ length l.bytes;
}

abbrev pub decreases-nodes : goal.decreases-nodes
decreases-nodes l = length l.rest
