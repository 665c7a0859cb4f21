use Rattle.std.proofs.Common.{◌≡◌, drop}
use Rattle.std.specs.List.{flat_map}
use Rattle.fab_labelling.specs.Obligations.{request_owes}
use Rattle.fab_check.specs.Noted.{all_noted}
use Rattle.fab_check.proofs.requests.note_requests.Given as goal

abbrev pub invariant-loop-asked : goal.invariant-loop-asked
invariant-loop-asked l = record {
  owes : all_noted l.verdicts (flat_map (request_owes l.count) (drop l.asked-index l.requests)) ≡ all_noted l.initial.verdicts (flat_map (request_owes l.count) l.requests);
  start : l.verdicts.start ≡ l.initial.verdicts.start;
}
