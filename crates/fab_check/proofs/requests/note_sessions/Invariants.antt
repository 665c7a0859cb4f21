use Rattle.std.proofs.Common.{◌≡◌, drop}
use Rattle.std.specs.List.{flat_map}
use Rattle.fab_labelling.specs.Obligations.{session_owes}
use Rattle.fab_check.specs.Noted.{all_noted}
use Rattle.fab_check.proofs.requests.note_sessions.Given as goal

abbrev pub invariant-loop-session : goal.invariant-loop-session
invariant-loop-session l = record {
  owes : all_noted l.verdicts (flat_map (session_owes l.count) (drop l.session-index l.sessions)) ≡ all_noted l.initial.verdicts (flat_map (session_owes l.count) l.sessions);
  start : l.verdicts.start ≡ l.initial.verdicts.start;
}
