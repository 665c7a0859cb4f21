use Rattle.std.proofs.Common.{◌≡◌, ◌++◌, drop}
use Rattle.fab_language.specs.Evaluation.{in_turn}
use Rattle.fab_evaluation.specs.Asking.{asked}
use Rattle.fab_evaluation.proofs.sequence.run.Given as goal

-- what is left from here is the whole from the start
abbrev pub invariant-loop-request : goal.invariant-loop-request
invariant-loop-request l = record {
  endings : l.endings ++ (in_turn l.program.value l.map (asked (drop l.request-index l.requests))).endings ≡ (in_turn l.program.value l.initial.map (asked l.requests)).endings;
  map : (in_turn l.program.value l.map (asked (drop l.request-index l.requests))).map ≡ (in_turn l.program.value l.initial.map (asked l.requests)).map;
}
