use Rattle.std.proofs.Common.{◌≡◌, ◌++◌, drop}
use Rattle.fab_language.specs.Evaluation.{outcomes_text}
use Rattle.fab_evaluation.specs.Asking.{asked}
use Rattle.fab_evaluation.proofs.outcomes.put_outcomes.Given as goal

abbrev pub invariant-loop-request : goal.invariant-loop-request
invariant-loop-request l = l.out ++ outcomes_text l.start (asked (drop l.request-index l.requests)) l.others ≡ l.fn.out ++ outcomes_text l.start (asked l.requests) l.endings
