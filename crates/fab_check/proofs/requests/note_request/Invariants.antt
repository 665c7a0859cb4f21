use Rattle.std.proofs.Common.{◌≡◌, ◌-◌, map}
use Rattle.std.specs.List.{range_with_len}
use Rattle.fab_labelling.specs.Obligations.{answers_for, owe, request_owes}
use Rattle.fab_labelling.specs.declared.rule.LabelRule.TheVariants.{Authority}
use Rattle.fab_check.specs.Noted.{all_noted}
use Rattle.fab_check.proofs.requests.note_request.Given as goal

abbrev pub invariant-loop-p : goal.invariant-loop-p
invariant-loop-p l = record {
  owes : all_noted l.verdicts (map (λ p. owe Authority l.asked.at (answers_for l.asked.request.worker l.asked.request.method p)) (range_with_len l.p (l.count - l.p))) ≡ all_noted l.initial.verdicts (request_owes l.count l.asked);
  start : l.verdicts.start ≡ l.initial.verdicts.start;
}
