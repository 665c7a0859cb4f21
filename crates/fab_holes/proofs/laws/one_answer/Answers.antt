use Rattle.fab_holes.proofs.Solving.{one_choice, one_place, one_reason, not_both, not_neither, not_either, each_has}
use Rattle.fab_holes.proofs.laws.one_answer.Goals as goal

pub returns : goal.returns
returns c = record {
  choice = one_choice;
  place = one_place;
  reason = one_reason;
  solved_or_least = not_both;
  solved_or_refused = not_neither;
  least_or_refused = not_either;
  some = each_has;
}
