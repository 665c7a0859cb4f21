use Rattle.fab_held.proofs.Requests.{meant_held, course_held}
use Rattle.fab_held.proofs.laws.objects_are_held.Goals as goal

pub returns : goal.returns
returns c = record {
  once = λ r known request tid fuel well. meant_held r well known request tid fuel;
  in_turn = λ r known requests well. course_held r well known requests;
}
