use Rattle.fab_left.proofs.Stemming.{act_stems, end_stems, popped_stems, entered_stems, passed_stems, returned_stems, result_end_stems, caught_stems}
use Rattle.fab_left.proofs.laws.steps_leave_no_new_objects.Goals as goal

pub returns : goal.returns
returns c = record {
  acts = λ tid known m does ks p s ss t u d split h e. act_stems tid known m does split ks p s ss t u h d e;
  at_end = λ tid known m does ks p s ss t u e split h i. end_stems tid known m does split ks p s ss t u h e i;
  gone = popped_stems;
  entered = entered_stems;
  passes = λ tid known m does ks p target v u w split h e. passed_stems tid known m does split ks p target v u w h e;
  given_back = λ tid known m does ks callee caller locals target t u w v split h e i.
      returned_stems tid known m does split ks callee caller locals target t u h v w e i;
  result_at_end = λ tid known m does ks callee caller locals target t u e split h i.
      result_end_stems tid known m does split ks callee caller locals target t u h e i;
  caught = caught_stems;
}
