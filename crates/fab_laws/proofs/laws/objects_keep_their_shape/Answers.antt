use Rattle.fab_laws.proofs.Shapes.{shape_kept, course_shaped}
use Rattle.fab_laws.proofs.laws.objects_keep_their_shape.Goals as goal

pub returns : goal.returns
returns c = record {
  once = λ program known request tid fuel fitting. shape_kept program fitting tid known request fuel;
  in_turn = λ program known requests fitting. course_shaped program fitting known requests;
}
