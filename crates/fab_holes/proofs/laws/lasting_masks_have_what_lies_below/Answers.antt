use Rattle.fab_holes.proofs.Lasting.{lasting, pass_sound}
use Rattle.fab_holes.proofs.laws.lasting_masks_have_what_lies_below.Goals as goal

pub returns : goal.returns
returns c = record {
  no_more = λ start masks named sound. pass_sound start named masks sound;
  exact = λ start masks named long sound leaves. lasting start named masks long sound leaves;
}
