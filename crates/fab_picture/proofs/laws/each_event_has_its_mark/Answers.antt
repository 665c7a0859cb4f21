use Rattle.fab_picture.proofs.Shown.{its_marks, its_rows, its_titles}
use Rattle.fab_picture.proofs.laws.each_event_has_its_mark.Goals as goal

pub returns : goal.returns
returns c = record { marks = its_marks; titles = its_titles; rows = its_rows }
