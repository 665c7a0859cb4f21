use Rattle.std.proofs.Common.{[]}
use Rattle.fab_marks.proofs.Each.{all_events, rows, titles}
use Rattle.fab_marks.proofs.laws.each_event_has_its_mark.Goals as goal

pub returns : goal.returns
returns c = record {
  events = λ r set past drawn. all_events r set past [] 1 drawn;
  titles = λ r set past drawn. titles r set past [] 1 drawn;
  rows = λ r set past drawn. rows r set past [] 1 drawn;
}
