use Rattle.fab_locks.proofs.Putting.{take_place}
use Rattle.fab_locks.proofs.index.Index.take.Goals as goal

pub returns : goal.returns
returns c = record {
  places = take_place c.args.tid c.args.self.now.places c.remove.new.self c.remove.ensures.updates.0;
  named = c.take_named.ensures;
  changed = c.take_changed.ensures;
}
