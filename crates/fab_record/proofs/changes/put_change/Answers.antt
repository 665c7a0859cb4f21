use Rattle.fab_record.specs.Views.{sight_in}
use Rattle.fab_record.proofs.Changing.{change_put}
use Rattle.fab_record.proofs.changes.put_change.Goals as goal

pub returns-in_ok-insert : goal.returns-in_ok-insert
returns-in_ok-insert c =
    change_put (sight_in c.args.sights.now) c.args.tid c.args.oid c.shows.result c.args.changed.now.keys c.insert.new.self.keys
    c.at_store.result c.shows.ensures c.if-shows.true c.at_store.ensures c.in_ok-insert.ensures.keys
