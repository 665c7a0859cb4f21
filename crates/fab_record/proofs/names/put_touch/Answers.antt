use Rattle.fab_record.specs.Views.{sight_in}
use Rattle.fab_record.proofs.Naming.{touch_left, touch_put}
use Rattle.fab_record.proofs.names.put_touch.Goals as goal

pub returns-in_ok-insert : goal.returns-in_ok-insert
returns-in_ok-insert c =
    touch_put (sight_in c.args.sights.now) c.args.touch.now c.is_in_view.result c.args.names.now.keys c.insert.new.self.keys c.is_in_view.ensures c.if-is_in_view.true c.in_ok-insert.ensures.keys

pub returns-else-is_in_view : goal.returns-else-is_in_view
returns-else-is_in_view c = touch_left (sight_in c.args.sights.now) c.args.touch.now c.is_in_view.result c.args.names.now.keys c.is_in_view.ensures c.if-is_in_view.false
