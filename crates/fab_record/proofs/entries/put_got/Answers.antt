use Rattle.fab_record.specs.Places.{sight_at, touched_at}
use Rattle.fab_record.proofs.Telling.{got_put}
use Rattle.fab_record.proofs.entries.put_got.Goals as goal

pub returns : goal.returns
returns c =
    let p = c.args.place.now in
    got_put p.quiet (sight_at p) p.node c.args.touch.now c.is_in_view.result c.is_new.result c.args.out.now c.put_if.new.out c.args.fresh.now.keys c.insert.new.self.keys (touched_at p)
    c.is_in_view.ensures c.if-not-is_in_view.false c.is_new.ensures c.in_ok-put_if.ensures c.in_ok-insert.ensures.keys
