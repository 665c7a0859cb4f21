use Rattle.fab_picture.proofs.Feet.{notes_on}
use Rattle.fab_picture.proofs.notes.put_notes.Goals as goal

pub loop-index-preserved : goal.loop-index-preserved
loop-index-preserved c =
    notes_on c.args.first c.args.feet.now c.loop-index.index c.index-feet-index.result c.in_ok-note_at.field-0 c.args.out.now c.loop-index.out c.push.new.self
    c.loop-index-test.true c.index-feet-index.is c.in_ok-note_at.ensures c.in_ok-push.ensures.ok c.loop-index.invariant
