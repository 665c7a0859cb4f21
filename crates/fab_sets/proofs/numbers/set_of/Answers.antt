use Rattle.fab_sets.proofs.Listing.{listed_step}
use Rattle.fab_sets.proofs.numbers.set_of.Goals as goal

pub loop-number-preserved : goal.loop-number-preserved
loop-number-preserved c =
    listed_step c.loop-number.set.keys c.insert.new.self.keys c.args.numbers.now c.loop-number.number-index _
    c.loop-number-test.true c.in_ok-insert.ensures.keys c.loop-number.invariant
