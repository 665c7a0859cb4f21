use Rattle.fab_authority.proofs.Callings.{all_next}
use Rattle.fab_authority.proofs.authority.gain_all.Goals as goal
use Rattle.fab_authority.proofs.authority.gain_all.Goals.{else-gain, then-gain}

pub loop-call-preserved : goal.loop-call-preserved
loop-call-preserved c =
    let inv = c.loop-call.invariant in
    let both = all_next c.args.calls.now c.args.sets.now c.loop-call.sets c.gain.new.sets c.loop-call.more c.gain.result c.loop-call.call-index c.loop-call-test.true inv.grown inv.settled c.gain.ensures.grown c.gain.ensures.settled in
    elim c.if-gain.branch [
      | then-gain w ↦ record { grown = both.0; settled = rw w.more-is (rw w.if-gain.true at both.1) }
      | else-gain w ↦ record { grown = both.0; settled = rw w.more-is (rw w.if-gain.false at both.1) }
    ]
