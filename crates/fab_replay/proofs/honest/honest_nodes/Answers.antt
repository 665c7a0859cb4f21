use Rattle.std.proofs.Common.{sym, ◌∙◌}
use Rattle.fab_core.specs.Starts.{given_by}
use Rattle.fab_core.specs.Honest.{honest_up}
use Rattle.fab_replay.proofs.Numbered.{up_with, up_without}
use Rattle.fab_replay.proofs.honest.honest_nodes.Goals as goal
use Rattle.fab_replay.proofs.honest.honest_nodes.Goals.{then-is_honest+in_ok-push, else-is_honest}

pub loop-number-init : goal.loop-number-init
unfolding honest_up
loop-number-init c = c.new-nodes.ensures

pub loop-number-preserved : goal.loop-number-preserved
loop-number-preserved c =
    let g = given_by c.args.program.now c.args.rights.now in
    let n = c.loop-number.number in
    elim c.if-is_honest.branch [
      | then-is_honest+in_ok-push w ↦
          up_with g n c.loop-number.nodes c.if-is_honest.nodes (sym c.is_honest.ensures ∙ w.if-is_honest.true) c.loop-number.invariant (w.nodes-is ∙ w.in_ok-push.ensures.ok)
      | else-is_honest w ↦ w.nodes-is ∙ up_without g n c.loop-number.nodes (sym c.is_honest.ensures ∙ w.if-is_honest.false) c.loop-number.invariant
    ]
