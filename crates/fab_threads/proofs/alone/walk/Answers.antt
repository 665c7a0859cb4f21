use Rattle.std.specs.Prelude.{All}
use Rattle.std.proofs.Common.{◌∙◌, arith, sym, subst}
use Rattle.fab_tree.specs.declared.resolved.Resolved.{Resolved}
use Rattle.fab_threads.specs.Counts.{IsReady}
use Rattle.fab_threads.proofs.Keeping.{one_left}
use Rattle.fab_threads.proofs.alone.walk.Goals as goal
use Rattle.fab_threads.proofs.alone.walk.Goals.{in-Evaluate+in_ok-push-in-Evaluate, in-Acted}

pub loop-node-preserved : goal.loop-node-preserved
loop-node-preserved g c =
    let b = c.args.bench.now in
    let i = c.loop-node.invariant in
    let e = c.turns_of.ensures in (
      e.program ∙ i.0,
      e.given ∙ i.1,
      (λ n. e.sure n ∙ i.2 n),
      (let grown = e.grown in let before = i.3 in omega arith),
      elim c.match-turn.branch [
        | in-Evaluate+in_ok-push-in-Evaluate w ↦
            one_left b c.loop-node.jobs c.match-turn.jobs w.in-Evaluate.job (w.jobs-is ∙ w.in_ok-push-in-Evaluate.ensures.ok) i.4
            (subst (λ (p : Resolved). IsReady p w.in-Evaluate.job) i.0 (rw w.in-Evaluate.is at c.in_ok-turn.ensures.job))
        | in-Acted w ↦ subst (All (IsReady b)) (sym w.jobs-is) i.4
      ],
    )
