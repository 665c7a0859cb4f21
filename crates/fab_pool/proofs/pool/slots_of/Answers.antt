use Rattle.std.specs.Prelude.{◌++◌, ◌∷◌, [], List}
use Rattle.std.specs.Vec.Iter.{into_iter_items}
use Rattle.std.proofs.Common.{ap, ◌∙◌}
use Rattle.std.proofs.lemmas.List.Elements.{All-rest}
use Rattle.fab_eval.specs.declared.job.Job.{Job}
use Rattle.fab_pool.specs.Jobs.{IsReady}
use Rattle.fab_pool.proofs.Lists.{one_further}
use Rattle.fab_pool.proofs.pool.slots_of.Goals as goal

pub loop-job-preserved : goal.loop-job-preserved
loop-job-preserved c =
    let i = c.loop-job.invariant in
    let next = c.in-Some.ensures.steps in
    let front = c.loop-job.slots.items in
    let before = into_iter_items c.loop-job.job-iterator in
    let after = into_iter_items c.next.new.self in (
      ap (λ (l : List Job). l ++ after) (c.in_ok-push.ensures.items ∙ ap (λ (x : Job). front ++ x ∷ []) c.new.ensures) ∙ one_further front before after c.args.jobs c.in-Some.job i.0 next.0,
      All-rest IsReady c.in-Some.job after before next.0 i.1,
    )
