use Rattle.std.proofs.Common.{[], ◌∷◌, ◌∙◌}
use Rattle.std.proofs.lemmas.Result.{on_ok_weaker}
use Rattle.fab_holes.specs.Flowing.{block_flows}
use Rattle.fab_infer.proofs.Gathering.{with_flows}
use Rattle.fab_infer.proofs.flows.put_method.Goals as goal

pub returns : goal.returns
returns c =
    on_ok_weaker c.put_block.result
    (λ h. h ∙ (λ i. with_flows c.args.count c.args.flows.now (block_flows c.args.classes.now c.args.methods.now (c.locals.ensures i) [] (c.body.ensures i) (c.begin.ensures i ∷ []))))
    c.put_block.ensures
