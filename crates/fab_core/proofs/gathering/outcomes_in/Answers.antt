use Rattle.std.proofs.Common.{◌+◌, [], ◌∷◌, ◌++◌, ap, sym, ◌∙◌}
use Rattle.fab_core.specs.Cores.{slot}
use Rattle.fab_nodes.specs.Seen.{outcome_in, outcomes_in}
use Rattle.fab_core.proofs.Ranges.{map_more}
use Rattle.fab_core.proofs.gathering.outcomes_in.Goals as goal

pub loop-request-preserved : goal.loop-request-preserved
loop-request-preserved g c =
    let node = slot c.args.nodes.now c.args.worker in
    c.in_ok-push.ensures.ok
    ∙ ap (λ all. all ++ c.outcome_at.result ∷ []) c.loop-request.invariant
    ∙ ap (λ o. outcomes_in node c.loop-request.request ++ o ∷ []) c.outcome_at.ensures
    ∙ sym (map_more (λ k. outcome_in node (k + 1)) c.loop-request.request)
