use Rattle.std.proofs.Common.{◌+◌, drop, subst, ◌∙◌}
use Rattle.fab_tree.specs.declared.resolved.Resolved.{Resolved}
use Rattle.fab_evaluation.specs.Asking.{asked}
use Rattle.fab_evaluation.specs.Singles.{IsSingle}
use Rattle.fab_evaluation.proofs.Asking.{asked_next}
use Rattle.fab_evaluation.proofs.Turning.{endings_next, map_next}
use Rattle.fab_evaluation.proofs.sequence.run.Goals as goal

pub loop-request-preserved : goal.loop-request-preserved
loop-request-preserved c =
    let program = c.args.program.now.value in
    let one = c.request-item.result in
    let request = one.now in
    let at = c.loop-request.request-index in
    let requests = c.args.requests.now in
    let map = c.loop-request.map in
    let single = c.in_ok-ending.field-0 in
    let s = subst (λ (p : Resolved). IsSingle p map request single) c.deref.ensures c.in_ok-ending.ensures in
    let put = c.in_ok-put_changed.ensures ∙ s.map in
    let split = asked_next requests at one c.loop-request-test.true c.request-item.is in
    record {
      endings =
          endings_next program map c.put_changed.new.map (asked (drop at requests)) (asked (drop (at + 1) requests)) request c.loop-request.endings c.push.new.self single
          split s put c.in_ok-push.ensures.ok
          ∙ c.loop-request.invariant.endings;
      map =
          map_next program map c.put_changed.new.map (asked (drop at requests)) (asked (drop (at + 1) requests)) request c.loop-request.endings c.push.new.self single
          split s put c.in_ok-push.ensures.ok
          ∙ c.loop-request.invariant.map;
    }
