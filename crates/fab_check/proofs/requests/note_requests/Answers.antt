use Rattle.std.proofs.Common.{refl, ap, ◌∙◌, arith}
use Rattle.std.specs.List.{flat_map}
use Rattle.fab_labelling.specs.Obligations.{request_owes}
use Rattle.fab_check.specs.Noted.{Noting, all_noted}
use Rattle.fab_check.proofs.Parts.{at_end, one_more, start_stays}
use Rattle.fab_check.proofs.requests.note_requests.Goals as goal

pub loop-asked-preserved : goal.loop-asked-preserved
loop-asked-preserved c =
    let owes = request_owes c.args.count in
    let v = c.loop-asked.verdicts in
    let x = c.asked-item.result in
    record {
      owes = one_more (flat_map owes) owes (λ _ _. refl) v c.note_request.new.verdicts (all_noted c.args.verdicts.now (flat_map owes c.args.requests.now)) c.args.requests.now c.loop-asked.asked-index x
          c.loop-asked-test.true c.asked-item.is c.note_request.ensures c.loop-asked.invariant.owes;
      start = ap (λ (n : Noting). n.start) c.note_request.ensures ∙ start_stays v (owes x) ∙ c.loop-asked.invariant.start;
    }

pub returns : goal.returns
returns c =
    let owes = request_owes c.args.count in
    at_end (flat_map owes) c.loop-asked.verdicts (all_noted c.args.verdicts.now (flat_map owes c.args.requests.now)) c.args.requests.now c.loop-asked.asked-index refl (omega arith) c.loop-asked.invariant.owes
