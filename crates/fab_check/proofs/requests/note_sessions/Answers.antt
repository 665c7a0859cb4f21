use Rattle.std.proofs.Common.{List, refl, ap, ◌∙◌, arith}
use Rattle.std.specs.List.{flat_map}
use Rattle.fab_tree.specs.declared.resolved.Asked.{Asked}
use Rattle.fab_labelling.specs.Obligations.{request_owes, session_owes}
use Rattle.fab_check.specs.Noted.{Noting, all_noted}
use Rattle.fab_check.proofs.Parts.{at_end, one_more, start_stays}
use Rattle.fab_check.proofs.requests.note_sessions.Goals as goal

pub loop-session-preserved : goal.loop-session-preserved
loop-session-preserved c =
    let owes = session_owes c.args.count in
    let v = c.loop-session.verdicts in
    let x = c.session-item.result in
    let next = c.note_requests.ensures ∙ ap (λ (xs : List Asked). all_noted v (flat_map (request_owes c.args.count) xs)) c.as_slice.ensures in
    record {
      owes = one_more (flat_map owes) owes (λ _ _. refl) v c.note_requests.new.verdicts (all_noted c.args.verdicts.now (flat_map owes c.args.sessions.now)) c.args.sessions.now c.loop-session.session-index x
          c.loop-session-test.true c.session-item.is next c.loop-session.invariant.owes;
      start = ap (λ (n : Noting). n.start) next ∙ start_stays v (owes x) ∙ c.loop-session.invariant.start;
    }

pub returns : goal.returns
returns c =
    let owes = session_owes c.args.count in
    at_end (flat_map owes) c.loop-session.verdicts (all_noted c.args.verdicts.now (flat_map owes c.args.sessions.now)) c.args.sessions.now c.loop-session.session-index refl (omega arith) c.loop-session.invariant.owes
