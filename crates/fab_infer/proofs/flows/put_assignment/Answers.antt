use Rattle.std.proofs.Common.{ℕ, ◌++◌, sym, ap, ◌∙◌}
use Rattle.std.proofs.lemmas.Result.{on_ok_weaker}
use Rattle.fab_authority.proofs.Walks.{both}
use Rattle.fab_holes.specs.Flowing.{all_to}
use Rattle.fab_infer.specs.Shown.{assigning, right_flows, right_labels}
use Rattle.fab_infer.proofs.Flowing.{of_local}
use Rattle.fab_infer.proofs.Gathering.{in_parts, with_flows}
use Rattle.fab_infer.proofs.flows.put_assignment.Goals as goal

pub returns-in-Some : goal.returns-in-Some
returns-in-Some c =
    let s = c.args.scope.now in
    let pc = c.args.pc.now in
    let found = c.in-Some.found.now in
    on_ok_weaker c.put_assigned.result
    (λ h. both (with_flows s.count) (in_parts s.count) c.args.flows.now c.put_right.new.flows c.put_assigned.new.flows (right_flows s pc c.args.right.now) (all_to (pc ++ right_labels s c.args.right.now) found.label.number) (assigning s pc c.args.local c.args.right.now)
    (of_local s pc c.args.local c.args.right.now found (sym c.in-Some.ensures))
    c.in_ok-put_right.ensures
    (h ∙ ap (λ (n : ℕ). with_flows s.count c.put_right.new.flows (all_to (pc ++ right_labels s c.args.right.now) n)) c.label.ensures))
    c.put_assigned.ensures
