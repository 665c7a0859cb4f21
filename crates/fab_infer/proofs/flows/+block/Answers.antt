use Rattle.std.proofs.Common.{◌≡◌, ℕ, [], ◌∷◌, refl, sym, ap, ◌∙◌, arith}
use Rattle.std.proofs.lemmas.Result.{on_ok_weaker}
use Rattle.fab_labelling.specs.Obligations.{under}
use Rattle.fab_authority.proofs.Walks.{both, end, step}
use Rattle.fab_infer.specs.Shown.{block_flows, call_flows, inside_of, statement_flows}
use Rattle.fab_infer.proofs.Flowing.{of_assign, of_atomic, of_call, of_if, of_while, same_block, two_parts}
use Rattle.fab_infer.proofs.Gathering.{in_none, in_parts, with_flows}
use Rattle.fab_infer.proofs.flows.+block.Goals as goal

pub put_block-loop-statement-preserved : goal.put_block-loop-statement-preserved
put_block-loop-statement-preserved t c =
    let s = c.args.scope.now in
    let pc = c.args.pc.now in
    step (with_flows s.count) (in_parts s.count) (block_flows s pc) (statement_flows s pc) (λ _ _. refl) c.loop-statement.flows c.put_statement.new.flows (with_flows s.count c.args.flows.now (block_flows s pc c.args.statements.now)) c.args.statements.now c.loop-statement.statement-index c.statement-item.result
    c.loop-statement-test.true c.statement-item.is c.in_ok-put_statement.ensures c.loop-statement.invariant

pub put_block-returns : goal.put_block-returns
put_block-returns t c =
    let s = c.args.scope.now in
    let pc = c.args.pc.now in
    end (with_flows s.count) (in_parts s.count) (block_flows s pc) refl (in_none s.count) c.loop-statement.flows (with_flows s.count c.args.flows.now (block_flows s pc c.args.statements.now)) c.args.statements.now c.loop-statement.statement-index (omega arith) c.loop-statement.invariant

pub put_statement-returns-in-Assign : goal.put_statement-returns-in-Assign
put_statement-returns-in-Assign t c =
    let s = c.args.scope.now in
    let pc = c.args.pc.now in
    let w = c.in-Assign in
    on_ok_weaker c.put_assignment.result
    (λ h. h ∙ ap (with_flows s.count c.args.flows.now) (sym (of_assign s pc c.args.statement.now w.local w.right w.at w.is)))
    c.put_assignment.ensures

pub put_statement-returns-in-Call : goal.put_statement-returns-in-Call
put_statement-returns-in-Call t c =
    let s = c.args.scope.now in
    let pc = c.args.pc.now in
    let w = c.in-Call in
    on_ok_weaker c.put_call.result
    (λ h. h ∙ ap (with_flows s.count c.args.flows.now) (ap (call_flows s pc w.method) c.as_slice.ensures ∙ sym (of_call s pc c.args.statement.now w.method w.arguments w.is)))
    c.put_call.ensures

pub put_statement-returns-in_ok-put_block-in-If : goal.put_statement-returns-in_ok-put_block-in-If
put_statement-returns-in_ok-put_block-in-If t c =
    let s = c.args.scope.now in
    let pc = c.args.pc.now in
    let w = c.in-If in
    let inner = inside_of s.names pc w.condition in
    let all = statement_flows s pc c.args.statement.now in
    let first = block_flows s c.as_slice-in-If.result.now c.as_slice-in-If-2.result.now in
    let second = block_flows s c.as_slice-in-If-3.result.now c.as_slice-in-If-4.result.now in
    on_ok_weaker c.put_block-in-If.result
    (both (with_flows s.count) (in_parts s.count) c.args.flows.now c.put_block.new.flows c.put_block-in-If.new.flows first second all
    (two_parts all (block_flows s inner w.block) (block_flows s inner w.otherwise) first second
    (of_if s pc c.args.statement.now w.condition w.block w.otherwise w.is)
    (same_block s c.as_slice-in-If.result.now inner c.as_slice-in-If-2.result.now w.block (c.as_slice-in-If.ensures ∙ c.in_ok-inner-in-If.ensures) c.as_slice-in-If-2.ensures)
    (same_block s c.as_slice-in-If-3.result.now inner c.as_slice-in-If-4.result.now w.otherwise (c.as_slice-in-If-3.ensures ∙ c.in_ok-inner-in-If.ensures) c.as_slice-in-If-4.ensures))
    c.in_ok-put_block-in-If.ensures)
    c.put_block-in-If.ensures

pub put_statement-returns-in_ok-inner-in-While : goal.put_statement-returns-in_ok-inner-in-While
put_statement-returns-in_ok-inner-in-While t c =
    let s = c.args.scope.now in
    let pc = c.args.pc.now in
    let w = c.in-While in
    let inner = inside_of s.names pc w.condition in
    on_ok_weaker c.put_block-in-While.result
    (λ h. h ∙ ap (with_flows s.count c.args.flows.now)
    (same_block s c.as_slice-in-While.result.now inner c.as_slice-in-While-2.result.now w.block (c.as_slice-in-While.ensures ∙ c.in_ok-inner-in-While.ensures) c.as_slice-in-While-2.ensures
    ∙ sym (of_while s pc c.args.statement.now w.condition w.block w.is)))
    c.put_block-in-While.ensures

pub put_statement-returns-in_ok-put_block-in-Atomic : goal.put_statement-returns-in_ok-put_block-in-Atomic
put_statement-returns-in_ok-put_block-in-Atomic t c =
    let s = c.args.scope.now in
    let pc = c.args.pc.now in
    let w = c.in-Atomic in
    let inner = under pc (w.label.number ∷ []) in
    let same : c.from.result ≡ w.label.number = cc in
    let is_inner = c.in_ok-inner-in-Atomic.ensures ∙ ap (λ (n : ℕ). under pc (n ∷ [])) same in
    let all = statement_flows s pc c.args.statement.now in
    let first = block_flows s c.as_slice-in-Atomic.result.now c.as_slice-in-Atomic-2.result.now in
    let second = block_flows s c.as_slice-in-Atomic-3.result.now c.as_slice-in-Atomic-4.result.now in
    on_ok_weaker c.put_block-in-Atomic-2.result
    (both (with_flows s.count) (in_parts s.count) c.args.flows.now c.put_block-in-Atomic.new.flows c.put_block-in-Atomic-2.new.flows first second all
    (two_parts all (block_flows s inner w.block) (block_flows s inner w.otherwise) first second
    (of_atomic s pc c.args.statement.now w.label w.block w.otherwise w.at w.is)
    (same_block s c.as_slice-in-Atomic.result.now inner c.as_slice-in-Atomic-2.result.now w.block (c.as_slice-in-Atomic.ensures ∙ is_inner) c.as_slice-in-Atomic-2.ensures)
    (same_block s c.as_slice-in-Atomic-3.result.now inner c.as_slice-in-Atomic-4.result.now w.otherwise (c.as_slice-in-Atomic-3.ensures ∙ is_inner) c.as_slice-in-Atomic-4.ensures))
    c.in_ok-put_block-in-Atomic.ensures)
    c.put_block-in-Atomic-2.ensures
