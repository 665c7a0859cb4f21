use Rattle.std.proofs.Common.{List, ℕ, ◌++◌, refl, ap, arith}
use Rattle.std.proofs.lemmas.Result.{on_ok_weaker}
use Rattle.fab_authority.proofs.Walks.{end, step}
use Rattle.fab_infer.specs.Fill.{hole_at, of_labels}
use Rattle.fab_infer.proofs.HoldingPlaces.{all_cons, in_all, in_none, in_one, in_parts, of_atomic, of_declare, of_if_none, of_if_some, of_one, of_two, of_while}
use Rattle.fab_infer.proofs.held.+held.Goals as goal

pub put_block-loop-statement-preserved : goal.put_block-loop-statement-preserved
put_block-loop-statement-preserved t c =
    let s = of_labels c.args.declared.now.labels.now in
    let put = λ (out : List ℕ) (xs : List ℕ). out ++ xs in
    step put in_parts (in_all s) (in_one s) (all_cons s) c.loop-statement.out c.put_statement.new.out (c.args.out.now ++ in_all s c.args.block.now) c.args.block.now c.loop-statement.statement-index c.statement-item.result
    c.loop-statement-test.true c.statement-item.is c.in_ok-put_statement.ensures c.loop-statement.invariant

pub put_block-returns : goal.put_block-returns
put_block-returns t c =
    let s = of_labels c.args.declared.now.labels.now in
    let put = λ (out : List ℕ) (xs : List ℕ). out ++ xs in
    end put in_parts (in_all s) refl in_none c.loop-statement.out (c.args.out.now ++ in_all s c.args.block.now) c.args.block.now c.loop-statement.statement-index (omega arith) c.loop-statement.invariant

pub put_statement-returns-in-Declare : goal.put_statement-returns-in-Declare
put_statement-returns-in-Declare t c =
    let s = of_labels c.args.declared.now.labels.now in
    let w = c.in-Declare in
    on_ok_weaker c.put_hole.result
    (of_one c.args.out.now c.put_hole.new.out (hole_at s w.label) (hole_at s w.label) (in_one s c.args.statement.now) (of_declare s c.args.statement.now w.sort w.name w.label w.value w.at w.is) refl)
    c.put_hole.ensures

pub put_statement-returns-in-None : goal.put_statement-returns-in-None
put_statement-returns-in-None t c =
    let s = of_labels c.args.declared.now.labels.now in
    let w = c.in-If in
    of_one c.args.out.now c.put_block.new.out (in_all s c.as_slice.result.now) (in_all s w.block) (in_one s c.args.statement.now)
    (of_if_none s c.args.statement.now w.condition w.block w.otherwise w.is c.in-None.is) (ap (in_all s) c.as_slice.ensures) c.in_ok-put_block-in-If.ensures

pub put_statement-returns-in-Some : goal.put_statement-returns-in-Some
put_statement-returns-in-Some t c =
    let s = of_labels c.args.declared.now.labels.now in
    let w = c.in-If in
    on_ok_weaker c.put_block-in-Some.result
    (of_two c.args.out.now c.put_block.new.out c.put_block-in-Some.new.out (in_all s c.as_slice.result.now) (in_all s c.as_slice-in-Some.result.now) (in_all s w.block) (in_all s c.in-Some.other) (in_one s c.args.statement.now)
    (of_if_some s c.args.statement.now w.condition w.block c.in-Some.other w.otherwise w.is c.in-Some.is) (ap (in_all s) c.as_slice.ensures) (ap (in_all s) c.as_slice-in-Some.ensures) c.in_ok-put_block-in-If.ensures)
    c.put_block-in-Some.ensures

pub put_statement-returns-in-While : goal.put_statement-returns-in-While
put_statement-returns-in-While t c =
    let s = of_labels c.args.declared.now.labels.now in
    let w = c.in-While in
    on_ok_weaker c.put_block-in-While.result
    (of_one c.args.out.now c.put_block-in-While.new.out (in_all s c.as_slice-in-While.result.now) (in_all s w.block) (in_one s c.args.statement.now) (of_while s c.args.statement.now w.condition w.block w.is) (ap (in_all s) c.as_slice-in-While.ensures))
    c.put_block-in-While.ensures

pub put_statement-returns-in_ok-put_block-in-Atomic : goal.put_statement-returns-in_ok-put_block-in-Atomic
put_statement-returns-in_ok-put_block-in-Atomic t c =
    let s = of_labels c.args.declared.now.labels.now in
    let w = c.in-Atomic in
    on_ok_weaker c.put_block-in-Atomic-2.result
    (of_two c.args.out.now c.put_block-in-Atomic.new.out c.put_block-in-Atomic-2.new.out (in_all s c.as_slice-in-Atomic.result.now) (in_all s c.as_slice-in-Atomic-2.result.now) (in_all s w.block) (in_all s w.otherwise) (in_one s c.args.statement.now)
    (of_atomic s c.args.statement.now w.label w.block w.otherwise w.at w.is) (ap (in_all s) c.as_slice-in-Atomic.ensures) (ap (in_all s) c.as_slice-in-Atomic-2.ensures) c.in_ok-put_block-in-Atomic.ensures)
    c.put_block-in-Atomic-2.ensures
