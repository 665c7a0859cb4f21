use Rattle.std.proofs.Common.{◌≡◌, ◌++◌, ℕ, List, refl, sym, ap, ◌∙◌, arith}
use Rattle.std.proofs.lemmas.Result.{on_ok_weaker}
use Rattle.fab_tree.specs.declared.resolved.Statement.{Statement}
use Rattle.fab_labelling.specs.Claims.{called_in}
use Rattle.fab_authority.specs.Called.{Calls, block_calls, with_calls}
use Rattle.fab_authority.proofs.Callings.{atomic_calls, calls_in_parts, if_calls, no_calls, no_calls_in}
use Rattle.fab_authority.proofs.Walks.{both, end, step}
use Rattle.fab_authority.proofs.authority.+calls.Goals as goal

abbrev gathered : ℕ → Calls → List ℕ → Calls
gathered n out ks = with_calls out n ks

in_parts : (n : ℕ) (out : Calls) (ks js : List ℕ) → gathered n out (ks ++ js) ≡ gathered n (gathered n out ks) js
in_parts n out ks js = calls_in_parts out n ks js

-- two blocks, as slices of them
as_slices : (x : Statement) (block otherwise first second : List Statement) → called_in x ≡ block_calls block ++ block_calls otherwise → first ≡ block → second ≡ otherwise → called_in x ≡ block_calls first ++ block_calls second
as_slices x block otherwise first second is e f = is ∙ ap (λ (xs : List Statement). block_calls xs ++ block_calls otherwise) (sym e) ∙ ap (λ (xs : List Statement). block_calls first ++ block_calls xs) (sym f)

pub put_called-returns-in_ok-put_calls-in-If : goal.put_called-returns-in_ok-put_calls-in-If
put_called-returns-in_ok-put_calls-in-If t c =
    let n = c.args.caller in
    let x = c.args.statement.now in
    let first = c.as_slice.result.now in
    let second = c.as_slice-in-If.result.now in
    on_ok_weaker c.put_calls-in-If.result
    (both (gathered n) (in_parts n) c.args.out.now.items c.put_calls.new.out.items c.put_calls-in-If.new.out.items (block_calls first) (block_calls second) (called_in x)
    (as_slices x c.in-If.block c.in-If.otherwise first second (ap called_in c.in-If.is ∙ if_calls c.in-If.condition c.in-If.block c.in-If.otherwise) c.as_slice.ensures c.as_slice-in-If.ensures)
    c.in_ok-put_calls-in-If.ensures)
    c.put_calls-in-If.ensures

pub put_called-returns-in_ok-put_calls-in-Atomic : goal.put_called-returns-in_ok-put_calls-in-Atomic
put_called-returns-in_ok-put_calls-in-Atomic t c =
    let n = c.args.caller in
    let x = c.args.statement.now in
    let a = c.in-Atomic in
    let first = c.as_slice-in-Atomic.result.now in
    let second = c.as_slice-in-Atomic-2.result.now in
    on_ok_weaker c.put_calls-in-Atomic-2.result
    (both (gathered n) (in_parts n) c.args.out.now.items c.put_calls-in-Atomic.new.out.items c.put_calls-in-Atomic-2.new.out.items (block_calls first) (block_calls second) (called_in x)
    (as_slices x a.block a.otherwise first second (ap called_in a.is ∙ atomic_calls a.label a.block a.otherwise a.at) c.as_slice-in-Atomic.ensures c.as_slice-in-Atomic-2.ensures)
    c.in_ok-put_calls-in-Atomic.ensures)
    c.put_calls-in-Atomic-2.ensures

pub put_called-returns-in-Write : goal.put_called-returns-in-Write
put_called-returns-in-Write t c = sym (no_calls c.args.out.now.items c.args.caller) ∙ ap (gathered c.args.caller c.args.out.now.items) (sym (no_calls_in c.args.statement.now c.in-Write.is))

pub put_called-returns-in-Write-2 : goal.put_called-returns-in-Write-2
put_called-returns-in-Write-2 t c = sym (no_calls c.args.out.now.items c.args.caller) ∙ ap (gathered c.args.caller c.args.out.now.items) (sym (no_calls_in c.args.statement.now c.in-Write.is))

pub put_calls-loop-statement-preserved : goal.put_calls-loop-statement-preserved
put_calls-loop-statement-preserved t c =
    let n = c.args.caller in
    step (gathered n) (in_parts n) block_calls called_in (λ _ _. refl) c.loop-statement.out.items c.put_called.new.out.items (gathered n c.args.out.now.items (block_calls c.args.statements.now)) c.args.statements.now c.loop-statement.statement-index c.statement-item.result
    c.loop-statement-test.true c.statement-item.is c.in_ok-put_called.ensures c.loop-statement.invariant

pub put_calls-returns : goal.put_calls-returns
put_calls-returns t c =
    let n = c.args.caller in
    end (gathered n) (in_parts n) block_calls refl (λ out. no_calls out n) c.loop-statement.out.items (gathered n c.args.out.now.items (block_calls c.args.statements.now)) c.args.statements.now c.loop-statement.statement-index (omega arith) c.loop-statement.invariant
