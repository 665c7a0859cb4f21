use Rattle.std.proofs.Common.{◌≡◌, List, [], ◌∷◌, ◌++◌, refl, sym, ap, ◌∙◌, arith}
use Rattle.std.proofs.lemmas.Result.{on_ok_weaker}
use Rattle.fab_tree.specs.declared.resolved.Statement.{Statement}
use Rattle.fab_labelling.specs.Sites.{all_under, block_sites, sited, sites_in}
use Rattle.fab_labelling.specs.Obligations.{under}
use Rattle.fab_check.specs.Shown.{labels_of}
use Rattle.fab_check.specs.Sited.{all_sited, with_sites}
use Rattle.fab_check.proofs.Sitings.{atomic_sites, fail_sites, if_sites, none_sited, same_sites, site_first, sited_in_parts, three_parts, two_parts, while_sites, write_sites}
use Rattle.fab_authority.proofs.Walks.{both, end, step, three}
use Rattle.fab_check.proofs.sites.+blocks.Goals as goal

pub put_block-loop-statement-preserved : goal.put_block-loop-statement-preserved
put_block-loop-statement-preserved t c =
    let n = c.args.names.now in
    let pc = c.args.pc.now in
    let sites = λ (xs : List Statement). block_sites n.classes.now n.locals.now xs pc in
    step all_sited sited_in_parts sites (λ (x : Statement). sited n.classes.now n.locals.now x pc) (λ _ _. refl) c.loop-statement.out c.put_statement.new.out (all_sited c.args.out.now (sites c.args.statements.now)) c.args.statements.now c.loop-statement.statement-index c.statement-item.result
    c.loop-statement-test.true c.statement-item.is c.in_ok-put_statement.ensures c.loop-statement.invariant

pub put_block-returns : goal.put_block-returns
put_block-returns t c =
    let n = c.args.names.now in
    let pc = c.args.pc.now in
    let sites = λ (xs : List Statement). block_sites n.classes.now n.locals.now xs pc in
    end all_sited sited_in_parts sites refl none_sited c.loop-statement.out (all_sited c.args.out.now (sites c.args.statements.now)) c.args.statements.now c.loop-statement.statement-index (omega arith) c.loop-statement.invariant

pub put_statement-returns-in-Write : goal.put_statement-returns-in-Write
put_statement-returns-in-Write t c =
    let n = c.args.names.now in
    let pc = c.args.pc.now in
    let out = c.args.out.now in
    let w = c.in-Write in
    on_ok_weaker c.put_write.result
    (λ (h : c.put_write.new.out ≡ with_sites (out ++ pc ∷ []) pc (sites_in w.value)).
    h ∙ sym (site_first out pc w.site (sites_in w.value)) ∙ ap (all_sited out) (sym (ap (λ (x : Statement). sited n.classes.now n.locals.now x pc) w.is ∙ write_sites n.classes.now n.locals.now pc w.object w.field w.value w.site)))
    c.put_write.ensures

pub put_statement-returns-in-Fail : goal.put_statement-returns-in-Fail
put_statement-returns-in-Fail t c =
    let n = c.args.names.now in
    let pc = c.args.pc.now in
    sym (none_sited c.args.out.now) ∙ ap (all_sited c.args.out.now) (sym (ap (λ (x : Statement). sited n.classes.now n.locals.now x pc) c.in-Fail.is ∙ fail_sites n.classes.now n.locals.now pc c.in-Fail.at))

pub put_statement-returns-in_ok-put_block-in-If : goal.put_statement-returns-in_ok-put_block-in-If
put_statement-returns-in_ok-put_block-in-If t c =
    let n = c.args.names.now in
    let pc = c.args.pc.now in
    let e = c.in-If.condition in
    let sites = block_sites n.classes.now n.locals.now in
    let inner = under pc (labels_of n e) in
    let all = sited n.classes.now n.locals.now c.args.statement.now pc in
    let first = sites c.as_slice-in-If-2.result.now c.as_slice-in-If.result.now in
    let second = sites c.as_slice-in-If-4.result.now c.as_slice-in-If-3.result.now in
    let is_first = c.as_slice-in-If.ensures ∙ c.in_ok-inner-in-If.ensures in
    let is_second = c.as_slice-in-If-3.ensures ∙ c.in_ok-inner-in-If.ensures in
    on_ok_weaker c.put_block-in-If.result
    (three all_sited sited_in_parts c.args.out.now c.put_expression.new.out c.put_block.new.out c.put_block-in-If.new.out (all_under pc (sites_in e)) first second all
    (three_parts all (all_under pc (sites_in e)) (sites c.in-If.block inner) (sites c.in-If.otherwise inner) first second
    (ap (λ (x : Statement). sited n.classes.now n.locals.now x pc) c.in-If.is ∙ if_sites n.classes.now n.locals.now pc e c.in-If.block c.in-If.otherwise)
    (same_sites n.classes.now n.locals.now c.as_slice-in-If-2.result.now c.in-If.block c.as_slice-in-If.result.now inner c.as_slice-in-If-2.ensures is_first)
    (same_sites n.classes.now n.locals.now c.as_slice-in-If-4.result.now c.in-If.otherwise c.as_slice-in-If-3.result.now inner c.as_slice-in-If-4.ensures is_second))
    c.in_ok-put_expression-in-If.ensures c.in_ok-put_block-in-If.ensures)
    c.put_block-in-If.ensures

pub put_statement-returns-in_ok-inner-in-While : goal.put_statement-returns-in_ok-inner-in-While
put_statement-returns-in_ok-inner-in-While t c =
    let n = c.args.names.now in
    let pc = c.args.pc.now in
    let e = c.in-While.condition in
    let sites = block_sites n.classes.now n.locals.now in
    let inner = under pc (labels_of n e) in
    let all = sited n.classes.now n.locals.now c.args.statement.now pc in
    let first = sites c.as_slice-in-While-2.result.now c.as_slice-in-While.result.now in
    on_ok_weaker c.put_block-in-While.result
    (both all_sited sited_in_parts c.args.out.now c.put_expression-in-While.new.out c.put_block-in-While.new.out (all_under pc (sites_in e)) first all
    (two_parts all (all_under pc (sites_in e)) (sites c.in-While.block inner) (all_under pc (sites_in e)) first
    (ap (λ (x : Statement). sited n.classes.now n.locals.now x pc) c.in-While.is ∙ while_sites n.classes.now n.locals.now pc e c.in-While.block)
    refl
    (same_sites n.classes.now n.locals.now c.as_slice-in-While-2.result.now c.in-While.block c.as_slice-in-While.result.now inner c.as_slice-in-While-2.ensures (c.as_slice-in-While.ensures ∙ c.in_ok-inner-in-While.ensures)))
    c.in_ok-put_expression-in-While.ensures)
    c.put_block-in-While.ensures

pub put_statement-returns-in_ok-put_block-in-Atomic : goal.put_statement-returns-in_ok-put_block-in-Atomic
put_statement-returns-in_ok-put_block-in-Atomic t c =
    let n = c.args.names.now in
    let pc = c.args.pc.now in
    let l = c.in-Atomic.label in
    let sites = block_sites n.classes.now n.locals.now in
    let inner = under pc (l.number ∷ []) in
    let all = sited n.classes.now n.locals.now c.args.statement.now pc in
    let first = sites c.as_slice-in-Atomic-2.result.now c.as_slice-in-Atomic.result.now in
    let second = sites c.as_slice-in-Atomic-4.result.now c.as_slice-in-Atomic-3.result.now in
    on_ok_weaker c.put_block-in-Atomic-2.result
    (both all_sited sited_in_parts c.args.out.now c.put_block-in-Atomic.new.out c.put_block-in-Atomic-2.new.out first second all
    (two_parts all (sites c.in-Atomic.block inner) (sites c.in-Atomic.otherwise inner) first second
    (ap (λ (x : Statement). sited n.classes.now n.locals.now x pc) c.in-Atomic.is ∙ atomic_sites n.classes.now n.locals.now pc l c.in-Atomic.block c.in-Atomic.otherwise c.in-Atomic.at)
    (same_sites n.classes.now n.locals.now c.as_slice-in-Atomic-2.result.now c.in-Atomic.block c.as_slice-in-Atomic.result.now inner c.as_slice-in-Atomic-2.ensures (c.as_slice-in-Atomic.ensures ∙ c.in_ok-inner-in-Atomic.ensures))
    (same_sites n.classes.now n.locals.now c.as_slice-in-Atomic-4.result.now c.in-Atomic.otherwise c.as_slice-in-Atomic-3.result.now inner c.as_slice-in-Atomic-4.ensures (c.as_slice-in-Atomic-3.ensures ∙ c.in_ok-inner-in-Atomic.ensures)))
    c.in_ok-put_block-in-Atomic.ensures)
    c.put_block-in-Atomic-2.ensures
