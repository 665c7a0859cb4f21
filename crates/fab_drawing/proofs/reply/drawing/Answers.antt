use Rattle.std.proofs.Common.{◌≡◌, true, false, length, sym, ◌∙◌, subst}
use Rattle.fab_tree.specs.declared.resolved.Resolved.{Resolved}
use Rattle.fab_language.specs.Numbers.{resolved}
use Rattle.fab_language.specs.declared.rule.NameRule.TheVariants.{Unknown}
use Rattle.fab_front.specs.Lines.{name_line}
use Rattle.fab_front.specs.declared.status.Status.TheVariants.{Name}
use Rattle.fab_marks.specs.Nodes.{are_nodes}
use Rattle.fab_drawing.specs.declared.ending.Ending.TheVariants.{Plain}
use Rattle.fab_drawing.specs.Drawing.{Draws, Traces, misnamed, traced, unknown}
use Rattle.fab_drawing.proofs.Replies.{if_ended, if_so}
use Rattle.fab_drawing.proofs.reply.drawing.Goals as goal

pub returns-in-Err : goal.returns-in-Err
returns-in-Err c =
    let p = rw c.in-Err.is at c.in_ok-fault.ensures in
    let x = c.in-Err.fault in
    if_ended (Draws c.args.start.now c.args.asked.now c.args.bundle.now c.args.report.now) (Plain (Name x.rule x.at)) (name_line x.rule x.at) c.misnamed.result
    c.misnamed.ensures (misnamed p)

pub returns-then-are_nodes : goal.returns-then-are_nodes
returns-then-are_nodes c =
    let p = rw c.in-Ok.is at c.in_ok-fault.ensures in
    let s = c.args.start.now in
    let are = subst (λ (r : Resolved). are_nodes r c.args.asked.now.nodes ≡ true) p.1 (sym (rw c.as_slice.ensures at c.are_nodes.ensures) ∙ c.if-are_nodes.true) in
    if_so (Traces (resolved s) c.args.asked.now c.args.bundle.now c.args.report.now) (Draws s c.args.asked.now c.args.bundle.now c.args.report.now) c.traced.result
    (λ e l h. traced p.0 are h) (rw p.1 at c.traced.ensures)

pub returns : goal.returns
returns c =
    let p = rw c.in-Ok.is at c.in_ok-fault.ensures in
    let s = c.args.start.now in
    let are = subst (λ (r : Resolved). are_nodes r c.args.asked.now.nodes ≡ false) p.1 (sym (rw c.as_slice.ensures at c.are_nodes.ensures) ∙ c.if-are_nodes.false) in
    let at = length c.args.bundle.now in
    if_ended (Draws s c.args.asked.now c.args.bundle.now c.args.report.now) (Plain (Name Unknown at)) (name_line Unknown at)
    c.unnamed.result c.unnamed.ensures (unknown p.0 are)
