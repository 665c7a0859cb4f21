use Rattle.std.proofs.Common.{◌++◌, List, sym, ap, ◌∙◌}
use Rattle.std.specs.List.{flat_map}
use Rattle.std.proofs.lemmas.Result.{on_ok_weaker}
use Rattle.fab_tree.specs.declared.resolved.Expression.{Expression}
use Rattle.fab_tree.specs.declared.resolved.Operand.{Operand, out-Operand}
use Rattle.fab_check.specs.Shown.{labels_of}
use Rattle.fab_check.proofs.Forms.{chain_labels, compared_labels}
use Rattle.fab_check.proofs.Parts.{put_two}
use Rattle.fab_check.proofs.labels.+labels.Goals as goal

pub put_labels-returns-in_ok-put_labels-in-Chain :
    goal.put_labels-returns-in_ok-put_labels-in-Chain
put_labels-returns-in_ok-put_labels-in-Chain t c =
    let n = c.args.names.now in
    let rest = λ (us : List Operand). flat_map (λ (u : Operand). labels_of n (out-Operand u).operand) us in
    on_ok_weaker c.put_operands.result
    (put_two c.args.out.now c.put_labels-in-Chain.new.out c.put_operands.new.out (labels_of n c.in-Chain.first) (rest c.as_slice.result.now) (labels_of n c.args.expression.now)
    (chain_labels n.classes.now n.locals.now c.args.expression.now c.in-Chain.first c.in-Chain.others c.in-Chain.is ∙ ap (λ (us : List Operand). labels_of n c.in-Chain.first ++ rest us) (sym c.as_slice.ensures))
    (c.in_ok-put_labels-in-Chain.ensures ∙ ap (λ (e : Expression). c.args.out.now ++ labels_of n e) c.get-in-Chain.ensures))
    c.put_operands.ensures

pub put_labels-returns-in_ok-put_labels-in-Compared :
    goal.put_labels-returns-in_ok-put_labels-in-Compared
put_labels-returns-in_ok-put_labels-in-Compared t c =
    let n = c.args.names.now in
    on_ok_weaker c.put_labels-in-Compared-2.result
    (put_two c.args.out.now c.put_labels-in-Compared.new.out c.put_labels-in-Compared-2.new.out (labels_of n c.in-Compared.left) (labels_of n c.get-in-Compared-2.result.now) (labels_of n c.args.expression.now)
    (compared_labels n.classes.now n.locals.now c.args.expression.now c.in-Compared.left c.in-Compared.right c.in-Compared.comparison c.in-Compared.is ∙ ap (λ (e : Expression). labels_of n c.in-Compared.left ++ labels_of n e) (sym c.get-in-Compared-2.ensures))
    (c.in_ok-put_labels-in-Compared.ensures ∙ ap (λ (e : Expression). c.args.out.now ++ labels_of n e) c.get-in-Compared.ensures))
    c.put_labels-in-Compared-2.ensures
