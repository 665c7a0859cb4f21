use Rattle.std.proofs.Common.{◌++◌, List, sym, ap, ◌∙◌}
use Rattle.std.specs.List.{flat_map}
use Rattle.std.proofs.lemmas.Result.{on_ok_weaker}
use Rattle.fab_tree.specs.declared.resolved.Expression.{Expression}
use Rattle.fab_tree.specs.declared.resolved.Operand.{Operand, out-Operand}
use Rattle.fab_labelling.specs.Sites.{sites_in}
use Rattle.fab_check.proofs.Sitings.{chain_sites, compared_sites}
use Rattle.fab_record.proofs.Gathering.{two}
use Rattle.fab_record.proofs.hidden.+sites.Goals as goal

pub put_expression-returns-in_ok-put_expression-in-Chain :
    goal.put_expression-returns-in_ok-put_expression-in-Chain
put_expression-returns-in_ok-put_expression-in-Chain t c =
    let rest = λ (us : List Operand). flat_map (λ (u : Operand). sites_in (out-Operand u).operand) us in
    on_ok_weaker c.put_operands.result
    (two c.args.out.now c.put_expression-in-Chain.new.out c.put_operands.new.out (sites_in c.in-Chain.first) (rest c.as_slice.result.now) (sites_in c.args.expression.now)
    (chain_sites c.args.expression.now c.in-Chain.first c.in-Chain.others c.in-Chain.is ∙ ap (λ (us : List Operand). sites_in c.in-Chain.first ++ rest us) (sym c.as_slice.ensures))
    (c.in_ok-put_expression-in-Chain.ensures ∙ ap (λ (e : Expression). c.args.out.now ++ sites_in e) c.get-in-Chain.ensures))
    c.put_operands.ensures

pub put_expression-returns-in_ok-put_expression-in-Compared :
    goal.put_expression-returns-in_ok-put_expression-in-Compared
put_expression-returns-in_ok-put_expression-in-Compared t c =
    on_ok_weaker c.put_expression-in-Compared-2.result
    (two c.args.out.now c.put_expression-in-Compared.new.out c.put_expression-in-Compared-2.new.out (sites_in c.in-Compared.left) (sites_in c.get-in-Compared-2.result.now)
    (sites_in c.args.expression.now)
    (compared_sites c.args.expression.now c.in-Compared.left c.in-Compared.right c.in-Compared.comparison c.in-Compared.is
    ∙ ap (λ (e : Expression). sites_in c.in-Compared.left ++ sites_in e) (sym c.get-in-Compared-2.ensures))
    (c.in_ok-put_expression-in-Compared.ensures ∙ ap (λ (e : Expression). c.args.out.now ++ sites_in e) c.get-in-Compared.ensures))
    c.put_expression-in-Compared-2.ensures
