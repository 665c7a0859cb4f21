use Rattle.std.proofs.Common.{List, ap, ◌∙◌}
use Rattle.std.specs.List.{list_all}
use Rattle.fab_tree.specs.declared.resolved.Operand.{Operand, out-Operand}
use Rattle.fab_record.specs.Scopes.{reads_seen}
use Rattle.fab_record.proofs.Reading.{chain_seen, compared_seen, first_fails, first_holds}
use Rattle.fab_record.proofs.scope.+reads.Goals as goal

pub reads_seen-returns-then-reads_seen : goal.reads_seen-returns-then-reads_seen
reads_seen-returns-then-reads_seen t c =
    let n = c.args.scope.now in
    let rest = λ (us : List Operand). list_all (λ (u : Operand). reads_seen n (out-Operand u).operand) us in
    first_holds c.reads_seen-in-Chain.result (reads_seen n c.in-Chain.first) (rest c.in-Chain.others) c.operands_seen.result (reads_seen n c.args.expression.now)
    (chain_seen n c.args.expression.now c.in-Chain.first c.in-Chain.others c.in-Chain.is)
    (c.reads_seen-in-Chain.ensures ∙ ap (reads_seen n) c.get-in-Chain.ensures) c.if-reads_seen.true (c.operands_seen.ensures ∙ ap rest c.as_slice.ensures)

pub reads_seen-returns-else-reads_seen : goal.reads_seen-returns-else-reads_seen
reads_seen-returns-else-reads_seen t c =
    let n = c.args.scope.now in
    let rest = λ (us : List Operand). list_all (λ (u : Operand). reads_seen n (out-Operand u).operand) us in
    first_fails c.reads_seen-in-Chain.result (reads_seen n c.in-Chain.first) (rest c.in-Chain.others) (reads_seen n c.args.expression.now)
    (chain_seen n c.args.expression.now c.in-Chain.first c.in-Chain.others c.in-Chain.is)
    (c.reads_seen-in-Chain.ensures ∙ ap (reads_seen n) c.get-in-Chain.ensures) c.if-reads_seen.false

pub reads_seen-returns-then-reads_seen-2 : goal.reads_seen-returns-then-reads_seen-2
reads_seen-returns-then-reads_seen-2 t c =
    let n = c.args.scope.now in
    first_holds c.reads_seen-in-Compared.result (reads_seen n c.in-Compared.left) (reads_seen n c.in-Compared.right) c.reads_seen-then-reads_seen-2.result (reads_seen n c.args.expression.now)
    (compared_seen n c.args.expression.now c.in-Compared.left c.in-Compared.right c.in-Compared.comparison c.in-Compared.is)
    (c.reads_seen-in-Compared.ensures ∙ ap (reads_seen n) c.get-in-Compared.ensures) c.if-reads_seen-2.true
    (c.reads_seen-then-reads_seen-2.ensures ∙ ap (reads_seen n) c.get-then-reads_seen-2.ensures)

pub reads_seen-returns-else-reads_seen-2 : goal.reads_seen-returns-else-reads_seen-2
reads_seen-returns-else-reads_seen-2 t c =
    let n = c.args.scope.now in
    first_fails c.reads_seen-in-Compared.result (reads_seen n c.in-Compared.left) (reads_seen n c.in-Compared.right) (reads_seen n c.args.expression.now)
    (compared_seen n c.args.expression.now c.in-Compared.left c.in-Compared.right c.in-Compared.comparison c.in-Compared.is)
    (c.reads_seen-in-Compared.ensures ∙ ap (reads_seen n) c.get-in-Compared.ensures) c.if-reads_seen-2.false
