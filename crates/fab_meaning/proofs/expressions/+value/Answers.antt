use Rattle.std.proofs.Common.{◌≡◌, List, Err, sym, ap, ◌∙◌, subst}
use Rattle.std.proofs.lemmas.Result.{err_from_is_err_and}
use Rattle.fab_base.specs.declared.object.Value.{Value}
use Rattle.fab_tree.specs.declared.resolved.Expression.{Expression}
use Rattle.fab_tree.specs.declared.resolved.Operand.{Operand}
use Rattle.fab_language.specs.Meaning.{goes}
use Rattle.fab_erasure.specs.Erased.{shown_if}
use Rattle.fab_stack.specs.Gives.{Gives}
use Rattle.fab_meaning.specs.Settings.{value}
use Rattle.fab_meaning.proofs.Chains.{rest, chain_goes, chain_ends}
use Rattle.fab_meaning.proofs.expressions.+value.Goals as goal

pub value-returns-in_err-w-in-Chain-clause-gives : goal.value-returns-in_err-w-in-Chain-clause-gives
value-returns-in_err-w-in-Chain-clause-gives t c =
    let p = err_from_is_err_and c.from_residual-in_err-w-in-Chain.result c.from_residual-in_err-w-in-Chain.ensures.1 in
    let s = c.args.setting.now in
    let m = c.args.method.now in
    let q = c.value-in-Chain.new.state.state in
    let v = c.in_ok-v-in-Chain.v in
    let first = subst (λ (x : Expression). value s m x c.args.state.now.state ≡ goes v q) c.get-in-Chain.ensures c.in_ok-v-in-Chain.ensures.gives in
    let others = subst (λ (us : List Operand). Gives {A = Value} (Err c.in_err-w-in-Chain.field-0.0) c.chained.new.state (rest s m us v q)) c.as_slice.ensures c.in_err-w-in-Chain.ensures.gives in
    rw (p.1, p.2) (chain_ends s m c.args.expression.now c.in-Chain.first c.in-Chain.others c.args.state.now.state q c.chained.new.state v c.in_err-w-in-Chain.field-0.0 c.in-Chain.is first others)

pub value-returns-in_ok-w-in-Chain-clause-gives : goal.value-returns-in_ok-w-in-Chain-clause-gives
value-returns-in_ok-w-in-Chain-clause-gives t c =
    let s = c.args.setting.now in
    let m = c.args.method.now in
    let q = c.value-in-Chain.new.state.state in
    let v = c.in_ok-v-in-Chain.v in
    let w = c.in_ok-w-in-Chain.w in
    let new = c.chained.new.state.state in
    let first = subst (λ (x : Expression). value s m x c.args.state.now.state ≡ goes v q) c.get-in-Chain.ensures c.in_ok-v-in-Chain.ensures.gives in
    let others = subst (λ (us : List Operand). rest s m us v q ≡ goes w new) c.as_slice.ensures c.in_ok-w-in-Chain.ensures.gives in
    chain_goes s m c.args.expression.now c.in-Chain.first c.in-Chain.others c.args.state.now.state q new v w c.in-Chain.is first others
    ∙ ap (λ b. goes (shown_if b w) new) (sym c.is_seen-seen.ensures) ∙ ap (λ u. goes u new) (sym c.shown_if-in-Chain.ensures)
