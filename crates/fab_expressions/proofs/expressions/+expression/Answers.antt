use Rattle.std.proofs.Common.{refl, append-nil, arith}
use Rattle.std.proofs.lemmas.Result.{err_from_is_err_and, MatchResult-weaker}
use Rattle.fab_base.specs.declared.token.Mark.TheVariants as m
use Rattle.fab_tree.specs.Expressions.{of_or, of_and, of_sum, of_product}
use Rattle.fab_reading.proofs.Rules.{alike, sign, part, any_follows, sign_follows, ending, end_meets, end_text, sign_text, stop_part, stop_sign, closed, one_more, whole, read_shorter}
use Rattle.fab_expressions.specs.Pieces.{after_primary, after_sum, after_operand, after_chain, after_expression}
use Rattle.fab_expressions.proofs.OperatorRules.{comparison_begins, comparison_read, operator_begins, operator_read, operator_shorter}
use Rattle.fab_expressions.proofs.PrimaryRules.{bracket_start, bracket_stops, number_read, null_read, bare_start, signed_start, least_start, least_read, other_start}
use Rattle.fab_expressions.proofs.ChainRules.{others_more, others_end, others_text, others_meet, chain_start, same_read, same_stops, or_back, and_back, sum_back, product_back, compared_start, right_start, right_end, right_meets, right_text, end_of_sum}
use Rattle.fab_expressions.proofs.expressions.+expression.Goals as goal

pub brackets-returns-in_err-rest : goal.brackets-returns-in_err-rest
brackets-returns-in_err-rest t c =
    let p = err_from_is_err_and c.from_residual.result c.from_residual.ensures.1 in
    rw (p.1, p.2) (bracket_stops c.args.room c.args.tokens.now c.in_err-rest.field-0.0 c.requires.number c.requires.named c.requires.null c.in_err-rest.ensures)

pub brackets-returns-in_err-inside : goal.brackets-returns-in_err-inside
brackets-returns-in_err-inside t c =
    let p = err_from_is_err_and c.from_residual-in_err-inside.result c.from_residual-in_err-inside.ensures.1 in
    rw (p.1, p.2) (stop_part after_expression c.in_err-inside.field-0.0 (bracket_start c.in_ok-rest.ensures.0 c.in_ok-rest.ensures.1) c.in_err-inside.ensures (λ more v after q h. sign_follows m.RightParen after_expression refl q.first) (sign_text m.RightParen end_text))

pub brackets-returns-in_err-rest-2 : goal.brackets-returns-in_err-rest-2
brackets-returns-in_err-rest-2 t c =
    let p = err_from_is_err_and c.from_residual-in_err-rest-2.result c.from_residual-in_err-rest-2.ensures.1 in
    rw (p.1, p.2) (stop_sign c.in_err-rest-2.field-0.0 (part (bracket_start c.in_ok-rest.ensures.0 c.in_ok-rest.ensures.1) c.in_ok-inside.ensures (λ more v after q h. sign_follows m.RightParen after_expression refl q.first)) c.in_err-rest-2.ensures end_text)

pub brackets-returns : goal.brackets-returns
brackets-returns t c =
    rw (c.placed.ensures, c.place-at.ensures) (whole (sign (part (bracket_start c.in_ok-rest.ensures.0 c.in_ok-rest.ensures.1) c.in_ok-inside.ensures (λ more v after q h. sign_follows m.RightParen after_expression refl q.first)) c.in_ok-rest-2.ensures (closed m.RightParen _ (λ r. refl) c.in_ok-rest.ensures.1)))

pub compared-returns-in_err-left : goal.compared-returns-in_err-left
compared-returns-in_err-left t c =
    let p = err_from_is_err_and c.from_residual.result c.from_residual.ensures.1 in
    rw (p.1, p.2) (stop_part after_sum c.in_err-left.field-0.0 (compared_start c.args.tokens.now) c.in_err-left.ensures right_meets right_text)

pub compared-returns-in-None : goal.compared-returns-in-None
compared-returns-in-None t c =
    whole (right_end (part (compared_start c.args.tokens.now) c.in_ok-left.ensures right_meets) c.in-None.ensures)

pub compared-returns-in_err-right-in-Some : goal.compared-returns-in_err-right-in-Some
compared-returns-in_err-right-in-Some t c =
    let p = err_from_is_err_and c.from_residual-in_err-right-in-Some.result c.from_residual-in_err-right-in-Some.ensures.1 in
    rw (p.1, p.2) (stop_part after_sum c.in_err-right-in-Some.field-0.0 (ending (part (right_start (part (compared_start c.args.tokens.now) c.in_ok-left.ensures right_meets) (comparison_begins _ _ _ c.in-Some.ensures)) (comparison_read c.in-Some.ensures) (λ more v after q h. any_follows more))) c.in_err-right-in-Some.ensures end_of_sum end_text)

pub compared-returns-in_ok-whole-in-Some : goal.compared-returns-in_ok-whole-in-Some
compared-returns-in_ok-whole-in-Some t c =
    rw c.in_ok-whole-in-Some.ensures (whole (part (ending (part (right_start (part (compared_start c.args.tokens.now) c.in_ok-left.ensures right_meets) (comparison_begins _ _ _ c.in-Some.ensures)) (comparison_read c.in-Some.ensures) (λ more v after q h. any_follows more))) c.in_ok-right-in-Some.ensures end_of_sum))

pub primary-returns-in-Some : goal.primary-returns-in-Some
primary-returns-in-Some t c = rw c.place-at.ensures (number_read c.in-Some.ensures)

pub primary-returns-in-Some-behind : goal.primary-returns-in-Some-behind
primary-returns-in-Some-behind t c = rw c.place-at.ensures (null_read c.in-Some-behind.ensures)

pub chain-returns-in_err-first : goal.chain-returns-in_err-first
chain-returns-in_err-first t c =
    let p = err_from_is_err_and c.from_residual.result c.from_residual.ensures.1 in
    rw (p.1, p.2) (stop_part (after_operand c.args.level) c.in_err-first.field-0.0 (chain_start c.args.level c.args.tokens.now) c.in_err-first.ensures (others_meet c.args.level) (others_text c.args.level))

pub chain-returns-in_err-behind : goal.chain-returns-in_err-behind
chain-returns-in_err-behind t c =
    let p = err_from_is_err_and c.from_residual-in_err-behind.result c.from_residual-in_err-behind.ensures.1 in
    rw (p.1, p.2) (stop_part (after_chain c.args.level) c.in_err-behind.field-0.0 (ending (part (chain_start c.args.level c.args.tokens.now) c.in_ok-first.ensures (others_meet c.args.level))) c.in_err-behind.ensures (end_meets (after_chain c.args.level)) end_text)

pub chain-returns : goal.chain-returns
chain-returns t c =
    rw c.in_ok-whole.ensures (whole (part (ending (part (chain_start c.args.level c.args.tokens.now) c.in_ok-first.ensures (others_meet c.args.level))) c.in_ok-behind.ensures (end_meets (after_chain c.args.level))))

pub others-returns-in_err-value : goal.others-returns-in_err-value
others-returns-in_err-value t c =
    let p = err_from_is_err_and c.from_residual.result c.from_residual.ensures.1 in
    rw (p.1, p.2) (stop_part (after_operand c.args.level) c.in_err-value.field-0.0 (part (others_more c.args.level c.list.invariant (operator_begins _ _ _ _ c.in-Some.ensures)) (operator_read c.in-Some.ensures) (λ more v after q h. any_follows more)) c.in_err-value.ensures (others_meet c.args.level) (others_text c.args.level))

pub others-list-preserved : goal.others-list-preserved
others-list-preserved t c =
    alike _ (part (part (others_more c.args.level c.list.invariant (operator_begins _ _ _ _ c.in-Some.ensures)) (operator_read c.in-Some.ensures) (λ more v after q h. any_follows more)) c.in_ok-value.ensures (others_meet c.args.level)) (one_more _ _ _ (rw c.place-at.ensures at c.in_ok-found.ensures))

pub others-list-smaller : goal.others-list-smaller
others-list-smaller t c = omega (arith, operator_shorter c.in-Some.ensures, read_shorter c.in_ok-value.ensures)

pub others-returns : goal.others-returns
others-returns t c =
    rw c.fitted.ensures (whole (alike _ (others_end c.args.level c.list.invariant c.in_default.ensures) (λ v. append-nil _)))

pub operand-returns-in-Or : goal.operand-returns-in-Or
operand-returns-in-Or t c =
    rw c.in-Or.is (MatchResult-weaker c.chain.result c.chain.ensures (λ x. same_read (λ a v b. of_or) or_back) (λ e. same_stops (λ a v b. of_or) or_back _ _ _ e))

pub operand-returns-in-And : goal.operand-returns-in-And
operand-returns-in-And t c =
    rw c.in-And.is (MatchResult-weaker c.compared.result c.compared.ensures (λ x. same_read (λ a v b. of_and) and_back) (λ e. same_stops (λ a v b. of_and) and_back _ _ _ e))

pub operand-returns-in-Sum : goal.operand-returns-in-Sum
operand-returns-in-Sum t c =
    rw c.in-Sum.is (MatchResult-weaker c.chain-in-Sum.result c.chain-in-Sum.ensures (λ x. same_read (λ a v b. of_sum) sum_back) (λ e. same_stops (λ a v b. of_sum) sum_back _ _ _ e))

pub operand-returns-in-Product : goal.operand-returns-in-Product
operand-returns-in-Product t c =
    rw c.in-Product.is (MatchResult-weaker c.unary.result c.unary.ensures (λ x. same_read (λ a v b. of_product) product_back) (λ e. same_stops (λ a v b. of_product) product_back _ _ _ e))

pub unary-returns-in_err-operand-in-None : goal.unary-returns-in_err-operand-in-None
unary-returns-in_err-operand-in-None t c =
    let p = err_from_is_err_and c.from_residual.result c.from_residual.ensures.1 in
    rw (p.1, p.2) (stop_part after_primary c.in_err-operand-in-None.field-0.0 (ending (bare_start c.args.tokens.now c.in-None.ensures)) c.in_err-operand-in-None.ensures (end_meets after_primary) end_text)

pub unary-returns-in_ok-operand-in-None : goal.unary-returns-in_ok-operand-in-None
unary-returns-in_ok-operand-in-None t c =
    whole (part (ending (bare_start c.args.tokens.now c.in-None.ensures)) c.in_ok-operand-in-None.ensures (end_meets after_primary))

pub unary-returns-in-Some-least_behind : goal.unary-returns-in-Some-least_behind
unary-returns-in-Some-least_behind t c =
    let l = c.in-Some-least_behind.ensures in
    rw c.place-at.ensures (whole (part (least_start c.in-Some.operator (signed_start c.in-Some.operator c.in-Some.ensures) l) (least_read l.0) (λ more v after q h. any_follows more)))

pub unary-returns-in_err-operand-in-Some : goal.unary-returns-in_err-operand-in-Some
unary-returns-in_err-operand-in-Some t c =
    let p = err_from_is_err_and c.from_residual-in_err-operand-in-Some.result c.from_residual-in_err-operand-in-Some.ensures.1 in
    rw (p.1, p.2) (stop_part after_primary c.in_err-operand-in-Some.field-0.0 (ending (other_start c.in-Some.operator (signed_start c.in-Some.operator c.in-Some.ensures) c.in_default.ensures)) c.in_err-operand-in-Some.ensures (end_meets after_primary) end_text)

pub unary-returns-in_ok-operand-in-Some-2 : goal.unary-returns-in_ok-operand-in-Some-2
unary-returns-in_ok-operand-in-Some-2 t c =
    rw (c.in_ok-operand-in-Some-2.ensures, c.place-at.ensures) (whole (part (ending (other_start c.in-Some.operator (signed_start c.in-Some.operator c.in-Some.ensures) c.in_default.ensures)) c.in_ok-operand-in-Some.ensures (end_meets after_primary)))
