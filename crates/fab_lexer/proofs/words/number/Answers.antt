use Rattle.std.proofs.Common.{◌∙◌}
use Rattle.fab_lexer.proofs.WordLemmas.{beyond}
use Rattle.fab_lexer.proofs.words.number.Goals as goal

pub returns-then-value-gt2147483648 : goal.returns-then-value-gt2147483648
returns-then-value-gt2147483648 c =
    beyond c.loop-digit.value c.from.result c.loop-digit.digit-index c.args.digits.now c.loop-digit-test.true (c.from.ensures ∙ c.saturating_sub.ensures) c.loop-digit.invariant.same c.if-value-gt2147483648.true
