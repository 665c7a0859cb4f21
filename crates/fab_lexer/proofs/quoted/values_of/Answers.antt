use Rattle.fab_lexer.proofs.QuotedLemmas.{next_pair}
use Rattle.fab_lexer.proofs.quoted.values_of.Goals as goal

pub pairs-preserved : goal.pairs-preserved
pairs-preserved c =
    next_pair c.value_of.result c.value_of-in-len2-up.result _ c.pairs.invariant c.in-len2-up.len_at_least c.value_of.ensures.value c.value_of-in-len2-up.ensures.value c.in_ok-push.ensures.ok
