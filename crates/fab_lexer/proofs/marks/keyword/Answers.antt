use Rattle.fab_lexer.proofs.FirstLemmas.{keyword_found}
use Rattle.fab_lexer.proofs.marks.keyword.Goals as goal

pub returns-in-len1-up : goal.returns-in-len1-up
returns-in-len1-up c =
    keyword_found c.args.word.now c.as_bytes.result.now c.keywords_from.result.now c.spelled_so.result c.as_bytes.ensures.value c.in-len1-up.len_at_least c.keywords_from.ensures c.spelled_so.ensures
