use Rattle.fab_print.proofs.Added.{said}
use Rattle.fab_print.proofs.expression.put_sign.Goals as goal

pub returns : goal.returns
returns c = said _ c.sign_text.ensures c.as_bytes.ensures.value c.in_ok-extend.ensures.ok
