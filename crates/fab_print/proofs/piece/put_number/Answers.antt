use Rattle.std.proofs.Common.{◌∙◌}
use Rattle.fab_print.proofs.Added.{said, number_spelled}
use Rattle.fab_print.proofs.piece.put_number.Goals as goal

pub returns : goal.returns
returns c = said _ (number_spelled c.args.number) (c.as_bytes.ensures.value ∙ c.as_str.ensures.value ∙ c.in_ok-text.ensures.ok) c.in_ok-extend.ensures.ok
