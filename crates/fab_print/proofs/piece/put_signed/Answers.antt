use Rattle.std.proofs.Common.{ap, ◌∙◌, w32}
use Rattle.std.specs.Fmt.{signed_decimal}
use Rattle.std.proofs.lemmas.Int.{to_z-of_z}
use Rattle.fab_print.proofs.Added.{said, integer_spelled}
use Rattle.fab_print.proofs.piece.put_signed.Goals as goal

pub returns : goal.returns
returns c = said _ (integer_spelled c.args.number) (c.as_bytes.ensures.value ∙ c.as_str.ensures.value ∙ c.in_ok-text.ensures.ok ∙ ap signed_decimal (to_z-of_z w32 c.args.number c.ranges.number)) c.in_ok-extend.ensures.ok
