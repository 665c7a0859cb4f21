use Rattle.fab_svg.proofs.Escaping.{plain_text}
use Rattle.fab_svg.proofs.laws.escaped_text_is_plain.Goals as goal

pub returns : goal.returns
returns c = plain_text
