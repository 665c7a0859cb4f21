use Rattle.std.proofs.Common.{◌≡◌, append_assoc, rules}
use Rattle.std.specs.String.{string_bytes}
use Rattle.fab_language.specs.Words.{line}
use Rattle.fab_gen.specs.Generated.{session_line}
use Rattle.fab_gen.proofs.generator.put_opening.Goals as goal

pub returns : goal.returns
returns c = let text_is : string_bytes c.in_ok-text.text ≡ line (session_line c.args.worker) = simp append_assoc (search rules) in search rules
