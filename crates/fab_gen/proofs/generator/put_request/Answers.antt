use Rattle.std.proofs.Common.{append_assoc, rules}
use Rattle.fab_gen.proofs.generator.put_request.Goals as goal

pub returns : goal.returns
returns c = simp append_assoc (search rules)
