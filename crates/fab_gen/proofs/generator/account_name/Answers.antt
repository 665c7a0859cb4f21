use Rattle.std.proofs.Common.{append_assoc, rules}
use Rattle.fab_gen.specs.Generated.{account}
use Rattle.fab_gen.proofs.generator.account_name.Goals as goal

pub returns : goal.returns
unfolding account
returns c = simp append_assoc (search rules)
