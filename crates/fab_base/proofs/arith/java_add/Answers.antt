use Rattle.std.proofs.Common.{rules}
use Rattle.std.proofs.lemmas.Int.{wraps}
use Rattle.fab_base.proofs.arith.java_add.Goals as goal

pub returns : goal.returns
returns c = search (rules, wraps)
