use Rattle.std.proofs.Common.{◌≡◌, IfOk, subst}
use Rattle.fab_tree.specs.declared.start.Start.{Start}
use Rattle.fab_language.specs.Numbers.{resolved}
use Rattle.fab_inferred.proofs.reply.numbers.Goals as goal

pub returns : goal.returns
returns c = subst (λ (s : Start). IfOk c.numbered.result (λ r. r ≡ resolved s)) c.in_ok-tables.ensures c.numbered.ensures
