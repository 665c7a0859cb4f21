use Rattle.fab_principals.proofs.SetLemmas.{common-none, common-lowest}
use Rattle.fab_principals.proofs.sets.first_common.Goals as goal

pub returns-then-both-eq0-clause-none : goal.returns-then-both-eq0-clause-none
returns-then-both-eq0-clause-none c = common-none c.args.a c.args.b c.if-both-eq0.true

pub returns-else-both-eq0-clause-found : goal.returns-else-both-eq0-clause-found
returns-else-both-eq0-clause-found c = (common-lowest c.args.a c.args.b c.if-both-eq0.false c.ranges.a.fits).0

pub returns-else-both-eq0-clause-least : goal.returns-else-both-eq0-clause-least
returns-else-both-eq0-clause-least c = (common-lowest c.args.a c.args.b c.if-both-eq0.false c.ranges.a.fits).1
