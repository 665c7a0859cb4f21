use Rattle.std.proofs.Common.{rules}
use mir.Val.{SFits}
use mir.Syntax.{w32}
use Rattle.fab_base.proofs.Quotient.{quotient_at}
use Rattle.fab_base.proofs.arith.java_div.Goals as goal

pub returns-else-b-eq0 : goal.returns-else-b-eq0
returns-else-b-eq0 c =
    let f : SFits w32 c.wrapping_div.result = search rules in
    quotient_at c.args.a c.args.b c.wrapping_div.result c.ranges.a c.ranges.b f c.if-b-eq0.false c.wrapping_div.ensures
