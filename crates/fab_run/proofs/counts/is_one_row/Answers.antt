use Rattle.std.proofs.Common.{◌∙◌}
use Rattle.fab_run.proofs.Agreeing.{row_is}
use Rattle.fab_run.proofs.counts.is_one_row.Goals as goal

pub returns : goal.returns
returns c = c.eq.ensures ∙ row_is c.args.row.now c.args.other.now
