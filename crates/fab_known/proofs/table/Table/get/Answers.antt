use Rattle.std.proofs.Common.{Option, ap, ◌∙◌}
use Rattle.fab_base.specs.declared.object.Object.{Object}
use Rattle.fab_protocol.specs.Versions.{Rows}
use Rattle.fab_release.specs.Replay.{row_at}
use Rattle.fab_known.specs.Tables.{row_found}
use Rattle.fab_known.proofs.Tabling.{found_at}
use Rattle.fab_known.proofs.table.Table.get.Goals as goal

pub returns : goal.returns
returns c =
    ap (λ (found : Option Object). row_found c.args.oid c.args.version found) c.get.ensures.value
    ∙ found_at c.args.oid c.args.version c.self.inside.objects.entries
    ∙ ap (λ (rows : Rows). row_at rows c.args.oid c.args.version) c.self.view_is
