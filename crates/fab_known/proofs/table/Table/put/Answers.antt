use Rattle.std.proofs.Common.{List, ap, ◌∙◌, ◌∷◌, map}
use Rattle.fab_base.specs.declared.object.Object.{Object}
use Rattle.fab_protocol.specs.Versions.{Rows}
use Rattle.fab_release.specs.Replay.{row_at}
use Rattle.fab_known.specs.declared.table.Place.{Place}
use Rattle.fab_known.specs.Tables.{row_in}
use Rattle.fab_known.proofs.Tabling.{found_put}
use Rattle.fab_known.proofs.table.Table.put.Goals as goal

pub returns : goal.returns
returns c = λ o version.
    let row = c.args.row in
    ap (λ (es : List (Place × Object)). row_at (map row_in es) o version) c.in_ok-insert.ensures.entries
    ∙ found_put row.0 row.1 row.2 c.self.inside.objects.entries o version
    ∙ ap (λ (rows : Rows). row_at (row ∷ rows) o version) c.self.view_is
