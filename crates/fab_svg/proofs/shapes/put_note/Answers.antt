use Rattle.std.proofs.Common.{ℕ, List, ◌++◌, codes}
use Rattle.fab_svg.specs.Svg.{above, across, text_at, title}
use Rattle.fab_svg.proofs.Chains.{then}
use Rattle.fab_svg.proofs.shapes.put_note.Goals as goal

pub returns : goal.returns
returns c =
    let o = c.args.out.now in
    let first : List ℕ = codes "<g>" in
    let whole : List ℕ = title c.args.title.now in
    let label : List ℕ = text_at (codes "middle") (across c.args.at.column) (above c.args.at.row) c.args.label.now in
    let close : List ℕ = codes "</g>" in
    let end : List ℕ = codes "\n" in
    let e1 = then o first whole c.in_ok-put.ensures c.in_ok-put_title.ensures in
    let e2 = then o (first ++ whole) label e1 c.in_ok-put_foot.ensures in
    let e3 = then o (first ++ whole ++ label) close e2 c.in_ok-put-2.ensures in
    then o (first ++ whole ++ label ++ close) end e3 c.in_ok-put-3.ensures
