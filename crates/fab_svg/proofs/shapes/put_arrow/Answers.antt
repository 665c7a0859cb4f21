use Rattle.std.proofs.Common.{ℕ, nat_lt, List, ◌++◌, codes}
use Rattle.fab_svg.specs.Svg.{across, arrow_class, beyond, down, end_text, group_text, line_at, title}
use Rattle.fab_svg.proofs.Chains.{then}
use Rattle.fab_svg.proofs.shapes.put_arrow.Goals as goal

pub returns : goal.returns
returns c =
    let o = c.args.out.now in
    let group : List ℕ = group_text c.args.way.stands_out in
    let whole : List ℕ = title c.args.title.now in
    let from = c.args.way.from in
    let to = c.args.way.to in
    let way : List ℕ = line_at (arrow_class c.args.way.lost) (across from.column) (down from.row) (across to.column) (down to.row) in
    let cross : List ℕ = end_text c.args.way.lost c.args.way.to in
    let label : List ℕ = beyond (nat_lt c.args.way.from.column c.args.way.to.column) c.args.way.to c.args.label.now in
    let close : List ℕ = codes "</g>" in
    let end : List ℕ = codes "\n" in
    let e1 = then o group whole c.in_ok-put_group.ensures c.in_ok-put_title.ensures in
    let e2 = then o (group ++ whole) way e1 c.in_ok-put_way.ensures in
    let e3 = then o (group ++ whole ++ way) cross e2 c.in_ok-put_end.ensures in
    let e4 = then o (group ++ whole ++ way ++ cross) label e3 c.in_ok-put_label.ensures in
    let e5 = then o (group ++ whole ++ way ++ cross ++ label) close e4 c.in_ok-put.ensures in
    then o (group ++ whole ++ way ++ cross ++ label ++ close) end e5 c.in_ok-put-2.ensures
