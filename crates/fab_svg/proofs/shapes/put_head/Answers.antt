use Rattle.std.proofs.Common.{ℕ, ◌+◌, ◌*◌, List, ◌++◌, codes}
use Rattle.fab_svg.specs.Svg.{across, box_class, path_at, role_text, text_at, title}
use Rattle.fab_svg.proofs.Chains.{then}
use Rattle.fab_svg.proofs.shapes.put_head.Goals as goal

pub returns : goal.returns
returns c =
    let o = c.args.out.now in
    let first : List ℕ = codes "<g>" in
    let whole : List ℕ = title c.args.name.now in
    let box : List ℕ = path_at (box_class c.args.role) (135 + 230 * c.args.column) 35 (codes "h210v36h-210z") in
    let kind : List ℕ = text_at (codes "middle") (across c.args.column) 49 (role_text c.args.role) in
    let name : List ℕ = text_at (codes "middle name") (across c.args.column) 64 c.args.label.now in
    let close : List ℕ = codes "</g>" in
    let end : List ℕ = codes "\n" in
    let e1 = then o first whole c.in_ok-put.ensures c.in_ok-put_title.ensures in
    let e2 = then o (first ++ whole) box e1 c.in_ok-put_box.ensures in
    let e3 = then o (first ++ whole ++ box) kind e2 c.in_ok-put_kind.ensures in
    let e4 = then o (first ++ whole ++ box ++ kind) name e3 c.in_ok-put_name.ensures in
    let e5 = then o (first ++ whole ++ box ++ kind ++ name) close e4 c.in_ok-put-2.ensures in
    then o (first ++ whole ++ box ++ kind ++ name ++ close) end e5 c.in_ok-put-3.ensures
