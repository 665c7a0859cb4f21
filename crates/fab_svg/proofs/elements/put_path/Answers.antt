use Rattle.std.proofs.Common.{ℕ, List, ◌++◌, codes}
use Rattle.fab_svg.specs.Svg.{attribute, path_start}
use Rattle.fab_svg.proofs.Chains.{then}
use Rattle.fab_svg.proofs.elements.put_path.Goals as goal

pub returns : goal.returns
returns c =
    let o = c.args.out.now in
    let first : List ℕ = codes "<path" in
    let class : List ℕ = attribute (codes "class") c.args.class.now in
    let start : List ℕ = path_start c.args.x c.args.y in
    let path : List ℕ = c.args.path.now in
    let close : List ℕ = codes "'/>" in
    let e1 = then o first class c.in_ok-put.ensures c.in_ok-put_attribute.ensures in
    let e2 = then o (first ++ class) start e1 c.in_ok-put_start.ensures in
    let e3 = then o (first ++ class ++ start) path e2 c.in_ok-put-2.ensures in
    then o (first ++ class ++ start ++ path) close e3 c.in_ok-put-3.ensures
