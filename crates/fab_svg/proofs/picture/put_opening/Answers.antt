use Rattle.std.proofs.Common.{ℕ, List, ◌++◌, codes}
use Rattle.fab_svg.specs.Svg.{number_attribute}
use Rattle.fab_svg.proofs.Chains.{then}
use Rattle.fab_svg.proofs.picture.put_opening.Goals as goal

pub returns : goal.returns
returns c =
    let o = c.args.out.now in
    let first : List ℕ = codes "<svg xmlns='http://www.w3.org/2000/svg'" in
    let width : List ℕ = number_attribute (codes "width") c.args.width in
    let height : List ℕ = number_attribute (codes "height") c.args.height in
    let close : List ℕ = codes ">" in
    let end : List ℕ = codes "\n" in
    let e1 = then o first width c.in_ok-put.ensures c.in_ok-put_number_attribute.ensures in
    let e2 = then o (first ++ width) height e1 c.in_ok-put_number_attribute-2.ensures in
    let e3 = then o (first ++ width ++ height) close e2 c.in_ok-put-2.ensures in
    then o (first ++ width ++ height ++ close) end e3 c.in_ok-put-3.ensures
