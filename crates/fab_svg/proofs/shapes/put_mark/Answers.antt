use Rattle.std.proofs.Common.{ℕ, true, List, ◌++◌, codes}
use Rattle.fab_svg.specs.Svg.{across, beyond, down, path_at, sign_class, sign_path, title}
use Rattle.fab_svg.proofs.Chains.{then}
use Rattle.fab_svg.proofs.shapes.put_mark.Goals as goal

pub returns : goal.returns
returns c =
    let o = c.args.out.now in
    let first : List ℕ = codes "<g>" in
    let whole : List ℕ = title c.args.title.now in
    let sign : List ℕ = path_at (sign_class c.args.sign) (across c.args.at.column) (down c.args.at.row) (sign_path c.args.sign) in
    let label : List ℕ = beyond true c.args.at c.args.label.now in
    let close : List ℕ = codes "</g>" in
    let end : List ℕ = codes "\n" in
    let e1 = then o first whole c.in_ok-put.ensures c.in_ok-put_title.ensures in
    let e2 = then o (first ++ whole) sign e1 c.in_ok-put_sign.ensures in
    let e3 = then o (first ++ whole ++ sign) label e2 c.in_ok-put_beyond.ensures in
    let e4 = then o (first ++ whole ++ sign ++ label) close e3 c.in_ok-put-2.ensures in
    then o (first ++ whole ++ sign ++ label ++ close) end e4 c.in_ok-put-3.ensures
