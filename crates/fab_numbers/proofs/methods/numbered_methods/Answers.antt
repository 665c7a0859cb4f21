use Rattle.std.proofs.Common.{arith}
use Rattle.fab_numbers.proofs.SitesTaken.{methods_take}
use Rattle.fab_numbers.proofs.methods.numbered_methods.Goals as goal

pub unreachable-requires : goal.unreachable-requires
unreachable-requires c =
    let e = (methods_take c.args.tables.now c.args.methods.now).takes 0 in
    let g = rw c.in-Err-Sites.field-0-is at c.in-Err-Sites.ensures in
    omega (arith, e, g, c.requires.sites)
