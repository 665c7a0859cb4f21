use Rattle.std.proofs.Common.{◌≤◌, map, length, sym, ap, arith}
use Rattle.fab_tree.specs.Limits.{greatest}
use Rattle.fab_language.specs.Names.{is_same_name}
use Rattle.fab_numbers.proofs.Bounds.{found_within}
use Rattle.fab_numbers.proofs.scope.Scope.field_in.Goals as goal

pub overflow_cast-result : goal.overflow_cast-result
overflow_cast-result c =
    let few : greatest (map (λ y. length y.fields) c.args.self.now.tables.now.program.classes) ≤ 16 = c.args.self.now.fields in
    let one = found_within (λ y. is_same_name y.name c.args.class.now) (λ y. length y.fields) c.args.self.now.tables.now.program.classes c.in-Some.class.now (sym c.in-Some.ensures) in
    let seen = ap length c.as_slice.ensures in
    omega (arith, few, one, seen, c.number_among.ensures.within)
