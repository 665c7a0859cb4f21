use mir.Val.{SFits}
use mir.Syntax.{w32}
use Rattle.std.proofs.lemmas.Int.{to_z-of_z}
use Rattle.std.proofs.Common.{rules}
use Rattle.fab_tree.specs.Lists.{int}
use Rattle.fab_reading.proofs.numbers.number.Goals as goal

pub returns-in-Some : goal.returns-in-Some
returns-in-Some c =
    let f : SFits w32 c.positive.result = search rules in
    rw (to_z-of_z w32 c.positive.result f, c.positive.ensures) (int c.in-Some.ensures)
