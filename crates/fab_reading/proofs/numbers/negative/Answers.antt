use mir.Val.{SFits}
use mir.Syntax.{w32}
use Rattle.std.proofs.lemmas.Int.{to_z-of_z}
use Rattle.std.proofs.Common.{rules}
use Rattle.fab_tree.specs.Runs.{negative, least}
use Rattle.fab_reading.proofs.NumberRules.{no_negated_starts}
use Rattle.fab_reading.proofs.numbers.negative.Goals as goal

pub returns-in-Some : goal.returns-in-Some
returns-in-Some c =
    let f : SFits w32 c.opposite.result = search rules in
    rw (to_z-of_z w32 c.opposite.result f, c.opposite.ensures) (negative c.in-Some.ensures)

pub returns-in-None : goal.returns-in-None
returns-in-None c = no_negated_starts c.args.tokens.now c.in_default.ensures c.in-None.ensures

pub returns-in-Some-least : goal.returns-in-Some-least
returns-in-Some-least c = least c.in-Some-least.ensures
