use Rattle.std.proofs.Common.{rules, sym}
use Rattle.fab_asked.proofs.Decimals.{fronted, parsed, unparsed}
use Rattle.fab_asked.proofs.numbers.number_of.Goals as goal

pub returns-then-has_front : goal.returns-then-has_front
returns-then-has_front c = fronted c.args.word.now (search rules)

pub returns-in-Ok : goal.returns-in-Ok
returns-in-Ok c = parsed c.args.word.now c.in-Ok.number (search rules) c.in-Ok.ensures.value.0

pub returns-in-Err : goal.returns-in-Err
returns-in-Err c = unparsed c.args.word.now (search rules) c.in-Err.ensures.value.0
