use Rattle.std.proofs.Common.{arith, length-drop}
use Rattle.std.proofs.lemmas.List.{take_all}
use Rattle.fab_parser.proofs.programs.behind.Goals as goal

pub returns : goal.returns
returns c = take_all _ _ (omega (arith, length-drop c.args.from_token c.args.tokens.now))
