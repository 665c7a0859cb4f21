use Rattle.std.proofs.Common.{sym}
use Rattle.fab_settings.specs.Numbers.{in_expression, in_right}
use Rattle.fab_fitting.proofs.Lists.{of_lists, same}
use Rattle.fab_fitting.proofs.bodies.read_right.Goals as goal

pub returns-in-Call : goal.returns-in-Call
returns-in-Call c = same in_right _ c.args.right.now (sym c.in-Call.is) (of_lists in_expression c.in-Call.arguments _ c.as_slice.ensures c.read_arguments.ensures)

pub returns-in-New : goal.returns-in-New
returns-in-New c = same in_right _ c.args.right.now (sym c.in-New.is) (of_lists in_expression c.in-New.arguments _ c.as_slice-in-New.ensures c.read_arguments-in-New.ensures)
