use Rattle.std.proofs.Common.{refl}
use Rattle.fab_values.proofs.Arguments.{from_none}
use Rattle.fab_eval.proofs.expressions.values.Goals as goal

pub loop-argument-init : goal.loop-argument-init
loop-argument-init c = record {
  same = rw c.new-all.ensures (from_none c.args.arguments.now c.args.state.now.state);
  base = refl;
  fuel = refl;
}
