use Rattle.std.proofs.Common.{refl}
use Rattle.fab_meaning.proofs.Arguments.{from_none}
use Rattle.fab_meaning.proofs.expressions.values.Goals as goal

pub loop-argument-init : goal.loop-argument-init
loop-argument-init c = record {
  same = rw c.new-all.ensures (from_none c.args.setting.now c.args.method.now c.args.arguments.now c.args.state.now.state);
  base = refl;
  fuel = refl;
}
