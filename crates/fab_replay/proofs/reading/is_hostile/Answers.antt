use Rattle.std.proofs.Common.{◌∙◌}
use Rattle.fab_replay.proofs.Readable.{hostile_bit}
use Rattle.fab_replay.proofs.reading.is_hostile.Goals as goal

pub returns : goal.returns
returns c = c.is_in.ensures.computed ∙ hostile_bit c.args.program.now c.requires.numbers c.args.hostile c.requires.hostile c.ranges.hostile.fits c.args.number
