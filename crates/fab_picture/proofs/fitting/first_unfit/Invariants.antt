use Rattle.std.proofs.Common.{◌≡◌, drop}
use Rattle.fab_picture.specs.Fitting.{first_unfit}
use Rattle.fab_picture.proofs.fitting.first_unfit.Given as goal

abbrev pub invariant-loop-index : goal.invariant-loop-index
invariant-loop-index l = first_unfit l.start l.index (drop l.index l.lines) ≡ first_unfit l.start 0 l.lines
