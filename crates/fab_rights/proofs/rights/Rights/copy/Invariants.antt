use Rattle.std.proofs.Common.{◌≡◌, take}
use Rattle.fab_rights.proofs.rights.Rights.copy.Given as goal

abbrev pub invariant-loop-class : goal.invariant-loop-class
invariant-loop-class l = l.classes.items ≡ take l.class-index l.self.classes
