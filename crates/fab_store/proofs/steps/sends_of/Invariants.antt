use Rattle.std.proofs.Common.{◌≡◌, map, take}
use Rattle.fab_base.specs.MessageSpelling.{spelled}
use Rattle.fab_store.proofs.steps.sends_of.Given as goal

abbrev pub invariant-loop-send : goal.invariant-loop-send
invariant-loop-send l = l.all ≡ map (λ x. (x.0, spelled x.1)) (take l.send-index l.sends)
