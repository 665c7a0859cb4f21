use Rattle.std.proofs.Common.{◌≡◌, map, take}
use Rattle.fab_numbers.proofs.parts.each_numbered.Given as goal

abbrev pub invariant-loop-item : goal.invariant-loop-item
invariant-loop-item g l = l.made ≡ map (g.T.Numbered.made l.tables) (take l.item-index l.items)
