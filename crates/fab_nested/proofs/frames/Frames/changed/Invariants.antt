use Rattle.std.proofs.Common.{◌≡◌, take}
use Rattle.fab_nested.specs.Nested.{writes_in, creates_in}
use Rattle.fab_nested.proofs.frames.Frames.changed.Given as goal

abbrev pub invariant-loop-row : goal.invariant-loop-row
invariant-loop-row l = record {
  writes : l.writes ≡ writes_in l.self.versions l.self.now.written (take l.row-index l.row-items);
  creates : l.creates ≡ creates_in l.self.now.made (take l.row-index l.row-items);
}
