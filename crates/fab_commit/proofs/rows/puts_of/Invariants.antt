use Rattle.std.proofs.Common.{◌≡◌, take}
use Rattle.fab_protocol.specs.Parts.{puts_of}
use Rattle.fab_commit.proofs.rows.puts_of.Given as goal

abbrev pub invariant-loop-touch : goal.invariant-loop-touch
invariant-loop-touch l = l.puts ≡ puts_of l.answers (record l.parts { touched = take l.touch-index l.touch-items })
