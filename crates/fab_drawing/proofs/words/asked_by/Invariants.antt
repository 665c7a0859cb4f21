use Rattle.std.proofs.Common.{◌≡◌, map, string_bytes, length}
use Rattle.fab_drawing.specs.Asked.{asked_by, asked_in}
use Rattle.fab_drawing.proofs.words.asked_by.Given as goal

abbrev pub invariant-words : goal.invariant-words
invariant-words l = asked_in l.nodes (map (λ w. string_bytes w) l.rest) ≡ asked_by l.words

abbrev pub decreases-words : goal.decreases-words
decreases-words l = length l.rest
