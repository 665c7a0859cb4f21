-- Nothing is a front of every text.
use Rattle.std.proofs.Common.{ℕ, List, Option}
use Rattle.std.proofs.KnownBytes.{Appends-nil}
use Rattle.fab_front.specs.Reading.{WritesFront}

pub none_written : (written : Option (List ℕ)) (text : List ℕ) → WritesFront written written text
none_written written text = (0, Appends-nil written)
