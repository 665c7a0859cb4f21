-- A text that is at hand is read whole at once.
use Rattle.std.proofs.Common.{ℕ, List, [], Some, append-nil, inl, refl, sym}
use Rattle.fab_front.specs.Reading.{ReadsText}

pub read_at_once : (text : List ℕ) → ReadsText (Some text) (Some []) text
read_at_once text = record { taken = sym (append-nil text); whole = inl refl }
