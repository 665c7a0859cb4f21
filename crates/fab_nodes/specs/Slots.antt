-- Places by number, of which some are empty.
use Rattle.std.specs.Prelude.{ℕ, List, Option, None, slice_index_or}

abbrev pub slot : {A : Type 0} → List (Option A) → ℕ → Option A
slot slots n = slice_index_or slots n None
