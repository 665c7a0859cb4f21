-- Reads beside rows of values, one for each, as they are compared.
use Rattle.std.specs.Prelude.{Bool, true, false, ◌&&◌, List, [], ◌∷◌}
use Rattle.fab_base.specs.declared.object.Value.{Value}
use Rattle.fab_reads.specs.Reads.{fields_of}
use Rattle.fab_run.specs.Counts.{Sight, are_equal}

-- each read saw the values that stand in its place
abbrev pub saw_rows : List (List Value) → List Sight → Bool
saw_rows rows [] = true
saw_rows [] (one ∷ seen) = false
saw_rows (row ∷ rows) (one ∷ seen) = are_equal row (fields_of one.1) && saw_rows rows seen
