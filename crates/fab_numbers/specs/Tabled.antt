-- A table of locals.
use Rattle.std.specs.Prelude.{◌≡◌, ◌≤◌, ℕ, List, length}
use Rattle.fab_tree.specs.declared.program.Parameter.{Parameter}
use Rattle.fab_language.specs.Names.{local_name}
use Rattle.fab_tables.specs.Places.{texts_of}

-- the table has the names of these locals, so few that their numbers fit
pub record IsTabled (locals : List Parameter) (table : List (List ℕ)) : Type 0 where
  pub names_are : table ≡ texts_of local_name locals
  pub few : length locals ≤ 256
