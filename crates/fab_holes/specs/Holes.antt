-- Holes of a bundle, and the bundle with labels for them.
--
-- A hole is the label name `infer` at a parameter or another local, where no label has that name. Holes are counted from 0 over
-- the whole program, in the order of the text.
use Rattle.std.specs.Prelude.{◌≡◌, ℕ, suc, Bool, not, ◌&&◌, if◌then◌else◌, codes, List, [], map, Option, Some, None, slice_get, filter}
use Rattle.std.specs.List.{flat_map, list_any}
use Rattle.std.specs.Str.{bytes_eq}
use Rattle.fab_tree.specs.declared.name.Name.{Name}
use Rattle.fab_tree.specs.declared.declaration.LabelText.{LabelText}
use Rattle.fab_tree.specs.declared.program.Parameter.{Parameter}
use Rattle.fab_tree.specs.declared.program.Method.{Method}
use Rattle.fab_tree.specs.declared.start.Start.{Start}
use Rattle.fab_tree.specs.declared.statement.Statement.{Statement, fold-Statement}
use Rattle.fab_tree.specs.declared.statement.Statement.TheOpen as s
use Rattle.fab_tree.specs.declared.statement.Statement.TheVariants as made
use Rattle.fab_tree.specs.Limits.{locals_of}
use Rattle.fab_language.specs.Faults.{faults}
use Rattle.fab_language.specs.MethodNumbers.{Numbered, siteless, made_of, made_of_two, in_turn}

abbrev pub is_infer : Name → Bool
is_infer x = bytes_eq x.text (codes "infer")

-- no label has the name
abbrev pub has_holes : Start → Bool
has_holes start = not (list_any (λ l. is_infer l.name) start.program.labels)

abbrev pub is_hole : Start → Name → Bool
is_hole start x = has_holes start && is_infer x

-- the places of those of a method
abbrev pub holes_in : Start → Method → List ℕ
holes_in start m = map (λ p. p.label.at) (filter (λ p. is_hole start p.label) (locals_of m))

-- the places of all
abbrev pub holes : Start → List ℕ
holes start = flat_map (holes_in start) start.program.methods

-- ---- labels for holes

-- the name of a declared label, at this place; a name that stays where there is none
abbrev pub named_as : Option LabelText → Name → Name
named_as None x = x
named_as (Some l) x = record { text = l.name.text; at = x.at }

-- the name of the label that is chosen, at this place
abbrev pub chosen_name : Start → Option ℕ → Name → Name
chosen_name start None x = x
chosen_name start (Some l) x = named_as (slice_get start.program.labels l) x

module _ (start : Start) (choice : List ℕ) where
  abbrev pub filled_name : Name → Numbered Name
  filled_name x k = if is_hole start x then (chosen_name start (slice_get choice k) x, suc k) else (x, k)

  abbrev pub filled_parameter : Parameter → Numbered Parameter
  filled_parameter p = made_of (λ l. record p { label = l }) (filled_name p.label)

  abbrev pub filled_other : Option (List (Numbered Statement)) → Numbered (Option (List Statement))
  filled_other None = siteless None
  filled_other (Some block) = made_of (λ b. Some b) (in_turn block)

  abbrev pub filled_step : s.Statement-F (Numbered Statement) → Numbered Statement
  filled_step (s.Declare t x l e at) = made_of (λ l. made.Declare t x l e at) (filled_name l)
  filled_step (s.Assign x r) = siteless (made.Assign x r)
  filled_step (s.Write x y e) = siteless (made.Write x y e)
  filled_step (s.Call x es) = siteless (made.Call x es)
  filled_step (s.If e block otherwise) = made_of_two (made.If e) (in_turn block) (filled_other otherwise)
  filled_step (s.While e block) = made_of (made.While e) (in_turn block)
  filled_step (s.Atomic x block otherwise at) = made_of_two (λ b o. made.Atomic x b o at) (in_turn block) (in_turn otherwise)
  filled_step (s.Fail at) = siteless (made.Fail at)

  abbrev pub filled_statement : Statement → Numbered Statement
  filled_statement = fold-Statement (Numbered Statement) filled_step

  abbrev pub filled_method : Method → Numbered Method
  filled_method m =
      made_of_two (λ ps body. record m { parameters = ps; body = body })
      (in_turn (map filled_parameter m.parameters)) (in_turn (map filled_statement m.body))

  -- the bundle with these labels for its holes; all places stay
  abbrev pub filled : Start
  filled = record start { program = record start.program { methods = (in_turn (map filled_method start.program.methods) 0).0 } }

-- ---- bundles with holes

-- With the first declared label for each hole the bundle keeps the rules of names and types. So there is a label where there
-- is a hole, and what isn't a hole is as it must be.
abbrev pub IsNamed : Start → Type 0
IsNamed start = faults (filled start (map (λ at. 0) (holes start))) ≡ []
