-- What is made of the parts of a bundle, with the labels that are left of a choice before and behind each.
use Rattle.std.specs.Prelude.{◌≡◌, ℕ, if◌then◌else◌, List, [], ◌∷◌, drop, map, filter, option_map, Option}
use Rattle.fab_tree.specs.declared.name.Name.{Name}
use Rattle.fab_tree.specs.declared.declaration.LabelText.{LabelText}
use Rattle.fab_tree.specs.declared.program.Parameter.{Parameter}
use Rattle.fab_tree.specs.declared.start.Start.{Start}
use Rattle.fab_tree.specs.declared.statement.Statement.{Statement}
use Rattle.fab_language.specs.MethodNumbers.{Numbered}
use Rattle.fab_holes.specs.Holes.{filled_other, filled_statement, is_hole}

-- a bundle that declares these labels and nothing else
abbrev pub of_labels : List LabelText → Start
of_labels labels = record {
  program = record { nodes = []; delegations = []; labels = labels; classes = []; methods = [] };
  roots = [];
  sessions = [];
  posts = [];
  crashes = [];
  cache = 0;
  schedule = [];
}

-- behind the first labels of any choice, these are left before: what is made with the choice, and what is left then
abbrev pub IsFilled : {A : Type 0} → (List ℕ → Numbered A) → List ℕ → A → List ℕ → Type 0
IsFilled m before made after = (choice : List ℕ) (k : ℕ) → before ≡ drop k choice → (made ≡ (m choice k).0) × (after ≡ drop (m choice k).1 choice)

-- the other block of an `if`
abbrev pub filled_others : Start → List ℕ → Option (List Statement) → Numbered (Option (List Statement))
filled_others start choice otherwise = filled_other start choice (option_map (λ block. map (filled_statement start choice) block) otherwise)

-- the places of holes among the labels of locals
abbrev pub places_among : Start → List Parameter → List ℕ
places_among start ps = map (λ p. p.label.at) (filter (λ p. is_hole start p.label) ps)

-- the place of a hole
abbrev pub hole_at : Start → Name → List ℕ
hole_at start x = if is_hole start x then x.at ∷ [] else []
