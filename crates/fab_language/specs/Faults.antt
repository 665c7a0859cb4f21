-- What is wrong with the names and types of a bundle, and which of it a refusal tells.
use Rattle.std.specs.Prelude.{◌≡◌, ◌⊎◌, ℕ, ◌<◌, ◌≤◌, List, ◌++◌, All, Contains}
use Rattle.fab_tree.specs.declared.start.Start.{Start}
use Rattle.fab_language.specs.declared.rule.Fault.{Fault}
use Rattle.fab_language.specs.declared.rule.NameRule.{NameRule}
use Rattle.fab_language.specs.declared.rule.NameRule.TheVariants as rule
use Rattle.fab_language.specs.Unknown.{unknown}
use Rattle.fab_language.specs.Doubled.{doubled}
use Rattle.fab_language.specs.Roles.{misplaced}
use Rattle.fab_language.specs.Arity.{miscounted}
use Rattle.fab_language.specs.Types.{mistyped}

-- all that breaks a rule of names and types, rule by rule
abbrev pub faults : Start → List Fault
faults s = unknown s ++ doubled s ++ misplaced s ++ miscounted s ++ mistyped s

-- the order of the rules at one place
abbrev pub rank : NameRule → ℕ
rank rule.Unknown = 0
rank rule.Doubled = 1
rank rule.Node = 2
rank rule.Arity = 3
rank rule.Typing = 4

-- the one stands before the other in the text, or at its place with no later rule
abbrev pub IsNoLater : Fault → Fault → Type 0
IsNoLater x y = (x.at < y.at) ⊎ ((x.at ≡ y.at) × (rank x.rule ≤ rank y.rule))

-- the fault that a refusal tells: the first by its place, and at one place by the order of the rules
pub record IsFirst (xs : List Fault) (x : Fault) : Type 0 where
  pub is_one : Contains xs x
  pub first : All (λ y. IsNoLater x y) xs
