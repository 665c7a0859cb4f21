-- Statements and right sides, one piece for each function of an evaluator.
use Rattle.std.specs.Prelude.{ℕ, if◌then◌else◌, List, Option}
use Rattle.fab_base.specs.declared.object.Tid.{Tid}
use Rattle.fab_base.specs.declared.object.Value.{Value}
use Rattle.fab_tree.specs.declared.resolved.Expression.{Expression}
use Rattle.fab_tree.specs.declared.resolved.Right.{Right}
use Rattle.fab_language.specs.Meaning.{M, ◌>>=◌, ◌>>◌, assign, atomically, charge, create, holds, right, values}

-- a local is given what a right side comes to
abbrev pub assignment : Tid → (ℕ → List Value → M (Option Value)) → ℕ → Right → M (Unit {0})
assignment tid call x r = do
  charge
  v ← right tid call r
  assign x v

-- an object is made of what arguments come to
abbrev pub making : Tid → ℕ → ℕ → ℕ → List Expression → M Value
making tid store class site args = do
  vs ← values args
  create tid store class site vs

-- one block where a condition is true, and the other where it isn't
abbrev pub choice : M Value → M (Unit {0}) → M (Unit {0}) → M (Unit {0})
choice test block otherwise = do
  charge
  v ← test
  if holds v then block else otherwise

-- a block, and another where it fails
abbrev pub attempt : M (Unit {0}) → M (Unit {0}) → M (Unit {0})
attempt block otherwise = charge >> atomically block otherwise
