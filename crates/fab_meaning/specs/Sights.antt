-- Who sees what: everything, or what has its bit in a mask.
use Rattle.std.specs.Prelude.{ℕ, Bool, true, Option, Some, None}
use Rattle.fab_tree.specs.declared.resolved.Local.{Local}
use Rattle.fab_rights.specs.Computed.{has_bit}
use Rattle.fab_meaning.specs.declared.setting.Sight.{Sight}
use Rattle.fab_meaning.specs.declared.setting.Sight.TheVariants.{Whole, Part}

-- the label of a number is seen
abbrev pub sees : Sight → ℕ → Bool
sees Whole = λ n. true
sees (Part seen) = has_bit seen.labels

-- objects of the class of a number are shown
abbrev pub shows : Sight → ℕ → Bool
shows Whole = λ n. true
shows (Part seen) = has_bit seen.classes

-- what is given to a local is seen, and what is given to none
abbrev pub sees_given : Sight → Option Local → Bool
sees_given sight None = true
sees_given sight (Some x) = sees sight x.label.number
