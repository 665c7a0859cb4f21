-- What is seen of what a method is given.
use Rattle.std.specs.Prelude.{ℕ, Bool, Option, Some, None}
use Rattle.fab_base.specs.declared.object.Value.{Value}
use Rattle.fab_tree.specs.declared.resolved.Local.{Local}
use Rattle.fab_erasure.specs.Erased.{shown_if}

-- what is given to a parameter, and to none
abbrev pub shown_to : (ℕ → Bool) → Option Local → Value → Value
shown_to sees None v = v
shown_to sees (Some x) v = shown_if (sees x.label.number) v
