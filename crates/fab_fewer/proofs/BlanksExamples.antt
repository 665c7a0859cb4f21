-- Worked examples of arguments that aren't seen, and of what is asked for.
use Rattle.std.proofs.Common.{◌≡◌, ℕ, pos, List, [], ◌∷◌, Bool, true, false, ◌==◌, codes, refl, sym, true≢false}
use Rattle.fab_base.specs.declared.object.Value.TheVariants.{Int, Null}
use Rattle.fab_base.specs.declared.object.Width.TheVariants as widths
use Rattle.fab_tree.specs.declared.name.Name.{Name}
use Rattle.fab_tree.specs.declared.resolved.Use.{Use}
use Rattle.fab_tree.specs.declared.resolved.Sort.TheVariants as sorts
use Rattle.fab_tree.specs.declared.resolved.Local.{Local}
use Rattle.fab_tree.specs.declared.resolved.Class.{Class}
use Rattle.fab_tree.specs.declared.resolved.Resolved.{Resolved}
use Rattle.fab_labelling.specs.Obligations.{conf, flows}
use Rattle.fab_erasure.specs.Erased.{args_shown}
use Rattle.fab_fewer.specs.Blanks.{AreAlike}
use Rattle.fab_fewer.specs.Asking.{IsKeptByAccess, is_asked_in_view}

-- label 0 is seen, and so is class 0
abbrev sees : ℕ → Bool
sees n = n == 0

abbrev name : Name
name = record { text = codes "x"; at = 0 }

abbrev used : ℕ → Use
used n = record { number = n; at = 0 }

abbrev a_local : ℕ → Local
a_local label = record { sort = sorts.Number widths.Int; name = name; label = used label }

-- a parameter that is seen, and one that isn't
abbrev two_parameters : List Local
two_parameters = a_local 0 ∷ a_local 1 ∷ []

-- ---- arguments

alike : AreAlike sees sees two_parameters (Int (pos 1) ∷ Int (pos 2) ∷ []) (Int (pos 1) ∷ Null ∷ [])
alike = ((λ e. refl), ((λ e. absurd (true≢false (sym e))), refl))

not_alike : AreAlike sees sees two_parameters (Int (pos 1) ∷ Int (pos 2) ∷ []) (Null ∷ Int (pos 2) ∷ []) → ⊥
not_alike h = apart (h.0 refl)
  where
    apart : Int (pos 1) ≡ Null → ⊥
    apart e = cc

not_as_many : AreAlike sees sees two_parameters (Int (pos 1) ∷ []) (Int (pos 1) ∷ Null ∷ []) → ⊥
not_as_many h = h.1

blank : args_shown sees sees two_parameters (Int (pos 1) ∷ Int (pos 2) ∷ []) ≡ Int (pos 1) ∷ Null ∷ []
blank = refl

-- ---- asking: classes with the access labels 0 and 1

abbrev a_class : ℕ → Class
a_class access = record { name = name; label = used 0; access = used access; fields = [] }

abbrev two_classes : Resolved
two_classes = record {
  nodes = [];
  pairs = [];
  labels = [];
  classes = a_class 0 ∷ a_class 1 ∷ [];
  methods = [];
  roots = [];
  sessions = [];
  posts = [];
  crashes = [];
  cache = 0;
  schedule = [];
}

asked : is_asked_in_view sees sees two_classes 0 ≡ true
asked = refl

not_asked : is_asked_in_view sees sees two_classes 1 ≡ false
not_asked = refl

no_class : is_asked_in_view sees sees two_classes 2 ≡ false
no_class = refl

-- what decides that an object is asked for must be seen by who sees the access label
kept : IsKeptByAccess sees sees two_classes (conf 0 1)
kept e = refl

not_kept : IsKeptByAccess sees sees two_classes (conf 1 0) → ⊥
not_kept h = true≢false (sym (h refl))

not_asked_of_flows : IsKeptByAccess sees sees two_classes (flows 1 0)
not_asked_of_flows = tt
