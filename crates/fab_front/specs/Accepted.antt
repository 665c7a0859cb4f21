-- Whether a bundle is accepted.
use Rattle.std.specs.Prelude.{◌≡◌, []}
use Rattle.fab_tree.specs.declared.start.Start.{Start}
use Rattle.fab_language.specs.Faults.{faults, IsFirst}
use Rattle.fab_language.specs.Numbers.{resolved}
use Rattle.fab_labelling.specs.Claims.{IsWellLabelled}
use Rattle.fab_labelling.specs.Refusals.{IsFirstRefusal}
use Rattle.fab_front.specs.declared.accepted.Accepted.{Accepted}
use Rattle.fab_front.specs.declared.accepted.Accepted.TheVariants.{Bundle, Misnamed, Mislabelled}

-- A bundle is accepted, with numbers for names, where it keeps the rules of names, types and labels; else this is
-- its first fault, or the first refusal of its labels.
abbrev pub IsAccepted : Start → Accepted → Type 0
IsAccepted s (Bundle r) = (faults s ≡ []) × (r ≡ resolved s) × IsWellLabelled (resolved s)
IsAccepted s (Misnamed x) = IsFirst (faults s) x
IsAccepted s (Mislabelled r x) = (faults s ≡ []) × (r ≡ resolved s) × IsFirstRefusal (resolved s) x
