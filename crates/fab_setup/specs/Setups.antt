-- What a bundle gives its nodes.
use Rattle.std.specs.Prelude.{◌≡◌, [], None}
use Rattle.fab_tree.specs.declared.start.Start.{Start}
use Rattle.fab_tree.specs.declared.resolved.Resolved.{Resolved}
use Rattle.fab_tree.specs.Limits.{first_passed}
use Rattle.fab_language.specs.Faults.{faults}
use Rattle.fab_language.specs.Numbers.{resolved}
use Rattle.fab_labelling.specs.Claims.{IsWellLabelled}
use Rattle.fab_places.specs.Places.{AreRights}
use Rattle.fab_settings.specs.Settings.{IsAcceptedWith}
use Rattle.fab_setup.specs.declared.setup.Setup.{Setup}

-- the bundle breaks no rule of names and types, and these are its numbers and its rights
pub record IsSetupOf (s : Start) (x : Setup) : Type 0 where
  pub right : faults s ≡ []
  pub program : x.program.value ≡ resolved s
  pub rights : AreRights (resolved s) x.rights

-- the bundle is within the limits, breaks no rule of names and types, and is well labelled
pub record KeepsRules (s : Start) : Type 0 where
  pub within : first_passed s ≡ None
  pub named : faults s ≡ []
  pub labelled : IsWellLabelled (resolved s)

-- an accepted bundle with numbers for names
abbrev pub IsAcceptedBundle : Resolved → Type 0
IsAcceptedBundle r = (s : Start) × (resolved s ≡ r) × KeepsRules s

-- this bundle, and rights with which each such bundle of these numbers is accepted
pub record IsAcceptedSetup (r : Resolved) (x : Setup) : Type 0 where
  pub program : x.program.value ≡ r
  pub accepted : (s : Start) → resolved s ≡ r → KeepsRules s → IsAcceptedWith s x.rights
