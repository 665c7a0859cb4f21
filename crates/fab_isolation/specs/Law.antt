-- Isolation as a law: of settings of which everybody may know something, and of bundles.
use Rattle.std.specs.Prelude.{◌≡◌, ℕ, ◌≤◌, Bool, List}
use Rattle.fab_tree.specs.declared.start.Start.{Start}
use Rattle.fab_tree.specs.declared.resolved.Resolved.{Resolved}
use Rattle.fab_language.specs.Numbers.{resolved}
use Rattle.fab_places.specs.Places.{AreRights}
use Rattle.fab_rights.specs.declared.rights.Rights.{Rights}
use Rattle.fab_rights.specs.Computed.{has_bit}
use Rattle.fab_world.specs.Machine.{Setting, Move}
use Rattle.fab_world.specs.Serial.{IsSetting, IsEvaluation, IsRun}
use Rattle.fab_settings.specs.Settings.{IsAcceptedWith, setting_of}
use Rattle.fab_release.specs.Sights.{Sight, Public}
use Rattle.fab_release.specs.Bundles.{sight_of, public_of, public_part}
use Rattle.fab_release.specs.Isolation.{IsSightOf, IsIsolated, IsAlike, posts_in}
use Rattle.fab_isolation.specs.Owed.{IsPublicOf, IsFollowed, IsSetOf}

-- a setting, what a set of nodes sees of it and what everybody may know of it
pub record IsShared (S : Setting) (sight : Sight) (P : Public) : Type 0 where
  pub setting : IsSetting S
  pub evaluates : IsEvaluation S
  pub sight_is : IsSightOf S sight
  pub public_is : IsPublicOf S sight P
  pub followed : IsFollowed S sight P

abbrev pub IsIsolation : Type 0
IsIsolation = (S : Setting) (sight : Sight) (P : Public) → IsShared S sight P → IsIsolated S sight P

-- two settings that share what everybody may know
abbrev pub AreIsolatedAlike : Type 0
AreIsolatedAlike = (S T : Setting) (sight : Sight) (P : Public) → IsShared S sight P → IsShared T sight P → IsAlike S T sight P

-- what is isolated over one public part is alike
abbrev pub IsolatedAreAlike : Type 0
IsolatedAreAlike = (S T : Setting) (sight : Sight) (P : Public) → IsIsolated S sight P → IsIsolated T sight P → IsAlike S T sight P

-- of every accepted bundle and every set of nodes that holds the hostile ones
abbrev pub BundlesAreIsolated : Type 0
BundlesAreIsolated =
    (s : Start) (rights : Rights) (nodes : ℕ) (sees shows : ℕ → Bool) → IsSetOf s rights nodes sees shows
    → IsIsolated (setting_of (resolved s) rights) (sight_of sees shows (has_bit nodes) (resolved s)) (public_of sees shows rights (public_part sees shows (resolved s)))

-- a run of an accepted bundle posts no more than a bundle may
abbrev pub BundlesPostFew : Type 0
BundlesPostFew =
    (s : Start) (rights : Rights) → IsAcceptedWith s rights → (moves : List Move) → IsRun (setting_of (resolved s) rights) moves → posts_in moves ≤ 10000

-- what a set of nodes sees is a function of the public part, as what everybody may know is; so bundles with one public part share both
abbrev pub SightsArePublic : Type 0
SightsArePublic =
    (r : Resolved) (sees shows has : ℕ → Bool) → sight_of sees shows has (public_part sees shows r) ≡ sight_of sees shows has r

-- and so are the rights
abbrev pub RightsArePublic : Type 0
RightsArePublic = (r : Resolved) (sees shows : ℕ → Bool) (rights : Rights) → AreRights r rights → AreRights (public_part sees shows r) rights
