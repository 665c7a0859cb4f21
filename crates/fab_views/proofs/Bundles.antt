-- An accepted bundle has its sites in order, and values fit it.
use Rattle.std.proofs.Common.{◌≡◌, ℕ, Bool, []}
use Rattle.fab_tree.specs.declared.start.Start.{Start}
use Rattle.fab_language.specs.Faults.{faults}
use Rattle.fab_language.specs.Numbers.{resolved}
use Rattle.fab_labelling.specs.Claims.{IsWellLabelled}
use Rattle.fab_numbers.proofs.SitedInOrder.{sites_enumerated}
use Rattle.fab_shapes.proofs.Programs.{program_fits}
use Rattle.fab_erasure.specs.Agreement.{IsView}
use Rattle.fab_erasure.proofs.Agrees.{erasure_agrees}
use Rattle.fab_views.specs.Views.{IsSeenBy, BundlesAgree}
use Rattle.fab_views.proofs.Declared.{labels_declared}
use Rattle.fab_views.proofs.Seen.{is_view}

-- no limit is asked for
pub view_of : (s : Start) (nodes : ℕ) (sees shows : ℕ → Bool) → faults s ≡ [] → IsWellLabelled (resolved s) → IsSeenBy (resolved s) nodes sees shows
    → IsView sees shows (resolved s)
view_of s nodes sees shows named labelled seen = is_view (resolved s) nodes sees shows seen (labels_declared s named) labelled (sites_enumerated s) (program_fits s named)

pub agrees : BundlesAgree
agrees s nodes sees shows within named labelled seen known request tid fuel up shaped fits =
    erasure_agrees sees shows (resolved s) known request tid fuel (view_of s nodes sees shows named labelled seen) up shaped fits
