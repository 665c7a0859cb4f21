-- What a set of nodes may read is closed under what confidentiality owes, so it learns of asking in view alone.
use Rattle.std.proofs.Common.{ℕ, Bool, length}
use Rattle.std.proofs.lemmas.List.Elements.{recursion_from_All}
use Rattle.fab_base.proofs.Lists.{all_two}
use Rattle.fab_tree.specs.declared.resolved.Resolved.{Resolved}
use Rattle.fab_language.specs.Flows.{delegations_of}
use Rattle.fab_labels.proofs.FlowLemmas.{covered_by_denial}
use Rattle.fab_labelling.specs.Claims.{Holds, IsWellLabelled}
use Rattle.fab_labelling.specs.Obligations.{Claim, flows, conf, nowhere, declassifies, endorses, holds, answers_for, owed}
use Rattle.fab_labelling.specs.Readers.{IsVisible, label_at, principal_of}
use Rattle.fab_places.proofs.LawLemmas.{within_all_covered}
use Rattle.fab_erasure.specs.Agreement.{IsView}
use Rattle.fab_fewer.specs.Asking.{IsKeptByAccess, LearnsAsking}
use Rattle.fab_views.specs.Views.{IsSeenBy}
use Rattle.fab_views.proofs.Labels.{HasLabels}
use Rattle.fab_views.proofs.Flowing.{IsFrom, flows_from_declared}

module _ (r : Resolved) (nodes : ℕ) (sees shows : ℕ → Bool) (seen : IsSeenBy r nodes sees shows) where
  abbrev Visible : ℕ → Type 0
  Visible l = IsVisible r (delegations_of r) nodes (label_at r l)

  -- where the confidentiality of a label flows to another, a node that may read the other may read the one
  conf_back : (a b : ℕ) → Holds r (conf a b) → Visible b → Visible a
  conf_back a b flow (n, set, node, reads) =
      let d = delegations_of r in
      let covered = covered_by_denial d (label_at r a).conf (label_at r b).conf flow in
      (n, set, node, within_all_covered d (principal_of r n) (label_at r a).conf (label_at r b).conf covered reads)

  kept_by_access : (c : Claim) → Holds r c → IsFrom (length r.labels) c → IsKeptByAccess sees shows r c
  kept_by_access (conf a b) h f = λ i. (seen.labels a).1 (f, conf_back a b h ((seen.labels b).0 i).1)
  kept_by_access (flows a b) h f = tt
  kept_by_access (nowhere a) h f = tt
  kept_by_access (declassifies a b ps) h f = tt
  kept_by_access (endorses a b ps) h f = tt
  kept_by_access (holds store class) h f = tt
  kept_by_access (answers_for worker method p) h f = tt

  pub learns_asking : HasLabels r → IsWellLabelled r → IsView sees shows r → LearnsAsking sees shows r
  learns_asking declared labelled view = record {
    kept =
        all_two (λ x. Holds r x.claim) (λ x. IsFrom (length r.labels) x.claim) (λ x. IsKeptByAccess sees shows r x.claim) (λ x. kept_by_access x.claim) (owed r)
        (recursion_from_All (λ x. Holds r x.claim) (owed r) labelled) (flows_from_declared r declared);
    one_place = view.one_place;
    fitting = view.fitting;
  }
