-- What a set of nodes may read of a bundle is a view of it.
use Rattle.std.proofs.Common.{◌≡◌, ℕ, Bool, true, length}
use Rattle.std.specs.List.{enumerate_from}
use Rattle.std.proofs.lemmas.List.Elements.{recursion_from_All}
use Rattle.fab_base.proofs.Lists.{all_two}
use Rattle.fab_tree.specs.declared.resolved.Resolved.{Resolved}
use Rattle.fab_language.specs.Flows.{delegations_of}
use Rattle.fab_labels.proofs.FlowLemmas.{covered_by_denial}
use Rattle.fab_labelling.specs.Claims.{Holds, IsWellLabelled}
use Rattle.fab_labelling.specs.Obligations.{Claim, flows, conf, nowhere, declassifies, endorses, holds, answers_for, owed}
use Rattle.fab_labelling.specs.Readers.{IsVisible, label_at, principal_of}
use Rattle.fab_labelling.specs.Sites.{sites_of, pcs_of}
use Rattle.fab_places.proofs.LawLemmas.{within_all_covered}
use Rattle.fab_laws.specs.Shapes.{is_fitting}
use Rattle.fab_erasure.specs.Agreement.{IsKept, IsView}
use Rattle.fab_erasure.proofs.Places.{one_place, one_way}
use Rattle.fab_views.specs.Views.{IsSeenBy}
use Rattle.fab_views.proofs.Labels.{HasLabels}
use Rattle.fab_views.proofs.Flowing.{IsFrom, flows_from_declared}

module _ (r : Resolved) (nodes : ℕ) (sees shows : ℕ → Bool) (seen : IsSeenBy r nodes sees shows) where
  abbrev Visible : ℕ → Type 0
  Visible l = IsVisible r (delegations_of r) nodes (label_at r l)

  -- where a label flows to another, a node that may read the other may read the one
  flows_back : (a b : ℕ) → Holds r (flows a b) → Visible b → Visible a
  flows_back a b flow (n, set, node, reads) =
      let d = delegations_of r in
      let covered = covered_by_denial d (label_at r a).conf (label_at r b).conf flow.conf in
      (n, set, node, within_all_covered d (principal_of r n) (label_at r a).conf (label_at r b).conf covered reads)

  claim_kept : (c : Claim) → Holds r c → IsFrom (length r.labels) c → IsKept sees shows r c
  claim_kept (flows a b) h f = λ i. (seen.labels a).1 (f, flows_back a b h ((seen.labels b).0 i).1)
  claim_kept (nowhere a) h f = h
  claim_kept (conf a b) h f = tt
  claim_kept (declassifies a b ps) h f = tt
  claim_kept (endorses a b ps) h f = tt
  claim_kept (holds store class) h f = tt
  claim_kept (answers_for worker method p) h f = tt

  -- a bundle that is well labelled with declared labels, and fitting, with its sites in order
  pub is_view : HasLabels r → IsWellLabelled r → sites_of r ≡ enumerate_from 0 (pcs_of r) → is_fitting r ≡ true → IsView sees shows r
  is_view declared labelled ordered fits = record {
    kept =
        all_two (λ x. Holds r x.claim) (λ x. IsFrom (length r.labels) x.claim) (λ x. IsKept sees shows r x.claim) (λ x. claim_kept x.claim) (owed r)
        (recursion_from_All (λ x. Holds r x.claim) (owed r) labelled) (flows_from_declared r declared);
    shown = seen.classes;
    absent = seen.absent;
    one_place = one_place r ordered;
    one_way = one_way r ordered;
    fitting = fits;
  }
