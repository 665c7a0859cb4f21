-- What a set of nodes can't have influenced of a bundle is closed under what the bundle owes its labels, as what it may read is.
use Rattle.std.proofs.Common.{◌≡◌, ℕ, Bool, true, []}
use Rattle.std.specs.Prelude.{length}
use Rattle.std.specs.List.{enumerate_from}
use Rattle.std.proofs.lemmas.List.Elements.{recursion_from_All}
use Rattle.fab_tree.specs.declared.start.Start.{Start}
use Rattle.fab_tree.specs.declared.resolved.Resolved.{Resolved}
use Rattle.fab_language.specs.Faults.{faults}
use Rattle.fab_language.specs.Flows.{delegations_of}
use Rattle.fab_language.specs.Numbers.{resolved}
use Rattle.fab_numbers.proofs.SitedInOrder.{sites_enumerated}
use Rattle.fab_labels.proofs.FlowLemmas.{covered_by_denial}
use Rattle.fab_base.specs.declared.label.Label.{Label}
use Rattle.fab_base.specs.Labels.{FlowsInteg}
use Rattle.fab_base.proofs.Lists.{all_two}
use Rattle.fab_labelling.specs.Claims.{Holds, IsWellLabelled}
use Rattle.fab_labelling.specs.Obligations.{Claim, flows, conf, nowhere, declassifies, endorses, holds, answers_for, owed}
use Rattle.fab_labelling.specs.Readers.{Excludes, label_at, principal_of}
use Rattle.fab_labelling.specs.Sites.{sites_of, pcs_of}
use Rattle.fab_places.proofs.LawLemmas.{within_all_covered}
use Rattle.fab_laws.specs.Shapes.{is_fitting}
use Rattle.fab_erasure.specs.Agreement.{IsKept, IsView}
use Rattle.fab_erasure.proofs.Places.{one_place, one_way}
use Rattle.fab_shapes.proofs.Programs.{program_fits}
use Rattle.fab_views.proofs.Declared.{labels_declared}
use Rattle.fab_views.proofs.Labels.{HasLabels}
use Rattle.fab_views.proofs.Flowing.{IsFrom, flows_from_declared}
use Rattle.fab_trusted.specs.Trusts.{IsTrustedBy}

module _ (r : Resolved) (nodes : ℕ) where
  abbrev pub Untouched : Label → Type 0
  Untouched l = Excludes r (delegations_of r) nodes l

  -- where the integrity of a label flows to that of another, whoever can't have influenced the other can't have influenced the one
  pub excluded_back : (a b : Label) → FlowsInteg (delegations_of r) a b → Untouched b → Untouched a
  excluded_back a b flow none n set node writes =
      let d = delegations_of r in
      none n set node (within_all_covered d (principal_of r n) b.integ a.integ (covered_by_denial d b.integ a.integ flow) writes)

module _ (r : Resolved) (nodes : ℕ) (trusts keeps : ℕ → Bool) (given : IsTrustedBy r nodes trusts keeps) where
  claim_kept : (c : Claim) → Holds r c → IsFrom (length r.labels) c → IsKept trusts keeps r c
  claim_kept (flows a b) h f = λ i. (given.labels a).1 (f, excluded_back r nodes (label_at r a) (label_at r b) h.integ ((given.labels b).0 i).1)
  claim_kept (nowhere a) h f = h
  claim_kept (conf a b) h f = tt
  claim_kept (declassifies a b ps) h f = tt
  claim_kept (endorses a b ps) h f = tt
  claim_kept (holds store class) h f = tt
  claim_kept (answers_for worker method p) h f = tt

  is_view : HasLabels r → IsWellLabelled r → sites_of r ≡ enumerate_from 0 (pcs_of r) → is_fitting r ≡ true → IsView trusts keeps r
  is_view declared labelled ordered fits = record {
    kept =
        all_two (λ x. Holds r x.claim) (λ x. IsFrom (length r.labels) x.claim) (λ x. IsKept trusts keeps r x.claim) (λ x. claim_kept x.claim) (owed r)
        (recursion_from_All (λ x. Holds r x.claim) (owed r) labelled) (flows_from_declared r declared);
    shown = given.classes;
    absent = given.absent;
    one_place = one_place r ordered;
    one_way = one_way r ordered;
    fitting = fits;
  }

pub trusted_view : (s : Start) (nodes : ℕ) (trusts keeps : ℕ → Bool) → faults s ≡ [] → IsWellLabelled (resolved s) → IsTrustedBy (resolved s) nodes trusts keeps
    → IsView trusts keeps (resolved s)
trusted_view s nodes trusts keeps named labelled given =
    is_view (resolved s) nodes trusts keeps given (labels_declared s named) labelled (sites_enumerated s) (program_fits s named)
