-- What a bundle with holes has whose names are right once these are filled.
use Rattle.std.proofs.Common.{◌≡◌, ℕ, List, [], map, None, refl, ap, ◌∙◌}
use Rattle.fab_tree.specs.declared.start.Start.{Start}
use Rattle.fab_tree.specs.Limits.{first_passed}
use Rattle.fab_language.specs.Faults.{faults}
use Rattle.fab_language.specs.Numbers.{resolved}
use Rattle.fab_authority.specs.Authority.{HasFew}
use Rattle.fab_flows.specs.Numbers.{HasPrincipals}
use Rattle.fab_flows.proofs.Declared.{has_principals}
use Rattle.fab_front.proofs.Authorities.{has_few}
use Rattle.fab_holes.specs.Holes.{IsNamed, filled, holes}
use Rattle.fab_inferred.specs.Infers.{first_filled}

-- labels for holes change no count that has a limit
abbrev pub KeepsLimits : Type 0
KeepsLimits = (start : Start) (choice : List ℕ) → first_passed (filled start choice) ≡ first_passed start

module _ (limits : KeepsLimits) (start : Start) (within : first_passed start ≡ None) where
  abbrev firsts : List ℕ
  firsts = map (λ at. 0) (holes start)

  pub first_within : first_passed (first_filled start) ≡ None
  first_within = limits start firsts ∙ within

  module _ (right : IsNamed start) where
    first_principals : HasPrincipals (resolved (first_filled start))
    first_principals = has_principals (first_filled start) first_within right

    -- its principals, delegations and labels are the same
    pub holed_principals : HasPrincipals (resolved start)
    holed_principals = record { few = first_principals.few; delegations = first_principals.delegations; labels = first_principals.labels }

    pub first_few : HasFew (resolved (first_filled start))
    first_few = has_few (first_filled start) (resolved (first_filled start)) first_within right first_principals refl

-- what is filled with the first labels
pub first_is : (start taken first : Start) (places others : List ℕ) (labels these : List ℕ) → taken ≡ start → places ≡ holes start → others ≡ places → labels ≡ map (λ at. 0) others
    → these ≡ labels → first ≡ filled taken these → first ≡ first_filled start
first_is start taken first places others labels these t p o l s f =
    f ∙ ap (λ (x : Start). filled x these) t ∙ ap (filled start) (s ∙ l ∙ ap (map (λ at. 0)) (o ∙ p))
