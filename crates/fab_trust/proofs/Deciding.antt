-- Whether a guard is kept, computed.
use Rattle.std.proofs.Common.{◌≡◌, ◌↔◌, ℕ, zero, suc, List, [], ◌∷◌, Option, Some, None, IsSomeAnd, IsTrue, Any, Decides, is_some, slice_get, subst, lit<}
use Rattle.std.proofs.lemmas.Bool.Decides.{Decides-and, Decides-like}
use Rattle.std.specs.List.{list_all}
use Rattle.std.proofs.lemmas.List.Elements.{All-from_recursion}
use Rattle.fab_base.specs.declared.label.Label.{Label}
use Rattle.fab_base.specs.declared.label.Policy.{Policy}
use Rattle.fab_base.specs.Labels.{ActsForOne, Covers, FlowsInteg, IsFirstCover, alone}
use Rattle.fab_base.specs.Principals.{Delegations}
use Rattle.fab_labels.proofs.FlowLemmas.{deny_covered, covered_by_denial}
use Rattle.fab_labels.proofs.Searches.{Any-head, Any-tail, no, yes}
use Rattle.fab_rights.proofs.Bits.{same_truth}
use Rattle.fab_labelling.specs.Readers.{label_at}
use Rattle.fab_language.specs.Flows.{delegations_of}
use Rattle.fab_tree.specs.declared.resolved.Resolved.{Resolved}
use Rattle.fab_authority.specs.Decided.{acts_within, covers, reaches}
use Rattle.fab_authority.proofs.Deciding.{Decides-acts, Decides-all, Decides-any, Decides-within}
use Rattle.fab_trusted.specs.declared.rows.Guard.{Guard}
use Rattle.fab_trusted.specs.Robust.{Keeps}
use Rattle.fab_trust.specs.Noted.{is_kept}

-- the label of a principal's integrity alone
abbrev pub of_one : ℕ → Label
of_one p = record { conf = []; integ = alone p ∷ [] }

-- what flows to it has a policy that covers its own
pub one_covered : (d : Delegations) (a : Label) (p : ℕ) → FlowsInteg d a (of_one p) ↔ Any (λ j. Covers d j (alone p)) a.integ
one_covered d a p = (
  λ flows. covered_by_denial d (alone p ∷ []) a.integ flows 0 (alone p) (lit< tt),
  λ some. deny_covered d (alone p ∷ []) a.integ (All-from_recursion (λ i. Any (λ j. Covers d j i) a.integ) (alone p ∷ []) (some, tt)),
)

one_decides : (d : Delegations) (p : ℕ) (j : Policy) → Decides (covers d.pairs j (alone p)) (Covers d j (alone p))
one_decides d p j =
    Decides-like (covers d.pairs j (alone p)) (λ both. record { owner = both.0; members = both.1 }) (λ c. (c.owner, c.members))
    (Decides-and (reaches d.pairs j.owner p) (list_all (acts_within d.pairs (alone p)) j.others) (Decides-acts d j.owner p)
    (Decides-all (acts_within d.pairs (alone p)) (λ m. ActsForOne d m (p ∷ [])) (Decides-within d (alone p)) j.others))

pub kept_is : (r : Resolved) (g : Guard) → IsTrue (is_kept r g) ↔ Keeps r g
kept_is r g =
    let d = delegations_of r in
    let a = label_at r g.source in
    let c = one_covered d a g.principal in
    let e = Decides-any (λ j. covers r.pairs j (alone g.principal)) (λ j. Covers d j (alone g.principal)) (one_decides d g.principal) a.integ in
    (λ t. c.1 (e.0 t), λ k. e.1 (c.0 k))

-- ---- what is found of it

any_at : {X : Type 0} (P : X → Type 0) (xs : List X) (k : ℕ) → IsSomeAnd (slice_get xs k) P → Any P xs
any_at P [] k h = absurd h
any_at P (x ∷ xs) zero h = Any-head P x xs h
any_at P (x ∷ xs) (suc k) h = Any-tail P x xs (any_at P xs k h)

first_keeps : (r : Resolved) (g : Guard) (first : Option ℕ) → IsFirstCover (delegations_of r) (label_at r g.source).integ (alone g.principal) first → IsTrue (is_some first) ↔ Keeps r g
first_keeps r g (Some k) h =
    let a = label_at r g.source in
    yes ((one_covered (delegations_of r) a g.principal).1 (any_at (λ j. Covers (delegations_of r) j (alone g.principal)) a.integ k h.0))
first_keeps r g None h = no (λ flows. h ((one_covered (delegations_of r) (label_at r g.source) g.principal).0 flows))

-- by the first of the policies of its label that covers one of the principal with no others
pub kept_by : (r : Resolved) (g : Guard) (d : Delegations) (by : List Policy) (others : List ℕ) (first : Option ℕ) → d ≡ delegations_of r → by ≡ (label_at r g.source).integ → others ≡ []
    → IsFirstCover d by (record { owner = g.principal; others = others }) first → is_some first ≡ is_kept r g
kept_by r g d by others first d_is by_is none h =
    same_truth (is_some first) (is_kept r g) {P = Keeps r g}
    (first_keeps r g first
    (subst (λ (e : Delegations). IsFirstCover e (label_at r g.source).integ (alone g.principal) first) d_is
    (subst (λ (xs : List Policy). IsFirstCover d xs (alone g.principal) first) by_is
    (subst (λ (os : List ℕ). IsFirstCover d by (record { owner = g.principal; others = os }) first) none h))))
    (kept_is r g)
