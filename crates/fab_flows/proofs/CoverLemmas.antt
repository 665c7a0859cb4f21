-- Lines of covered policies, one after the other, and which policy is uncovered first.
use Rattle.std.proofs.Common.{◌≡◌, ℕ, ◌+◌, ◌<◌, List, [], ◌∷◌, ◌++◌, length, take, get_or, slice_get, Some, Option, All, IsSomeAnd, sym, refl, ap, ◌∙◌, subst, append-nil, append_assoc}
use Rattle.std.proofs.lemmas.List.{take_more}
use Rattle.std.proofs.lemmas.List.Elements.{All-from_recursion}
use Rattle.std.proofs.lemmas.Option.{slice_get_read, slice_get_within, get_or_from_slice_get}
use Rattle.std.specs.List.{AllByRecursion as ByRecursion}
use Rattle.fab_base.specs.declared.label.Policy.{Policy}
use Rattle.fab_base.specs.Principals.{Delegations, IsBestChain}
use Rattle.fab_base.specs.Labels.{Covers, IsFirstCover}
use Rattle.fab_tree.specs.declared.resolved.Resolved.{Resolved}
use Rattle.fab_language.specs.Flows.{AreCoverLines, none, one_more, HasCover, IsCoveredBy, cover_line, delegations_of}
use Rattle.fab_flows.specs.Lines.{GrowsByLine, GrowsByLines, IsFirstUncoveredAt}

-- ---- one policy that covers another

pub first_covers : (d : Delegations) (by : List Policy) (i j : Policy) (k : ℕ) → slice_get by k ≡ Some j → IsFirstCover d by i (Some k) → Covers d j i
first_covers d by i j k is first = subst (λ (o : Option Policy). IsSomeAnd o (λ x. Covers d x i)) is first.0

-- the policy of a place, as it is read
pub read_at : (xs : List Policy) (k : ℕ) (x : Policy) → k < length xs → x ≡ get_or xs k x → slice_get xs k ≡ Some x
read_at xs k x within is = slice_get_read xs (length xs) k x refl within is

pub HasCover-of : (r : Resolved) (by : List Policy) (i j : Policy) → IsCoveredBy r by i j → HasCover r by i
HasCover-of r by i j c = (c.at, j, slice_get_within by c.at j c.is, get_or_from_slice_get by c.at j j c.is, first_covers (delegations_of r) by i j c.at c.is c.first)

-- the place of a first cover, as a search answers it, with the policy there
pub covered_by : (r : Resolved) (by : List Policy) (i j : Policy) (k : ℕ) → k < length by → j ≡ get_or by k j → IsFirstCover (delegations_of r) by i (Some k) → IsCoveredBy r by i j
covered_by r by i j k within is first = record { at = k; first = first; is = read_at by k j within is }

-- ---- lines

pub lines_push : (r : Resolved) (sign : List ℕ) (by : List Policy) (i j : Policy) (chain : List ℕ) → IsCoveredBy r by i j → IsBestChain (delegations_of r) j.owner i.owner chain
    → {is : List Policy} {text : List ℕ} → AreCoverLines r sign by is text → AreCoverLines r sign by (is ++ i ∷ []) (text ++ cover_line r sign i j chain)
lines_push r sign by i j chain c b none = subst (λ x. AreCoverLines r sign by (i ∷ []) x) (append-nil (cover_line r sign i j chain)) (one_more c b none)
lines_push r sign by i j chain c b (one_more {i = i'} {j = j'} {is = is} {chain = chain'} {text = text} c' b' lines) =
    subst (λ x. AreCoverLines r sign by (i' ∷ is ++ i ∷ []) x) (sym (append_assoc (cover_line r sign i' j' chain') text (cover_line r sign i j chain)))
    (one_more c' b' (lines_push r sign by i j chain c b lines))

covered_lines : {r : Resolved} {sign : List ℕ} {by : List Policy} {is : List Policy} {text : List ℕ} → AreCoverLines r sign by is text → ByRecursion (HasCover r by) is
covered_lines none = tt
covered_lines {r = r} {by = by} (one_more {i = i} {j = j} c b lines) = (HasCover-of r by i j c, covered_lines lines)

-- policies with lines are covered
pub lines_cover : (r : Resolved) (sign : List ℕ) (by is : List Policy) (text : List ℕ) → AreCoverLines r sign by is text → All (HasCover r by) is
lines_cover r sign by is text lines = All-from_recursion (HasCover r by) is (covered_lines lines)

-- ---- the search

pub no_lines : (r : Resolved) (sign : List ℕ) (by : List Policy) (out : List ℕ) → GrowsByLines r sign by [] out out
no_lines r sign by out = record { added = []; lines = none; whole = sym (append-nil out) }

pub line_more : (r : Resolved) (sign : List ℕ) (by policies : List Policy) (at k : ℕ) (i j : Policy) (before old new : List ℕ)
    → at < length policies → i ≡ get_or policies at i → k < length by → j ≡ get_or by k j → IsFirstCover (delegations_of r) by i (Some k)
    → GrowsByLine r sign i j old new → GrowsByLines r sign by (take at policies) before old → GrowsByLines r sign by (take (at + 1) policies) before new
line_more r sign by policies at k i j before old new within is k_within j_is first grows so_far = record {
  added = so_far.added ++ cover_line r sign i j grows.chain;
  lines = subst (λ x. AreCoverLines r sign by x (so_far.added ++ cover_line r sign i j grows.chain)) (sym (take_more policies at i within ∙ ap (λ x. take at policies ++ x ∷ []) (sym is)))
      (lines_push r sign by i j grows.chain (covered_by r by i j k k_within j_is first) grows.best so_far.lines);
  whole = grows.whole ∙ ap (λ x. x ++ cover_line r sign i j grows.chain) so_far.whole ∙ append_assoc before so_far.added (cover_line r sign i j grows.chain);
}

pub uncovered_at : (r : Resolved) (sign : List ℕ) (by policies : List Policy) (at : ℕ) (i : Policy) (before old : List ℕ)
    → at < length policies → i ≡ get_or policies at i → ¬ HasCover r by i
    → GrowsByLines r sign by (take at policies) before old → IsFirstUncoveredAt r by policies at
uncovered_at r sign by policies at i before old within is bare so_far =
    let there : slice_get policies at ≡ Some i = read_at policies at i within is in
    record { policy = i; is = there; first = record { at = at; is = there; uncovered = bare; before = lines_cover r sign by (take at policies) so_far.added so_far.lines } }
