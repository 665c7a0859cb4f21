-- There is one reply.
use Rattle.std.proofs.Common.{◌≡◌, ℕ, ◌<◌, ◌≤◌, inl, inr, List, [], ◌∷◌, ◌++◌, length, take, slice_get, Some, All, Any, sym, refl, ap, ap₂, ◌∙◌, subst, arith, codes}
use Rattle.std.proofs.lemmas.List.{get_or-take, length-take}
use Rattle.std.proofs.lemmas.Option.{slice_get_within, get_or_from_slice_get}
use Rattle.fab_base.specs.declared.label.Policy.{Policy}
use Rattle.fab_base.specs.declared.label.Label.{Label}
use Rattle.fab_base.specs.Principals.{Delegations, IsBestChain, IsNoGreater}
use Rattle.fab_base.specs.Labels.{Covers, IsFirstCover}
use Rattle.fab_tree.specs.declared.resolved.Resolved.{Resolved}
use Rattle.fab_language.specs.Words.{line}
use Rattle.fab_language.specs.Flows.{AreCoverLines, none, one_more, HasCover, IsCoveredBy, IsFirstUncovered, FlowReply, yes, no_confidentiality, no_integrity, cover_line, policy_text, delegations_of}
use Rattle.fab_flows.proofs.CoverLemmas.{first_covers}

-- ---- two places

-- what holds of the element at a place, holds of one of so many more
Any-take : (P : Policy → Type 0) (xs : List Policy) (k n : ℕ) (x : Policy) → k < n → slice_get xs k ≡ Some x → P x → Any P (take n xs)
Any-take P xs k n x below is p =
    let within : k < length xs = slice_get_within xs k x is in
    (k, x, omega (arith, length-take n xs), get_or-take n xs k x below ∙ get_or_from_slice_get xs k x x is, p)

All-at : (P : Policy → Type 0) (xs : List Policy) (k : ℕ) (x : Policy) → slice_get xs k ≡ Some x → All P xs → P x
All-at P xs k x is all = subst P (get_or_from_slice_get xs k x x is) (all k x (slice_get_within xs k x is))

All-take : (P : Policy → Type 0) (xs : List Policy) (k n : ℕ) (x : Policy) → k < n → slice_get xs k ≡ Some x → All P (take n xs) → P x
All-take P xs k n x below is all =
    let within : k < length xs = slice_get_within xs k x is in
    subst P (get_or-take n xs k x below ∙ get_or_from_slice_get xs k x x is) (all k x (omega (arith, length-take n xs)))

same_element : (xs : List Policy) (k n : ℕ) (x y : Policy) → k ≡ n → slice_get xs k ≡ Some x → slice_get xs n ≡ Some y → x ≡ y
same_element xs k n x y e f g = cc

-- ---- the first cover

no_earlier : (d : Delegations) (by : List Policy) (i j : Policy) (k n : ℕ) → k < n → slice_get by k ≡ Some j → IsFirstCover d by i (Some k) → IsFirstCover d by i (Some n) → ⊥
no_earlier d by i j k n below is one two = two.1 (Any-take (λ x. Covers d x i) by k n j below is (first_covers d by i j k is one))

pub one_cover : (r : Resolved) (by : List Policy) (i j k : Policy) → IsCoveredBy r by i j → IsCoveredBy r by i k → j ≡ k
one_cover r by i j k a b =
    let not_before : a.at < b.at → ⊥ = λ h. no_earlier (delegations_of r) by i j a.at b.at h a.is a.first b.first in
    let not_behind : b.at < a.at → ⊥ = λ h. no_earlier (delegations_of r) by i k b.at a.at h b.is b.first a.first in
    same_element by a.at b.at j k (omega (arith, not_before, not_behind)) a.is b.is

-- ---- the best chain

no_greater_both : (xs ys : List ℕ) → length xs ≡ length ys → IsNoGreater xs ys → IsNoGreater ys xs → xs ≡ ys
no_greater_both [] [] e a b = refl
no_greater_both [] (y ∷ ys) e a b = absurd (omega (arith, e))
no_greater_both (x ∷ xs) [] e a b = absurd a
no_greater_both (x ∷ xs) (y ∷ ys) e (inl a) (inl b) = absurd (omega (arith, a, b))
no_greater_both (x ∷ xs) (y ∷ ys) e (inl a) (inr b) = let same = b.0 in absurd (omega (arith, a, same))
no_greater_both (x ∷ xs) (y ∷ ys) e (inr a) (inl b) = let same = a.0 in absurd (omega (arith, b, same))
no_greater_both (x ∷ xs) (y ∷ ys) e (inr a) (inr b) = ap₂ (λ z zs. z ∷ zs) a.0 (no_greater_both xs ys (omega (arith, e)) a.1 b.1)

pub one_best : (d : Delegations) (p q : ℕ) (a b : List ℕ) → IsBestChain d p q a → IsBestChain d p q b → a ≡ b
one_best d p q a b x y =
    let no_longer : length a ≤ length b = x.shortest b y.is_chain in
    let no_shorter : length b ≤ length a = y.shortest a x.is_chain in
    let same : length a ≡ length b = omega (arith, no_longer, no_shorter) in
    no_greater_both a b same (x.least b y.is_chain (sym same)) (y.least a x.is_chain same)

-- ---- lines

no_line : {r : Resolved} {sign : List ℕ} {by : List Policy} {text : List ℕ} → AreCoverLines r sign by [] text → text ≡ []
no_line none = refl

record OneMore (r : Resolved) (sign : List ℕ) (by : List Policy) (i : Policy) (is : List Policy) (text : List ℕ) : Type 0 where
  j : Policy
  chain : List ℕ
  rest : List ℕ
  covered : IsCoveredBy r by i j
  best : IsBestChain (delegations_of r) j.owner i.owner chain
  lines : AreCoverLines r sign by is rest
  whole : text ≡ cover_line r sign i j chain ++ rest

first_line : {r : Resolved} {sign : List ℕ} {by : List Policy} {i : Policy} {is : List Policy} {text : List ℕ} → AreCoverLines r sign by (i ∷ is) text → OneMore r sign by i is text
first_line (one_more {j = j} {chain = chain} {text = rest} c b lines) = record { j = j; chain = chain; rest = rest; covered = c; best = b; lines = lines; whole = refl }

same_line : (r : Resolved) (sign : List ℕ) (by : List Policy) (i j k : Policy) (a b : List ℕ) → IsCoveredBy r by i j → IsCoveredBy r by i k
    → IsBestChain (delegations_of r) j.owner i.owner a → IsBestChain (delegations_of r) k.owner i.owner b → cover_line r sign i j a ≡ cover_line r sign i k b
same_line r sign by i j k a b c d x y =
    let same : j ≡ k = one_cover r by i j k c d in
    let chain : a ≡ b = one_best (delegations_of r) k.owner i.owner a b (subst (λ (z : Policy). IsBestChain (delegations_of r) z.owner i.owner a) same x) y in
    ap₂ (λ z zs. cover_line r sign i z zs) same chain

pub same_lines : {r : Resolved} {sign : List ℕ} {by : List Policy} {is : List Policy} {t u : List ℕ} → AreCoverLines r sign by is t → AreCoverLines r sign by is u → t ≡ u
same_lines none d = sym (no_line d)
same_lines {r = r} {sign = sign} {by = by} (one_more {i = i} {j = j} {chain = chain} c b lines) d =
    let x = first_line d in
    ap₂ (λ a z. a ++ z) (same_line r sign by i j x.j chain x.chain c x.covered b x.best) (same_lines lines x.lines) ∙ sym x.whole

-- ---- the first that nothing covers

no_earlier_uncovered : (r : Resolved) (by policies : List Policy) (i j : Policy) (a : IsFirstUncovered r by policies i) (b : IsFirstUncovered r by policies j) → a.at < b.at → ⊥
no_earlier_uncovered r by policies i j a b below = a.uncovered (All-take (HasCover r by) policies a.at b.at i below a.is b.before)

pub one_uncovered : (r : Resolved) (by policies : List Policy) (i j : Policy) → IsFirstUncovered r by policies i → IsFirstUncovered r by policies j → i ≡ j
one_uncovered r by policies i j a b =
    let not_before : a.at < b.at → ⊥ = no_earlier_uncovered r by policies i j a b in
    let not_behind : b.at < a.at → ⊥ = no_earlier_uncovered r by policies j i b a in
    same_element policies a.at b.at i j (omega (arith, not_before, not_behind)) a.is b.is

pub uncovered_not_all : (r : Resolved) (by policies : List Policy) (i : Policy) → IsFirstUncovered r by policies i → All (HasCover r by) policies → ⊥
uncovered_not_all r by policies i a all = a.uncovered (All-at (HasCover r by) policies a.at i a.is all)

-- ---- the reply

pub one_reply : {r : Resolved} {a b : Label} {t u : List ℕ} → FlowReply r a b t → FlowReply r a b u → u ≡ t
one_reply (yes f c i) (yes f' c' i') = ap₂ (λ x y. line (codes "yes") ++ x ++ y) (same_lines c' c) (same_lines i' i)
one_reply (yes f c i) (no_confidentiality n x) = absurd (n f)
one_reply (yes f c i) (no_integrity n all x) = absurd (n f)
one_reply (no_confidentiality n x) (yes f c i) = absurd (n f)
one_reply {r = r} {a = a} {b = b} (no_confidentiality {i = i} n x) (no_confidentiality {i = j} m y) =
    ap (λ z. line (codes "no") ++ line (policy_text r (codes "->") z)) (one_uncovered r b.conf a.conf j i y x)
one_reply {r = r} {a = a} {b = b} (no_confidentiality {i = i} n x) (no_integrity m all y) = absurd (uncovered_not_all r b.conf a.conf i x all)
one_reply (no_integrity n all x) (yes f c i) = absurd (n f)
one_reply {r = r} {a = a} {b = b} (no_integrity n all x) (no_confidentiality {i = i} m y) = absurd (uncovered_not_all r b.conf a.conf i y all)
one_reply {r = r} {a = a} {b = b} (no_integrity {j = i} n all x) (no_integrity {j = j} m other y) =
    ap (λ z. line (codes "no") ++ line (policy_text r (codes "<-") z)) (one_uncovered r a.integ b.integ j i y x)
