-- Which stores have voted Yes, and what one more Yes comes to.
use Rattle.std.proofs.Common.{◌≡◌, ◌↔◌, ℕ, zero, suc, Bool, true, false, not, ◌&&◌, ◌||◌, ◌==◌, if◌then◌else◌}
use Rattle.std.proofs.Common.{List, [], ◌∷◌, ◌++◌, fold, refl, sym, ap, ◌∙◌, arith}
use Rattle.std.specs.List.{AllByRecursion, Contains, filter, list_any}
use Rattle.std.proofs.lemmas.Bool.{or_parts, or_from}
use Rattle.std.proofs.lemmas.Bool.Decides.{nat_tests}
use Rattle.fab_base.specs.declared.object.Tid.{Tid}
use Rattle.fab_base.proofs.Lists.{behind_head}
use Rattle.fab_commit.specs.Coordinators.{Coordination, all_voted, begun, is_among, verdict, voted}
use Rattle.fab_commit.specs.declared.verdict.Verdict.TheVariants.{Commit, Wait}

-- the stores but one
abbrev others : ℕ → List ℕ → List ℕ
others store stores = filter (λ s. not (s == store)) stores

-- one of the stores isn't among those that voted
abbrev is_lacking : List ℕ → List ℕ → Bool
is_lacking votes stores = list_any (λ s. not (is_among s votes)) stores

waiting_behind : (votes : List ℕ) (c : Coordination) → (all_voted votes c).waiting ≡ fold (λ stores vote. others vote stores) c.waiting votes
waiting_behind [] c = refl
waiting_behind (v ∷ vs) c = waiting_behind vs (voted v true c)

-- ---- tests of lists

any_passing : (p q : ℕ → Bool) (xs : List ℕ) → list_any p (filter q xs) ≡ list_any (λ x. q x && p x) xs
any_passing p q [] = refl
any_passing p q (x ∷ xs) = step (any_passing p q xs) (q x) refl
  where
    step : list_any p (filter q xs) ≡ list_any (λ y. q y && p y) xs → (b : Bool) → q x ≡ b → list_any p (filter q (x ∷ xs)) ≡ list_any (λ y. q y && p y) (x ∷ xs)
    step rest true e = rw e (ap (λ b. p x || b) rest)
    step rest false e = rw e rest

not_last : (s v : ℕ) → not (s == v) ≡ not ((v == s) || false)
not_last s v = grind (arith, nat_tests)

not_either : (s v : ℕ) (b : Bool) → (not (s == v) && not b) ≡ not ((v == s) || b)
not_either s v true = grind (arith, nat_tests)
not_either s v false = grind (arith, nat_tests)

-- ---- one more Yes

others_wait : (votes stores : List ℕ) (store : ℕ)
    → list_any (λ s. not (s == store)) (fold (λ before vote. others vote before) stores votes) ≡ is_lacking (votes ++ store ∷ []) stores
others_wait [] stores store = λ i. list_any (λ s. not_last s store i) stores
others_wait (v ∷ vs) stores store =
    others_wait vs (others v stores) store
    ∙ any_passing (λ s. not (is_among s (vs ++ store ∷ []))) (λ s. not (s == v)) stores
    ∙ (λ i. list_any (λ s. not_either s v (is_among s (vs ++ store ∷ [])) i) stores)

commits : (b : Bool) → (if b then Wait else Commit) ≡ Commit → b ≡ false
commits true h = let no : Wait ≡ Commit = h in cc
commits false h = refl

-- ---- which stores voted

same_number : (s v : ℕ) → (v == s) ≡ true → v ≡ s
same_number s v h = grind (arith, nat_tests)

itself : (s v : ℕ) → v ≡ s → (v == s) ≡ true
itself s v h = grind (arith, nat_tests)

has_among : (s : ℕ) (vs : List ℕ) → is_among s vs ≡ true → Contains vs s
has_among s [] h = let no : false ≡ true = h in cc
has_among s (v ∷ vs) h = step (has_among s vs) (v == s) refl h
  where
    step : (is_among s vs ≡ true → Contains vs s) → (b : Bool) → (v == s) ≡ b → (b || is_among s vs) ≡ true → Contains (v ∷ vs) s
    step rest true e g = (0, omega arith, same_number s v e)
    step rest false e g = behind_head v vs s (rest g)

among_has : (s : ℕ) (vs : List ℕ) → Contains vs s → is_among s vs ≡ true
among_has s [] (k, low, is) = absurd (omega (arith, low))
among_has s (v ∷ vs) (zero, low, is) = ap (λ b. b || is_among s vs) (itself s v is)
among_has s (v ∷ vs) (suc k, low, is) = step (v == s) (among_has s vs (k, omega (arith, low), is))
  where
    step : (b : Bool) → is_among s vs ≡ true → (b || is_among s vs) ≡ true
    step true e = refl
    step false e = e

none_lacks : (votes stores : List ℕ) → is_lacking votes stores ≡ false → AllByRecursion (Contains votes) stores
none_lacks votes [] h = tt
none_lacks votes (s ∷ ss) h =
    let parts = or_parts (not (is_among s votes)) (is_lacking votes ss) h in
    (has_among s votes (there (is_among s votes) parts.0), none_lacks votes ss parts.1)
  where
    there : (b : Bool) → not b ≡ false → b ≡ true
    there true e = refl
    there false e = sym e

each_has : (votes stores : List ℕ) → AllByRecursion (Contains votes) stores → is_lacking votes stores ≡ false
each_has votes [] h = refl
each_has votes (s ∷ ss) h = or_from (not (is_among s votes)) (is_lacking votes ss) (ap not (among_has s votes h.0)) (each_has votes ss h.1)

pub commits_where_all_voted : (t : Tid) (stores votes : List ℕ) (store : ℕ)
    → (verdict store true (all_voted votes (begun t stores)).waiting ≡ Commit) ↔ AllByRecursion (Contains (votes ++ store ∷ [])) stores
commits_where_all_voted t stores votes store = (
  λ h. none_lacks (votes ++ store ∷ []) stores (sym came ∙ commits (list_any (λ s. not (s == store)) (all_voted votes (begun t stores)).waiting) h),
  λ h. ap (λ b. if b then Wait else Commit) (came ∙ each_has (votes ++ store ∷ []) stores h),
)
  where
    came : list_any (λ s. not (s == store)) (all_voted votes (begun t stores)).waiting ≡ is_lacking (votes ++ store ∷ []) stores
    came = ap (list_any (λ s. not (s == store))) (waiting_behind votes (begun t stores)) ∙ others_wait votes stores store
