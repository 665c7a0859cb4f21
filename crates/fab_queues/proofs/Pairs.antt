-- What a change of one pair's traffic makes of all pairs.
use Rattle.std.proofs.Common.{◌≡◌, ℕ, zero, suc, drop, ◌+◌, ◌*◌, ◌<◌, ◌≤◌, Bool, true, false, inl, inr, List, [], ◌∷◌, length, refl, sym, ap, subst, ◌∙◌, arith}
use Rattle.std.specs.Prelude.{◌==◌, nat_lt, if◌then◌else◌, slice_index_or, slice_set, replicate}
use Rattle.std.proofs.lemmas.Bool.{cases_eq, cases_lt, eq-eqb, ne_eqb, lt-ltb, le-ltb, and_from, and_left, and_right}
use Rattle.std.proofs.lemmas.List.{get_or_default, get_or-set_same, get_or-set_other}
use Rattle.std.proofs.lemmas.Nat.{mul-add-lt, same_from_place}
use Rattle.fab_queues.specs.Channels.{Traffic, Network, no_traffic, rest_of, traffic_at, with_at, with_pair}

-- ---- one pair's value among those of all pairs

-- at the pair itself
pub pair-same : {A : Type 0} (f : ℕ → ℕ → A) (a b : ℕ) (x : A) (c d : ℕ) → c ≡ a → d ≡ b → with_pair f a b x c d ≡ x
pair-same f a b x c d p q =
    ap (λ t. (if t then with_at (f a) b x else f c) d) (eq-eqb c a p)
    ∙ ap (λ t. if t then x else f a d) (eq-eqb d b q)

-- at another sender
pub pair-other_sender : {A : Type 0} (f : ℕ → ℕ → A) (a b : ℕ) (x : A) (c d : ℕ) → (c ≡ a → ⊥) → with_pair f a b x c d ≡ f c d
pair-other_sender f a b x c d p = ap (λ t. (if t then with_at (f a) b x else f c) d) (ne_eqb c a p)

-- at another receiver
pub pair-other_receiver : {A : Type 0} (f : ℕ → ℕ → A) (a b : ℕ) (x : A) (c d : ℕ) → c ≡ a → (d ≡ b → ⊥) → with_pair f a b x c d ≡ f c d
pair-other_receiver f a b x c d p q =
    ap (λ t. (if t then with_at (f a) b x else f c) d) (eq-eqb c a p)
    ∙ ap (λ t. if t then x else f a d) (ne_eqb d b q)
    ∙ ap (λ n. f n d) (sym p)

-- whatever holds of the value at the pair, and of the others, holds
pub pair-cases : {A : Type 0} (f : ℕ → ℕ → A) (a b : ℕ) (x : A) (c d : ℕ) (y : A) → (c ≡ a → d ≡ b → y ≡ x) → (((c ≡ a) × (d ≡ b) → ⊥) → y ≡ f c d)
    → y ≡ with_pair f a b x c d
pair-cases f a b x c d y here there = elim (cases_eq c a) [
  | inl p ↦ elim (cases_eq d b) [
    | inl q ↦ here p q ∙ sym (pair-same f a b x c d p q)
    | inr q ↦ there (λ e. q e.1) ∙ sym (pair-other_receiver f a b x c d p q)
  ]
  | inr p ↦ there (λ e. p e.0) ∙ sym (pair-other_sender f a b x c d p)
]

-- what stands at the pair already changes nothing
pub pair-kept : {A : Type 0} (f : ℕ → ℕ → A) (a b : ℕ) (x : A) → x ≡ f a b → (c d : ℕ) → with_pair f a b x c d ≡ f c d
pair-kept f a b x h c d =
    sym (pair-cases f a b x c d (f c d) (λ p q. ap (λ n. f n d) p ∙ ap (λ n. f a n) q ∙ sym h) (λ out. refl))

-- a part of each value
pub pair-through : {A B : Type 0} (f : A → B) (g : ℕ → ℕ → A) (a b : ℕ) (x : A) (c d : ℕ) → f (with_pair g a b x c d) ≡ with_pair (λ c d. f (g c d)) a b (f x) c d
pair-through {A} {B} f g a b x c d =
    elim (c == a) as (λ v. f ((if v then with_at (g a) b x else g c) d) ≡ (if v then with_at (λ d. f (g a d)) b (f x) else (λ d. f (g c d))) d) [
      | true ↦ elim (d == b) as (λ w. f (if w then x else g a d) ≡ (if w then f x else f (g a d))) [ true ↦ refl | false ↦ refl ]
      | false ↦ refl
    ]

-- what holds of the value at the pair, and of the others, holds of each
pub pair-each : {A : Type 0} (P : ℕ → ℕ → A → Type 0) (f : ℕ → ℕ → A) (a b : ℕ) (x : A) → P a b x → ((c d : ℕ) → P c d (f c d)) → (c d : ℕ) → P c d (with_pair f a b x c d)
pair-each P f a b x here there c d = elim (cases_eq c a) [
  | inl p ↦ elim (cases_eq d b) [
    | inl q ↦ subst (P c d) (sym (pair-same f a b x c d p q)) (subst (λ m. P m d x) (sym p) (subst (λ m. P a m x) (sym q) here))
    | inr q ↦ subst (P c d) (sym (pair-other_receiver f a b x c d p q)) (there c d)
  ]
  | inr p ↦ subst (P c d) (sym (pair-other_sender f a b x c d p)) (there c d)
]

-- ---- one receiver, sender by sender

-- at first, for none
pub replaced_none : {A : Type 0} (f : ℕ → ℕ → A) (node : ℕ) (x : A) (c d : ℕ) → f c d ≡ (if nat_lt c 0 then with_at (f c) node x d else f c d)
replaced_none f node x c d = sym (ap (λ t. if t then with_at (f c) node x d else f c d) (le-ltb c 0 (omega arith)))

-- the values that lead to a receiver are replaced for the senders below a, and then for a
pub replaced_more : {A : Type 0} (f g h : ℕ → ℕ → A) (node a : ℕ) (x : A)
    → ((c d : ℕ) → g c d ≡ (if nat_lt c a then with_at (f c) node x d else f c d))
    → ((c d : ℕ) → h c d ≡ with_pair g a node x c d)
    → (c d : ℕ) → h c d ≡ (if nat_lt c (a + 1) then with_at (f c) node x d else f c d)
replaced_more f g h node a x before step c d =
    let kept : (t : Bool) → (nat_lt c a ≡ t) → (nat_lt c (a + 1) ≡ t) → (c ≡ a → ⊥) → h c d ≡ (if nat_lt c (a + 1) then with_at (f c) node x d else f c d) =
    λ t e e' p. step c d ∙ pair-other_sender g a node x c d p ∙ before c d
    ∙ ap (λ t. if t then with_at (f c) node x d else f c d) (e ∙ sym e') in
    elim (cases_eq c a) [
      | inl p ↦
          step c d
          ∙ ap (λ t. (if t then with_at (g a) node x else g c) d) (eq-eqb c a p)
          ∙ ap (λ v. if d == node then x else v) (before a d ∙ ap (λ t. if t then with_at (f a) node x d else f a d) (le-ltb a a (omega arith)))
          ∙ ap (λ m. with_at (f m) node x d) (sym p)
          ∙ sym (ap (λ t. if t then with_at (f c) node x d else f c d) (lt-ltb c (a + 1) (omega arith)))
      | inr p ↦ elim (cases_lt c a) [
        | inl q ↦ kept true (lt-ltb c a q) (lt-ltb c (a + 1) (omega arith)) p
        | inr q ↦ kept false (le-ltb c a q) (le-ltb c (a + 1) (omega arith)) p
      ]
    ]

-- and then for all: the others have that value already
pub replaced_all : {A : Type 0} (f g : ℕ → ℕ → A) (node a : ℕ) (x : A)
    → ((c d : ℕ) → g c d ≡ (if nat_lt c a then with_at (f c) node x d else f c d))
    → ((c d : ℕ) → a ≤ c → f c d ≡ x) → (c d : ℕ) → g c d ≡ with_at (f c) node x d
replaced_all f g node a x before out c d = elim (cases_lt c a) [
  | inl p ↦ before c d ∙ ap (λ t. if t then with_at (f c) node x d else f c d) (lt-ltb c a p)
  | inr p ↦
      before c d
      ∙ ap (λ t. if t then with_at (f c) node x d else f c d) (le-ltb c a p)
      ∙ elim (d == node) as (λ t. f c d ≡ (if t then x else f c d)) [ true ↦ out c d p | false ↦ refl ]
]

-- ---- the traffic of all pairs

abbrev pub network_of : ℕ → List Traffic → Network
network_of n pairs = record { nodes = n; pairs = pairs }

-- of two nodes, the traffic stands in the list
pub within : (n : ℕ) (pairs : List Traffic) (c d : ℕ) → c < n → d < n → traffic_at (network_of n pairs) c d ≡ slice_index_or pairs (c * n + d) no_traffic
within n pairs c d p q =
    ap (λ t. if t then slice_index_or pairs (c * n + d) no_traffic else no_traffic)
    (and_from (nat_lt c n) (nat_lt d n) (lt-ltb c n p) (lt-ltb d n q))

-- where one number is no node, there is none
pub outside_sender : (n : ℕ) (pairs : List Traffic) (c d : ℕ) → n ≤ c → traffic_at (network_of n pairs) c d ≡ no_traffic
outside_sender n pairs c d p =
    ap (λ t. if t then slice_index_or pairs (c * n + d) no_traffic else no_traffic) (and_left (nat_lt c n) (nat_lt d n) (le-ltb c n p))

pub outside_receiver : (n : ℕ) (pairs : List Traffic) (c d : ℕ) → n ≤ d → traffic_at (network_of n pairs) c d ≡ no_traffic
outside_receiver n pairs c d p =
    ap (λ t. if t then slice_index_or pairs (c * n + d) no_traffic else no_traffic) (and_right (nat_lt c n) (nat_lt d n) (le-ltb d n p))

-- at each pair by itself: what holds of the list's entries, and of none
pub each_pair : (n : ℕ) (pairs : List Traffic) (P : Traffic → Type 0) (c d : ℕ) → (c < n → d < n → P (slice_index_or pairs (c * n + d) no_traffic)) → P no_traffic
    → P (traffic_at (network_of n pairs) c d)
each_pair n pairs P c d listed none = elim (cases_lt c n) [
  | inl p ↦ elim (cases_lt d n) [
    | inl q ↦ subst P (sym (within n pairs c d p q)) (listed p q)
    | inr q ↦ subst P (sym (outside_receiver n pairs c d q)) none
  ]
  | inr p ↦ subst P (sym (outside_sender n pairs c d p)) none
]

-- the list with other traffic at the place of a pair
pub changed : (n : ℕ) (pairs : List Traffic) (a b : ℕ) (t : Traffic) → a < n → b < n → length pairs ≡ n * n
    → (c d : ℕ) → traffic_at (network_of n (slice_set pairs (a * n + b) t)) c d ≡ with_pair (traffic_at (network_of n pairs)) a b t c d
changed n pairs a b t p q long c d =
    let at = a * n + b in
    let short : at < length pairs = subst (λ m. at < m) (sym long) (mul-add-lt a n b n p q) in
    pair-cases (traffic_at (network_of n pairs)) a b t c d (traffic_at (network_of n (slice_set pairs at t)) c d)
    (λ e f.
    ap (λ m. traffic_at (network_of n (slice_set pairs at t)) m d) e
    ∙ ap (λ m. traffic_at (network_of n (slice_set pairs at t)) a m) f
    ∙ within n (slice_set pairs at t) a b p q
    ∙ get_or-set_same pairs at t no_traffic short)
    (λ out. elim (cases_lt c n) [
      | inl r ↦ elim (cases_lt d n) [
        | inl s ↦
            within n (slice_set pairs at t) c d r s
            ∙ get_or-set_other pairs at (c * n + d) t no_traffic (λ h. out (same_from_place c d a b n s q h))
            ∙ sym (within n pairs c d r s)
        | inr s ↦ outside_receiver n (slice_set pairs at t) c d s ∙ sym (outside_receiver n pairs c d s)
      ]
      | inr r ↦ outside_sender n (slice_set pairs at t) c d r ∙ sym (outside_sender n pairs c d r)
    ])

-- ---- queues that were opened at the place of a pair, whose traffic stands there

pub record IsOpened (old : Network) (n : ℕ) (pairs : List Traffic) (a b at : ℕ) (here : Traffic) : Type 0 where
  pub same : network_of n pairs ≡ old
  pub from : a < old.nodes
  pub to : b < old.nodes
  pub square : length pairs ≡ n * n
  pub place : at ≡ a * n + b
  pub stands : here ≡ slice_index_or pairs at here

pub opened : {old : Network} {n : ℕ} {pairs : List Traffic} {a b at : ℕ} {here : Traffic} → network_of n pairs ≡ old → a < old.nodes → b < old.nodes
    → length pairs ≡ n * n → at ≡ a * n + b → here ≡ slice_index_or pairs at here → IsOpened old n pairs a b at here
opened same from to square place stands = record { same = same; from = from; to = to; square = square; place = place; stands = stands }

-- it is the traffic of the pair
pub here_is : {old : Network} {n : ℕ} {pairs : List Traffic} {a b at : ℕ} {here : Traffic} → IsOpened old n pairs a b at here → traffic_at old a b ≡ here
here_is {old} {n} {pairs} {a} {b} {at} {here} o =
    let from : a < n = subst (λ m. a < m.nodes) (sym o.same) o.from in
    let to : b < n = subst (λ m. b < m.nodes) (sym o.same) o.to in
    let short : at < length pairs = subst (λ m. at < m) (sym o.square) (subst (λ m. m < n * n) (sym o.place) (mul-add-lt a n b n from to)) in
    ap (λ m. traffic_at m a b) (sym o.same)
    ∙ within n pairs a b from to
    ∙ ap (λ m. slice_index_or pairs m no_traffic) (sym o.place)
    ∙ get_or_default pairs at no_traffic here short
    ∙ sym o.stands

-- other traffic in its place is that of the pair
pub turned : {A : Type 0} (f : Traffic → A) {old : Network} {n : ℕ} {pairs : List Traffic} {a b at : ℕ} {here : Traffic} → IsOpened old n pairs a b at here → (t : Traffic) (x : A)
    → f t ≡ x → (c d : ℕ) → f (traffic_at (network_of n (slice_set pairs at t)) c d) ≡ with_pair (λ c d. f (traffic_at old c d)) a b x c d
turned f {old} {n} {pairs} {a} {b} {at} {here} o t x h c d =
    let from : a < n = subst (λ m. a < m.nodes) (sym o.same) o.from in
    let to : b < n = subst (λ m. b < m.nodes) (sym o.same) o.to in
    ap (λ m. f (traffic_at (network_of n (slice_set pairs m t)) c d)) o.place
    ∙ ap f (changed n pairs a b t from to o.square c d)
    ∙ pair-through f (traffic_at (network_of n pairs)) a b t c d
    ∙ ap (λ v. with_pair (λ c d. f (traffic_at (network_of n pairs) c d)) a b v c d) h
    ∙ ap (λ m. with_pair (λ c d. f (traffic_at m c d)) a b x c d) o.same

-- and what the change keeps of it is kept of all pairs
pub kept : {A : Type 0} (f : Traffic → A) {old : Network} {n : ℕ} {pairs : List Traffic} {a b at : ℕ} {here : Traffic} → IsOpened old n pairs a b at here → (t : Traffic)
    → f t ≡ f here → (c d : ℕ) → f (traffic_at (network_of n (slice_set pairs at t)) c d) ≡ f (traffic_at old c d)
kept f {old} {n} {pairs} {a} {b} {at} {here} o t h c d =
    turned f o t (f here) h c d
    ∙ pair-kept (λ c d. f (traffic_at old c d)) a b (f here) (ap f (sym (here_is o))) c d

none_among : (k at : ℕ) → slice_index_or (replicate k no_traffic) at no_traffic ≡ no_traffic
none_among zero at = refl
none_among (suc k) zero = refl
none_among (suc k) (suc at) = none_among k at

-- where nothing was sent, no pair has traffic
pub no_pair : (n k : ℕ) (pairs : List Traffic) → pairs ≡ replicate k no_traffic → (c d : ℕ) → traffic_at (network_of n pairs) c d ≡ no_traffic
no_pair n k pairs h c d =
    each_pair n pairs (λ t. t ≡ no_traffic) c d (λ p q. ap (λ ps. slice_index_or ps (c * n + d) no_traffic) h ∙ none_among k (c * n + d)) refl

-- the rest of a list behind its first n
pub rest-drop : {A : Type 0} (n : ℕ) (xs : List A) → drop (suc n) xs ≡ rest_of (drop n xs)
rest-drop zero [] = refl
rest-drop zero (x ∷ xs) = refl
rest-drop (suc n) [] = refl
rest-drop (suc n) (x ∷ xs) = rest-drop n xs
