-- Where each hole has a least label and some choice solves, the least solve, too, and each flows to what the other has there.
use Rattle.std.proofs.Common.{◌≡◌, ℕ, zero, suc, ◌+◌, ◌-◌, ◌<◌, ◌≤◌, inl, inr, nat_lt, true, false, if◌then◌else◌, List, [], ◌∷◌, ◌++◌, length, Some, None, refl, sym, ap, ◌∙◌, subst, arith, Contains}
use Rattle.std.specs.Prelude.{slice_get, unwrap_or}
use Rattle.std.specs.List.{AllByRecursion, AllZip, flat_map}
use Rattle.std.proofs.lemmas.Bool.{cases_lt}
use Rattle.std.proofs.lemmas.List.Elements.{Contains-append_left, Contains-append_right, Contains-append_cases}
use Rattle.fab_base.specs.Principals.{Leads}
use Rattle.fab_principals.proofs.ChainLemmas.{Leads-append}
use Rattle.fab_tree.specs.declared.resolved.Resolved.{Resolved}
use Rattle.fab_labelling.specs.Claims.{Holds}
use Rattle.fab_labelling.specs.Obligations.{Claim, flows, conf, nowhere, declassifies, endorses, holds, answers_for, Owed, owed}
use Rattle.fab_holes.specs.Open.{opened, renamed_claim}
use Rattle.fab_holes.specs.Least.{count, into_hole, into_holes, Goes, Fits, IsLeast, AreLeast, chosen_label}
use Rattle.fab_holes.proofs.Renaming.{In, each_of, all_of}

-- ---- numbers

pub slice_some : {A : Type 0} (xs : List A) (i : ℕ) → i < length xs → (x : A) × (slice_get xs i ≡ Some x)
slice_some [] i h = absurd (omega (arith, h))
slice_some (x ∷ xs) zero h = (x, refl)
slice_some (x ∷ xs) (suc i) h = slice_some xs i (omega (arith, h))

pub slice_none : {A : Type 0} (xs : List A) (i : ℕ) → length xs ≤ i → slice_get xs i ≡ None
slice_none [] i h = refl
slice_none (x ∷ xs) zero h = absurd (omega (arith, h))
slice_none (x ∷ xs) (suc i) h = slice_none xs i (omega (arith, h))

pub lt_true : (a b : ℕ) → a < b → nat_lt a b ≡ true
lt_true a b h = search (arith, h)

pub lt_false : (a b : ℕ) → b ≤ a → nat_lt a b ≡ false
lt_false a b h = search (arith, h)

-- a declared label stays
pub stays_below : (n : ℕ) (choice : List ℕ) (l : ℕ) → l < n → chosen_label n choice l ≡ l
stays_below n choice l h = ap (λ b. if b then l else unwrap_or (slice_get choice (l - n)) l) (lt_true l n h)

-- a hole has what is chosen
pub at_hole : (n : ℕ) (choice : List ℕ) (i k : ℕ) → slice_get choice i ≡ Some k → chosen_label n choice (n + i) ≡ k
at_hole n choice i k e =
    ap (λ b. if b then n + i else unwrap_or (slice_get choice (n + i - n)) (n + i)) (lt_false (n + i) n (omega arith))
    ∙ ap (λ j. unwrap_or (slice_get choice j) (n + i)) (by (n + i) refl) ∙ ap (λ s. unwrap_or s (n + i)) e
  where
    by : (m : ℕ) → m ≡ n + i → m - n ≡ i
    by m h = omega (arith, h)

-- what is no hole stays
pub stays_behind : (n : ℕ) (choice : List ℕ) (i : ℕ) → length choice ≤ i → chosen_label n choice (n + i) ≡ n + i
stays_behind n choice i h =
    ap (λ b. if b then n + i else unwrap_or (slice_get choice (n + i - n)) (n + i)) (lt_false (n + i) n (omega arith))
    ∙ ap (λ j. unwrap_or (slice_get choice j) (n + i)) (by (n + i) refl) ∙ ap (λ s. unwrap_or s (n + i)) (slice_none choice i h)
  where
    by : (m : ℕ) → m ≡ n + i → m - n ≡ i
    by m h = omega (arith, h)

-- a label is declared, or a hole, or neither
pub data Kind (n m : ℕ) : ℕ → Type 0 where
  declared : (l : ℕ) → l < n → Kind n m l
  hole : (i : ℕ) → i < m → Kind n m (n + i)
  neither : (i : ℕ) → m ≤ i → Kind n m (n + i)

pub kind_of : (n m l : ℕ) → Kind n m l
kind_of n m l = elim (cases_lt l n) [
  | inl below ↦ declared l below
  | inr above ↦ let e : n + (l - n) ≡ l = omega (arith, above) in subst (Kind n m) e (elim (cases_lt (l - n) m) [ inl within ↦ hole (l - n) within | inr past ↦ neither (l - n) past ])
]

-- flows are between labels of the first, if there are any
abbrev pub IsWithin : ℕ → Claim → Type 0
IsWithin n (flows a b) = 0 < n → (a < n) × (b < n)
IsWithin n (conf a b) = Unit {0}
IsWithin n (nowhere a) = Unit {0}
IsWithin n (declassifies a b ps) = Unit {0}
IsWithin n (endorses a b ps) = Unit {0}
IsWithin n (holds store class) = Unit {0}
IsWithin n (answers_for worker method p) = Unit {0}

module _ (r : Resolved) where
  abbrev n : ℕ
  n = count r

  abbrev all : List Owed
  all = owed (opened r)

  goes_refl : (a : ℕ) → Goes r a a
  goes_refl a = record { conf = λ p group h. h; integ = λ p group h. h }

  goes_trans : (a b c : ℕ) → Goes r a b → Goes r b c → Goes r a c
  goes_trans a b c f g = record { conf = λ p group h. g.conf p group (f.conf p group h); integ = λ p group h. f.integ p group (g.integ p group h) }

  goes_same : (a b c d : ℕ) → a ≡ b → c ≡ d → Goes r a c → Goes r b d
  goes_same a b c d e f g = subst (λ z. Goes r z d) e (subst (λ z. Goes r a z) f g)

  -- ---- flows to holes, as pairs

  pair_of : (xs : List Owed) (x : Owed) (a b : ℕ) → In x xs → x.claim ≡ flows a b → n ≤ b → Contains (flat_map (λ (y : Owed). into_hole r y.claim) xs) (a, b)
  pair_of [] x a b i e h = absurd i
  pair_of (y ∷ ys) x a b (inl same) e h =
      Contains-append_left (into_hole r y.claim) (flat_map (λ (z : Owed). into_hole r z.claim) ys) (a, b)
      (subst (λ c. Contains (into_hole r c) (a, b)) (sym (ap (λ (z : Owed). z.claim) (sym same) ∙ e))
      (subst (λ t. Contains {X = ℕ × ℕ} (if t then [] else (a, b) ∷ []) (a, b)) (sym (lt_false b n h)) (0, omega arith, refl)))
  pair_of (y ∷ ys) x a b (inr i) e h =
      Contains-append_right (into_hole r y.claim) (flat_map (λ (z : Owed). into_hole r z.claim) ys) (a, b) (pair_of ys x a b i e h)

  abbrev Source : ℕ → ℕ → Owed → Type 0
  Source a b x = (x.claim ≡ flows a b) × (n ≤ b)

  of_claim : (c : Claim) (a b : ℕ) → Contains (into_hole r c) (a, b) → (c ≡ flows a b) × (n ≤ b)
  of_claim (flows s t) a b h = elim (cases_lt t n) [
    | inl below ↦ absurd (none (subst (λ v. Contains {X = ℕ × ℕ} (if v then [] else (s, t) ∷ []) (a, b)) (lt_true t n below) h))
    | inr above ↦ one above (subst (λ v. Contains {X = ℕ × ℕ} (if v then [] else (s, t) ∷ []) (a, b)) (lt_false t n above) h)
  ]
    where
      none : Contains {X = ℕ × ℕ} [] (a, b) → ⊥
      none (k, inside, is) = absurd (omega (arith, inside))

      one : n ≤ t → Contains {X = ℕ × ℕ} ((s, t) ∷ []) (a, b) → (flows s t ≡ flows a b) × (n ≤ b)
      one above (zero, inside, is) = let e : (s, t) ≡ (a, b) = is in (ap (λ (p : ℕ × ℕ). flows p.0 p.1) e, subst (λ z. n ≤ z) (ap (λ (p : ℕ × ℕ). p.1) e) above)
      one above (suc k, inside, is) = absurd (omega (arith, inside))
  of_claim (conf s t) a b h = absurd (omega (arith, h.1))
  of_claim (nowhere s) a b h = absurd (omega (arith, h.1))
  of_claim (declassifies s t ps) a b h = absurd (omega (arith, h.1))
  of_claim (endorses s t ps) a b h = absurd (omega (arith, h.1))
  of_claim (holds store class) a b h = absurd (omega (arith, h.1))
  of_claim (answers_for worker method p) a b h = absurd (omega (arith, h.1))

  pub of_pair : (xs : List Owed) (a b : ℕ) → Contains (flat_map (λ (y : Owed). into_hole r y.claim) xs) (a, b) → (x : Owed) × In x xs × (x.claim ≡ flows a b) × (n ≤ b)
  of_pair [] a b h = absurd (omega (arith, h.1))
  of_pair (y ∷ ys) a b h = elim (Contains-append_cases (into_hole r y.claim) (flat_map (λ (z : Owed). into_hole r z.claim) ys) (a, b) h) [
    | inl here ↦ let t = of_claim y.claim a b here in (y, inl refl, t.0, t.1)
    | inr there ↦ let t = of_pair ys a b there in (t.0, inr t.1, t.2, t.3)
  ]

  -- ---- what is owed, with labels for the holes

  abbrev pub HoldsFor : List ℕ → Claim → Type 0
  HoldsFor choice c = Holds r (renamed_claim (chosen_label n choice) c)

  abbrev pub AllHoldFor : List ℕ → Type 0
  AllHoldFor choice = AllByRecursion (λ (x : Owed). HoldsFor choice x.claim) all

  module _ (d : List ℕ) (solves : AllHoldFor d) where
    abbrev f : ℕ → ℕ
    f = chosen_label n d

    pair_goes : (a b : ℕ) → Contains (into_holes r) (a, b) → Goes r (f a) (f b)
    pair_goes a b h =
        let t = of_pair all a b h in
        subst (HoldsFor d) t.2 (each_of (λ (x : Owed). HoldsFor d x.claim) all t.0 solves t.1)

    chain_goes : (l : ℕ) (way : List ℕ) (to : ℕ) → Leads (into_holes r) l way to → Goes r (f l) (f to)
    chain_goes l [] to h = let e : l ≡ to = h in subst (λ z. Goes r (f l) (f z)) e (goes_refl (f l))
    chain_goes l (x ∷ way) to h = goes_trans (f l) (f x) (f to) (pair_goes l x h.0) (chain_goes x way to h.1)

    -- whatever solves has at each hole a label to which each flows that lies below
    pub fits : (h k : ℕ) → k < n → slice_get d h ≡ Some k → Fits r h k
    fits h k within e = (within, λ l below. goes_same (f l) l (f (n + h)) k (stays_below n d l below.0) (at_hole n d h k e) (chain_goes l below.1.0 (n + h) below.1.1))

  -- ---- the least

  pub least_at : (h : ℕ) (ks : List ℕ) (i k : ℕ) → AreLeast r h ks → slice_get ks i ≡ Some k → IsLeast r (h + i) k
  least_at h [] i k all e = absurd (cc)
  least_at h (x ∷ ks) zero k all e = let same : x ≡ k = cc in subst (λ z. IsLeast r (h + 0) z) same (subst (λ z. IsLeast r z x) (the (h + 0) refl) all.0)
    where
      the : (m : ℕ) → m ≡ h + 0 → h ≡ m
      the m e = omega (arith, e)
  least_at h (x ∷ ks) (suc i) k all e = subst (λ z. IsLeast r z k) (the (suc h + i) (h + suc i) refl refl) (least_at (suc h) ks i k all.1 e)
    where
      the : (a b : ℕ) → a ≡ suc h + i → b ≡ h + suc i → a ≡ b
      the a b e f = omega (arith, e, f)

  module _ (c : List ℕ) (least : AreLeast r 0 c) (within : AllByRecursion (λ (x : Owed). IsWithin (n + length c) x.claim) all) where
    abbrev g : ℕ → ℕ
    g = chosen_label n c

    is_least : (i k : ℕ) → slice_get c i ≡ Some k → IsLeast r i k
    is_least i k e = subst (λ z. IsLeast r z k) (by (0 + i) refl) (least_at 0 c i k least e)
      where
        by : (m : ℕ) → m ≡ 0 + i → m ≡ i
        by m e = omega (arith, e)

    -- the least meet whatever flows to a hole
    to_hole : (a i k : ℕ) → slice_get c i ≡ Some k → Kind n (length c) a → a < n + length c → Contains (into_holes r) (a, n + i) → Goes r (g a) k
    to_hole a i k e (declared l below) inside h = goes_same a (g a) k k (sym (stays_below n c a below)) refl ((is_least i k e).0.0.1 a (below, ((n + i) ∷ [], (h, refl))))
    to_hole a i k e (hole j more) inside h =
        let s = slice_some c j more in
        let here = is_least i k e in
        goes_same s.0 (g a) k k (sym (at_hole n c j s.0 s.1)) refl
        ((is_least j s.0 s.1).0.1 k (here.0.0.0, λ l below. here.0.0.1 l (below.0, (below.1.0 ++ ((n + i) ∷ []), Leads-append (into_holes r) l below.1.0 (n + j) ((n + i) ∷ []) (n + i) below.1.1 (h, refl)))))
    to_hole a i k e (neither j past) inside h = absurd (omega (arith, past, inside))

    module _ (d : List ℕ) (many : length d ≡ length c) (are_declared : AllByRecursion (λ k. k < n) d) (solves : AllHoldFor d) where
      -- each flows to what the other has
      lower_at : (i k m : ℕ) → slice_get c i ≡ Some k → slice_get d i ≡ Some m → m < n → Goes r k m
      lower_at i k m e f within = (is_least i k e).0.1 m (fits d solves i m within f)

      declared_at : (xs : List ℕ) (i m : ℕ) → AllByRecursion (λ k. k < n) xs → slice_get xs i ≡ Some m → m < n
      declared_at [] i m h e = absurd (cc)
      declared_at (x ∷ xs) zero m h e = let same : x ≡ m = cc in subst (λ z. z < n) same h.0
      declared_at (x ∷ xs) (suc i) m h e = declared_at xs i m h.1 e

      lower : (a : ℕ) → Goes r (g a) (chosen_label n d a)
      lower a = by a (kind_of n (length c) a)
        where
          by : (a : ℕ) → Kind n (length c) a → Goes r (g a) (chosen_label n d a)
          by a (declared l below) = goes_same a (g a) a (chosen_label n d a) (sym (stays_below n c a below)) (sym (stays_below n d a below)) (goes_refl a)
          by a (hole i more) =
              let s = slice_some c i more in
              let t = slice_some d i (subst (λ z. i < z) (sym many) more) in
              goes_same s.0 (g (n + i)) t.0 (chosen_label n d (n + i)) (sym (at_hole n c i s.0 s.1)) (sym (at_hole n d i t.0 t.1))
              (lower_at i s.0 t.0 s.1 t.1 (declared_at d i t.0 are_declared t.1))
          by a (neither i past) =
              goes_same (n + i) (g (n + i)) (n + i) (chosen_label n d (n + i)) (sym (stays_behind n c i past)) (sym (stays_behind n d i (subst (λ z. z ≤ i) (sym many) past))) (goes_refl (n + i))

      one : (x : Owed) → In x all → (claim : Claim) → x.claim ≡ claim → IsWithin (n + length c) claim → HoldsFor d claim → HoldsFor c claim
      one x i (flows a b) e inside h = to b (kind_of n (length c) b) e h
        where
          to : (b : ℕ) → Kind n (length c) b → x.claim ≡ flows a b → HoldsFor d (flows a b) → HoldsFor c (flows a b)
          to b (declared l below) e h =
              goes_trans (g a) (chosen_label n d a) (g b) (lower a) (goes_same (chosen_label n d a) (chosen_label n d a) (chosen_label n d b) (g b) refl (stays_below n d b below ∙ sym (stays_below n c b below)) h)
          to b (hole j more) e h =
              let s = slice_some c j more in
              goes_same (g a) (g a) s.0 (g (n + j)) refl (sym (at_hole n c j s.0 s.1)) (to_hole a j s.0 s.1 (kind_of n (length c) a) (inside (omega (arith, more))).0 (pair_of all x a (n + j) i e (omega arith)))
          to b (neither j past) e h =
              goes_trans (g a) (chosen_label n d a) (g (n + j)) (lower a)
              (goes_same (chosen_label n d a) (chosen_label n d a) (chosen_label n d (n + j)) (g (n + j)) refl (stays_behind n d j (subst (λ z. z ≤ j) (sym many) past) ∙ sym (stays_behind n c j past)) h)
      one x i (conf a b) e inside h = λ p group deny. h p group ((lower a).conf p group deny)
      one x i (nowhere a) e inside h = h
      one x i (declassifies a b ps) e inside h = h
      one x i (endorses a b ps) e inside h = h
      one x i (holds store class) e inside h = h
      one x i (answers_for worker method p) e inside h = h

      pub least_solve : AllHoldFor c
      least_solve = all_of (λ (x : Owed). HoldsFor c x.claim) all (λ x i.
          one x i x.claim refl (each_of (λ (y : Owed). IsWithin (n + length c) y.claim) all x within i) (each_of (λ (y : Owed). HoldsFor d y.claim) all x solves i))

      zipped : (h : ℕ) (xs ys : List ℕ) → AreLeast r h xs → length ys ≡ length xs → ((i m : ℕ) → slice_get ys i ≡ Some m → Fits r (h + i) m) → AllZip (Goes r) xs ys
      zipped h [] [] l e fit = tt
      zipped h [] (y ∷ ys) l e fit = absurd (omega (arith, e))
      zipped h (x ∷ xs) [] l e fit = absurd (omega (arith, e))
      zipped h (x ∷ xs) (y ∷ ys) l e fit = (
        l.0.0.1 y (subst (λ z. Fits r z y) (the (h + 0) refl) (fit 0 y refl)),
        zipped (suc h) xs ys l.1 (omega (arith, e)) (λ i m f. subst (λ z. Fits r z m) (next i (h + suc i) (suc h + i) refl refl) (fit (suc i) m f)),
      )
        where
          the : (m : ℕ) → m ≡ h + 0 → m ≡ h
          the m e = omega (arith, e)

          next : (i a b : ℕ) → a ≡ h + suc i → b ≡ suc h + i → a ≡ b
          next i a b e f = omega (arith, e, f)

      pub each_lower : AllZip (Goes r) c d
      each_lower = zipped 0 c d least many (λ i m e. subst (λ z. Fits r z m) (the i (0 + i) refl) (fits d solves i m (declared_at d i m are_declared e) e))
        where
          the : (i m : ℕ) → m ≡ 0 + i → i ≡ m
          the i m e = omega (arith, e)
