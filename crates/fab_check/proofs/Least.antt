-- The running first refusal is the first of all.
use Rattle.std.proofs.Common.{◌≡◌, ◌⊎◌, inl, inr, ℕ, zero, suc, ◌<◌, ◌≤◌, Bool, true, false, ◌&&◌, ◌||◌, ◌==◌, nat_lt, if◌then◌else◌, List, [], ◌∷◌, ◌++◌, length, get_or, slice_get, Option, Some, None, refl, sym, ap, ◌∙◌, arith, subst, append_assoc}
use Rattle.std.specs.Prelude.{MatchOption}
use Rattle.std.proofs.lemmas.Bool.{both_ways}
use Rattle.std.proofs.lemmas.List.{append-nil}
use Rattle.std.proofs.lemmas.Option.{slice_get-get_or}
use Rattle.fab_tree.specs.declared.resolved.Resolved.{Resolved}
use Rattle.fab_labelling.specs.declared.rule.LabelRule.{LabelRule}
use Rattle.fab_labelling.specs.declared.rule.Refusal.{Refusal}
use Rattle.fab_labelling.specs.declared.rule.Side.{Side}
use Rattle.fab_labelling.specs.Obligations.{Owed, owed}
use Rattle.fab_labelling.specs.Claims.{Holds, IsWellLabelled}
use Rattle.fab_labelling.specs.Refusals.{IsFirstRefusal, IsNoLater, rank, told}
use Rattle.fab_authority.specs.Decided.{decided}
use Rattle.fab_check.specs.Noted.{is_sooner, noted, sooner}
use Rattle.fab_authority.proofs.Deciding.{Decides-claim}

-- ---- lists

at_front : (ys zs : List Owed) (j : ℕ) (y : Owed) → slice_get ys j ≡ Some y → slice_get (ys ++ zs) j ≡ Some y
at_front [] zs j y h = absurd (cc)
at_front (w ∷ ys) zs zero y h = h
at_front (w ∷ ys) zs (suc j) y h = at_front ys zs j y h

at_last : (ys : List Owed) (x : Owed) → slice_get (ys ++ x ∷ []) (length ys) ≡ Some x
at_last [] x = refl
at_last (w ∷ ys) x = at_last ys x

at_cases : (ys : List Owed) (x : Owed) (j : ℕ) (y : Owed) → slice_get (ys ++ x ∷ []) j ≡ Some y → (slice_get ys j ≡ Some y) ⊎ ((j ≡ length ys) × (x ≡ y))
at_cases [] x zero y h = inr (refl, cc)
at_cases [] x (suc j) y h = absurd (cc)
at_cases (w ∷ ys) x zero y h = inl h
at_cases (w ∷ ys) x (suc j) y h = elim (at_cases ys x j y h) [ inl e ↦ inl e | inr e ↦ let i = e.0 in inr (omega (arith, i), e.1) ]

-- ---- the order

tests : (a b m n : ℕ) → (nat_lt a b || ((a == b) && nat_lt m n)) ≡ true → (a < b) ⊎ ((a ≡ b) × (m < n))
tests a b m n h = grind arith

fails : (a b m n : ℕ) → (nat_lt a b || ((a == b) && nat_lt m n)) ≡ false → (b < a) ⊎ ((b ≡ a) × (n ≤ m))
fails a b m n h = grind arith

itself : (x : Owed) (i : ℕ) → IsNoLater x i x i
itself x i = inr (refl, inr (refl, omega arith))

-- what comes strictly before one comes before what is no earlier than that
before : (a b c ra rb rc i j k : ℕ) → (a < b) ⊎ ((a ≡ b) × (ra < rb)) → (b < c) ⊎ ((b ≡ c) × ((rb < rc) ⊎ ((rb ≡ rc) × (i ≤ j)))) → (a < c) ⊎ ((a ≡ c) × ((ra < rc) ⊎ ((ra ≡ rc) × (k ≤ j))))
before a b c ra rb rc i j k (inl p) (inl q) = inl (omega (arith, p, q))
before a b c ra rb rc i j k (inl p) (inr q) = let e = q.0 in inl (omega (arith, p, e))
before a b c ra rb rc i j k (inr p) (inl q) = let e = p.0 in inl (omega (arith, e, q))
before a b c ra rb rc i j k (inr p) (inr (e, inl q)) = let l = p.1 in inr (p.0 ∙ e, inl (omega (arith, l, q)))
before a b c ra rb rc i j k (inr p) (inr (e, inr q)) = let l = p.1 in let f = q.0 in inr (p.0 ∙ e, inl (omega (arith, l, f)))

-- what isn't strictly before one comes no earlier, if it stands further on
behind : (a b ra rb i j : ℕ) → (b < a) ⊎ ((b ≡ a) × (rb ≤ ra)) → i ≤ j → (b < a) ⊎ ((b ≡ a) × ((rb < ra) ⊎ ((rb ≡ ra) × (i ≤ j))))
behind a b ra rb i j (inl p) l = inl p
behind a b ra rb i j (inr p) l = let q = p.1 in inr (p.0, elim (lower rb ra q) [ inl less ↦ inl less | inr same ↦ inr (same, l) ])
  where
    lower : (m n : ℕ) → m ≤ n → (m < n) ⊎ (m ≡ n)
    lower m n h = grind arith

-- ---- the first of some

module _ (r : Resolved) where
  -- all of these hold
  record Right (ys : List Owed) : Type 0 where
    each : (y : Owed) (j : ℕ) → slice_get ys j ≡ Some y → Holds r y.claim

  -- the first of these that doesn't hold
  record Least (ys : List Owed) (refusal : Refusal) : Type 0 where
    x : Owed
    i : ℕ
    is : slice_get ys i ≡ Some x
    inside : i < length ys
    broken : ¬ Holds r x.claim
    first : (y : Owed) (j : ℕ) → slice_get ys j ≡ Some y → ¬ Holds r y.claim → IsNoLater x i y j
    tells : refusal ≡ told r x

  -- one more that holds
  right_on : (ys : List Owed) (x : Owed) → Right ys → Holds r x.claim → Right (ys ++ x ∷ [])
  right_on ys x right so = record { each = λ y j is. elim (at_cases ys x j y is) [ inl old ↦ right.each y j old | inr new ↦ subst (λ (w : Owed). Holds r w.claim) new.1 so ] }

  longer : (ys : List Owed) (x : Owed) (i : ℕ) → i < length ys → i < length (ys ++ x ∷ [])
  longer [] x i h = absurd (omega (arith, h))
  longer (y ∷ ys) x zero h = omega arith
  longer (y ∷ ys) x (suc i) h = let l = longer ys x i (omega (arith, h)) in omega (arith, l)

  last_inside : (ys : List Owed) (x : Owed) → length ys < length (ys ++ x ∷ [])
  last_inside [] x = omega arith
  last_inside (y ∷ ys) x = let l = last_inside ys x in omega (arith, l)

  least_on : (ys : List Owed) (x : Owed) (f : Refusal) → Least ys f → Holds r x.claim → Least (ys ++ x ∷ []) f
  least_on ys x f l so = record {
    x = l.x;
    i = l.i;
    is = at_front ys (x ∷ []) l.i l.x l.is;
    inside = longer ys x l.i l.inside;
    broken = l.broken;
    first = λ y j is not. elim (at_cases ys x j y is) [ inl old ↦ l.first y j old not | inr new ↦ absurd (not (subst (λ (w : Owed). Holds r w.claim) new.1 so)) ];
    tells = l.tells;
  }

  -- the first that doesn't
  least_new : (ys : List Owed) (x : Owed) → Right ys → ¬ Holds r x.claim → Least (ys ++ x ∷ []) (told r x)
  least_new ys x right not = record {
    x = x;
    i = length ys;
    is = at_last ys x;
    inside = last_inside ys x;
    broken = not;
    first = λ y j is broken. elim (at_cases ys x j y is) [
      | inl old ↦ absurd (broken (right.each y j old))
      | inr new ↦ subst (λ (w : Owed). IsNoLater x (length ys) w j) new.1 (subst (λ (k : ℕ). IsNoLater x (length ys) x k) (sym new.0) (itself x (length ys)))
    ];
    tells = refl;
  }

  -- one that comes before it
  least_sooner : (ys : List Owed) (x : Owed) (f : Refusal) → Least ys f → ¬ Holds r x.claim → is_sooner (told r x) f ≡ true → Least (ys ++ x ∷ []) (told r x)
  least_sooner ys x f l not earlier =
      let e : is_sooner (told r x) (told r l.x) ≡ true = ap (is_sooner (told r x)) (sym l.tells) ∙ earlier in
      let t = tests x.at l.x.at (rank x.rule) (rank l.x.rule) e in
      record {
        x = x;
        i = length ys;
        is = at_last ys x;
        inside = last_inside ys x;
        broken = not;
        first = λ y j is broken. elim (at_cases ys x j y is) [
          | inl old ↦ before x.at l.x.at y.at (rank x.rule) (rank l.x.rule) (rank y.rule) l.i j (length ys) t (l.first y j old broken)
          | inr new ↦ subst (λ (w : Owed). IsNoLater x (length ys) w j) new.1 (subst (λ (k : ℕ). IsNoLater x (length ys) x k) (sym new.0) (itself x (length ys)))
        ];
        tells = refl;
      }

  -- one that doesn't
  least_later : (ys : List Owed) (x : Owed) (f : Refusal) → Least ys f → ¬ Holds r x.claim → is_sooner (told r x) f ≡ false → Least (ys ++ x ∷ []) f
  least_later ys x f l not later =
      let e : is_sooner (told r x) (told r l.x) ≡ false = ap (is_sooner (told r x)) (sym l.tells) ∙ later in
      let t = fails x.at l.x.at (rank x.rule) (rank l.x.rule) e in
      record {
        x = l.x;
        i = l.i;
        is = at_front ys (x ∷ []) l.i l.x l.is;
        inside = longer ys x l.i l.inside;
        broken = l.broken;
        first = λ y j is broken. elim (at_cases ys x j y is) [
          | inl old ↦ l.first y j old broken
          | inr new ↦
              let k = new.0 in
              let inside = l.inside in
              subst (λ (w : Owed). IsNoLater l.x l.i w j) new.1 (behind x.at l.x.at (rank x.rule) (rank l.x.rule) l.i j t (omega (arith, k, inside)))
        ];
        tells = l.tells;
      }

  one_further : (ys : List Owed) (x : Owed) (f : Option Refusal) → MatchOption f (Right ys) (Least ys) → MatchOption (if decided r x.claim then f else sooner f (told r x)) (Right (ys ++ x ∷ [])) (Least (ys ++ x ∷ []))
  one_further ys x f so_far = go (decided r x.claim) refl f so_far
    where
      go : (b : Bool) → decided r x.claim ≡ b → (f : Option Refusal) → MatchOption f (Right ys) (Least ys) → MatchOption (if b then f else sooner f (told r x)) (Right (ys ++ x ∷ [])) (Least (ys ++ x ∷ []))
      go true d None right = right_on ys x right ((Decides-claim r x.claim).0 d)
      go true d (Some f) least = least_on ys x f least ((Decides-claim r x.claim).0 d)
      go false d None right = least_new ys x right (λ so. both_ways (decided r x.claim) d ((Decides-claim r x.claim).1 so))
      go false d (Some f) least = choose (is_sooner (told r x) f) refl
        where
          not : ¬ Holds r x.claim
          not so = both_ways (decided r x.claim) d ((Decides-claim r x.claim).1 so)

          choose : (b : Bool) → is_sooner (told r x) f ≡ b → MatchOption (if b then Some (told r x) else Some f) (Right (ys ++ x ∷ [])) (Least (ys ++ x ∷ []))
          choose true e = least_sooner ys x f least not e
          choose false e = least_later ys x f least not e

  all_further : (xs ys : List Owed) (f : Option Refusal) → MatchOption f (Right ys) (Least ys) → MatchOption (noted r f xs) (Right (ys ++ xs)) (Least (ys ++ xs))
  all_further [] ys f so_far = subst (λ (zs : List Owed). MatchOption f (Right zs) (Least zs)) (sym (append-nil ys)) so_far
  all_further (x ∷ xs) ys f so_far =
      subst (λ (zs : List Owed). MatchOption (noted r f (x ∷ xs)) (Right zs) (Least zs)) (append_assoc ys (x ∷ []) xs)
      (all_further xs (ys ++ x ∷ []) (if decided r x.claim then f else sooner f (told r x)) (one_further ys x f so_far))

-- what the running first says of all
pub first_is : (r : Resolved) (o : Option Refusal) → o ≡ noted r None (owed r) → MatchOption o (IsWellLabelled r) (IsFirstRefusal r)
first_is r o is = finish o (subst (λ (f : Option Refusal). MatchOption f (Right r (owed r)) (Least r (owed r))) (sym is) (all_further r (owed r) [] None (record { each = λ y j h. absurd (nothing y j h) })))
  where
    nothing : (y : Owed) (j : ℕ) → slice_get [] j ≡ Some y → ⊥
    nothing y zero h = cc
    nothing y (suc j) h = cc

    finish : (o : Option Refusal) → MatchOption o (Right r (owed r)) (Least r (owed r)) → MatchOption o (IsWellLabelled r) (IsFirstRefusal r)
    finish None right = λ k d within. right.each (get_or (owed r) k d) k (slice_get-get_or (owed r) k d within)
    finish (Some f) l = record { x = l.x; i = l.i; is = l.is; broken = l.broken; first = l.first; tells = l.tells }

pub same_refusal : (f : Refusal) (rule : LabelRule) (at : ℕ) (source target : Side) → f.rule ≡ rule → f.at ≡ at → f.source ≡ source → f.target ≡ target → f ≡ record { rule = rule; at = at; source = source; target = target }
same_refusal f rule at source target a b c d =
    ap (λ (x : LabelRule). record f { rule = x }) a
    ∙ ap (λ (x : ℕ). record f { rule = rule; at = x }) b
    ∙ ap (λ (x : Side). record f { rule = rule; at = at; source = x }) c
    ∙ ap (λ (x : Side). record f { rule = rule; at = at; source = source; target = x }) d
