-- Honest nodes in order, and their journals.
use Rattle.std.specs.Prelude.{◌≡◌, ℕ, zero, suc, ◌+◌, ◌<◌, Bool, true, false, cond, not, IsTrue, List, [], ◌∷◌, ◌++◌, Contains, Option, Some}
use Rattle.std.specs.List.{filter, range_with_len, AllByRecursion}
use Rattle.std.proofs.Common.{refl, sym, ap, ◌∙◌, subst, arith, append-nil}
use Rattle.std.proofs.lemmas.Bool.{and_parts}
use Rattle.fab_base.proofs.Lists.{all_append, range_more}
use Rattle.fab_rights.specs.Computed.{is_node}
use Rattle.fab_rights.specs.declared.rights.Rights.{Rights}
use Rattle.fab_tree.specs.declared.resolved.Resolved.{Resolved}
use Rattle.fab_node.specs.Standing.{GivenModel, IsGiven, JournalModel}
use Rattle.fab_core.specs.Cores.{is_honest, setting, slot}
use Rattle.fab_core.specs.Telling.{those_in}
use Rattle.fab_core.proofs.Tables.{node_below}
use Rattle.fab_core.specs.Honest.{AreFor, honest_in, honest_up}
use Rattle.fab_core.specs.Starts.{given_by}
use Rattle.fab_replay.proofs.Aligned.{StandsAt, aligned, placed}

pub honest_within : (g : GivenModel) → IsGiven g → (n : ℕ) → IsTrue (is_honest g n) → n < 64
honest_within g h n p = node_below g.rights n h.accepted.workers h.accepted.stores (and_parts (is_node g.rights n) (not ((setting g).hostile n)) p).0

-- ---- among the first numbers

-- one more
pub up_more : (g : GivenModel) (n : ℕ) → honest_up g (n + 1) ≡ honest_up g n ++ cond (is_honest g n) (n ∷ []) []
unfolding honest_up
up_more g n = let e : n + 1 ≡ suc n = omega arith in ap (honest_up g) e

pub up_with : (g : GivenModel) (n : ℕ) (old new : List ℕ) → is_honest g n ≡ true → old ≡ honest_up g n → new ≡ old ++ n ∷ [] → new ≡ honest_up g (n + 1)
up_with g n old new honest was is =
    is ∙ ap (λ ns. ns ++ n ∷ []) was ∙ ap (λ b. honest_up g n ++ cond b (n ∷ []) []) (sym honest) ∙ sym (up_more g n)

pub up_without : (g : GivenModel) (n : ℕ) (old : List ℕ) → is_honest g n ≡ false → old ≡ honest_up g n → old ≡ honest_up g (n + 1)
up_without g n old hostile was =
    was ∙ sym (append-nil (honest_up g n)) ∙ ap (λ b. honest_up g n ++ cond b (n ∷ []) []) (sym hostile) ∙ sym (up_more g n)

-- each is honest, and below
pub each_honest : (g : GivenModel) (n : ℕ) → AllByRecursion (λ k. IsTrue (is_honest g k)) (honest_up g n)
unfolding honest_up
each_honest g zero = tt
each_honest g (suc n) = all_append (λ k. IsTrue (is_honest g k)) (honest_up g n) (cond (is_honest g n) (n ∷ []) []) (each_honest g n) (one (is_honest g n) refl)
  where
    one : (b : Bool) → is_honest g n ≡ b → AllByRecursion (λ k. IsTrue (is_honest g k)) (cond b (n ∷ []) [])
    one true e = (e, tt)
    one false e = tt

-- whatever the roots are
up_alike : (g : GivenModel) (n : ℕ) → honest_up (given_by g.program g.rights) n ≡ honest_up g n
unfolding honest_up
up_alike g zero = refl
up_alike g (suc n) = ap (λ ns. ns ++ cond (is_honest g n) (n ∷ []) []) (up_alike g n)

pub honest_alike : (g : GivenModel) (program : Resolved) (rights : Rights) → program ≡ g.program → rights ≡ g.rights → honest_in (given_by program rights) ≡ honest_in g
honest_alike g program rights p q =
    ap (λ (r : Resolved). honest_in (given_by r rights)) p ∙ ap (λ (x : Rights). honest_in (given_by g.program x)) q ∙ up_alike g 64

-- ---- members

member : (P : ℕ → Type 0) (ns : List ℕ) (x : ℕ) → AllByRecursion P ns → Contains ns x → P x
member P [] x all c = absurd (omega (arith, c.1))
member P (n ∷ ns) x all (zero, l, e) = subst P e all.0
member P (n ∷ ns) x all (suc k, l, e) = member P ns x all.1 (k, omega (arith, l), e)

pub honest_member : (g : GivenModel) (m n : ℕ) → Contains (honest_up g m) n → IsTrue (is_honest g n)
honest_member g m n c = member (λ k. IsTrue (is_honest g k)) (honest_up g m) n (each_honest g m) c

-- ---- journals in their order

filter_more : (h : ℕ → Bool) (xs : List ℕ) (n : ℕ) → filter h (xs ++ n ∷ []) ≡ filter h xs ++ cond (h n) (n ∷ []) []
filter_more h [] n = refl
filter_more h (x ∷ xs) n = by (h x) (filter_more h xs n)
  where
    by : (b : Bool) → filter h (xs ++ n ∷ []) ≡ filter h xs ++ cond (h n) (n ∷ []) []
        → cond b (x ∷ filter h (xs ++ n ∷ [])) (filter h (xs ++ n ∷ [])) ≡ cond b (x ∷ filter h xs) (filter h xs) ++ cond (h n) (n ∷ []) []
    by true e = ap (λ ys. x ∷ ys) e
    by false e = e

in_row : (g : GivenModel) (n : ℕ) → honest_up g n ≡ filter (is_honest g) (range_with_len 0 n)
unfolding honest_up
in_row g zero = refl
in_row g (suc n) =
    ap (λ ns. ns ++ cond (is_honest g n) (n ∷ []) []) (in_row g n)
    ∙ ap (λ k. filter (is_honest g) (range_with_len 0 n) ++ cond (is_honest g k) (k ∷ []) []) (omega arith)
    ∙ sym (ap (filter (is_honest g)) (range_more 0 n) ∙ filter_more (is_honest g) (range_with_len 0 n) (0 + n))

module _ (g : GivenModel) (m : ℕ) (few : (n : ℕ) → IsTrue (is_honest g n) → n < m) (Q : ℕ → JournalModel → Type 0) (js : List (Option JournalModel))
    (s : (n : ℕ) → StandsAt (is_honest g) Q n (slot js n)) where
  within : (n : ℕ) → IsTrue (is_honest g n) → n < 0 + m
  within n p = let q = few n p in omega (arith, q)

  stand : (n i : ℕ) → n ≡ 0 + i → StandsAt (is_honest g) Q n (slot js i)
  stand n i e = let same : i ≡ n = omega (arith, e) in subst (λ k. StandsAt (is_honest g) Q n (slot js k)) (sym same) (s n)

  pub in_order : AreFor Q (honest_up g m) (those_in js)
  in_order = subst (λ ns. AreFor Q ns (those_in js)) (sym (in_row g m)) (aligned (is_honest g) Q 0 m js stand within)

  pub at_place : (R : ℕ → JournalModel → Type 0) → AreFor R (honest_up g m) (those_in js) → (n : ℕ) (j : JournalModel) → slot js n ≡ Some j → R n j
  at_place R e n j is =
      let r = placed (is_honest g) Q R 0 m js stand within (subst (λ ns. AreFor R ns (those_in js)) (in_row g m) e) n j is in
      subst (λ k. R k j) (omega arith) r
