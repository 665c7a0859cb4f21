-- Worked examples of claims that hold and that don't, and of which one a refusal tells. Labels, classes and who
-- acts for whom are those of `ReaderExamples`.
use Rattle.std.proofs.Common.{◌≡◌, ◌∙◌, ◌+◌, ◌*◌, ◌^◌, ◌<◌, ℕ, zero, suc, true, pos, List, [], ◌∷◌, map, Some, None, IsBitSet, slice_get, ◌++◌, refl, sym, ap, subst, arith, inl, inr, ⊎_elim, lit<, lit≤}
use Rattle.std.specs.Int.{bit_at}
use Rattle.std.specs.Prelude.{Contains}
use Rattle.std.proofs.lemmas.Nat.Bits.{and_pow, bit_at_above}
use Rattle.std.proofs.lemmas.Bool.{cases_lt}
use Rattle.std.proofs.lemmas.Option.{slice_get_within}
use Rattle.fab_base.specs.declared.label.Policy.{Policy}
use Rattle.fab_base.specs.declared.object.Width.TheVariants as widths
use Rattle.fab_base.specs.Principals.{Leads}
use Rattle.fab_base.specs.Labels.{PolicyDenies, Deny, DenyWith}
use Rattle.fab_tree.specs.declared.resolved.Use.{Use}
use Rattle.fab_tree.specs.declared.resolved.Form.TheOpen as f
use Rattle.fab_tree.specs.declared.resolved.Right.TheVariants as rights
use Rattle.fab_tree.specs.declared.resolved.Sort.TheVariants as sorts
use Rattle.fab_tree.specs.declared.resolved.Statement.{Statement, roll-Statement}
use Rattle.fab_tree.specs.declared.resolved.Statement.TheOpen as s
use Rattle.fab_tree.specs.declared.resolved.Method.{Method}
use Rattle.fab_tree.specs.declared.resolved.Resolved.{Resolved}
use Rattle.fab_tree.specs.declared.expression.Number.TheVariants as numbers
use Rattle.fab_labelling.specs.declared.rule.LabelRule.TheVariants.{Write, Access, Fail}
use Rattle.fab_labelling.specs.declared.rule.Side.TheVariants.{Label}
use Rattle.fab_labelling.specs.Obligations.{flows, conf, nowhere, declassifies, endorses, holds, answers_for, Owed, owe, owed}
use Rattle.fab_labelling.specs.Claims.{called_step, calls_of, ReachesMethod, IsSetOf, Holds}
use Rattle.fab_labelling.specs.Refusals.{rank, IsNoLater, IsFirstRefusal}
use Rattle.fab_labelling.proofs.Forms.{expression_at, part_is, owes_is, called_is}
use Rattle.fab_labelling.proofs.OneRefusal.{unwrap_same}
use Rattle.fab_labelling.proofs.ReaderExamples.{name, bundle, class, r, d, policy, itself, w_for_a, for_none, t_holds, h_reads_it_not}

-- ---- flows, of S `A ->`, P and T `A <-`, which are 0, 1 and 2

-- no policy denies
none_deny : (p : ℕ) (group : List ℕ) → ¬ Deny d [] p group
none_deny p group (k, x, within, is, denies) = omega (arith, within)

-- a policy of A alone denies A and nobody
a_denies : Deny d (policy 0 [] ∷ []) 0 []
a_denies = (0, policy 0 [], lit< tt, refl, record { owner = itself 0; outside = λ k m within. absurd (omega (arith, within)) })

p_to_s : Holds r (flows 1 0)
p_to_s = record { conf = λ p group denied. absurd (none_deny p group denied); integ = λ p group denied. absurd (none_deny p group denied) }

p_to_p : Holds r (flows 1 1)
p_to_p = record { conf = λ p group denied. denied; integ = λ p group denied. denied }

s_not_to_p : ¬ Holds r (flows 0 1)
s_not_to_p h = none_deny 0 [] (h.conf 0 [] a_denies)

-- the confidentiality of P flows to that of T, and P doesn't flow to T
p_to_t_in_part : Holds r (conf 1 2)
p_to_t_in_part p group denied = denied

p_not_to_t : ¬ Holds r (flows 1 2)
p_not_to_t h = none_deny 0 [] (h.integ 0 [] a_denies)

s_not_in_part : ¬ Holds r (conf 0 1)
s_not_in_part h = none_deny 0 [] (h 0 [] a_denies)

-- to a label that isn't there not even P flows
to_nowhere : ¬ Holds r (nowhere 1)
to_nowhere h = h

-- ---- downgrades, with the authority of A and with none

bit_of_one : (p : ℕ) → IsBitSet 1 p → p ≡ 0
bit_of_one p bit = elim (cases_lt p 1) [
  | inl below ↦ omega (arith, below)
  | inr high ↦
      let none : bit_at 1 p ≡ 0 = bit_at_above 1 1 p (lit< tt) high in
      absurd (bit (and_pow 1 p ∙ ap (λ b. b * 2 ^ p) none ∙ omega arith))
]

set_of_a : IsSetOf (0 ∷ []) 1
set_of_a p = (λ bit. (0, lit< tt, sym (bit_of_one p bit)), has)
  where
    has : Contains (0 ∷ []) p → IsBitSet 1 p
    has (zero, within, is) = subst (λ q. IsBitSet 1 q) is (λ e. omega (arith, e))
    has (suc k, within, is) = absurd (omega (arith, within))

-- what a policy of A alone denies, the authority of A adds
added : (p : ℕ) (group : List ℕ) → Deny d (policy 0 [] ∷ []) p group → DenyWith d [] 1 p group
added p group (zero, x, within, is, denies) = inr (0, (λ e. omega (arith, e)), subst (λ y. PolicyDenies d y p group) (sym is) denies)
added p group (suc k, x, within, is, denies) = absurd (omega (arith, within))

-- from S to P A may declassify, since `A ->` is its own
s_declassified : Holds r (declassifies 0 1 (0 ∷ []))
s_declassified = (1, set_of_a, record { conf = added; integ = λ p group denied. denied })

-- a set of none has no bit
none_adds : (ps : List Policy) → ¬ Deny d ps 0 [] → (set : ℕ) → IsSetOf [] set → ¬ DenyWith d ps set 0 []
none_adds ps not set is (inl denied) = not denied
none_adds ps not set is (inr (o, bit, denies)) = let one : Contains [] o = (is o).0 bit in omega (arith, one.1)

s_not_declassified : ¬ Holds r (declassifies 0 1 [])
s_not_declassified (set, is, h) = none_adds [] (none_deny 0 []) set is (h.conf 0 [] a_denies)

-- and from P to T A may endorse
p_endorsed : Holds r (endorses 1 2 (0 ∷ []))
p_endorsed = (1, set_of_a, record { conf = λ p group denied. denied; integ = added })

p_not_endorsed : ¬ Holds r (endorses 1 2 [])
p_not_endorsed (set, is, h) = none_adds [] (none_deny 0 []) set is (h.integ 0 [] a_denies)

-- neither may be had by the other
s_not_endorsed : ¬ Holds r (endorses 0 1 (0 ∷ []))
s_not_endorsed (set, is, h) = none_deny 0 [] (h.conf 0 [] a_denies)

p_not_declassified : ¬ Holds r (declassifies 1 2 (0 ∷ []))
p_not_declassified (set, is, h) = none_deny 0 [] (h.integ 0 [] a_denies)

-- ---- stores, and the authority that a request uses

held : Holds r (holds 1 0)
held = t_holds

not_held : ¬ Holds r (holds 2 0)
not_held = h_reads_it_not

abbrev used : ℕ → ℕ → Use
used number at = record { number = number; at = at }

abbrev method : List ℕ → List Statement → Method
method authority body = record { name = name; parameters = 2; locals = record { sort = sorts.Class (used 0 0); name = name; label = used 1 0 } ∷ record { sort = sorts.Number widths.Int; name = name; label = used 0 0 } ∷ []; returns = None; begin = used 1 0; fails = true; authority = map (λ p. used p 0) authority; body = body; result = None }

-- calls stand in all blocks, and in what is assigned
calls_in_text : map called_step (s.Call (used 4 0) [] ∷ s.Assign 0 (rights.Call (used 5 0) []) 0 ∷ s.If (expression_at 0 f.Null) ((1 ∷ []) ∷ (2 ∷ []) ∷ []) ((3 ∷ []) ∷ []) ∷ s.While (expression_at 0 f.Null) ((1 ∷ []) ∷ []) ∷ s.Atomic (used 0 0) ((1 ∷ []) ∷ []) ((2 ∷ []) ∷ []) 0 ∷ s.Fail 0 ∷ [])
    ≡ (4 ∷ []) ∷ (5 ∷ []) ∷ (1 ∷ 2 ∷ 3 ∷ []) ∷ (1 ∷ []) ∷ (1 ∷ 2 ∷ []) ∷ [] ∷ []
calls_in_text = refl

-- method 0 calls 1, 1 calls 2, and 2 has the authority of A; 3 has it, too, and nothing calls 3
abbrev calling : Resolved
calling = bundle (method [] (roll-Statement (s.Call (used 1 0) []) ∷ []) ∷ method [] (roll-Statement (s.Call (used 2 0) []) ∷ []) ∷ method (0 ∷ []) [] ∷ method (5 ∷ []) [] ∷ [])

calls_are : calls_of calling ≡ (0, 1) ∷ (1, 2) ∷ []
calls_are = rw (called_is, called_is) refl

reached : ReachesMethod calling 0 2
reached = (1 ∷ 2 ∷ [], rw calls_are ((0, lit< tt, refl), ((1, lit< tt, refl), refl)))

-- so w, who acts for A, may ask for 0, and v may not; v may ask for it as far as B goes, whose authority is that of 3 alone
w_answers : Holds calling (answers_for 0 0 0)
w_answers n way has = w_for_a

v_answers_not : ¬ Holds calling (answers_for 3 0 0)
v_answers_not h = for_none 4 (0 ∷ []) (lit< tt) ((λ e. omega (arith, e)), tt) (0, 0, lit< tt, refl, h 2 reached (0, lit< tt, refl))

stays : (m x : ℕ) → Contains {X = ℕ × ℕ} ((0, 1) ∷ (1, 2) ∷ []) (m, x) → x < 3
stays m x (zero, within, is) = let e : 1 ≡ x = ap (λ w. w.1) is in omega (arith, e)
stays m x (suc zero, within, is) = let e : 2 ≡ x = ap (λ w. w.1) is in omega (arith, e)
stays m x (suc (suc k), within, is) = absurd (omega (arith, within))

stays_below : (m x : ℕ) → Contains (calls_of calling) (m, x) → x < 3
stays_below m x call = stays m x (rw calls_are at call)

reaches_below : (m n : ℕ) (way : List ℕ) → m < 3 → Leads (calls_of calling) m way n → n < 3
reaches_below m n [] below leads = omega (arith, below, leads)
reaches_below m n (x ∷ way) below leads = reaches_below x n way (stays_below m x leads.0) leads.1

v_answers_for_b : Holds calling (answers_for 3 0 5)
v_answers_for_b zero way has = absurd (omega (arith, has.1))
v_answers_for_b (suc zero) way has = absurd (omega (arith, has.1))
v_answers_for_b (suc (suc zero)) way (zero, within, is) = absurd (omega (arith, is))
v_answers_for_b (suc (suc zero)) way (suc k, within, is) = absurd (omega (arith, within))
v_answers_for_b (suc (suc (suc n))) way has = absurd (let below : suc (suc (suc n)) < 3 = reaches_below 0 (suc (suc (suc n))) way.0 (lit< tt) way.1 in omega (arith, below))

-- ---- the first refusal

-- principal A; label S = {A ->}; label P = {}; class C label P access P { int f; } method m(C c : P, int s : S)
-- begin P fails { if (s) { c.f = 1; } }, with `c` of the write at 112
abbrev refused : Resolved
refused = record (bundle (method [] (roll-Statement (s.If (expression_at 106 (f.Local (used 1 106))) (roll-Statement (s.Write (used 0 112) 0 (expression_at 118 (f.Number (numbers.Int (pos 1)))) 0) ∷ []) []) ∷ []) ∷ [])) { classes = class 1 1 ∷ [] }

-- the list has the access before the write, and of each rule the label of `s` between two P
abbrev nine : List Owed
nine = map (λ n. owe Access 112 (conf n 1)) (1 ∷ 0 ∷ 1 ∷ []) ++ map (λ n. owe Fail 112 (flows n 1)) (1 ∷ 0 ∷ 1 ∷ []) ++ map (λ n. owe Write 112 (flows n 1)) (1 ∷ 0 ∷ 1 ∷ [])

refused_owes : owed refused ≡ nine
refused_owes = rw (owes_is, part_is, owes_is, part_is) refl

-- each of these that doesn't hold comes no earlier, where the first of them is the j-th
abbrev NoneEarlier : Owed → ℕ → ℕ → List Owed → Type 0
NoneEarlier x i j [] = Unit {0}
NoneEarlier x i j (y ∷ ys) = (¬ Holds refused y.claim → IsNoLater x i y j) × NoneEarlier x i (suc j) ys

none_earlier : (x : Owed) (i j k : ℕ) (ys : List Owed) (y : Owed) → NoneEarlier x i j ys → slice_get ys k ≡ Some y → ¬ Holds refused y.claim → IsNoLater x i y (k + j)
none_earlier x i j k [] y all is broken = absurd (omega (arith, slice_get_within [] k y is))
none_earlier x i j zero (z ∷ ys) y all is broken =
    let e : z ≡ y = unwrap_same z y is in
    subst (λ m. IsNoLater x i y m) (omega arith) (subst (λ w. ¬ Holds refused w.claim → IsNoLater x i w j) e all.0 broken)
none_earlier x i j (suc k) (z ∷ ys) y all is broken = subst (λ m. IsNoLater x i y m) (omega arith) (none_earlier x i (suc j) k ys y all.1 is broken)

-- the write is told, of `s`, which is the second of the three labels
refused_first : IsFirstRefusal refused (record { rule = Write; at = 112; source = Label 0; target = Label 1 })
refused_first = record {
  x = owe Write 112 (flows 0 1);
  i = 7;
  is = ap (λ xs. slice_get xs 7) refused_owes;
  broken = s_not_to_p;
  first = λ y j is broken. subst (λ m. IsNoLater (owe Write 112 (flows 0 1)) 7 y m) (omega arith) (none_earlier (owe Write 112 (flows 0 1)) 7 0 j nine y comes_first (sym (ap (λ xs. slice_get xs j) refused_owes) ∙ is) broken);
  tells = refl;
}
  where
    comes_first : NoneEarlier (owe Write 112 (flows 0 1)) 7 0 nine
    comes_first = (
      (λ b. inr (refl, inl (lit< tt))),
      (
        (λ b. inr (refl, inl (lit< tt))),
        (
          (λ b. inr (refl, inl (lit< tt))),
          (
            (λ b. inr (refl, inl (lit< tt))),
            (
              (λ b. inr (refl, inl (lit< tt))),
              (
                (λ b. inr (refl, inl (lit< tt))),
                ((λ b. absurd (b p_to_p)), ((λ b. inr (refl, inr (refl, lit≤ tt))), ((λ b. inr (refl, inr (refl, lit≤ tt))), tt))),
              ),
            ),
          ),
        ),
      ),
    )

-- the access stands earlier in the list, and is of a later rule
not_the_access : ¬ IsFirstRefusal refused (record { rule = Access; at = 112; source = Label 0; target = Label 1 })
not_the_access h =
    let later : rank h.x.rule ≡ 4 = sym (ap (λ w. rank w.rule) h.tells) in
    let place : h.x.at ≡ 112 = sym (ap (λ w. w.at) h.tells) in
    ⊎_elim (λ before. omega (arith, before, place)) (λ here. ⊎_elim (λ before. omega (arith, before, later)) (λ same. omega (arith, same.0, later)) here.1) (h.first (owe Write 112 (flows 0 1)) 7 (ap (λ xs. slice_get xs 7) refused_owes) s_not_to_p)
