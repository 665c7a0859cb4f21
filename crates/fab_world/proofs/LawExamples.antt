-- The laws of an evaluation hold of one that says what it reads, and don't hold of one that hides it.
use Rattle.std.proofs.Common.{◌≡◌, ℕ, List, [], ◌∷◌, pos, Option, Some, None}
use Rattle.std.proofs.Common.{refl, sym, ap, subst, true, false, true≢false}
use Rattle.std.proofs.Common.{if◌then◌else◌, IsTrue, IsSome, is_some, unwrap_or, nat_abs, arith, length, ◌+◌, ◌≤◌, lit<, lit≤}
use Rattle.std.specs.List.{AllByRecursion}
use Rattle.std.specs.Int.{w32, int_wrap}
use Rattle.std.proofs.lemmas.Int.{SFits-int_wrap}
use Rattle.fab_base.specs.declared.object.Object.{Object}
use Rattle.fab_base.specs.declared.object.Oid.{Oid}
use Rattle.fab_base.specs.declared.object.Value.{Value}
use Rattle.fab_base.specs.declared.object.Value.TheVariants.{Int, Null, Ref}
use Rattle.fab_base.specs.FieldSpelling.{IsObject, IsValue, sent_version}
use Rattle.fab_base.specs.FlatMap.{FlatMap, get, ascends, is_among, is_same}
use Rattle.fab_language.specs.declared.ending.Ending.{Ending}
use Rattle.fab_language.specs.declared.ending.Ending.TheVariants.{Ended, Missing}
use Rattle.fab_language.specs.Heaps.{touched}
use Rattle.fab_language.specs.Meaning.{Meant}
use Rattle.fab_protocol.specs.Versions.{is_made_in}
use Rattle.fab_world.specs.Machine.{Setting}
use Rattle.fab_world.specs.Serial.{IsEvaluation, AreAlike, SameOn, AreFit, IsFitName}
use Rattle.fab_protocol.proofs.Toy.{account, accounts, attempt}
use Rattle.fab_world.proofs.Toy.{amount, amount_in, lacks, setting, no_posts}

abbrev read : List (ℕ × Oid) → Object → FlatMap → Meant
read touches x N = record { ending = Ended (Some (Int (amount x))); map = N; written = []; made = []; touches = touches; downs = [] }

abbrev peeked : List (ℕ × Oid) → Option Object → FlatMap → Meant
peeked touches None N = lacks (account 0) N
peeked touches (Some x) N = read touches x N

-- gives what account 0 holds, and notes these touches
abbrev peeking : List (ℕ × Oid) → Setting
peeking touches = record (setting 0 1 0 no_posts []) { means = λ w r t N. peeked touches (get N (account 0)) N }

abbrev honest : Setting
honest = peeking ((0, account 0) ∷ [])

abbrev hiding : Setting
hiding = peeking []

alike : (x : Object) (N M : FlatMap) → AreAlike (read ((0, account 0) ∷ []) x N) (read ((0, account 0) ∷ []) x M)
alike x N M = record {
  ending = refl;
  touches = refl;
  downs = refl;
  written = refl;
  made = refl;
  changed = λ o c. absurd (true≢false (sym c));
}

by_touch : (N M : FlatMap) (v : Option Value) (x y : Option Object) → x ≡ y
    → (peeked ((0, account 0) ∷ []) x N).ending ≡ Ended v → AreAlike (peeked ((0, account 0) ∷ []) x N) (peeked ((0, account 0) ∷ []) y M)
by_touch N M v None y same ended = let no : Missing 0 (account 0) ≡ Ended v = ended in cc
by_touch N M v (Some x) y same ended =
    subst (λ z. AreAlike (read ((0, account 0) ∷ []) x N) (peeked ((0, account 0) ∷ []) z M)) same (alike x N M)

-- where an evaluation ended, it had what it touched
same_there : (N M : FlatMap) (v : Option Value) (x : Option Object) → (peeked ((0, account 0) ∷ []) x N).ending ≡ Ended v
    → SameOn (touched (peeked ((0, account 0) ∷ []) x N).touches) N M → get N (account 0) ≡ get M (account 0)
same_there N M v None ended same = let no : Missing 0 (account 0) ≡ Ended v = ended in cc
same_there N M v (Some x) ended same = same.0

abbrev missed : Ending → Oid
missed (Missing site o) = o
missed _ = account 0

missed_there : (N : FlatMap) (site : ℕ) (o : Oid) (x : Option Object) → (peeked ((0, account 0) ∷ []) x N).ending ≡ Missing site o → account 0 ≡ o
missed_there N site o None e = ap missed e
missed_there N site o (Some x) e = let no : Ended (Some (Int (amount x))) ≡ Missing site o = e in cc

missed_absent : (N : FlatMap) (site : ℕ) (o : Oid) (x : Option Object) → get N (account 0) ≡ x → (peeked ((0, account 0) ∷ []) x N).ending ≡ Missing site o
    → get N (account 0) ≡ None
missed_absent N site o None there e = there
missed_absent N site o (Some x) there e = let no : Ended (Some (Int (amount x))) ≡ Missing site o = e in cc

touched_there : (N : FlatMap) (x : Option Object) → get N (account 0) ≡ x
    → AllByRecursion (λ o. IsSome (get N o)) (touched (peeked ((0, account 0) ∷ []) x N).touches)
touched_there N None there = tt
touched_there N (Some x) there = (ap is_some there, tt)

account_fits : IsFitName honest (account 0)
account_fits = record {
  placed = refl;
  spelled = record { store = lit< tt; class = lit< tt; worker = lit< tt; boot = lit< tt; number = lit< tt; site = lit< tt; index = lit< tt };
}

abbrev value_in : Ending → Value
value_in (Ended (Some v)) = v
value_in _ = Int (pos 0)

zero_fits : IsValue sent_version (Int (pos 0))
unfolding int_wrap
zero_fits = SFits-int_wrap w32 (pos 0)

-- what is read of a fitting object can be spelled
amount_fits : (fields : List Value) → AllByRecursion (IsValue sent_version) fields → IsValue sent_version (Int (amount_in fields))
amount_fits [] h = zero_fits
amount_fits (Int n ∷ vs) h = h.0
amount_fits (Null ∷ vs) h = zero_fits
amount_fits (Ref o ∷ vs) h = zero_fits

there_fits : (N : FlatMap) (o : Oid) (x : Object) → AreFit honest N → get N o ≡ Some x → IsObject sent_version x
there_fits [] o x h e = let no : None ≡ Some x = e in cc
there_fits (row ∷ rows) o x h e =
    elim (is_same row.0 o) as (λ b. (if b then Some row.1 else get rows o) ≡ Some x → IsObject sent_version x) [
      | true ↦ λ g. subst (λ y. IsObject sent_version y) (ap (λ y. unwrap_or y x) g) h.0.spelled
      | false ↦ λ g. there_fits rows o x h.1 g
    ] e

value_fits : (N : FlatMap) (v : Value) (x : Option Object) → get N (account 0) ≡ x → AreFit honest N
    → (peeked ((0, account 0) ∷ []) x N).ending ≡ Ended (Some v) → IsValue sent_version v
value_fits N v None there h e = let no : Missing 0 (account 0) ≡ Ended (Some v) = e in cc
value_fits N v (Some x) there h e =
    let same : Int (amount x) ≡ v = ap value_in e in
    subst (λ u. IsValue sent_version u) same (amount_fits x.fields (there_fits N (account 0) x h there).fields)

honest_is_evaluation : IsEvaluation honest
honest_is_evaluation = record {
  local = λ w r t N M v old other ended same.
      by_touch N M v (get N (account 0)) (get M (account 0)) (same_there N M v (get N (account 0)) ended same) ended;
  frame = λ w r t N o unchanged. elim (get N (account 0)) as (λ x. get (peeked ((0, account 0) ∷ []) x N).map o ≡ get N o) [ None ↦ refl | Some x ↦ refl ];
  once = λ w r t N h. elim (get N (account 0)) as (λ x. IsTrue (ascends (peeked ((0, account 0) ∷ []) x N).map)) [ None ↦ h | Some x ↦ h ];
  written = λ w r t N.
      elim (get N (account 0)) as (λ x. AllByRecursion (λ o. IsTrue (is_among o (touched (peeked ((0, account 0) ∷ []) x N).touches))) (peeked ((0, account 0) ∷ []) x N).written) [
        | None ↦ tt
        | Some x ↦ tt
      ];
  made = λ w r t N.
      elim (get N (account 0)) as (λ x. AllByRecursion (λ o. IsTrue (is_made_in t o)) (peeked ((0, account 0) ∷ []) x N).made) [ None ↦ tt | Some x ↦ tt ];
  fits = λ w r t N numbers ascending h. elim (get N (account 0)) as (λ x. AreFit honest (peeked ((0, account 0) ∷ []) x N).map) [ None ↦ h | Some x ↦ h ];
  touches = λ w r t N h.
      elim (get N (account 0)) as (λ x. AllByRecursion (IsFitName honest) (touched (peeked ((0, account 0) ∷ []) x N).touches)) [
        | None ↦ tt
        | Some x ↦ (account_fits, tt)
      ];
  missing = λ w r t N site o numbers h e. subst (λ p. IsFitName honest p) (missed_there N site o (get N (account 0)) e) account_fits;
  absent = λ w r t N site o e. subst (λ p. get N p ≡ None) (missed_there N site o (get N (account 0)) e) (missed_absent N site o (get N (account 0)) refl e);
  there = λ w r t N. touched_there N (get N (account 0)) refl;
  value = λ w r t N v numbers h e. value_fits N v (get N (account 0)) refl h e;
  few_touched = λ w r t N.
      elim (get N (account 0)) as (λ x. length (touched (peeked ((0, account 0) ∷ []) x N).touches) ≤ 1024) [ None ↦ lit≤ tt | Some x ↦ lit≤ tt ];
  few_changed = λ w r t N.
      elim (get N (account 0)) as (λ x. length (peeked ((0, account 0) ∷ []) x N).written + length (peeked ((0, account 0) ∷ []) x N).made ≤ 256) [
        | None ↦ lit≤ tt
        | Some x ↦ lit≤ tt
      ];
}

-- the value of an ending
abbrev ended_at : Ending → ℕ
ended_at (Ended (Some (Int n))) = nat_abs n
ended_at _ = 0

hiding_is_none : IsEvaluation hiding → ⊥
hiding_is_none h =
    let same = (h.local 0 1 (attempt 0 1 1) (accounts (pos 100) (pos 0)) (accounts (pos 50) (pos 0)) (Some (Int (pos 100))) (refl, (refl, tt)) (refl, (refl, tt)) refl tt).ending in
    let no : 100 ≡ 50 = ap ended_at same in
    omega (arith, no)
