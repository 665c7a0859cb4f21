-- Given words keep to what readers keep to, where none of them begins another.
use Rattle.std.proofs.Common.{◌≡◌, ℕ, zero, suc, ◌-◌, ◌<◌, ◌≤◌, max, Bool, true, false, cond, not, eqb, ltb, ◌&&◌, List, [], ◌∷◌, ◌++◌, length, take, drop, Result, Ok, Err, refl, sym, ap, subst, ◌∙◌, length-drop, length-take, arith, inl, inr, ◌⊎◌}
use Rattle.std.proofs.lemmas.Bool.{eqb-true, cases_lt, and_parts}
use Rattle.std.proofs.lemmas.Bool.Decides.{nat_tests}
use Rattle.std.specs.List.{list_all}
use Rattle.fab_wire.specs.Reading.{are_bytes}
use Rattle.fab_wire.proofs.ReaderLaws.{IsBytes, IsBytes-nil, IsBytes-cons, Stops, Reads, ok_is}
use Rattle.fab_reports.specs.Reading.{shared, exactly, kind_from, kind_at}

pub opposite : (t : Bool) → t ≡ true → t ≡ false → ⊥
opposite true h k = absurd cc
opposite false h k = absurd cc

pub by_test : (t : Bool) → (t ≡ true) ⊎ (t ≡ false)
by_test true = inl refl
by_test false = inr refl

-- what was read, and the bytes after it
abbrev pub answer : {A : Type 0} → A → List ℕ → Result (A × List ℕ) ℕ
answer x rest = Ok (x, rest)

pub answers_are : {A : Type 0} (x y : A) (r s : List ℕ) → answer x r ≡ answer y s → (x ≡ y) × (r ≡ s)
answers_are {A = A} x y r s e =
    let p = ok_is (x, r) (y, s) e in
    (ap (λ (q : A × List ℕ). q.0) p, ap (λ (q : A × List ℕ). q.1) p)

-- ---- bytes that compute

pub small_bytes : (bytes : List ℕ) → are_bytes bytes ≡ true → IsBytes bytes
small_bytes [] h = IsBytes-nil
small_bytes (b ∷ bytes) h =
    let g = and_parts (ltb b 256) (are_bytes bytes) h in
    IsBytes-cons b bytes (grind (arith, nat_tests)) (small_bytes bytes g.1)

-- ---- what two lists have in common

pub eqb-refl : (n : ℕ) → eqb n n ≡ true
eqb-refl n = grind (arith, nat_tests)

pub shared_le : (w bytes : List ℕ) → shared w bytes ≤ length w
shared_le [] bytes = omega arith
shared_le (c ∷ w) [] = omega arith
shared_le (c ∷ w) (b ∷ bytes) = let ih = shared_le w bytes in elim (eqb c b) as (λ t. cond t (suc (shared w bytes)) 0 ≤ suc (length w)) [ true ↦ omega arith | false ↦ omega arith ]

pub shared_within : (w bytes : List ℕ) → shared w bytes ≤ length bytes
shared_within [] bytes = omega arith
shared_within (c ∷ w) [] = omega arith
shared_within (c ∷ w) (b ∷ bytes) = let ih = shared_within w bytes in elim (eqb c b) as (λ t. cond t (suc (shared w bytes)) 0 ≤ suc (length bytes)) [ true ↦ omega arith | false ↦ omega arith ]

-- w goes along with the bytes so far
pub goes_along : (w bytes : List ℕ) → w ≡ take (shared w bytes) bytes ++ drop (shared w bytes) w
goes_along [] bytes = refl
goes_along (c ∷ w) [] = refl
goes_along (c ∷ w) (b ∷ bytes) = goes_on (goes_along w bytes) (eqb c b) refl where
  goes_on : w ≡ take (shared w bytes) bytes ++ drop (shared w bytes) w → (t : Bool) → eqb c b ≡ t → c ∷ w ≡ take (cond t (suc (shared w bytes)) 0) (b ∷ bytes) ++ drop (cond t (suc (shared w bytes)) 0) (c ∷ w)
  goes_on ih true h = let e : c ≡ b = eqb-true c b h in ap (λ (n : ℕ). n ∷ w) e ∙ ap (λ (x : List ℕ). b ∷ x) ih
  goes_on ih false h = refl

pub shared_own : (w rest : List ℕ) → shared w (w ++ rest) ≡ length w
shared_own [] rest = refl
shared_own (c ∷ w) rest = ap (λ (t : Bool). cond t (suc (shared w (w ++ rest))) 0) (eqb-refl c) ∙ ap suc (shared_own w rest)

-- where w doesn't go along to its end, nothing that has the bytes so far and the next one begins with it
pub not_on : (w bytes : List ℕ) → shared w bytes < length w → (front back : List ℕ) → bytes ≡ front ++ back → shared w bytes ≤ length front
    → (b : ℕ) (rest tail after : List ℕ) → back ≡ b ∷ rest → w ++ after ≡ front ++ (b ∷ tail) → ⊥
not_on [] bytes lt front back cut le b rest tail after eb e = omega arith
not_on (c ∷ w) [] lt [] back cut le b rest tail after eb e = absurd cc
not_on (c ∷ w) [] lt (f ∷ front) back cut le b rest tail after eb e = absurd cc
not_on (c ∷ w) (d ∷ bytes) lt [] back cut le b rest tail after eb e =
    let one : d ≡ b = cc in
    let two : c ≡ b = cc in
    let same : eqb c d ≡ true = ap (λ (n : ℕ). eqb n d) (two ∙ sym one) ∙ eqb-refl d in
    let big : shared (c ∷ w) (d ∷ bytes) ≡ suc (shared w bytes) = ap (λ (t : Bool). cond t (suc (shared w bytes)) 0) same in
    omega (arith, big, le)
not_on (c ∷ w) (d ∷ bytes) lt (f ∷ front) back cut le b rest tail after eb e =
    let one : d ≡ f = cc in
    let two : c ≡ f = cc in
    let others : bytes ≡ front ++ back = cc in
    let going : w ++ after ≡ front ++ (b ∷ tail) = cc in
    let same : eqb c d ≡ true = ap (λ (n : ℕ). eqb n d) (two ∙ sym one) ∙ eqb-refl d in
    let big : shared (c ∷ w) (d ∷ bytes) ≡ suc (shared w bytes) = ap (λ (t : Bool). cond t (suc (shared w bytes)) 0) same in
    not_on w bytes (omega (arith, big, lt)) front back others (omega (arith, big, le)) b rest tail after eb going

pub shared_whole : (w bytes : List ℕ) → shared w bytes ≡ length w → bytes ≡ w ++ drop (length w) bytes
shared_whole [] bytes e = refl
shared_whole (c ∷ w) [] e = absurd (omega (arith, e))
shared_whole (c ∷ w) (b ∷ bytes) e = whole (shared_whole w bytes) (eqb c b) refl e where
  whole : (shared w bytes ≡ length w → bytes ≡ w ++ drop (length w) bytes) → (t : Bool) → eqb c b ≡ t → cond t (suc (shared w bytes)) 0 ≡ suc (length w) → b ∷ bytes ≡ (c ∷ w) ++ drop (length w) bytes
  whole ih true h e = let one : c ≡ b = eqb-true c b h in ap (λ (n : ℕ). n ∷ bytes) (sym one) ∙ ap (λ (x : List ℕ). c ∷ x) (ih (omega (arith, e)))
  whole ih false h e = absurd (omega (arith, e))

pub behind_front : (w rest : List ℕ) → drop (length w) (w ++ rest) ≡ rest
behind_front [] rest = refl
behind_front (c ∷ w) rest = behind_front w rest

pub parts : (n : ℕ) (bytes : List ℕ) → bytes ≡ take n bytes ++ drop n bytes
parts zero bytes = refl
parts (suc n) [] = refl
parts (suc n) (b ∷ bytes) = ap (λ (x : List ℕ). b ∷ x) (parts n bytes)

pub take_length : (n : ℕ) (bytes : List ℕ) → n ≤ length bytes → length (take n bytes) ≡ n
take_length n bytes le = omega (arith, length-take n bytes)

-- the stop of a word that goes along for the longest
pub word_stop : {K : Type 0} (text : K → List ℕ) (fits : K → Type 0) (bytes : List ℕ) (bound left : ℕ) (k : K) → fits k
    → bound ≤ length bytes → left ≡ length bytes - bound → shared (text k) bytes ≡ bound
    → ((l : K) → fits l → (shared (text l) bytes < length (text l)) × (shared (text l) bytes ≤ bound)) → Stops text fits bytes left
word_stop text fits bytes bound left k fk le left_is one all = record {
  front = take bound bytes;
  back = drop bound bytes;
  cut = parts bound bytes;
  left_is = omega (arith, length-drop bound bytes);
  next = k;
  next_fits = fk;
  more = drop bound (text k);
  begins = goes_along (text k) bytes ∙ ap (λ (n : ℕ). take n bytes ++ drop n (text k)) one;
  bad = λ b rest tail eb x after fx ex.
      let h = all x fx in
      let l : length (take bound bytes) ≡ bound = take_length bound bytes le in
      not_on (text x) bytes h.0 (take bound bytes) (drop bound bytes) (parts bound bytes) (omega (arith, l, h.1)) b rest tail after eb ex;
}

-- ---- one text

differs : (m n : ℕ) → m ≤ n → eqb m n ≡ false → m < n
differs m n le h = grind (arith, nat_tests)

exact_found : (text bytes : List ℕ) (t : Bool) (x rest : List ℕ) → (eqb (shared text bytes) (length text)) ≡ t
    → cond t (answer text (drop (length text) bytes)) (Err (length bytes - shared text bytes)) ≡ Ok (x, rest) → (bytes ≡ x ++ rest) × (x ≡ text)
exact_found text bytes true x rest h e =
    let q = answers_are text x (drop (length text) bytes) rest e in
    let one = q.0 in
    let two = q.1 in
    (shared_whole text bytes (eqb-true _ _ h) ∙ ap (λ (y : List ℕ). text ++ y) two ∙ ap (λ (y : List ℕ). y ++ rest) one, sym one)
exact_found text bytes false x rest h e = absurd cc

exact_stops : (text bytes : List ℕ) (t : Bool) (left : ℕ) → (eqb (shared text bytes) (length text)) ≡ t
    → cond t (answer text (drop (length text) bytes)) (Err (length bytes - shared text bytes)) ≡ Err left → Stops (λ x. x) (λ x. x ≡ text) bytes left
exact_stops text bytes true left h e = absurd cc
exact_stops text bytes false left h e =
    let left_is : length bytes - shared text bytes ≡ left = cc in
    let short : shared text bytes < length text = differs (shared text bytes) (length text) (shared_le text bytes) h in
    word_stop (λ x. x) (λ x. x ≡ text) bytes (shared text bytes) left text refl (shared_within text bytes) (sym left_is) refl
    (λ x fx. subst (λ (y : List ℕ). (shared y bytes < length y) × (shared y bytes ≤ shared text bytes)) (sym fx) (short, omega arith))

pub exact_reads : (text : List ℕ) → IsBytes text → Reads (exactly text) (λ x. x) (λ x. x ≡ text)
exact_reads text isb = record {
  some = (text, refl);
  bytes = λ x fx. subst IsBytes (sym fx) isb;
  again = λ x rest fx.
      let own : shared text (text ++ rest) ≡ length text = shared_own text rest in
      let whole : exactly text (text ++ rest) ≡ Ok (text, rest) =
      ap (λ (n : ℕ). cond (eqb n (length text)) (answer text (drop (length text) (text ++ rest))) (Err (length (text ++ rest) - n))) own
      ∙ ap (λ (t : Bool). cond t (answer text (drop (length text) (text ++ rest))) (Err (length (text ++ rest) - length text))) (eqb-refl (length text))
      ∙ ap (λ (y : List ℕ). Ok (text, y)) (behind_front text rest) in
      ap (λ (y : List ℕ). exactly text (y ++ rest)) fx ∙ whole ∙ ap (λ (y : List ℕ). Ok (y, rest)) (sym fx);
  found = λ bytes x rest isb e. exact_found text bytes (eqb (shared text bytes) (length text)) x rest refl e;
  stops = λ bytes left isb e. exact_stops text bytes (eqb (shared text bytes) (length text)) left refl e;
}

-- ---- one of a few

abbrev pub IsIn : {K : Type 0} → K → List K → Type 0
IsIn k [] = ⊥
IsIn k (l ∷ ls) = (k ≡ l) ⊎ IsIn k ls

abbrev pub begins_neither : List ℕ → List ℕ → Bool
begins_neither w v = not (eqb (shared w v) (length w)) && not (eqb (shared v w) (length v))

-- none of the words begins another
abbrev pub are_apart : {K : Type 0} → (K → List ℕ) → List K → Bool
are_apart text [] = true
are_apart text (k ∷ ks) = list_all (λ l. begins_neither (text k) (text l)) ks && are_apart text ks

not_true : (a : Bool) → not a ≡ true → a ≡ false
not_true true h = absurd cc
not_true false h = refl

-- a word that doesn't begin another doesn't begin what goes on from it, unless that begins it
not_begun : (w v rest : List ℕ) → (shared w v ≡ length w → ⊥) → (shared v w ≡ length v → ⊥) → shared w (v ++ rest) ≡ length w → ⊥
not_begun [] v rest h k e = h refl
not_begun (c ∷ w) [] rest h k e = k refl
not_begun (c ∷ w) (d ∷ v) rest h k e = go (not_begun w v rest) (eqb c d) refl e where
  go : ((shared w v ≡ length w → ⊥) → (shared v w ≡ length v → ⊥) → shared w (v ++ rest) ≡ length w → ⊥) → (t : Bool) → eqb c d ≡ t
      → cond t (suc (shared w (v ++ rest))) 0 ≡ suc (length w) → ⊥
  go ih true s e =
      let one : c ≡ d = eqb-true c d s in
      let other : eqb d c ≡ true = ap (λ (n : ℕ). eqb n c) (sym one) ∙ eqb-refl c in
      ih (λ g. h (ap (λ (t : Bool). cond t (suc (shared w v)) 0) s ∙ ap suc g))
      (λ g. k (ap (λ (t : Bool). cond t (suc (shared v w)) 0) other ∙ ap suc g)) (omega (arith, e))
  go ih false s e = omega (arith, e)

unlike : (m n : ℕ) → not (eqb m n) ≡ true → m ≡ n → ⊥
unlike m n h e = let f : (eqb m n) ≡ true = ap (λ (i : ℕ). eqb i n) e ∙ eqb-refl n in cc

unequal : (m n : ℕ) → (m ≡ n → ⊥) → (eqb m n) ≡ false
unequal m n h = grind (arith, nat_tests)

-- of two words apart, the one doesn't stand where the other does
apart_then : (w v rest : List ℕ) → begins_neither w v ≡ true → (eqb (shared w (v ++ rest)) (length w)) ≡ false
apart_then w v rest h =
    let g = and_parts (not (eqb (shared w v) (length w))) (not (eqb (shared v w) (length v))) h in
    unequal (shared w (v ++ rest)) (length w) (not_begun w v rest (unlike (shared w v) (length w) g.0) (unlike (shared v w) (length v) g.1))

from_all : {K : Type 0} (test : K → Bool) (ks : List K) (k : K) → list_all test ks ≡ true → IsIn k ks → test k ≡ true
from_all test [] k h i = absurd i
from_all test (l ∷ ks) k h (inl e) = ap test e ∙ (and_parts (test l) (list_all test ks) h).0
from_all test (l ∷ ks) k h (inr i) = from_all test ks k (and_parts (test l) (list_all test ks) h).1 i

kind_again : {K : Type 0} (text : K → List ℕ) (ks : List K) (m : ℕ) (k : K) (rest : List ℕ) → are_apart text ks ≡ true → IsIn k ks
    → kind_from text m ks (text k ++ rest) ≡ Ok (k, rest)
kind_again text [] m k rest h i = absurd i
kind_again {K = K} text (l ∷ ks) m k rest h (inl e) =
    let whole : kind_from text m (l ∷ ks) (text l ++ rest) ≡ Ok (l, rest) =
    ap (λ (n : ℕ). cond (eqb n (length (text l))) (Ok (l, drop (length (text l)) (text l ++ rest))) (kind_from text (max m n) ks (text l ++ rest))) (shared_own (text l) rest)
    ∙ ap (λ (t : Bool). cond t (Ok (l, drop (length (text l)) (text l ++ rest))) (kind_from text (max m (length (text l))) ks (text l ++ rest))) (eqb-refl (length (text l)))
    ∙ ap (λ (y : List ℕ). Ok (l, y)) (behind_front (text l) rest) in
    subst (λ (x : K). kind_from text m (l ∷ ks) (text x ++ rest) ≡ Ok (x, rest)) (sym e) whole
kind_again text (l ∷ ks) m k rest h (inr i) =
    let g = and_parts (list_all (λ x. begins_neither (text l) (text x)) ks) (are_apart text ks) h in
    let off = apart_then (text l) (text k) rest (from_all (λ x. begins_neither (text l) (text x)) ks k g.0 i) in
    ap (λ (t : Bool). cond t (Ok (l, drop (length (text l)) (text k ++ rest))) (kind_from text (max m (shared (text l) (text k ++ rest))) ks (text k ++ rest))) off
    ∙ kind_again text ks (max m (shared (text l) (text k ++ rest))) k rest g.1 i

kind_found : {K : Type 0} (text : K → List ℕ) (ks : List K) (m : ℕ) (bytes : List ℕ) (k : K) (rest : List ℕ)
    → kind_from text m ks bytes ≡ Ok (k, rest) → (bytes ≡ text k ++ rest) × IsIn k ks
kind_found text [] m bytes k rest e = absurd cc
kind_found {K = K} text (l ∷ ks) m bytes k rest e = go (kind_found text ks (max m (shared (text l) bytes)) bytes k rest) (eqb (shared (text l) bytes) (length (text l))) refl e where
  go : (kind_from text (max m (shared (text l) bytes)) ks bytes ≡ Ok (k, rest) → (bytes ≡ text k ++ rest) × IsIn k ks) → (t : Bool) → (eqb (shared (text l) bytes) (length (text l))) ≡ t
      → cond t (answer l (drop (length (text l)) bytes)) (kind_from text (max m (shared (text l) bytes)) ks bytes) ≡ Ok (k, rest)
      → (bytes ≡ text k ++ rest) × ((k ≡ l) ⊎ IsIn k ks)
  go ih true h e =
      let q = answers_are l k (drop (length (text l)) bytes) rest e in
      let one = q.0 in
      let two = q.1 in
      (shared_whole (text l) bytes (eqb-true _ _ h) ∙ ap (λ (y : List ℕ). text l ++ y) two ∙ ap (λ (x : K). text x ++ rest) one, inl (sym one))
  go ih false h e = let g = ih e in (g.0, inr g.1)

record Off {K : Type 0} (text : K → List ℕ) (ks : List K) (m : ℕ) (bytes : List ℕ) (left : ℕ) : Type 0 where
  bound : ℕ
  left_is : left ≡ length bytes - bound
  above : m ≤ bound
  off : (k : K) → IsIn k ks → (shared (text k) bytes < length (text k)) × (shared (text k) bytes ≤ bound)
  from : (bound ≡ m) ⊎ ((k : K) × IsIn k ks × (shared (text k) bytes ≡ bound))

kind_off : {K : Type 0} (text : K → List ℕ) (ks : List K) (m : ℕ) (bytes : List ℕ) (left : ℕ) → kind_from text m ks bytes ≡ Err left → Off text ks m bytes left
kind_off text [] m bytes left e =
    let one : length bytes - m ≡ left = cc in
    record { bound = m; left_is = sym one; above = omega arith; off = λ k i. absurd i; from = inl refl }
kind_off {K = K} text (l ∷ ks) m bytes left e = go (kind_off text ks (max m (shared (text l) bytes)) bytes left) (eqb (shared (text l) bytes) (length (text l))) refl e where
  go : (kind_from text (max m (shared (text l) bytes)) ks bytes ≡ Err left → Off text ks (max m (shared (text l) bytes)) bytes left) → (t : Bool) → (eqb (shared (text l) bytes) (length (text l))) ≡ t
      → cond t (answer l (drop (length (text l)) bytes)) (kind_from text (max m (shared (text l) bytes)) ks bytes) ≡ Err left
      → Off text (l ∷ ks) m bytes left
  go ih true h e = absurd cc
  go ih false h e =
      let n = shared (text l) bytes in
      let o = ih e in
      let short : n < length (text l) = differs n (length (text l)) (shared_le (text l) bytes) h in
      let above : max m n ≤ o.bound = o.above in
      record {
        bound = o.bound;
        left_is = o.left_is;
        above = omega arith;
        off = λ k i.
            elim i [
              | inl same ↦ subst (λ (x : K). (shared (text x) bytes < length (text x)) × (shared (text x) bytes ≤ o.bound)) (sym same) (short, omega arith)
              | inr j ↦ o.off k j
            ];
        from = elim o.from [
          | inl same ↦ elim (cases_lt m n) [ inl lt ↦ inr (l, inl refl, omega arith) | inr le ↦ inl (omega arith) ]
          | inr j ↦ inr (j.0, inr j.1, j.2)
        ];
      }

-- some word goes along as long as the bound says
longest_of : {K : Type 0} (text : K → List ℕ) (ks : List K) (bytes : List ℕ) (left : ℕ) (o : Off text ks 0 bytes left) → (k : K) → IsIn k ks
    → (l : K) × IsIn l ks × (shared (text l) bytes ≡ o.bound)
longest_of text ks bytes left o k i =
    elim o.from [
      | inl zero_bound ↦ let h = (o.off k i).1 in (k, i, omega arith)
      | inr j ↦ j
    ]

pub kind_reads : {K : Type 0} (text : K → List ℕ) (ks : List K) → are_apart text ks ≡ true → ((k : K) → IsIn k ks → IsBytes (text k)) → (k : K) → IsIn k ks
    → Reads (kind_at text ks) text (λ k. IsIn k ks)
kind_reads text ks apart are_bytes some is_in = record {
  some = (some, is_in);
  bytes = are_bytes;
  again = λ k rest i. kind_again text ks 0 k rest apart i;
  found = λ bytes k rest isb e. kind_found text ks 0 bytes k rest e;
  stops = λ bytes left isb e.
      let o = kind_off text ks 0 bytes left e in
      let j = longest_of text ks bytes left o some is_in in
      let within = shared_within (text j.0) bytes in
      word_stop text (λ k. IsIn k ks) bytes o.bound left j.0 j.1 (omega (arith, j.2)) o.left_is j.2 o.off;
}
