-- What is read item by item until a state is over keeps to what readers keep to.
use Rattle.std.proofs.Common.{◌≡◌, ℕ, zero, suc, ◌<◌, ◌≤◌, Bool, true, false, List, [], ◌∷◌, ◌++◌, length, Result, Ok, Err, refl, sym, ap, subst, ◌∙◌, append_assoc, length-append, inl, inr, arith}
use Rattle.std.specs.List.{flat_map}
use Rattle.std.proofs.lemmas.List.{nil_from_length}
use Rattle.fab_wire.specs.Reading.{made, chosen}
use Rattle.fab_wire.proofs.ReaderLaws.{IsBytes, IsBytes-nil, IsBytes-rest, IsBytes-append, Stops, Reads, ok_is, one_reading}
use Rattle.fab_wire.proofs.Loop.{with_front}
use Rattle.fab_reports.specs.Reading.{repeated}
use Rattle.fab_reports.proofs.Given.{by_test, opposite}

-- items that a state lets stand one behind the other, up to one with which it is over
abbrev pub IsRest : {P A : Type 0} → (P → Bool) → (P → A → Type 0) → (P → A → P) → P → List A → Type 0
IsRest over fits after p [] = over p ≡ true
IsRest over fits after p (a ∷ xs) = (over p ≡ false) × fits p a × IsRest over fits after (after p a) xs

-- What the items keep to: each state that isn't over has a reader, an item takes a byte at least, and behind each state the items can end.
pub record Items {P A : Type 0} (over : P → Bool) (read : P → List ℕ → Result (A × List ℕ) ℕ) (after : P → A → P) (text : A → List ℕ) (fits : P → A → Type 0) : Type 0 where
  pub reads : (p : P) → over p ≡ false → Reads (read p) text (fits p)
  pub some : (p : P) (a : A) → fits p a → 0 < length (text a)
  pub ends : (p : P) → (xs : List A) × IsRest over fits after p xs

-- what one step makes of an item that was read, and of what comes behind
abbrev step_of : {P A : Type 0} → (P → Bool) → (P → List ℕ → Result (A × List ℕ) ℕ) → (P → A → P) → ℕ → P → Result (A × List ℕ) ℕ → Result (List A × List ℕ) ℕ
step_of {A = A} over read after n p r =
    made (λ (q : A × List A). q.0 ∷ q.1) (chosen (λ (bytes : List ℕ). r) (λ a. made (λ (others : List A). (a, others)) (repeated over read after n (after p a)))) []

one_before : {A : Type 0} (a : A) (mid : List ℕ) (r : Result (List A × List ℕ) ℕ)
    → made (λ (q : A × List A). q.0 ∷ q.1) (λ (bytes : List ℕ). made (λ (others : List A). (a, others)) (λ (x : List ℕ). r) mid) [] ≡ with_front (a ∷ []) r
one_before a mid (Ok x) = refl
one_before a mid (Err e) = refl

step_ok : {P A : Type 0} (over : P → Bool) (read : P → List ℕ → Result (A × List ℕ) ℕ) (after : P → A → P) (n : ℕ) (p : P) (bytes : List ℕ) (a : A) (mid : List ℕ)
    → read p bytes ≡ Ok (a, mid) → step_of over read after n p (read p bytes) ≡ with_front (a ∷ []) (repeated over read after n (after p a) mid)
step_ok over read after n p bytes a mid h = ap (step_of over read after n p) h ∙ one_before a mid (repeated over read after n (after p a) mid)

step_err : {P A : Type 0} (over : P → Bool) (read : P → List ℕ → Result (A × List ℕ) ℕ) (after : P → A → P) (n : ℕ) (p : P) (bytes : List ℕ) (left : ℕ)
    → read p bytes ≡ Err left → step_of over read after n p (read p bytes) ≡ Err left
step_err over read after n p bytes left h = ap (step_of over read after n p) h

over_zero : {P A : Type 0} (over : P → Bool) (read : P → List ℕ → Result (A × List ℕ) ℕ) (after : P → A → P) (p : P) (bytes : List ℕ)
    → over p ≡ false → repeated over read after 0 p bytes ≡ Err 0
over_zero over read after p bytes h = rw h refl

over_suc : {P A : Type 0} (over : P → Bool) (read : P → List ℕ → Result (A × List ℕ) ℕ) (after : P → A → P) (n : ℕ) (p : P) (bytes : List ℕ)
    → over p ≡ false → repeated over read after (suc n) p bytes ≡ step_of over read after n p (read p bytes)
over_suc over read after n p bytes h = rw h refl

is_ended : {P A : Type 0} (over : P → Bool) (read : P → List ℕ → Result (A × List ℕ) ℕ) (after : P → A → P) (n : ℕ) (p : P) (bytes : List ℕ)
    → over p ≡ true → repeated over read after n p bytes ≡ Ok ([], bytes)
is_ended over read after zero p bytes h = rw h refl
is_ended over read after (suc n) p bytes h = rw h refl

with_one_ok : {A : Type 0} (a : A) (r : Result (List A × List ℕ) ℕ) (xs : List A) (rest : List ℕ) → with_front (a ∷ []) r ≡ Ok (xs, rest)
    → (others : List A) × (r ≡ Ok (others, rest)) × (xs ≡ a ∷ others)
with_one_ok {A = A} a (Ok x) xs rest h =
    let p : (a ∷ x.0, x.1) ≡ (xs, rest) = ok_is (a ∷ x.0, x.1) (xs, rest) h in
    (x.0, ap (λ (z : List ℕ). Ok (x.0, z)) (ap (λ (q : List A × List ℕ). q.1) p), sym (ap (λ (q : List A × List ℕ). q.0) p))
with_one_ok a (Err e) xs rest h = absurd cc

with_one_err : {A : Type 0} (a : A) (r : Result (List A × List ℕ) ℕ) (left : ℕ) → with_front (a ∷ []) r ≡ Err left → r ≡ Err left
with_one_err a (Ok x) left h = absurd cc
with_one_err a (Err e) left h = let one : e ≡ left = cc in ap (λ (n : ℕ). Err n) one

-- ---- reading again

count_le : {P A : Type 0} {over : P → Bool} {read : P → List ℕ → Result (A × List ℕ) ℕ} {after : P → A → P} {text : A → List ℕ} {fits : P → A → Type 0}
    → Items over read after text fits → (p : P) (xs : List A) → IsRest over fits after p xs → length xs ≤ length (flat_map text xs)
count_le r p [] h = omega arith
count_le {after = after} {text = text} r p (a ∷ xs) h =
    let one = r.some p a h.1 in
    let others = count_le r (after p a) xs h.2 in
    omega (arith, length-append (text a) (flat_map text xs))

again_n : {P A : Type 0} {over : P → Bool} {read : P → List ℕ → Result (A × List ℕ) ℕ} {after : P → A → P} {text : A → List ℕ} {fits : P → A → Type 0}
    → Items over read after text fits → (n : ℕ) (p : P) (xs : List A) (rest : List ℕ) → length xs ≤ n → IsRest over fits after p xs
    → repeated over read after n p (flat_map text xs ++ rest) ≡ Ok (xs, rest)
again_n {over = over} {read = read} {after = after} r n p [] rest le h = is_ended over read after n p rest h
again_n r zero p (a ∷ xs) rest le h = absurd (omega arith)
again_n {A = A} {over = over} {read = read} {after = after} {text = text} r (suc n) p (a ∷ xs) rest le h =
    let one : read p (flat_map text (a ∷ xs) ++ rest) ≡ Ok (a, flat_map text xs ++ rest) =
    ap (read p) (append_assoc (text a) (flat_map text xs) rest) ∙ (r.reads p h.0).again a (flat_map text xs ++ rest) h.1 in
    over_suc over read after n p (flat_map text (a ∷ xs) ++ rest) h.0
    ∙ step_ok over read after n p (flat_map text (a ∷ xs) ++ rest) a (flat_map text xs ++ rest) one
    ∙ ap (with_front (a ∷ [])) (again_n r n (after p a) xs rest (omega arith) h.2)

-- ---- what is found

found_end : {P A : Type 0} (over : P → Bool) (read : P → List ℕ → Result (A × List ℕ) ℕ) (after : P → A → P) (text : A → List ℕ) (fits : P → A → Type 0) (n : ℕ) (p : P) (bytes : List ℕ) (xs : List A) (rest : List ℕ)
    → over p ≡ true → repeated over read after n p bytes ≡ Ok (xs, rest) → (bytes ≡ flat_map text xs ++ rest) × IsRest over fits after p xs
found_end {A = A} over read after text fits n p bytes xs rest t e =
    let q : ([], bytes) ≡ (xs, rest) = ok_is ([], bytes) (xs, rest) (sym (is_ended over read after n p bytes t) ∙ e) in
    let one : [] ≡ xs = ap (λ (y : List A × List ℕ). y.0) q in
    let two : bytes ≡ rest = ap (λ (y : List A × List ℕ). y.1) q in
    (two ∙ ap (λ (x : List A). flat_map text x ++ rest) one, subst (λ (x : List A). IsRest over fits after p x) one t)

found_more : {P A : Type 0} {over : P → Bool} {read : P → List ℕ → Result (A × List ℕ) ℕ} {after : P → A → P} {text : A → List ℕ} {fits : P → A → Type 0}
    → Items over read after text fits → (n : ℕ) (p : P) (bytes : List ℕ) (xs : List A) (rest : List ℕ) → IsBytes bytes → over p ≡ false
    → ((q : P) (mid : List ℕ) (ys : List A) → IsBytes mid → repeated over read after n q mid ≡ Ok (ys, rest) → (mid ≡ flat_map text ys ++ rest) × IsRest over fits after q ys)
    → step_of over read after n p (read p bytes) ≡ Ok (xs, rest) → (bytes ≡ flat_map text xs ++ rest) × IsRest over fits after p xs
found_more {A = A} {over = over} {read = read} {after = after} {text = text} {fits = fits} r n p bytes xs rest isb f ih whole = on (read p bytes) refl where
  on : (q : Result (A × List ℕ) ℕ) → read p bytes ≡ q → (bytes ≡ flat_map text xs ++ rest) × IsRest over fits after p xs
  on (Err left) h = let g = sym (step_err over read after n p bytes left h) ∙ whole in absurd cc
  on (Ok (a, mid)) h =
      let w = with_one_ok a (repeated over read after n (after p a) mid) xs rest (sym (step_ok over read after n p bytes a mid h) ∙ whole) in
      let g = (r.reads p f).found bytes a mid isb h in
      let ism : IsBytes mid = IsBytes-rest (text a) mid (subst IsBytes g.0 isb) in
      let t = ih (after p a) mid w.0 ism w.1 in
      let cut : bytes ≡ flat_map text (a ∷ w.0) ++ rest = g.0 ∙ ap (λ (x : List ℕ). text a ++ x) t.0 ∙ sym (append_assoc (text a) (flat_map text w.0) rest) in
      subst (λ (x : List A). (bytes ≡ flat_map text x ++ rest) × IsRest over fits after p x) (sym w.2) (cut, (f, g.1, t.1))

found_n : {P A : Type 0} {over : P → Bool} {read : P → List ℕ → Result (A × List ℕ) ℕ} {after : P → A → P} {text : A → List ℕ} {fits : P → A → Type 0}
    → Items over read after text fits → (n : ℕ) (p : P) (bytes : List ℕ) (xs : List A) (rest : List ℕ) → IsBytes bytes
    → repeated over read after n p bytes ≡ Ok (xs, rest) → (bytes ≡ flat_map text xs ++ rest) × IsRest over fits after p xs
found_n {over = over} {read = read} {after = after} {text = text} {fits = fits} r zero p bytes xs rest isb e =
    elim (by_test (over p)) [
      | inl t ↦ found_end over read after text fits 0 p bytes xs rest t e
      | inr f ↦ let g = sym (over_zero over read after p bytes f) ∙ e in absurd cc
    ]
found_n {over = over} {read = read} {after = after} {text = text} {fits = fits} r (suc n) p bytes xs rest isb e =
    elim (by_test (over p)) [
      | inl t ↦ found_end over read after text fits (suc n) p bytes xs rest t e
      | inr f ↦ found_more r n p bytes xs rest isb f (λ q mid ys ism h. found_n r n q mid ys rest ism h) (sym (over_suc over read after n p bytes f) ∙ e)
    ]

-- ---- where it stops

stop_here : {P A : Type 0} {over : P → Bool} {read : P → List ℕ → Result (A × List ℕ) ℕ} {after : P → A → P} {text : A → List ℕ} {fits : P → A → Type 0}
    → Items over read after text fits → (p : P) (bytes : List ℕ) (left : ℕ) → over p ≡ false → Stops text (fits p) bytes left
    → Stops (flat_map text) (IsRest over fits after p) bytes left
stop_here {A = A} {over = over} {after = after} {text = text} {fits = fits} r p bytes left f s =
    let others = r.ends (after p s.next) in
    record {
      front = s.front;
      back = s.back;
      cut = s.cut;
      left_is = s.left_is;
      next = s.next ∷ others.0;
      next_fits = (f, s.next_fits, others.1);
      more = s.more ++ flat_map text others.0;
      begins = ap (λ (x : List ℕ). x ++ flat_map text others.0) s.begins ∙ append_assoc s.front s.more (flat_map text others.0);
      bad = λ b rest tail eb xs next fx ex. refused b rest tail eb xs next fx ex;
    }
  where
    refused : (b : ℕ) (rest tail : List ℕ) → s.back ≡ b ∷ rest → (xs : List A) (next : List ℕ) → IsRest over fits after p xs → flat_map text xs ++ next ≡ s.front ++ (b ∷ tail) → ⊥
    refused b rest tail eb [] next fx ex = opposite (over p) fx f
    refused b rest tail eb (x ∷ xs) next fx ex =
        s.bad b rest tail eb x (flat_map text xs ++ next) fx.1 (sym (append_assoc (text x) (flat_map text xs) next) ∙ ex)

stop_later : {P A : Type 0} {over : P → Bool} {read : P → List ℕ → Result (A × List ℕ) ℕ} {after : P → A → P} {text : A → List ℕ} {fits : P → A → Type 0}
    → Items over read after text fits → (p : P) (bytes : List ℕ) (left : ℕ) (a : A) (mid : List ℕ) → over p ≡ false → fits p a → bytes ≡ text a ++ mid
    → Stops (flat_map text) (IsRest over fits after (after p a)) mid left → Stops (flat_map text) (IsRest over fits after p) bytes left
stop_later {A = A} {over = over} {after = after} {text = text} {fits = fits} r p bytes left a mid f fa cut s = record {
  front = text a ++ s.front;
  back = s.back;
  cut = cut ∙ ap (λ (x : List ℕ). text a ++ x) s.cut ∙ sym (append_assoc (text a) s.front s.back);
  left_is = s.left_is;
  next = a ∷ s.next;
  next_fits = (f, fa, s.next_fits);
  more = s.more;
  begins = ap (λ (x : List ℕ). text a ++ x) s.begins ∙ sym (append_assoc (text a) s.front s.more);
  bad = refused;
}
  where
    refused : (b : ℕ) (rest tail : List ℕ) → s.back ≡ b ∷ rest → (xs : List A) (next : List ℕ) → IsRest over fits after p xs → flat_map text xs ++ next ≡ (text a ++ s.front) ++ (b ∷ tail) → ⊥
    refused b rest tail eb [] next fx ex = opposite (over p) fx f
    refused b rest tail eb (x ∷ xs) next fx ex =
        let regrouped : text x ++ (flat_map text xs ++ next) ≡ text a ++ (s.front ++ (b ∷ tail)) =
        sym (append_assoc (text x) (flat_map text xs) next) ∙ ex ∙ append_assoc (text a) s.front (b ∷ tail) in
        let one = one_reading (r.reads p f) x a (flat_map text xs ++ next) (s.front ++ (b ∷ tail)) fx.1 fa regrouped in
        s.bad b rest tail eb xs next (subst (λ (y : A). IsRest over fits after (after p y) xs) one.0 fx.2) one.1

stop_empty : {P A : Type 0} {over : P → Bool} {read : P → List ℕ → Result (A × List ℕ) ℕ} {after : P → A → P} {text : A → List ℕ} {fits : P → A → Type 0}
    → Items over read after text fits → (p : P) (left : ℕ) → 0 ≡ left → Stops (flat_map text) (IsRest over fits after p) [] left
stop_empty {text = text} r p left e =
    let others = r.ends p in
    record {
      front = [];
      back = [];
      cut = refl;
      left_is = e;
      next = others.0;
      next_fits = others.1;
      more = flat_map text others.0;
      begins = refl;
      bad = λ b rest tail eb xs next fx ex. absurd cc;
    }

shorter : {A : Type 0} (text : A → List ℕ) (a : A) (bytes mid : List ℕ) (n : ℕ) → 0 < length (text a) → bytes ≡ text a ++ mid → length bytes ≤ suc n → length mid ≤ n
shorter text a bytes mid n some cut le = omega (arith, ap length cut, length-append (text a) mid)

stops_more : {P A : Type 0} {over : P → Bool} {read : P → List ℕ → Result (A × List ℕ) ℕ} {after : P → A → P} {text : A → List ℕ} {fits : P → A → Type 0}
    → Items over read after text fits → (n : ℕ) (p : P) (bytes : List ℕ) (left : ℕ) → IsBytes bytes → length bytes ≤ suc n → over p ≡ false
    → ((q : P) (mid : List ℕ) → IsBytes mid → length mid ≤ n → repeated over read after n q mid ≡ Err left → Stops (flat_map text) (IsRest over fits after q) mid left)
    → step_of over read after n p (read p bytes) ≡ Err left → Stops (flat_map text) (IsRest over fits after p) bytes left
stops_more {A = A} {over = over} {read = read} {after = after} {text = text} {fits = fits} r n p bytes left isb le f ih whole = on (read p bytes) refl where
  on : (q : Result (A × List ℕ) ℕ) → read p bytes ≡ q → Stops (flat_map text) (IsRest over fits after p) bytes left
  on (Err k) h =
      let g = sym (step_err over read after n p bytes k h) ∙ whole in
      let same : k ≡ left = cc in
      stop_here r p bytes left f ((r.reads p f).stops bytes left isb (h ∙ ap (λ (i : ℕ). Err i) same))
  on (Ok (a, mid)) h =
      let g = (r.reads p f).found bytes a mid isb h in
      let ism : IsBytes mid = IsBytes-rest (text a) mid (subst IsBytes g.0 isb) in
      let later = with_one_err a (repeated over read after n (after p a) mid) left (sym (step_ok over read after n p bytes a mid h) ∙ whole) in
      stop_later r p bytes left a mid f g.1 g.0 (ih (after p a) mid ism (shorter text a bytes mid n (r.some p a g.1) g.0 le) later)

stops_n : {P A : Type 0} {over : P → Bool} {read : P → List ℕ → Result (A × List ℕ) ℕ} {after : P → A → P} {text : A → List ℕ} {fits : P → A → Type 0}
    → Items over read after text fits → (n : ℕ) (p : P) (bytes : List ℕ) (left : ℕ) → IsBytes bytes → length bytes ≤ n
    → repeated over read after n p bytes ≡ Err left → Stops (flat_map text) (IsRest over fits after p) bytes left
stops_n {over = over} {read = read} {after = after} {text = text} {fits = fits} r zero p bytes left isb le e =
    elim (by_test (over p)) [
      | inl t ↦ let g = sym (is_ended over read after 0 p bytes t) ∙ e in absurd cc
      | inr f ↦
          let g = sym (over_zero over read after p bytes f) ∙ e in
          let is : 0 ≡ left = cc in
          let none : bytes ≡ [] = nil_from_length bytes (omega arith) in
          subst (λ (x : List ℕ). Stops (flat_map text) (IsRest over fits after p) x left) (sym none) (stop_empty r p left is)
    ]
stops_n {over = over} {read = read} {after = after} r (suc n) p bytes left isb le e =
    elim (by_test (over p)) [
      | inl t ↦ let g = sym (is_ended over read after (suc n) p bytes t) ∙ e in absurd cc
      | inr f ↦ stops_more r n p bytes left isb le f (λ q mid ism short h. stops_n r n q mid left ism short h) (sym (over_suc over read after n p bytes f) ∙ e)
    ]

-- ---- the law

are_bytes : {P A : Type 0} {over : P → Bool} {read : P → List ℕ → Result (A × List ℕ) ℕ} {after : P → A → P} {text : A → List ℕ} {fits : P → A → Type 0}
    → Items over read after text fits → (p : P) (xs : List A) → IsRest over fits after p xs → IsBytes (flat_map text xs)
are_bytes r p [] h = IsBytes-nil
are_bytes {after = after} {text = text} r p (a ∷ xs) h = IsBytes-append (text a) (flat_map text xs) ((r.reads p h.0).bytes a h.1) (are_bytes r (after p a) xs h.2)

-- xs many items xs there are bytes are enough
abbrev pub all_items : {P A : Type 0} → (P → Bool) → (P → List ℕ → Result (A × List ℕ) ℕ) → (P → A → P) → P → List ℕ → Result (List A × List ℕ) ℕ
all_items over read after p bytes = repeated over read after (length bytes) p bytes

pub items_reads : {P A : Type 0} {over : P → Bool} {read : P → List ℕ → Result (A × List ℕ) ℕ} {after : P → A → P} {text : A → List ℕ} {fits : P → A → Type 0}
    → Items over read after text fits → (p : P) → Reads (all_items over read after p) (flat_map text) (IsRest over fits after p)
items_reads {text = text} r p = record {
  some = r.ends p;
  bytes = are_bytes r p;
  again = λ xs rest h.
      let le = count_le r p xs h in
      again_n r (length (flat_map text xs ++ rest)) p xs rest (omega (arith, length-append (flat_map text xs) rest)) h;
  found = λ bytes xs rest isb e. found_n r (length bytes) p bytes xs rest isb e;
  stops = λ bytes left isb e. stops_n r (length bytes) p bytes left isb (omega arith) e;
}

-- ---- xs a loop reads

nothing_left : {A : Type 0} {read : List ℕ → Result (A × List ℕ) ℕ} {text : A → List ℕ} {fits : A → Type 0} → Reads read text fits → ((a : A) → fits a → 0 < length (text a))
    → read [] ≡ Err 0
nothing_left {A = A} {read = read} {text = text} r some = on (read []) refl where
  on : (q : Result (A × List ℕ) ℕ) → read [] ≡ q → read [] ≡ Err 0
  on (Ok (a, mid)) h =
      let g = r.found [] a mid IsBytes-nil h in
      absurd (omega (arith, some a g.1, ap length g.0, length-append (text a) mid))
  on (Err left) h =
      let s = r.stops [] left IsBytes-nil h in
      let none : left ≡ 0 = omega (arith, s.left_is, ap length s.cut, length-append s.front s.back) in
      h ∙ ap (λ (i : ℕ). Err i) none

none_left : {P A : Type 0} {over : P → Bool} {read : P → List ℕ → Result (A × List ℕ) ℕ} {after : P → A → P} {text : A → List ℕ} {fits : P → A → Type 0}
    → Items over read after text fits → (k : ℕ) (p : P) (bytes : List ℕ) → over p ≡ false → length bytes ≤ 0 → repeated over read after k p bytes ≡ Err 0
none_left {over = over} {read = read} {after = after} r zero p bytes f le = over_zero over read after p bytes f
none_left {over = over} {read = read} {after = after} r (suc k) p bytes f le =
    let none : bytes ≡ [] = nil_from_length bytes (omega arith) in
    over_suc over read after k p bytes f ∙ step_err over read after k p bytes 0 (ap (read p) none ∙ nothing_left (r.reads p f) (r.some p))

enough_more : {P A : Type 0} {over : P → Bool} {read : P → List ℕ → Result (A × List ℕ) ℕ} {after : P → A → P} {text : A → List ℕ} {fits : P → A → Type 0}
    → Items over read after text fits → (n m : ℕ) (p : P) (bytes : List ℕ) → IsBytes bytes → over p ≡ false → length bytes ≤ suc n → length bytes ≤ suc m
    → ((q : P) (mid : List ℕ) → IsBytes mid → length mid ≤ n → length mid ≤ m → repeated over read after n q mid ≡ repeated over read after m q mid)
    → step_of over read after n p (read p bytes) ≡ step_of over read after m p (read p bytes)
enough_more {A = A} {over = over} {read = read} {after = after} {text = text} r n m p bytes isb f le1 le2 ih = on (read p bytes) refl where
  on : (q : Result (A × List ℕ) ℕ) → read p bytes ≡ q → step_of over read after n p (read p bytes) ≡ step_of over read after m p (read p bytes)
  on (Err k) h = step_err over read after n p bytes k h ∙ sym (step_err over read after m p bytes k h)
  on (Ok (a, mid)) h =
      let g = (r.reads p f).found bytes a mid isb h in
      let ism : IsBytes mid = IsBytes-rest (text a) mid (subst IsBytes g.0 isb) in
      step_ok over read after n p bytes a mid h
      ∙ ap (with_front (a ∷ [])) (ih (after p a) mid ism (shorter text a bytes mid n (r.some p a g.1) g.0 le1) (shorter text a bytes mid m (r.some p a g.1) g.0 le2))
      ∙ sym (step_ok over read after m p bytes a mid h)

enough : {P A : Type 0} {over : P → Bool} {read : P → List ℕ → Result (A × List ℕ) ℕ} {after : P → A → P} {text : A → List ℕ} {fits : P → A → Type 0}
    → Items over read after text fits → (n m : ℕ) (p : P) (bytes : List ℕ) → IsBytes bytes → length bytes ≤ n → length bytes ≤ m
    → repeated over read after n p bytes ≡ repeated over read after m p bytes
enough {over = over} {read = read} {after = after} r zero m p bytes isb le1 le2 =
    elim (by_test (over p)) [
      | inl t ↦ is_ended over read after 0 p bytes t ∙ sym (is_ended over read after m p bytes t)
      | inr f ↦ none_left r 0 p bytes f le1 ∙ sym (none_left r m p bytes f le1)
    ]
enough {over = over} {read = read} {after = after} r (suc n) zero p bytes isb le1 le2 =
    elim (by_test (over p)) [
      | inl t ↦ is_ended over read after (suc n) p bytes t ∙ sym (is_ended over read after 0 p bytes t)
      | inr f ↦ none_left r (suc n) p bytes f le2 ∙ sym (none_left r 0 p bytes f le2)
    ]
enough {over = over} {read = read} {after = after} r (suc n) (suc m) p bytes isb le1 le2 =
    elim (by_test (over p)) [
      | inl t ↦ is_ended over read after (suc n) p bytes t ∙ sym (is_ended over read after (suc m) p bytes t)
      | inr f ↦
          over_suc over read after n p bytes f ∙ enough_more r n m p bytes isb f le1 le2 (λ q mid ism l1 l2. enough r n m q mid ism l1 l2)
          ∙ sym (over_suc over read after m p bytes f)
    ]

-- one item more, and the others
pub one_more : {P A : Type 0} {over : P → Bool} {read : P → List ℕ → Result (A × List ℕ) ℕ} {after : P → A → P} {text : A → List ℕ} {fits : P → A → Type 0}
    → Items over read after text fits → (p : P) (bytes : List ℕ) (a : A) (mid : List ℕ) → IsBytes bytes → over p ≡ false → read p bytes ≡ Ok (a, mid)
    → (all_items over read after p bytes ≡ with_front (a ∷ []) (all_items over read after (after p a) mid)) × (length mid < length bytes) × IsBytes mid
one_more {over = over} {read = read} {after = after} {text = text} r p bytes a mid isb f h =
    let g = (r.reads p f).found bytes a mid isb h in
    let ism : IsBytes mid = IsBytes-rest (text a) mid (subst IsBytes g.0 isb) in
    let less : length mid < length bytes = omega (arith, r.some p a g.1, ap length g.0, length-append (text a) mid) in (
      enough r (length bytes) (suc (length bytes)) p bytes isb (omega arith) (omega arith)
          ∙ over_suc over read after (length bytes) p bytes f
          ∙ step_ok over read after (length bytes) p bytes a mid h
          ∙ ap (with_front (a ∷ [])) (enough r (length bytes) (length mid) (after p a) mid ism (omega arith) (omega arith)),
      less,
      ism,
    )

pub one_wrong : {P A : Type 0} {over : P → Bool} {read : P → List ℕ → Result (A × List ℕ) ℕ} {after : P → A → P} {text : A → List ℕ} {fits : P → A → Type 0}
    → Items over read after text fits → (p : P) (bytes : List ℕ) (left : ℕ) → IsBytes bytes → over p ≡ false → read p bytes ≡ Err left
    → all_items over read after p bytes ≡ Err left
one_wrong {over = over} {read = read} {after = after} r p bytes left isb f h =
    enough r (length bytes) (suc (length bytes)) p bytes isb (omega arith) (omega arith)
    ∙ over_suc over read after (length bytes) p bytes f ∙ step_err over read after (length bytes) p bytes left h

pub is_over_then : {P A : Type 0} (over : P → Bool) (read : P → List ℕ → Result (A × List ℕ) ℕ) (after : P → A → P) (p : P) (bytes : List ℕ)
    → over p ≡ true → all_items over read after p bytes ≡ Ok ([], bytes)
is_over_then over read after p bytes h = is_ended over read after (length bytes) p bytes h
