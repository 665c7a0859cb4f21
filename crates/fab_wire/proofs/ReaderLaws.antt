-- What a reader keeps to: what is spelled is bytes; it reads each spelling again, whatever follows; what it reads is spelled so; and where
-- it stops, the bytes before go along with a spelling and the next one doesn't.
use Rattle.std.proofs.Common.{◌≡◌, ℕ, zero, suc, ◌<◌, List, [], ◌∷◌, ◌++◌, length, get_or, Result, Ok, Err, refl, sym, ap, subst, ◌∙◌, append_assoc, arith, inl, inr, ◌⊎◌}
use Rattle.std.proofs.lemmas.List.{nil_from_length}
use Rattle.std.specs.List.{flat_map, AllByRecursion}
use Rattle.std.proofs.lemmas.List.Concat.{flat_map-cons}
use Rattle.fab_wire.specs.Reading.{◌>>=◌, both, made, chosen, many_at}

abbrev pub IsBytes : List ℕ → Type 0
IsBytes bytes = (i : ℕ) → get_or bytes i 0 < 256

pub IsBytes-rest : (front rest : List ℕ) → IsBytes (front ++ rest) → IsBytes rest
IsBytes-rest [] rest h = h
IsBytes-rest (b ∷ front) rest h = IsBytes-rest front rest (λ i. h (suc i))

pub IsBytes-nil : IsBytes []
IsBytes-nil i = omega arith

pub IsBytes-cons : (b : ℕ) (bytes : List ℕ) → b < 256 → IsBytes bytes → IsBytes (b ∷ bytes)
IsBytes-cons b bytes small h zero = small
IsBytes-cons b bytes small h (suc i) = h i

pub IsBytes-append : (a b : List ℕ) → IsBytes a → IsBytes b → IsBytes (a ++ b)
IsBytes-append [] b ha hb i = hb i
IsBytes-append (x ∷ a) b ha hb zero = ha zero
IsBytes-append (x ∷ a) b ha hb (suc i) = IsBytes-append a b (λ j. ha (suc j)) hb i

pub record Stops {A : Type 0} (text : A → List ℕ) (fits : A → Type 0) (bytes : List ℕ) (left : ℕ) : Type 0 where
  pub front : List ℕ
  pub back : List ℕ
  pub cut : bytes ≡ front ++ back
  pub left_is : length back ≡ left
  pub next : A
  pub next_fits : fits next
  pub more : List ℕ
  pub begins : text next ≡ front ++ more
  pub bad : (b : ℕ) (rest tail : List ℕ) → back ≡ b ∷ rest → (x : A) (after : List ℕ) → fits x → text x ++ after ≡ front ++ (b ∷ tail) → ⊥

pub record Reads {A : Type 0} (read : List ℕ → Result (A × List ℕ) ℕ) (text : A → List ℕ) (fits : A → Type 0) : Type 0 where
  pub some : (x : A) × fits x
  pub bytes : (x : A) → fits x → IsBytes (text x)
  pub again : (x : A) (rest : List ℕ) → fits x → read (text x ++ rest) ≡ Ok (x, rest)
  pub found : (bytes : List ℕ) (x : A) (rest : List ℕ) → IsBytes bytes → read bytes ≡ Ok (x, rest) → (bytes ≡ text x ++ rest) × fits x
  pub stops : (bytes : List ℕ) (left : ℕ) → IsBytes bytes → read bytes ≡ Err left → Stops text fits bytes left

-- ---- the value of a step, and its fault

pub bind_ok : {A B : Type 0} (r : Result A ℕ) (f : A → Result B ℕ) (y : B) → (r >>= f) ≡ Ok y → (x : A) × (r ≡ Ok x) × (f x ≡ Ok y)
bind_ok (Ok x) f y e = (x, refl, e)
bind_ok (Err d) f y e = absurd cc

pub bind_err : {A B : Type 0} (r : Result A ℕ) (f : A → Result B ℕ) (d : ℕ) → (r >>= f) ≡ Err d → (r ≡ Err d) ⊎ ((x : A) × (r ≡ Ok x) × (f x ≡ Err d))
bind_err (Ok x) f d e = inr (x, refl, e)
bind_err (Err k) f d e = inl cc

abbrev done : {A : Type 0} → A → Result A ℕ
done x = Ok x

pub ok_is : {A : Type 0} (x y : A) → done x ≡ done y → x ≡ y
ok_is x y e = cc

-- ---- two readings of the same bytes are one

pub one_reading : {A : Type 0} {read : List ℕ → Result (A × List ℕ) ℕ} {text : A → List ℕ} {fits : A → Type 0} → Reads read text fits
    → (x y : A) (a b : List ℕ) → fits x → fits y → text x ++ a ≡ text y ++ b → (x ≡ y) × (a ≡ b)
one_reading {A = A} {read = read} r x y a b fx fy e =
    let both_ways : done (x, a) ≡ done (y, b) = sym (r.again x a fx) ∙ ap read e ∙ r.again y b fy in
    let p : (x, a) ≡ (y, b) = ok_is (x, a) (y, b) both_ways in
    (ap (λ (q : A × List ℕ). q.0) p, ap (λ (q : A × List ℕ). q.1) p)

-- ---- what another function makes of it

pub made_reads : {A C : Type 0} {read : List ℕ → Result (A × List ℕ) ℕ} {text : A → List ℕ} {fits : A → Type 0} (f : A → C) (text' : C → List ℕ) (fits' : C → Type 0)
    → Reads read text fits → ((a : A) → fits a → (text' (f a) ≡ text a) × fits' (f a)) → ((c : C) → fits' c → (a : A) × fits a × (f a ≡ c))
    → Reads (made f read) text' fits'
made_reads {A = A} {C = C} {read = read} {text = text} {fits = fits} f text' fits' r to from = record {
  some = (f r.some.0, (to r.some.0 r.some.1).1);
  bytes = λ c fc. let back = from c fc in subst IsBytes (sym (to back.0 back.1).0 ∙ ap text' back.2) (r.bytes back.0 back.1);
  again = λ c rest fc.
      let back = from c fc in
      let a = back.0 in
      let e : text' c ≡ text a = ap text' (sym back.2) ∙ (to a back.1).0 in
      let one : read (text' c ++ rest) ≡ Ok (a, rest) = ap (λ (t : List ℕ). read (t ++ rest)) e ∙ r.again a rest back.1 in
      ap (λ (q : Result (A × List ℕ) ℕ). q >>= λ x. done (f x.0, x.1)) one ∙ ap (λ (y : C). done (y, rest)) back.2;
  found = λ bytes c rest isb e.
      let s = bind_ok (read bytes) (λ a. done (f a.0, a.1)) (c, rest) e in
      let p : (f s.0.0, s.0.1) ≡ (c, rest) = ok_is (f s.0.0, s.0.1) (c, rest) s.2 in
      let g = r.found bytes s.0.0 s.0.1 isb s.1 in
      let t = to s.0.0 g.1 in
      let whole : (bytes ≡ text' (f s.0.0) ++ s.0.1) × fits' (f s.0.0) = (g.0 ∙ ap (λ (x : List ℕ). x ++ s.0.1) (sym t.0), t.1) in
      subst (λ (q : C × List ℕ). (bytes ≡ text' q.0 ++ q.1) × fits' q.0) p whole;
  stops = λ bytes left isb e.
      elim (bind_err (read bytes) (λ a. done (f a.0, a.1)) left e) [
        | inl bad ↦
            let s = r.stops bytes left isb bad in
            let t = to s.next s.next_fits in
            record {
              front = s.front;
              back = s.back;
              cut = s.cut;
              left_is = s.left_is;
              next = f s.next;
              next_fits = t.1;
              more = s.more;
              begins = t.0 ∙ s.begins;
              bad = λ b rest tail eb c after fc ec.
                  let back = from c fc in
                  let same : text back.0 ++ after ≡ text' c ++ after = ap (λ (x : List ℕ). x ++ after) (sym (to back.0 back.1).0 ∙ ap text' back.2) in
                  s.bad b rest tail eb back.0 after back.1 (same ∙ ec);
            }
        | inr ok ↦ absurd cc
      ];
}

-- ---- one after the other, where the first says how to go on

pub chosen_reads : {A C : Type 0} {first : List ℕ → Result (A × List ℕ) ℕ} {text1 : A → List ℕ} {fits1 : A → Type 0} (second : A → List ℕ → Result (C × List ℕ) ℕ)
    (tag : C → A) (text2 : C → List ℕ) (fits2 : C → Type 0)
    → Reads first text1 fits1 → ((a : A) → fits1 a → Reads (second a) text2 (λ c. fits2 c × (tag c ≡ a)))
    → Reads (chosen first second) (λ c. text1 (tag c) ++ text2 c) (λ c. fits1 (tag c) × fits2 c)
chosen_reads {A = A} {C = C} {first = first} {text1 = text1} {fits1 = fits1} second tag text2 fits2 r s = record {
  some =
      let a = r.some in
      let c = (s a.0 a.1).some in
      (c.0, (subst fits1 (sym c.1.1) a.1, c.1.0));
  bytes = λ c fc. IsBytes-append (text1 (tag c)) (text2 c) (r.bytes (tag c) fc.0) ((s (tag c) fc.0).bytes c (fc.1, refl));
  again = λ c rest fc.
      let regrouped : (text1 (tag c) ++ text2 c) ++ rest ≡ text1 (tag c) ++ (text2 c ++ rest) = append_assoc (text1 (tag c)) (text2 c) rest in
      let one : first ((text1 (tag c) ++ text2 c) ++ rest) ≡ Ok (tag c, text2 c ++ rest) = ap first regrouped ∙ r.again (tag c) (text2 c ++ rest) fc.0 in
      ap (λ (q : Result (A × List ℕ) ℕ). q >>= λ a. second a.0 a.1) one ∙ (s (tag c) fc.0).again c rest (fc.1, refl);
  found = λ bytes c rest isb e.
      let p = bind_ok (first bytes) (λ a. second a.0 a.1) (c, rest) e in
      let g = r.found bytes p.0.0 p.0.1 isb p.1 in
      let isr : IsBytes p.0.1 = IsBytes-rest (text1 p.0.0) p.0.1 (subst IsBytes g.0 isb) in
      let h = (s p.0.0 g.1).found p.0.1 c rest isr p.2 in
      let tag_is : p.0.0 ≡ tag c = sym h.1.1 in
      let whole : bytes ≡ (text1 (tag c) ++ text2 c) ++ rest =
      g.0 ∙ ap (λ (x : List ℕ). text1 p.0.0 ++ x) h.0 ∙ ap (λ (a : A). text1 a ++ (text2 c ++ rest)) tag_is ∙ sym (append_assoc (text1 (tag c)) (text2 c) rest) in
      (whole, (subst fits1 tag_is g.1, h.1.0));
  stops = λ bytes left isb e.
      elim (bind_err (first bytes) (λ a. second a.0 a.1) left e) [
        | inl bad ↦
            let p = r.stops bytes left isb bad in
            let c = (s p.next p.next_fits).some in
            record {
              front = p.front;
              back = p.back;
              cut = p.cut;
              left_is = p.left_is;
              next = c.0;
              next_fits = (subst fits1 (sym c.1.1) p.next_fits, c.1.0);
              more = p.more ++ text2 c.0;
              begins = ap (λ (a : A). text1 a ++ text2 c.0) c.1.1 ∙ ap (λ (x : List ℕ). x ++ text2 c.0) p.begins ∙ append_assoc p.front p.more (text2 c.0);
              bad = λ b rest tail eb x after fx ex.
                  p.bad b rest tail eb (tag x) (text2 x ++ after) fx.0 (sym (append_assoc (text1 (tag x)) (text2 x) after) ∙ ex);
            }
        | inr ok ↦
            let g = r.found bytes ok.0.0 ok.0.1 isb ok.1 in
            let isr : IsBytes ok.0.1 = IsBytes-rest (text1 ok.0.0) ok.0.1 (subst IsBytes g.0 isb) in
            let p = (s ok.0.0 g.1).stops ok.0.1 left isr ok.2 in
            record {
              front = text1 ok.0.0 ++ p.front;
              back = p.back;
              cut = g.0 ∙ ap (λ (x : List ℕ). text1 ok.0.0 ++ x) p.cut ∙ sym (append_assoc (text1 ok.0.0) p.front p.back);
              left_is = p.left_is;
              next = p.next;
              next_fits = (subst fits1 (sym p.next_fits.1) g.1, p.next_fits.0);
              more = p.more;
              begins = ap (λ (a : A). text1 a ++ text2 p.next) p.next_fits.1 ∙ ap (λ (x : List ℕ). text1 ok.0.0 ++ x) p.begins ∙ sym (append_assoc (text1 ok.0.0) p.front p.more);
              bad = λ b rest tail eb x after fx ex.
                  let regrouped : text1 (tag x) ++ (text2 x ++ after) ≡ text1 ok.0.0 ++ (p.front ++ (b ∷ tail)) =
                  sym (append_assoc (text1 (tag x)) (text2 x) after) ∙ ex ∙ append_assoc (text1 ok.0.0) p.front (b ∷ tail) in
                  let one = one_reading r (tag x) ok.0.0 (text2 x ++ after) (p.front ++ (b ∷ tail)) fx.0 g.1 regrouped in
                  p.bad b rest tail eb x after (fx.1, one.0) one.1;
            }
      ];
}

-- ---- one after the other

pub both_reads : {A B : Type 0} {first : List ℕ → Result (A × List ℕ) ℕ} {text1 : A → List ℕ} {fits1 : A → Type 0} {second : List ℕ → Result (B × List ℕ) ℕ} {text2 : B → List ℕ} {fits2 : B → Type 0}
    → Reads first text1 fits1 → Reads second text2 fits2
    → Reads (both first second) (λ p. text1 p.0 ++ text2 p.1) (λ p. fits1 p.0 × fits2 p.1)
both_reads {A = A} {B = B} {first = first} {second = second} {text2 = text2} {fits2 = fits2} r s =
    let pair : A → B → A × B = λ a b. (a, b) in
    chosen_reads (λ a. made (pair a) second) (λ (p : A × B). p.0) (λ (p : A × B). text2 p.1) (λ (p : A × B). fits2 p.1) r
    (λ a fa. made_reads (pair a) (λ (p : A × B). text2 p.1) (λ (p : A × B). fits2 p.1 × (p.0 ≡ a)) s (λ b fb. (refl, (fb, refl))) (λ p fp. (p.1, fp.0, ap (λ (x : A). pair x p.1) (sym fp.1))))

-- ---- the same spelling, written another way

pub respelled : {A : Type 0} {read : List ℕ → Result (A × List ℕ) ℕ} {text : A → List ℕ} {fits : A → Type 0} (text' : A → List ℕ) (fits' : A → Type 0)
    → Reads read text fits → ((x : A) → fits' x → text' x ≡ text x) → ((x : A) → fits x → fits' x) → ((x : A) → fits' x → fits x) → Reads read text' fits'
respelled {read = read} text' fits' r same to from = record {
  some = (r.some.0, to r.some.0 r.some.1);
  bytes = λ x fx. subst IsBytes (sym (same x fx)) (r.bytes x (from x fx));
  again = λ x rest fx. ap (λ (t : List ℕ). read (t ++ rest)) (same x fx) ∙ r.again x rest (from x fx);
  found = λ bytes x rest isb e. let g = r.found bytes x rest isb e in (g.0 ∙ ap (λ (t : List ℕ). t ++ rest) (sym (same x (to x g.1))), to x g.1);
  stops = λ bytes left isb e.
      let s = r.stops bytes left isb e in
      record {
        front = s.front;
        back = s.back;
        cut = s.cut;
        left_is = s.left_is;
        next = s.next;
        next_fits = to s.next s.next_fits;
        more = s.more;
        begins = same s.next (to s.next s.next_fits) ∙ s.begins;
        bad = λ b rest tail eb x after fx ex. s.bad b rest tail eb x after (from x fx) (ap (λ (t : List ℕ). t ++ after) (sym (same x fx)) ∙ ex);
      };
}

-- ---- nothing at all

pub nothing_reads : {A : Type 0} (x : A) → Reads (λ bytes. done (x, bytes)) (λ _. []) (λ y. y ≡ x)
nothing_reads {A = A} x = record {
  some = (x, refl);
  bytes = λ y fy. IsBytes-nil;
  again = λ y rest fy. ap (λ (z : A). done (z, rest)) (sym fy);
  found = λ bytes y rest isb e.
      let p : (x, bytes) ≡ (y, rest) = ok_is (x, bytes) (y, rest) e in
      (ap (λ (q : A × List ℕ). q.1) p, ap (λ (q : A × List ℕ). q.0) (sym p));
  stops = λ bytes left isb e. absurd cc;
}

-- ---- so many

uncons : {A : Type 0} (fits : A → Type 0) (n : ℕ) (xs : List A) → AllByRecursion fits xs × (length xs ≡ suc n) → (p : A × List A) × (fits p.0 × (AllByRecursion fits p.1 × (length p.1 ≡ n))) × (p.0 ∷ p.1 ≡ xs)
uncons fits n [] h = absurd (omega (arith, h.1))
uncons fits n (x ∷ xs) h = ((x, xs), (h.0.0, (h.0.1, omega (arith, h.1))), refl)

pub many_reads : {A : Type 0} {read : List ℕ → Result (A × List ℕ) ℕ} {text : A → List ℕ} {fits : A → Type 0} → Reads read text fits
    → (n : ℕ) → Reads (many_at read n) (λ xs. flat_map text xs) (λ xs. AllByRecursion fits xs × (length xs ≡ n))
unfolding many_at
many_reads {A = A} {text = text} {fits = fits} r zero =
    respelled (λ xs. flat_map text xs) (λ xs. AllByRecursion fits xs × (length xs ≡ 0)) (nothing_reads [])
    (λ xs h. ap (λ (ys : List A). flat_map text ys) (nil_from_length xs h.1))
    (λ xs e. subst (λ (ys : List A). AllByRecursion fits ys × (length ys ≡ 0)) (sym e) (tt, refl))
    (λ xs h. nil_from_length xs h.1)
many_reads {A = A} {text = text} {fits = fits} r (suc n) =
    made_reads (λ (p : A × List A). p.0 ∷ p.1) (λ xs. flat_map text xs) (λ xs. AllByRecursion fits xs × (length xs ≡ suc n)) (both_reads r (many_reads r n))
    (λ p fp. (flat_map-cons text p.0 p.1, ((fp.0, fp.1.0), ap suc fp.1.1)))
    (uncons fits n)

-- ---- a count and then so many

pub counted_reads : {A : Type 0} {read : List ℕ → Result (A × List ℕ) ℕ} {text : A → List ℕ} {fits : A → Type 0} {count : List ℕ → Result (ℕ × List ℕ) ℕ} {number : ℕ → List ℕ} {small : ℕ → Type 0}
    → Reads count number small → Reads read text fits
    → Reads (chosen count (many_at read)) (λ xs. number (length xs) ++ flat_map text xs) (λ xs. small (length xs) × AllByRecursion fits xs)
counted_reads {A = A} {read = read} {text = text} {fits = fits} c r =
    chosen_reads (many_at read) (λ (xs : List A). length xs) (λ xs. flat_map text xs) (λ xs. AllByRecursion fits xs) c (λ n small. many_reads r n)
