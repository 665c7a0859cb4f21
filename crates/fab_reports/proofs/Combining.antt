-- Readers that are chosen, beside those of messages: what the first reader gave says which spelling follows, or the first byte does.
use Rattle.std.proofs.Common.{◌≡◌, ℕ, Bool, true, false, cond, List, [], ◌∷◌, ◌++◌, Result, Ok, Err, refl, sym, ap, subst, ◌∙◌, append_assoc, inl, inr, ◌⊎◌}
use Rattle.fab_wire.specs.Reading.{◌>>=◌, made, chosen}
use Rattle.fab_wire.proofs.ReaderLaws.{IsBytes, IsBytes-rest, IsBytes-append, Stops, Reads, bind_ok, bind_err, one_reading, made_reads}
use Rattle.fab_reports.specs.Reading.{either_at}
use Rattle.fab_reports.proofs.Given.{opposite}

-- what f makes of something that fits
abbrev pub Image : {A C : Type 0} → (A → C) → (A → Type 0) → C → Type 0
Image {A = A} f fits c = (a : A) × fits a × (f a ≡ c)

pub image_reads : {A C : Type 0} {read : List ℕ → Result (A × List ℕ) ℕ} {text : A → List ℕ} {fits : A → Type 0} (f : A → C) (text' : C → List ℕ)
    → Reads read text fits → ((a : A) → fits a → text' (f a) ≡ text a) → Reads (made f read) text' (Image f fits)
image_reads {fits = fits} f text' r same = made_reads f text' (Image f fits) r (λ a fa. (same a fa, (a, fa, refl))) (λ c h. h)

-- ---- the first says what follows

pub picked_reads : {A C : Type 0} {first : List ℕ → Result (A × List ℕ) ℕ} {text1 : A → List ℕ} {fits1 : A → Type 0} (second : A → List ℕ → Result (C × List ℕ) ℕ)
    (text : C → List ℕ) (text2 : A → C → List ℕ) (fits2 : A → C → Type 0)
    → Reads first text1 fits1 → ((a : A) → fits1 a → Reads (second a) (text2 a) (fits2 a))
    → ((a : A) (c : C) → fits1 a → fits2 a c → text c ≡ text1 a ++ text2 a c)
    → Reads (chosen first second) text (λ c. (a : A) × fits1 a × fits2 a c)
picked_reads {A = A} {C = C} {first = first} {text1 = text1} {fits1 = fits1} second text text2 fits2 r s same = record {
  some =
      let a = r.some in
      let c = (s a.0 a.1).some in
      (c.0, (a.0, a.1, c.1));
  bytes = λ c fc. subst IsBytes (sym (same fc.0 c fc.1 fc.2)) (IsBytes-append (text1 fc.0) (text2 fc.0 c) (r.bytes fc.0 fc.1) ((s fc.0 fc.1).bytes c fc.2));
  again = λ c rest fc.
      let a = fc.0 in
      let regrouped : text c ++ rest ≡ text1 a ++ (text2 a c ++ rest) = ap (λ (x : List ℕ). x ++ rest) (same a c fc.1 fc.2) ∙ append_assoc (text1 a) (text2 a c) rest in
      let one : first (text c ++ rest) ≡ Ok (a, text2 a c ++ rest) = ap first regrouped ∙ r.again a (text2 a c ++ rest) fc.1 in
      ap (λ (q : Result (A × List ℕ) ℕ). q >>= λ a. second a.0 a.1) one ∙ (s a fc.1).again c rest fc.2;
  found = λ bytes c rest isb e.
      let p = bind_ok (first bytes) (λ a. second a.0 a.1) (c, rest) e in
      let g = r.found bytes p.0.0 p.0.1 isb p.1 in
      let isr : IsBytes p.0.1 = IsBytes-rest (text1 p.0.0) p.0.1 (subst IsBytes g.0 isb) in
      let h = (s p.0.0 g.1).found p.0.1 c rest isr p.2 in
      let whole : bytes ≡ text c ++ rest =
      g.0 ∙ ap (λ (x : List ℕ). text1 p.0.0 ++ x) h.0 ∙ sym (append_assoc (text1 p.0.0) (text2 p.0.0 c) rest) ∙ ap (λ (x : List ℕ). x ++ rest) (sym (same p.0.0 c g.1 h.1)) in
      (whole, (p.0.0, g.1, h.1));
  stops = λ bytes left isb e.
      elim (bind_err (first bytes) (λ a. second a.0 a.1) left e) [
        | inl bad ↦
            let p = r.stops bytes left isb bad in
            let c = (s p.next p.next_fits).some in
            record {
              front = p.front;
              back = p.back;
              cut = p.cut;
              left_is = p.left_is;
              next = c.0;
              next_fits = (p.next, p.next_fits, c.1);
              more = p.more ++ text2 p.next c.0;
              begins = same p.next c.0 p.next_fits c.1 ∙ ap (λ (x : List ℕ). x ++ text2 p.next c.0) p.begins ∙ append_assoc p.front p.more (text2 p.next c.0);
              bad = λ b rest tail eb x after fx ex.
                  p.bad b rest tail eb fx.0 (text2 fx.0 x ++ after) fx.1
                  (sym (append_assoc (text1 fx.0) (text2 fx.0 x) after) ∙ ap (λ (y : List ℕ). y ++ after) (sym (same fx.0 x fx.1 fx.2)) ∙ ex);
            }
        | inr ok ↦
            let g = r.found bytes ok.0.0 ok.0.1 isb ok.1 in
            let isr : IsBytes ok.0.1 = IsBytes-rest (text1 ok.0.0) ok.0.1 (subst IsBytes g.0 isb) in
            let p = (s ok.0.0 g.1).stops ok.0.1 left isr ok.2 in
            record {
              front = text1 ok.0.0 ++ p.front;
              back = p.back;
              cut = g.0 ∙ ap (λ (x : List ℕ). text1 ok.0.0 ++ x) p.cut ∙ sym (append_assoc (text1 ok.0.0) p.front p.back);
              left_is = p.left_is;
              next = p.next;
              next_fits = (ok.0.0, g.1, p.next_fits);
              more = p.more;
              begins = same ok.0.0 p.next g.1 p.next_fits ∙ ap (λ (x : List ℕ). text1 ok.0.0 ++ x) p.begins ∙ sym (append_assoc (text1 ok.0.0) p.front p.more);
              bad = λ b rest tail eb x after fx ex.
                  let regrouped : text1 fx.0 ++ (text2 fx.0 x ++ after) ≡ text1 ok.0.0 ++ (p.front ++ (b ∷ tail)) =
                  sym (append_assoc (text1 fx.0) (text2 fx.0 x) after) ∙ ap (λ (y : List ℕ). y ++ after) (sym (same fx.0 x fx.1 fx.2)) ∙ ex ∙ append_assoc (text1 ok.0.0) p.front (b ∷ tail) in
                  let one = one_reading r fx.0 ok.0.0 (text2 fx.0 x ++ after) (p.front ++ (b ∷ tail)) fx.1 g.1 regrouped in
                  let here : fits2 ok.0.0 x = subst (λ (a : A). fits2 a x) one.0 fx.2 in
                  let there : text2 ok.0.0 x ++ after ≡ p.front ++ (b ∷ tail) = ap (λ (a : A). text2 a x ++ after) (sym one.0) ∙ one.1 in
                  p.bad b rest tail eb x after here there;
            }
      ];
}

-- ---- the first byte says what follows

abbrev pub Begins : (ℕ → Bool) → Bool → List ℕ → Type 0
Begins test t [] = ⊥
Begins test t (b ∷ bs) = test b ≡ t

by_first : {A : Type 0} (test : ℕ → Bool) (first second : List ℕ → Result (A × List ℕ) ℕ) (bytes rest : List ℕ) (t : Bool) → Begins test t bytes
    → either_at test first second (bytes ++ rest) ≡ cond t (first (bytes ++ rest)) (second (bytes ++ rest))
by_first test first second [] rest t h = absurd h
by_first test first second (b ∷ bs) rest t h = rw h refl

-- the byte at the front is that of what was spelled
same_first : (test : ℕ → Bool) (t : Bool) (text after front back : List ℕ) (b : ℕ) (bs : List ℕ) (c : ℕ) (rest tail : List ℕ)
    → b ∷ bs ≡ front ++ back → back ≡ c ∷ rest → Begins test t text → text ++ after ≡ front ++ (c ∷ tail) → test b ≡ t
same_first test t [] after front back b bs c rest tail cut eb h e = absurd h
same_first test t (x ∷ xs) after [] back b bs c rest tail cut eb h e =
    let one : b ≡ c = cc in
    let two : x ≡ c = cc in
    ap test (one ∙ sym two) ∙ h
same_first test t (x ∷ xs) after (f ∷ front) back b bs c rest tail cut eb h e =
    let one : b ≡ f = cc in
    let two : x ≡ f = cc in
    ap test (one ∙ sym two) ∙ h

either_found : {A : Type 0} {first second : List ℕ → Result (A × List ℕ) ℕ} {text : A → List ℕ} {fits1 fits2 : A → Type 0}
    → Reads first text fits1 → Reads second text fits2 → (t : Bool) (bytes : List ℕ) (x : A) (rest : List ℕ) → IsBytes bytes
    → cond t (first bytes) (second bytes) ≡ Ok (x, rest) → (bytes ≡ text x ++ rest) × (fits1 x ⊎ fits2 x)
either_found r s true bytes x rest isb e = let g = r.found bytes x rest isb e in (g.0, inl g.1)
either_found r s false bytes x rest isb e = let g = s.found bytes x rest isb e in (g.0, inr g.1)

either_stops : {A : Type 0} {first second : List ℕ → Result (A × List ℕ) ℕ} {text : A → List ℕ} {fits1 fits2 : A → Type 0} (test : ℕ → Bool)
    → Reads first text fits1 → Reads second text fits2
    → ((x : A) → fits1 x → Begins test true (text x)) → ((x : A) → fits2 x → Begins test false (text x))
    → (t : Bool) (b : ℕ) (bs : List ℕ) (left : ℕ) → test b ≡ t → IsBytes (b ∷ bs)
    → cond t (first (b ∷ bs)) (second (b ∷ bs)) ≡ Err left → Stops text (λ x. fits1 x ⊎ fits2 x) (b ∷ bs) left
either_stops {text = text} test r s one two true b bs left h isb e =
    let p = r.stops (b ∷ bs) left isb e in
    record {
      front = p.front;
      back = p.back;
      cut = p.cut;
      left_is = p.left_is;
      next = p.next;
      next_fits = inl p.next_fits;
      more = p.more;
      begins = p.begins;
      bad = λ c rest tail eb x after fx ex.
          elim fx [
            | inl f ↦ p.bad c rest tail eb x after f ex
            | inr f ↦ opposite (test b) h (same_first test false (text x) after p.front p.back b bs c rest tail p.cut eb (two x f) ex)
          ];
    }
either_stops {text = text} test r s one two false b bs left h isb e =
    let p = s.stops (b ∷ bs) left isb e in
    record {
      front = p.front;
      back = p.back;
      cut = p.cut;
      left_is = p.left_is;
      next = p.next;
      next_fits = inr p.next_fits;
      more = p.more;
      begins = p.begins;
      bad = λ c rest tail eb x after fx ex.
          elim fx [
            | inl f ↦ opposite (test b) (same_first test true (text x) after p.front p.back b bs c rest tail p.cut eb (one x f) ex) h
            | inr f ↦ p.bad c rest tail eb x after f ex
          ];
    }

either_all_found : {A : Type 0} (test : ℕ → Bool) {first second : List ℕ → Result (A × List ℕ) ℕ} {text : A → List ℕ} {fits1 fits2 : A → Type 0}
    → Reads first text fits1 → Reads second text fits2 → (bytes : List ℕ) (x : A) (rest : List ℕ) → IsBytes bytes
    → either_at test first second bytes ≡ Ok (x, rest) → (bytes ≡ text x ++ rest) × (fits1 x ⊎ fits2 x)
either_all_found test r s [] x rest isb e = absurd cc
either_all_found test r s (b ∷ bs) x rest isb e = either_found r s (test b) (b ∷ bs) x rest isb e

either_all_stops : {A : Type 0} {first second : List ℕ → Result (A × List ℕ) ℕ} {text : A → List ℕ} {fits1 fits2 : A → Type 0} (test : ℕ → Bool)
    → Reads first text fits1 → Reads second text fits2
    → ((x : A) → fits1 x → Begins test true (text x)) → ((x : A) → fits2 x → Begins test false (text x))
    → (bytes : List ℕ) (left : ℕ) → IsBytes bytes → either_at test first second bytes ≡ Err left → Stops text (λ x. fits1 x ⊎ fits2 x) bytes left
either_all_stops {text = text} test r s one two [] left isb e = record {
  front = [];
  back = [];
  cut = refl;
  left_is = cc;
  next = r.some.0;
  next_fits = inl r.some.1;
  more = text r.some.0;
  begins = refl;
  bad = λ c rest tail eb x after fx ex. absurd cc;
}
either_all_stops test r s one two (b ∷ bs) left isb e = either_stops test r s one two (test b) b bs left refl isb e

pub either_reads : {A : Type 0} {first second : List ℕ → Result (A × List ℕ) ℕ} {text : A → List ℕ} {fits1 fits2 : A → Type 0} (test : ℕ → Bool)
    → Reads first text fits1 → Reads second text fits2
    → ((x : A) → fits1 x → Begins test true (text x)) → ((x : A) → fits2 x → Begins test false (text x))
    → Reads (either_at test first second) text (λ x. fits1 x ⊎ fits2 x)
either_reads {first = first} {second = second} {text = text} test r s one two = record {
  some = (r.some.0, inl r.some.1);
  bytes = λ x fx. elim fx [ inl f ↦ r.bytes x f | inr f ↦ s.bytes x f ];
  again = λ x rest fx.
      elim fx [
        | inl f ↦ by_first test first second (text x) rest true (one x f) ∙ r.again x rest f
        | inr f ↦ by_first test first second (text x) rest false (two x f) ∙ s.again x rest f
      ];
  found = either_all_found test r s;
  stops = either_all_stops test r s one two;
}
