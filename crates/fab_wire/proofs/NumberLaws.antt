-- Numbers, bytes within bounds, and counts keep to what readers keep to.
use Rattle.std.proofs.Common.{◌≡◌, ℕ, zero, suc, ◌+◌, ◌-◌, ◌*◌, ◌/◌, ◌%◌, ◌^◌, ◌<◌, ◌≤◌, Bool, true, false, cond, leb, ltb, ◌&&◌, List, [], ◌∷◌, ◌++◌, length, take, drop, replicate, Ok, Err, refl, sym, ap, subst, ◌∙◌, arith, inl, inr, ◌⊎◌}
use Rattle.std.proofs.lemmas.Bool.{cases_lt, le-ltb, ltb-true, ltb-false}
use Rattle.std.proofs.lemmas.Bool.Decides.{leb_tells}
use Rattle.std.proofs.lemmas.List.{take-append-drop, drop_at, append-nil, length-append, length-take, length-take-le, get_or-take, get_or_past, length-replicate}
use Rattle.std.proofs.lemmas.Nat.{be_bytes_2, be_bytes_4}
use Rattle.std.proofs.Math.Seq.{take-append-add}
use Rattle.byteorder.specs.Endian.{big_number}
use Rattle.byteorder.specs.Numbers.{big_from-take, big_from-lt, big_number-reads_back}
use Rattle.fab_base.specs.FieldSpelling.{two_bytes, four_bytes}
use Rattle.fab_wire.specs.Reading.{number_at, byte_at, count_at}
use Rattle.fab_wire.proofs.ReaderLaws.{IsBytes, IsBytes-nil, IsBytes-cons, IsBytes-append, Reads, Stops, ok_is}

IsBytes-take : (n : ℕ) (bytes : List ℕ) → IsBytes bytes → IsBytes (take n bytes)
IsBytes-take n bytes h i =
    elim (cases_lt i n) [
      | inl lt ↦ rw (get_or-take n bytes i 0 lt) (h i)
      | inr le ↦ rw (get_or_past (take n bytes) i 0 (omega (arith, length-take n bytes))) (omega arith)
    ]

IsBytes-zeros : (n : ℕ) → IsBytes (replicate n 0)
IsBytes-zeros zero i = omega arith
IsBytes-zeros (suc n) zero = omega arith
IsBytes-zeros (suc n) (suc i) = IsBytes-zeros n i

-- ---- numbers

record IsWide (n : ℕ) (text : ℕ → List ℕ) (limit : ℕ) : Type 0 where
  pub len : (x : ℕ) → length (text x) ≡ n
  pub bytes : (x : ℕ) → IsBytes (text x)
  pub back : (bytes : List ℕ) → n ≤ length bytes → IsBytes bytes → text (big_number n bytes) ≡ take n bytes
  pub again : (x : ℕ) (rest : List ℕ) → x < limit → big_number n (text x ++ rest) ≡ x
  pub below : (bytes : List ℕ) → IsBytes bytes → big_number n bytes < limit
  pub positive : 0 < limit

pub two_are_bytes : (x : ℕ) → IsBytes (two_bytes x)
two_are_bytes x zero = omega arith
two_are_bytes x (suc zero) = omega arith
two_are_bytes x (suc (suc i)) = omega arith

four_are_bytes : (x : ℕ) → IsBytes (four_bytes x)
four_are_bytes x zero = omega arith
four_are_bytes x (suc zero) = omega arith
four_are_bytes x (suc (suc zero)) = omega arith
four_are_bytes x (suc (suc (suc zero))) = omega arith
four_are_bytes x (suc (suc (suc (suc i)))) = omega arith

wide2 : IsWide 2 two_bytes (2 ^ 16)
wide2 = record {
  len = λ x. refl;
  bytes = two_are_bytes;
  back = λ bytes le h. be_bytes_2 (take 2 bytes) (big_number 2 bytes) (length-take-le 2 bytes le) (IsBytes-take 2 bytes h) (sym (big_from-take 0 2 2 bytes (omega arith)) ∙ omega arith);
  again = λ x rest lt. big_number-reads_back 2 x rest lt;
  below = λ bytes h. big_from-lt 0 2 bytes h;
  positive = omega arith;
}

wide4 : IsWide 4 four_bytes (2 ^ 32)
wide4 = record {
  len = λ x. refl;
  bytes = four_are_bytes;
  back = λ bytes le h. be_bytes_4 (take 4 bytes) (big_number 4 bytes) (length-take-le 4 bytes le) (IsBytes-take 4 bytes h) (sym (big_from-take 0 4 4 bytes (omega arith)) ∙ omega arith);
  again = λ x rest lt. big_number-reads_back 4 x rest lt;
  below = λ bytes h. big_from-lt 0 4 bytes h;
  positive = omega arith;
}

guard_ok : {A : Type 0} (b : Bool) (d : ℕ) (x y : A) → cond b (Err d) (Ok x) ≡ Ok y → (b ≡ false) × (x ≡ y)
guard_ok true d x y e = absurd cc
guard_ok false d x y e = (refl, cc)

guard_err : {A : Type 0} (b : Bool) (d left : ℕ) (x : A) → cond b (Err d) (Ok x) ≡ Err left → (b ≡ true) × (d ≡ left)
guard_err true d left x e = (refl, cc)
guard_err false d left x e = absurd cc

number_reads : (n : ℕ) (text : ℕ → List ℕ) (limit : ℕ) → IsWide n text limit → Reads (number_at n) text (λ x. x < limit)
number_reads n text limit wide = record {
  some = (0, wide.positive);
  bytes = λ x lt. wide.bytes x;
  again = λ x rest lt.
      let len = wide.len x in
      let long : ltb (length (text x ++ rest)) n ≡ false = le-ltb _ _ (omega (arith, length-append (text x) rest)) in
      rw (long, wide.again x rest lt, drop_at (text x) rest n len) refl;
  found = λ bytes x rest isb e.
      let g = guard_ok (ltb (length bytes) n) 0 (big_number n bytes, drop n bytes) (x, rest) e in
      let long : n ≤ length bytes = ltb-false _ _ g.0 in
      let whole : bytes ≡ text (big_number n bytes) ++ drop n bytes = sym (take-append-drop n bytes) ∙ ap (λ (t : List ℕ). t ++ drop n bytes) (sym (wide.back bytes long isb)) in
      subst (λ (p : ℕ × List ℕ). (bytes ≡ text p.0 ++ p.1) × (p.0 < limit)) g.1 (whole, wide.below bytes isb);
  stops = λ bytes left isb e.
      let g = guard_err (ltb (length bytes) n) 0 left (big_number n bytes, drop n bytes) e in
      let short : length bytes < n = ltb-true _ _ g.0 in
      let padded : List ℕ = bytes ++ replicate n 0 in
      let isp : IsBytes padded = IsBytes-append bytes (replicate n 0) isb (IsBytes-zeros n) in
      let rest = n - length bytes in
      let k : n ≡ length bytes + rest = omega arith in
      let front : take n padded ≡ bytes ++ take rest (replicate n 0) = ap (λ (m : ℕ). take m padded) k ∙ take-append-add bytes (replicate n 0) rest in
      record {
        front = bytes;
        back = [];
        cut = sym (append-nil bytes);
        left_is = g.1;
        next = big_number n padded;
        next_fits = wide.below padded isp;
        more = take rest (replicate n 0);
        begins = wide.back padded (omega (arith, length-append bytes (replicate n 0), length-replicate {A = ℕ} n 0)) isp ∙ front;
        bad = λ b others tail eb. absurd cc;
      };
}

pub two_reads : Reads (number_at 2) two_bytes (λ x. x < 2 ^ 16)
two_reads = number_reads 2 two_bytes (2 ^ 16) wide2

pub four_reads : Reads (number_at 4) four_bytes (λ x. x < 2 ^ 32)
four_reads = number_reads 4 four_bytes (2 ^ 32) wide4

-- ---- a byte within bounds

-- whether two numbers are at most two others, as it is tested
pub both_hold : (low x y high : ℕ) → ((leb low x && leb y high ≡ true) × (low ≤ x) × (y ≤ high)) ⊎ ((leb low x && leb y high ≡ false) × ((low ≤ x) → (y ≤ high) → ⊥))
both_hold low x y high =
    elim (leb_tells low x) [
      | inl l ↦ elim (leb_tells y high) [ inl h ↦ inl (rw (l.0, h.0) refl, l.1, h.1) | inr h ↦ inr (rw (l.0, h.0) refl, λ p q. omega (arith, h.1)) ]
      | inr l ↦ inr (rw l.0 refl, λ p q. omega (arith, l.1))
    ]

byte_found : (low high : ℕ) (bytes : List ℕ) (x : ℕ) (rest : List ℕ) → byte_at low high bytes ≡ Ok (x, rest) → (bytes ≡ x ∷ [] ++ rest) × ((low ≤ x) × (x ≤ high))
byte_found low high [] x rest e = absurd cc
byte_found low high (b ∷ bytes) x rest e =
    elim (both_hold low b b high) [
      | inl h ↦
          let p : (b, bytes) ≡ (x, rest) = ok_is (b, bytes) (x, rest) (sym (rw h.0 refl) ∙ e) in
          subst (λ (q : ℕ × List ℕ). (b ∷ bytes ≡ q.0 ∷ [] ++ q.1) × ((low ≤ q.0) × (q.0 ≤ high))) p (refl, (h.1, h.2))
      | inr h ↦ let f = rw h.0 at e in absurd cc
    ]

byte_stops : (low high : ℕ) → low ≤ high → (bytes : List ℕ) (left : ℕ) → byte_at low high bytes ≡ Err left → Stops (λ b. b ∷ []) (λ b. (low ≤ b) × (b ≤ high)) bytes left
byte_stops low high le [] left e = record {
  front = [];
  back = [];
  cut = refl;
  left_is = cc;
  next = low;
  next_fits = (omega arith, le);
  more = low ∷ [];
  begins = refl;
  bad = λ b rest tail eb. absurd cc;
}
byte_stops low high le (b ∷ bytes) left e =
    elim (both_hold low b b high) [
      | inl h ↦ let f = rw h.0 at e in absurd cc
      | inr h ↦
          let f = rw h.0 at e in
          record {
            front = [];
            back = b ∷ bytes;
            cut = refl;
            left_is = cc;
            next = low;
            next_fits = (omega arith, le);
            more = low ∷ [];
            begins = refl;
            bad = λ c rest tail eb x after fx ex. let same : x ≡ b = cc in h.1 (subst (λ (y : ℕ). low ≤ y) same fx.0) (subst (λ (y : ℕ). y ≤ high) same fx.1);
          }
    ]

pub byte_reads : (low high : ℕ) → low ≤ high → high < 256 → Reads (byte_at low high) (λ b. b ∷ []) (λ b. (low ≤ b) × (b ≤ high))
byte_reads low high le small = record {
  some = (low, (omega arith, le));
  bytes = λ b fb. IsBytes-cons b [] (omega (arith, fb.1)) IsBytes-nil;
  again = λ b rest fb. elim (both_hold low b b high) [ inl h ↦ rw h.0 refl | inr h ↦ absurd (h.1 fb.0 fb.1) ];
  found = λ bytes x rest isb e. byte_found low high bytes x rest e;
  stops = λ bytes left isb e. byte_stops low high le bytes left e;
}

-- ---- numbers of two bytes

pub two_bytes_again : (n : ℕ) → n < 65536 → n / 256 % 256 * 256 + n % 256 ≡ n
two_bytes_again n lt = omega arith

high_is : (high low : ℕ) → high < 256 → low < 256 → (high * 256 + low) / 256 % 256 ≡ high
high_is high low h l = omega arith

low_is : (high low : ℕ) → high < 256 → low < 256 → (high * 256 + low) % 256 ≡ low
low_is high low h l = omega arith

pub two_bytes_of : (high low : ℕ) → high < 256 → low < 256 → two_bytes (high * 256 + low) ≡ high ∷ low ∷ []
two_bytes_of high low h l = rw (high_is high low h l, low_is high low h l) refl

-- a number of two bytes whose first byte is given is that byte and the second
pub first_is : (x high : ℕ) (rest after : List ℕ) → x < 65536 → two_bytes x ++ after ≡ high ∷ rest → x / 256 ≡ high
first_is x high rest after lt e =
    let h : x / 256 % 256 ≡ high = cc in
    omega (arith, h)

pub both_are : (x high low : ℕ) (rest after : List ℕ) → x < 65536 → two_bytes x ++ after ≡ high ∷ low ∷ rest → x ≡ high * 256 + low
both_are x high low rest after lt e =
    let h : x / 256 % 256 ≡ high = cc in
    let l : x % 256 ≡ low = cc in
    omega (arith, h, l)

-- ---- counts

count_found : (most : ℕ) → most < 256 → (bytes : List ℕ) (x : ℕ) (rest : List ℕ) → IsBytes bytes → count_at most bytes ≡ Ok (x, rest) → (bytes ≡ two_bytes x ++ rest) × (x ≤ most * 256)
count_found most m [] x rest isb e = absurd cc
count_found most m (high ∷ []) x rest isb e = elim (leb_tells high most) [ inl h ↦ let f = rw h.0 at e in absurd cc | inr h ↦ let f = rw h.0 at e in absurd cc ]
count_found most m (high ∷ low ∷ bytes) x rest isb e =
    elim (leb_tells high most) [
      | inl h ↦
          elim (leb_tells (high * 256 + low) (most * 256)) [
            | inl k ↦
                let p : (high * 256 + low, bytes) ≡ (x, rest) = ok_is (high * 256 + low, bytes) (x, rest) (sym (rw (h.0, k.0) refl) ∙ e) in
                let text : high ∷ low ∷ bytes ≡ two_bytes (high * 256 + low) ++ bytes = ap (λ (t : List ℕ). t ++ bytes) (sym (two_bytes_of high low (isb 0) (isb 1))) in
                subst (λ (q : ℕ × List ℕ). (high ∷ low ∷ bytes ≡ two_bytes q.0 ++ q.1) × (q.0 ≤ most * 256)) p (text, k.1)
            | inr k ↦ let f = rw (h.0, k.0) at e in absurd cc
          ]
      | inr h ↦ let f = rw h.0 at e in absurd cc
    ]

count_again : (most : ℕ) → most < 256 → (x : ℕ) (rest : List ℕ) → x ≤ most * 256 → count_at most (two_bytes x ++ rest) ≡ Ok (x, rest)
count_again most m x rest le =
    let is : x / 256 % 256 * 256 + x % 256 ≡ x = two_bytes_again x (omega arith) in
    elim (leb_tells (x / 256 % 256) most) [
      | inl h ↦
          elim (leb_tells (x / 256 % 256 * 256 + x % 256) (most * 256)) [
            | inl k ↦ rw (h.0, k.0) (ap (λ (n : ℕ). Ok (n, rest)) is)
            | inr k ↦ absurd (omega (arith, is, k.1))
          ]
      | inr h ↦ absurd (omega (arith, h.1))
    ]

count_stops : (most : ℕ) → most < 256 → (bytes : List ℕ) (left : ℕ) → IsBytes bytes → count_at most bytes ≡ Err left → Stops two_bytes (λ n. n ≤ most * 256) bytes left
count_stops most m [] left isb e = record {
  front = [];
  back = [];
  cut = refl;
  left_is = cc;
  next = 0;
  next_fits = omega arith;
  more = 0 ∷ 0 ∷ [];
  begins = refl;
  bad = λ b rest tail eb. absurd cc;
}
count_stops most m (high ∷ []) left isb e =
    elim (leb_tells high most) [
      | inl h ↦
          let f = rw h.0 at e in
          record {
            front = high ∷ [];
            back = [];
            cut = refl;
            left_is = cc;
            next = high * 256 + 0;
            next_fits = omega (arith, h.1);
            more = 0 ∷ [];
            begins = two_bytes_of high 0 (isb 0) (omega arith);
            bad = λ b rest tail eb. absurd cc;
          }
      | inr h ↦
          let f = rw h.0 at e in
          record {
            front = [];
            back = high ∷ [];
            cut = refl;
            left_is = cc;
            next = 0;
            next_fits = omega arith;
            more = 0 ∷ 0 ∷ [];
            begins = refl;
            bad = λ b rest tail eb x after fx ex.
                let same : high ≡ b = cc in
                let first = first_is x b tail after (omega (arith, fx)) ex in
                omega (arith, h.1, same, first, fx);
          }
    ]
count_stops most m (high ∷ low ∷ bytes) left isb e =
    elim (leb_tells high most) [
      | inl h ↦
          elim (leb_tells (high * 256 + low) (most * 256)) [
            | inl k ↦ let f = rw (h.0, k.0) at e in absurd cc
            | inr k ↦
                let f = rw (h.0, k.0) at e in
                record {
                  front = high ∷ [];
                  back = low ∷ bytes;
                  cut = refl;
                  left_is = cc;
                  next = high * 256 + 0;
                  next_fits = omega (arith, h.1);
                  more = 0 ∷ [];
                  begins = two_bytes_of high 0 (isb 0) (omega arith);
                  bad = λ b rest tail eb x after fx ex.
                      let same : low ≡ b = cc in
                      let both = both_are x high b tail after (omega (arith, fx)) ex in
                      omega (arith, k.1, same, both, fx);
                }
          ]
      | inr h ↦
          let f = rw h.0 at e in
          record {
            front = [];
            back = high ∷ low ∷ bytes;
            cut = refl;
            left_is = cc;
            next = 0;
            next_fits = omega arith;
            more = 0 ∷ 0 ∷ [];
            begins = refl;
            bad = λ b rest tail eb x after fx ex.
                let same : high ≡ b = cc in
                let first = first_is x b tail after (omega (arith, fx)) ex in
                omega (arith, h.1, same, first, fx);
          }
    ]

pub count_reads : (most : ℕ) → most < 256 → Reads (count_at most) two_bytes (λ n. n ≤ most * 256)
count_reads most m = record {
  some = (0, omega arith);
  bytes = λ x le. two_are_bytes x;
  again = λ x rest le. count_again most m x rest le;
  found = λ bytes x rest isb e. count_found most m bytes x rest isb e;
  stops = λ bytes left isb e. count_stops most m bytes left isb e;
}
