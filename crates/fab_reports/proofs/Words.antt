-- Numbers, words and bytes in digits keep to what readers keep to.
use Rattle.std.proofs.Common.{◌≡◌, ℕ, suc, ◌+◌, ◌-◌, ◌*◌, ◌/◌, ◌%◌, ◌^◌, ◌<◌, ◌≤◌, Bool, true, false, cond, not, eqb, leb, ltb, ◌&&◌, Option, Some, None, List, [], ◌∷◌, ◌++◌, length, Ok, refl, sym, ap, subst, ◌∙◌, append_assoc, length-append, codes, arith, inl, inr, ◌⊎◌}
use Rattle.std.proofs.lemmas.Bool.Decides.{nat_tests}
use Rattle.std.proofs.lemmas.List.{append-nil}
use Rattle.std.proofs.lemmas.Fmt.{decimal_digit, decimal_step, decimal_by_steps}
use Rattle.std.specs.List.{list_all}
use Rattle.std.specs.Char.{is_ascii_digit}
use Rattle.std.specs.Fmt.{decimal, digit_glyph}
use Rattle.std.specs.Prelude.{option_map}
use Rattle.std.proofs.lemmas.Bool.{and_from, and_parts}
use Rattle.fab_base.specs.Tokens.{is_word_byte, is_name_text, is_hex_digit, hex_value}
use Rattle.fab_language.specs.Words.{hex}
use Rattle.fab_wire.proofs.ReaderLaws.{IsBytes, IsBytes-nil, IsBytes-cons, IsBytes-append, Reads}
use Rattle.fab_reports.specs.Lines.{IsWord, AreBytes}
use Rattle.fab_reports.specs.Reading.{is_end, next_number, number_step, number_at, may_go_on, word_step, word_done, word_at, hex_step, hex_done, bytes_at}
use Rattle.fab_reports.proofs.Scans.{Reaches, Inside, Scans, reaches_more, scan_found, scan_reads}

-- ---- what a test lets through

pub some_if : {A : Type 0} (c : Bool) (v m : A) → cond c (Some v) None ≡ Some m → (c ≡ true) × (v ≡ m)
some_if true v m h = (refl, cc)
some_if false v m h = absurd cc

mapped : {A : Type 0} (o : Option A) (s : Option A) → option_map (λ n. Some n) o ≡ Some s → (m : A) × (o ≡ Some m) × (s ≡ Some m)
mapped None s h = absurd cc
mapped (Some m) s h = (m, refl, cc)

inside_append : (ends a b : List ℕ) → Inside ends a → Inside ends b → Inside ends (a ++ b)
inside_append ends [] b ha hb = hb
inside_append ends (x ∷ a) b ha hb = (ha.0, inside_append ends a b ha.1 hb)

-- ---- numbers

first_next : (least most b m : ℕ) → next_number least most None b ≡ Some m → (48 ≤ b) × (b < 58) × (m ≡ b - 48) × (least ≤ m) × (m ≤ most)
first_next least most b m h =
    let g = some_if (is_ascii_digit b && (leb least (b - 48) && leb (b - 48) most)) (b - 48) m h in
    let p = and_parts (is_ascii_digit b) (leb least (b - 48) && leb (b - 48) most) g.0 in
    let q = and_parts (leb least (b - 48)) (leb (b - 48) most) p.1 in
    let low : 48 ≤ b = grind (arith, nat_tests) in
    let high : b < 58 = grind (arith, nat_tests) in
    let l : least ≤ b - 48 = grind (arith, nat_tests) in
    let m' : b - 48 ≤ most = grind (arith, nat_tests) in
    (low, high, sym g.1, omega (arith, g.1), omega (arith, g.1))

later_next : (least most n b m : ℕ) → next_number least most (Some n) b ≡ Some m → (48 ≤ b) × (b < 58) × (m ≡ 10 * n + (b - 48)) × (0 < n) × (m ≤ most)
later_next least most n b m h =
    let g = some_if (is_ascii_digit b && (not (eqb n 0) && leb (10 * n + (b - 48)) most)) (10 * n + (b - 48)) m h in
    let p = and_parts (is_ascii_digit b) (not (eqb n 0) && leb (10 * n + (b - 48)) most) g.0 in
    let q = and_parts (not (eqb n 0)) (leb (10 * n + (b - 48)) most) p.1 in
    let low : 48 ≤ b = grind (arith, nat_tests) in
    let high : b < 58 = grind (arith, nat_tests) in
    let l : 0 < n = grind (arith, nat_tests) in
    let m' : 10 * n + (b - 48) ≤ most = grind (arith, nat_tests) in
    (low, high, sym g.1, l, omega (arith, g.1))

to_first : (least most d : ℕ) → d < 10 → least ≤ d → d ≤ most → next_number least most None (48 + d) ≡ Some d
to_first least most d h l m =
    let a : is_ascii_digit (48 + d) ≡ true = grind (arith, nat_tests) in
    let e : 48 + d - 48 ≡ d = omega arith in
    let b : leb least (48 + d - 48) ≡ true = grind (arith, nat_tests) in
    let c : leb (48 + d - 48) most ≡ true = grind (arith, nat_tests) in
    ap (λ (t : Bool). cond t (Some (48 + d - 48)) None) (and_from _ _ a (and_from _ _ b c)) ∙ ap (λ (n : ℕ). Some n) e

to_later : (least most n d : ℕ) → d < 10 → 0 < n → 10 * n + d ≤ most → next_number least most (Some n) (48 + d) ≡ Some (10 * n + d)
to_later least most n d h l m =
    let a : is_ascii_digit (48 + d) ≡ true = grind (arith, nat_tests) in
    let e : 10 * n + (48 + d - 48) ≡ 10 * n + d = omega arith in
    let b : not (eqb n 0) ≡ true = grind (arith, nat_tests) in
    let c : leb (10 * n + (48 + d - 48)) most ≡ true = grind (arith, nat_tests) in
    ap (λ (t : Bool). cond t (Some (10 * n + (48 + d - 48))) None) (and_from _ _ a (and_from _ _ b c)) ∙ ap (λ (n : ℕ). Some n) e

abbrev pub IsWithin : ℕ → ℕ → ℕ → Type 0
IsWithin least most n = (least ≤ n) × (n ≤ most)

-- the digits of a number lead to it
to_number : (least most : ℕ) → least ≤ 1 → (n : ℕ) → n < 2 ^ 64 → IsWithin least most n → Reaches (number_step least most) None (decimal n) (Some n)
to_number least most low = decimal_by_steps (λ n ds. IsWithin least most n → Reaches (number_step least most) None ds (Some n)) one more where
  one : (n : ℕ) → n < 10 → IsWithin least most n → Reaches (number_step least most) None ((48 + n) ∷ []) (Some n)
  one n h w = (Some n, ap (option_map (λ n. Some n)) (to_first least most n h w.0 w.1), refl)

  more : (n : ℕ) (ds : List ℕ) → 10 ≤ n → (IsWithin least most (n / 10) → Reaches (number_step least most) None ds (Some (n / 10)))
      → IsWithin least most n → Reaches (number_step least most) None (ds ++ ((48 + n % 10) ∷ [])) (Some n)
  more n ds h f w =
      let e : 10 * (n / 10) + n % 10 ≡ n = omega arith in
      let last : next_number least most (Some (n / 10)) (48 + n % 10) ≡ Some n = to_later least most (n / 10) (n % 10) (omega arith) (omega arith) (omega (arith, w.1)) ∙ ap (λ (k : ℕ). Some k) e in
      reaches_more (number_step least most) None ds ((48 + n % 10) ∷ []) (Some (n / 10)) (Some n) (f (omega (arith, w.1), omega (arith, w.1)))
      (Some n, ap (option_map (λ n. Some n)) last, refl)

-- one digit more is the number with it
digit_more : (n b m : ℕ) → 48 ≤ b → b < 58 → m ≡ 10 * n + (b - 48) → 0 < n → m < 2 ^ 64 → decimal m ≡ decimal n ++ b ∷ []
digit_more n b m low high is pos small =
    let d : m / 10 ≡ n = omega arith in
    let r : 48 + m % 10 ≡ b = omega arith in
    decimal_step m (omega arith) small ∙ ap (λ (k : ℕ). decimal k ++ ((48 + m % 10) ∷ [])) d ∙ ap (λ (k : ℕ). decimal n ++ (k ∷ [])) r

number_run : (least most : ℕ) → most < 2 ^ 64 → (w : List ℕ) (u : List ℕ) (n : ℕ) (t : Option ℕ) → u ≡ decimal n → IsWithin least most n → Reaches (number_step least most) (Some n) w t
    → (m : ℕ) × (t ≡ Some m) × (u ++ w ≡ decimal m) × IsWithin least most m
number_run least most small [] u n t e within h = (n, sym h, append-nil u ∙ e, within)
number_run least most small (b ∷ w) u n t e within h =
    let o = mapped (next_number least most (Some n) b) h.0 h.1 in
    let g = later_next least most n b o.0 o.1 in
    let text : u ++ b ∷ [] ≡ decimal o.0 = ap (λ (x : List ℕ). x ++ b ∷ []) e ∙ sym (digit_more n b o.0 g.0 g.1 g.2 g.3 (omega (arith, g.4))) in
    let r = number_run least most small w (u ++ b ∷ []) o.0 t text (omega (arith, g.2, g.3, within.0), g.4) (subst (λ (s : Option ℕ). Reaches (number_step least most) s w t) o.2 h.2) in
    (r.0, r.1, sym (append_assoc u (b ∷ []) w) ∙ r.2, r.3)

number_reached : (least most : ℕ) → most < 2 ^ 64 → (b : ℕ) (w : List ℕ) (t : Option ℕ) → Reaches (number_step least most) None (b ∷ w) t
    → (m : ℕ) × (t ≡ Some m) × (b ∷ w ≡ decimal m) × IsWithin least most m
number_reached least most small b w t h =
    let o = mapped (next_number least most None b) h.0 h.1 in
    let g = first_next least most b o.0 o.1 in
    let text : b ∷ [] ≡ decimal o.0 = ap (λ (n : ℕ). n ∷ []) (omega (arith, g.0, g.2)) ∙ sym (decimal_digit o.0 (omega (arith, g.1, g.2))) in
    number_run least most small w (b ∷ []) o.0 t text (g.3, g.4) (subst (λ (s : Option ℕ). Reaches (number_step least most) s w t) o.2 h.2)

-- a number that was read is within its bounds
pub number_within : (least most : ℕ) → most < 2 ^ 64 → (ends bytes : List ℕ) (n e : ℕ) (rest : List ℕ) → number_at least most ends bytes ≡ Ok ((n, e), rest) → IsWithin least most n
unfolding number_at
number_within least most small ends bytes n e rest h =
    let f = scan_found (number_step least most) (λ s. s) ends bytes None n e rest h in
    of_word f.word f.last f.run f.is_done
  where
    of_word : (w : List ℕ) (t : Option ℕ) → Reaches (number_step least most) None w t → t ≡ Some n → IsWithin least most n
    of_word [] t r d = absurd cc
    of_word (b ∷ w) t r d =
        let m = number_reached least most small b w t r in
        let same : m.0 ≡ n = cc in
        subst (IsWithin least most) same m.3

digits_inside : (ends : List ℕ) → ((b : ℕ) → is_ascii_digit b ≡ true → is_end ends b ≡ false) → (n : ℕ) → n < 2 ^ 64 → Inside ends (decimal n)
digits_inside ends never = decimal_by_steps (λ n ds. Inside ends ds)
    (λ n h. (never (48 + n) (grind (arith, nat_tests)), tt))
    (λ n ds h i. inside_append ends ds ((48 + n % 10) ∷ []) i (never (48 + n % 10) (grind (arith, nat_tests)), tt))

digits_bytes : (n : ℕ) → n < 2 ^ 64 → IsBytes (decimal n)
digits_bytes = decimal_by_steps (λ n ds. IsBytes ds)
    (λ n h. IsBytes-cons (48 + n) [] (omega arith) IsBytes-nil)
    (λ n ds h i. IsBytes-append ds ((48 + n % 10) ∷ []) i (IsBytes-cons (48 + n % 10) [] (omega arith) IsBytes-nil))

number_scans : (least most : ℕ) (ends : List ℕ) → least ≤ 1 → 1 ≤ most → most < 2 ^ 64 → ((b : ℕ) → is_ascii_digit b ≡ true → is_end ends b ≡ false)
    → Scans (number_step least most) (λ s. s) ends None decimal (IsWithin least most)
number_scans least most ends low high small never = record {
  again = λ n within. (Some n, to_number least most low n (omega (arith, within.1)) within, refl);
  found = found;
  on = on;
  inside = λ n within. digits_inside ends never n (omega (arith, within.1));
  bytes = λ n within. digits_bytes n (omega (arith, within.1));
} where
  found : (w : List ℕ) (t : Option ℕ) (x : ℕ) → IsBytes w → Reaches (number_step least most) None w t → t ≡ Some x → (w ≡ decimal x) × IsWithin least most x
  found [] t x isb h d = absurd cc
  found (b ∷ w) t x isb h d =
      let r = number_reached least most small b w t h in
      let same : r.0 ≡ x = cc in
      subst (λ (k : ℕ). (b ∷ w ≡ decimal k) × IsWithin least most k) same (r.2, r.3)

  on : (w : List ℕ) (t : Option ℕ) → IsBytes w → Reaches (number_step least most) None w t → (x : ℕ) × IsWithin least most x × (more : List ℕ) × (decimal x ≡ w ++ more)
  on [] t isb h = (1, (low, high), decimal 1, refl)
  on (b ∷ w) t isb h =
      let r = number_reached least most small b w t h in
      (r.0, r.3, [], sym r.2 ∙ sym (append-nil (b ∷ w)))

-- what ends a word is never part of one
pub record AreEnds (ends : List ℕ) : Type 0 where
  pub words : (b : ℕ) → is_word_byte b ≡ true → is_end ends b ≡ false
  pub some : (b : ℕ) × (is_end ends b ≡ true)
  pub bytes : (b : ℕ) → is_end ends b ≡ true → b < 256

pub digit_word : (b : ℕ) → is_ascii_digit b ≡ true → is_word_byte b ≡ true
digit_word b h = grind (arith, nat_tests)

pub number_reads : (least most : ℕ) (ends : List ℕ) → AreEnds ends → least ≤ 1 → 1 ≤ most → most < 2 ^ 64
    → Reads (number_at least most ends) (λ p. decimal p.0 ++ p.1 ∷ []) (λ p. IsWithin least most p.0 × (is_end ends p.1 ≡ true))
unfolding number_at
number_reads least most ends are low high small =
    scan_reads (number_scans least most ends low high small (λ b h. are.words b (digit_word b h))) are.some.0 are.some.1 are.bytes

-- ---- names and keywords

pub all_append : (test : ℕ → Bool) (a b : List ℕ) → list_all test a ≡ true → list_all test b ≡ true → list_all test (a ++ b) ≡ true
all_append test [] b h k = k
all_append test (x ∷ a) b h k = let g = and_parts (test x) (list_all test a) h in and_from (test x) (list_all test (a ++ b)) g.0 (all_append test a b g.1 k)

all_first : (test : ℕ → Bool) (a : List ℕ) (b : ℕ) (bs : List ℕ) → list_all test (a ++ (b ∷ bs)) ≡ true → test b ≡ true
all_first test [] b bs h = (and_parts (test b) (list_all test bs) h).0
all_first test (x ∷ a) b bs h = all_first test a b bs (and_parts (test x) (list_all test (a ++ (b ∷ bs))) h).1

goes_first : (b : ℕ) → may_go_on 0 b ≡ true → (is_word_byte b ≡ true) × (is_ascii_digit b ≡ false)
goes_first b h =
    let g = and_parts (is_word_byte b) (not (is_ascii_digit b)) h in
    (g.0, grind (arith, nat_tests))

goes_later : (n b : ℕ) → may_go_on (suc n) b ≡ true → (is_word_byte b ≡ true) × (n < 63)
goes_later n b h =
    let g = and_parts (is_word_byte b) (cond (eqb (suc n) 0) (not (is_ascii_digit b)) (ltb (suc n) 64)) h in
    let never : eqb (suc n) 0 ≡ false = grind (arith, nat_tests) in
    let k : ltb (suc n) 64 ≡ true = ap (λ (t : Bool). cond t (not (is_ascii_digit b)) (ltb (suc n) 64)) (sym never) ∙ g.1 in
    (g.0, grind (arith, nat_tests))

word_more : (s : List ℕ) (b : ℕ) → (s ≡ []) ⊎ IsWord s → may_go_on (length s) b ≡ true → IsWord (s ++ b ∷ [])
word_more [] b i h =
    let g = goes_first b h in
    let never : not (is_ascii_digit b) ≡ true = ap not g.1 in
    and_from (is_word_byte b && true) (not (is_ascii_digit b) && leb 0 63) (and_from (is_word_byte b) true g.0 refl) (and_from (not (is_ascii_digit b)) (leb 0 63) never refl)
word_more (c ∷ s) b (inl e) h = absurd cc
word_more (c ∷ s) b (inr w) h =
    let g = goes_later (length s) b h in
    let p = and_parts (list_all is_word_byte (c ∷ s)) (is_name_text (c ∷ s)) w in
    let q = and_parts (not (is_ascii_digit c)) (leb (length s) 63) p.1 in
    let len : length (s ++ b ∷ []) ≡ length s + 1 = length-append s (b ∷ []) in
    let short : leb (length (s ++ b ∷ [])) 63 ≡ true = grind (arith, nat_tests) in
    and_from (list_all is_word_byte ((c ∷ s) ++ b ∷ [])) (is_name_text ((c ∷ s) ++ b ∷ []))
    (all_append is_word_byte (c ∷ s) (b ∷ []) p.0 (and_from (is_word_byte b) true g.0 refl)) (and_from (not (is_ascii_digit c)) (leb (length (s ++ b ∷ [])) 63) q.0 short)

word_run : (w s t : List ℕ) → (s ≡ []) ⊎ IsWord s → Reaches word_step s w t → (t ≡ s ++ w) × ((t ≡ []) ⊎ IsWord t)
word_run [] s t i h = (sym h ∙ sym (append-nil s), subst (λ (x : List ℕ). (x ≡ []) ⊎ IsWord x) h i)
word_run (b ∷ w) s t i h =
    let g = some_if (may_go_on (length s) b) (s ++ b ∷ []) h.0 h.1 in
    let word : IsWord h.0 = subst IsWord g.1 (word_more s b i g.0) in
    let r = word_run w h.0 t (inr word) h.2 in
    (r.0 ∙ ap (λ (x : List ℕ). x ++ w) (sym g.1) ∙ append_assoc s (b ∷ []) w, r.1)

may_go : (s : List ℕ) (b : ℕ) (w : List ℕ) → IsWord (s ++ (b ∷ w)) → may_go_on (length s) b ≡ true
may_go [] b w i =
    let p = and_parts (list_all is_word_byte (b ∷ w)) (is_name_text (b ∷ w)) i in
    let q = and_parts (is_word_byte b) (list_all is_word_byte w) p.0 in
    let r = and_parts (not (is_ascii_digit b)) (leb (length w) 63) p.1 in
    and_from (is_word_byte b) (not (is_ascii_digit b)) q.0 r.0
may_go (c ∷ s) b w i =
    let p = and_parts (list_all is_word_byte (c ∷ (s ++ (b ∷ w)))) (is_name_text (c ∷ (s ++ (b ∷ w)))) i in
    let each : is_word_byte b ≡ true = all_first is_word_byte (c ∷ s) b w p.0 in
    let r = and_parts (not (is_ascii_digit c)) (leb (length (s ++ (b ∷ w))) 63) p.1 in
    let len : length (s ++ (b ∷ w)) ≡ length s + suc (length w) = length-append s (b ∷ w) in
    let short : ltb (suc (length s)) 64 ≡ true = grind (arith, nat_tests) in
    let never : eqb (suc (length s)) 0 ≡ false = grind (arith, nat_tests) in
    and_from (is_word_byte b) (cond (eqb (suc (length s)) 0) (not (is_ascii_digit b)) (ltb (suc (length s)) 64)) each
    (ap (λ (t : Bool). cond t (not (is_ascii_digit b)) (ltb (suc (length s)) 64)) never ∙ short)

to_word : (w s : List ℕ) → IsWord (s ++ w) → Reaches word_step s w (s ++ w)
to_word [] s i = sym (append-nil s)
to_word (b ∷ w) s i =
    let regrouped : (s ++ b ∷ []) ++ w ≡ s ++ (b ∷ w) = append_assoc s (b ∷ []) w in (
      s ++ b ∷ [],
      ap (λ (t : Bool). cond t (Some (s ++ b ∷ [])) None) (may_go s b w i),
      subst (λ (x : List ℕ). Reaches word_step (s ++ b ∷ []) w x) regrouped (to_word w (s ++ b ∷ []) (subst IsWord (sym regrouped) i)),
    )

words_inside : (ends : List ℕ) → ((b : ℕ) → is_word_byte b ≡ true → is_end ends b ≡ false) → (w : List ℕ) → list_all is_word_byte w ≡ true → Inside ends w
words_inside ends never [] h = tt
words_inside ends never (b ∷ w) h = let g = and_parts (is_word_byte b) (list_all is_word_byte w) h in (never b g.0, words_inside ends never w g.1)

word_small : (b : ℕ) → is_word_byte b ≡ true → b < 256
word_small b h = grind (arith, nat_tests)

words_bytes : (w : List ℕ) → list_all is_word_byte w ≡ true → IsBytes w
words_bytes [] h = IsBytes-nil
words_bytes (b ∷ w) h = let g = and_parts (is_word_byte b) (list_all is_word_byte w) h in IsBytes-cons b w (word_small b g.0) (words_bytes w g.1)

done_word : (w : List ℕ) → IsWord w → word_done w ≡ Some w
done_word [] h = absurd cc
done_word (b ∷ w) h = refl

done_is : (t x : List ℕ) → word_done t ≡ Some x → (t ≡ x) × (t ≡ [] → ⊥)
done_is [] x h = absurd cc
done_is (b ∷ t) x h = (cc, λ e. absurd cc)

word_scans : (ends : List ℕ) → AreEnds ends → Scans word_step word_done ends [] (λ w. w) IsWord
word_scans ends are = record {
  again = λ w i. (w, to_word w [] i, done_word w i);
  found = λ w t x isb h d.
      let r = word_run w [] t (inl refl) h in
      let g = done_is t x d in
      (sym r.0 ∙ g.0, elim r.1 [ inl none ↦ absurd (g.1 none) | inr word ↦ subst IsWord g.0 word ]);
  on = λ w t isb h.
      let r = word_run w [] t (inl refl) h in
      elim r.1 [
        | inl none ↦ (codes "a", refl, codes "a", ap (λ (x : List ℕ). x ++ codes "a") (sym none ∙ r.0))
        | inr word ↦ (w, subst IsWord r.0 word, [], sym (append-nil w))
      ];
  inside = λ w i. words_inside ends are.words w (and_parts (list_all is_word_byte w) (is_name_text w) i).0;
  bytes = λ w i. words_bytes w (and_parts (list_all is_word_byte w) (is_name_text w) i).0;
}

pub word_reads : (ends : List ℕ) → AreEnds ends → Reads (word_at ends) (λ p. p.0 ++ p.1 ∷ []) (λ p. IsWord p.0 × (is_end ends p.1 ≡ true))
unfolding word_at
word_reads ends are = scan_reads (word_scans ends are) are.some.0 are.some.1 are.bytes

-- ---- bytes in digits

pub glyph_of : (b : ℕ) → is_hex_digit b ≡ true → (digit_glyph false (hex_value b) ≡ b) × (hex_value b < 16)
glyph_of b h = (grind (arith, nat_tests), grind (arith, nat_tests))

pub glyph_is : (d : ℕ) → d < 16 → (is_hex_digit (digit_glyph false d) ≡ true) × (hex_value (digit_glyph false d) ≡ d)
glyph_is d h = (grind (arith, nat_tests), grind (arith, nat_tests))

pub glyph_small : (d : ℕ) → d < 16 → digit_glyph false d < 256
glyph_small d h = grind (arith, nat_tests)

abbrev hex_text : List ℕ × Option ℕ → List ℕ
hex_text (bs, None) = hex bs
hex_text (bs, Some h) = hex bs ++ digit_glyph false h ∷ []

abbrev IsHexState : List ℕ × Option ℕ → Type 0
IsHexState (bs, None) = AreBytes bs
IsHexState (bs, Some h) = AreBytes bs × (h < 16)

pub hex_append : (a b : List ℕ) → hex (a ++ b) ≡ hex a ++ hex b
hex_append [] b = refl
hex_append (x ∷ a) b = ap (λ (y : List ℕ). digit_glyph false (x / 16) ∷ digit_glyph false (x % 16) ∷ y) (hex_append a b)

bytes_append : (a b : List ℕ) → AreBytes a → AreBytes b → AreBytes (a ++ b)
bytes_append [] b h k = k
bytes_append (x ∷ a) b h k = (h.0, bytes_append a b h.1 k)

pub one_byte : (h d : ℕ) → h < 16 → d < 16 → hex ((16 * h + d) ∷ []) ≡ digit_glyph false h ∷ digit_glyph false d ∷ []
one_byte h d sh sd =
    let a : (16 * h + d) / 16 ≡ h = omega arith in
    let b : (16 * h + d) % 16 ≡ d = omega arith in
    ap (λ (n : ℕ). digit_glyph false n ∷ digit_glyph false ((16 * h + d) % 16) ∷ []) a ∙ ap (λ (n : ℕ). digit_glyph false h ∷ digit_glyph false n ∷ []) b

hex_next : (s : List ℕ × Option ℕ) (b : ℕ) (u : List ℕ × Option ℕ) → IsHexState s → hex_step s b ≡ Some u → (hex_text s ++ b ∷ [] ≡ hex_text u) × IsHexState u
hex_next (bs, None) b u i h =
    let g = some_if (is_hex_digit b) (bs, Some (hex_value b)) u h in
    let v = glyph_of b g.0 in
    subst (λ (x : List ℕ × Option ℕ). (hex bs ++ b ∷ [] ≡ hex_text x) × IsHexState x) g.1 (ap (λ (n : ℕ). hex bs ++ n ∷ []) (sym v.0), (i, v.1))
hex_next (bs, Some d) b u i h =
    let g = some_if (is_hex_digit b) (bs ++ (16 * d + hex_value b) ∷ [], None) u h in
    let v = glyph_of b g.0 in
    let text : (hex bs ++ digit_glyph false d ∷ []) ++ b ∷ [] ≡ hex (bs ++ (16 * d + hex_value b) ∷ []) =
    append_assoc (hex bs) (digit_glyph false d ∷ []) (b ∷ []) ∙ ap (λ (n : ℕ). hex bs ++ (digit_glyph false d ∷ n ∷ [])) (sym v.0)
    ∙ ap (λ (y : List ℕ). hex bs ++ y) (sym (one_byte d (hex_value b) i.1 v.1)) ∙ sym (hex_append bs ((16 * d + hex_value b) ∷ [])) in
    subst (λ (x : List ℕ × Option ℕ). ((hex bs ++ digit_glyph false d ∷ []) ++ b ∷ [] ≡ hex_text x) × IsHexState x) g.1
    (text, bytes_append bs ((16 * d + hex_value b) ∷ []) i.0 (omega (arith, v.1, i.1), tt))

hex_run : (w : List ℕ) (s t : List ℕ × Option ℕ) → IsHexState s → Reaches hex_step s w t → (hex_text s ++ w ≡ hex_text t) × IsHexState t
hex_run [] s t i h = (append-nil (hex_text s) ∙ ap hex_text h, subst IsHexState h i)
hex_run (b ∷ w) s t i h =
    let g = hex_next s b h.0 i h.1 in
    let r = hex_run w h.0 t g.1 h.2 in
    (sym (append_assoc (hex_text s) (b ∷ []) w) ∙ ap (λ (x : List ℕ). x ++ w) g.0 ∙ r.0, r.1)

to_bytes : (bs s : List ℕ) → AreBytes bs → Reaches hex_step (s, None) (hex bs) (s ++ bs, None)
to_bytes [] s i = ap (λ (x : List ℕ). (x, None)) (sym (append-nil s))
to_bytes (b ∷ bs) s i =
    let small : b < 256 = i.0 in
    let high = glyph_is (b / 16) (omega arith) in
    let low = glyph_is (b % 16) (omega arith) in
    let byte : 16 * hex_value (digit_glyph false (b / 16)) + hex_value (digit_glyph false (b % 16)) ≡ b = omega (arith, high.1, low.1) in
    let first : hex_step (s, None) (digit_glyph false (b / 16)) ≡ Some (s, Some (hex_value (digit_glyph false (b / 16)))) =
    ap (λ (t : Bool). cond t (Some (s, Some (hex_value (digit_glyph false (b / 16))))) None) high.0 in
    let second : hex_step (s, Some (hex_value (digit_glyph false (b / 16)))) (digit_glyph false (b % 16)) ≡ Some (s ++ b ∷ [], None) =
    ap (λ (t : Bool). cond t (Some (s ++ (16 * hex_value (digit_glyph false (b / 16)) + hex_value (digit_glyph false (b % 16))) ∷ [], None)) None) low.0
    ∙ ap (λ (n : ℕ). Some (s ++ n ∷ [], None)) byte in (
      (s, Some (hex_value (digit_glyph false (b / 16)))),
      first,
      (
        (s ++ b ∷ [], None),
        second,
        subst (λ (x : List ℕ). Reaches hex_step (s ++ b ∷ [], None) (hex bs) (x, None)) (append_assoc s (b ∷ []) bs) (to_bytes bs (s ++ b ∷ []) i.1),
      ),
    )

pub hex_digit_word : (b : ℕ) → is_hex_digit b ≡ true → is_word_byte b ≡ true
hex_digit_word b h = grind (arith, nat_tests)

hex_inside : (ends : List ℕ) → ((b : ℕ) → is_word_byte b ≡ true → is_end ends b ≡ false) → (bs : List ℕ) → AreBytes bs → Inside ends (hex bs)
hex_inside ends never [] i = tt
hex_inside ends never (b ∷ bs) i =
    let small : b < 256 = i.0 in
    (never (digit_glyph false (b / 16)) (hex_digit_word (digit_glyph false (b / 16)) (glyph_is (b / 16) (omega arith)).0), (never (digit_glyph false (b % 16)) (hex_digit_word (digit_glyph false (b % 16)) (glyph_is (b % 16) (omega arith)).0), hex_inside ends never bs i.1))

pub hex_bytes : (bs : List ℕ) → AreBytes bs → IsBytes (hex bs)
hex_bytes [] i = IsBytes-nil
hex_bytes (b ∷ bs) i =
    let small : b < 256 = i.0 in
    IsBytes-cons (digit_glyph false (b / 16)) (digit_glyph false (b % 16) ∷ hex bs) (glyph_small (b / 16) (omega arith)) (IsBytes-cons (digit_glyph false (b % 16)) (hex bs) (glyph_small (b % 16) (omega arith)) (hex_bytes bs i.1))

done_bytes : (t : List ℕ × Option ℕ) (x : List ℕ) → hex_done t ≡ Some x → t ≡ (x, None)
done_bytes (bs, None) x h = let one : bs ≡ x = cc in ap (λ (y : List ℕ). (y, None)) one
done_bytes (bs, Some d) x h = absurd cc

bytes_on : (w : List ℕ) (t : List ℕ × Option ℕ) → (w ≡ hex_text t) → IsHexState t → (x : List ℕ) × AreBytes x × (more : List ℕ) × (hex x ≡ w ++ more)
bytes_on w (bs, None) e i = (bs, i, [], sym e ∙ sym (append-nil w))
bytes_on w (bs, Some d) e i =
    let zero_too : 16 * d + 0 ≡ 16 * d = omega arith in (
      bs ++ (16 * d + 0) ∷ [],
      bytes_append bs ((16 * d + 0) ∷ []) i.0 (omega (arith, i.1), tt),
      digit_glyph false 0 ∷ [],
      hex_append bs ((16 * d + 0) ∷ []) ∙ ap (λ (y : List ℕ). hex bs ++ y) (one_byte d 0 i.1 (omega arith))
          ∙ sym (append_assoc (hex bs) (digit_glyph false d ∷ []) (digit_glyph false 0 ∷ [])) ∙ ap (λ (y : List ℕ). y ++ digit_glyph false 0 ∷ []) (sym e),
    )

bytes_scans : (ends : List ℕ) → AreEnds ends → Scans hex_step hex_done ends ([], None) hex AreBytes
bytes_scans ends are = record {
  again = λ bs i. ((bs, None), to_bytes bs [] i, refl);
  found = λ w t x isb h d.
      let r = hex_run w ([], None) t tt h in
      let e = done_bytes t x d in
      (r.0 ∙ ap hex_text e, subst IsHexState e r.1);
  on = λ w t isb h. let r = hex_run w ([], None) t tt h in bytes_on w t r.0 r.1;
  inside = hex_inside ends are.words;
  bytes = hex_bytes;
}

pub bytes_reads : (ends : List ℕ) → AreEnds ends → Reads (bytes_at ends) (λ p. hex p.0 ++ p.1 ∷ []) (λ p. AreBytes p.0 × (is_end ends p.1 ≡ true))
unfolding bytes_at
bytes_reads ends are = scan_reads (bytes_scans ends are) are.some.0 are.some.1 are.bytes
