-- Names and values keep to what readers keep to.
use Rattle.std.proofs.Common.{◌≡◌, ◌≢◌, ℕ, zero, suc, ◌+◌, ◌-◌, ◌*◌, ◌/◌, ◌%◌, ◌^◌, ◌<◌, ◌≤◌, Bool, true, false, cond, not, eqb, leb, List, [], ◌∷◌, ◌++◌, length, Result, Ok, Err, refl, sym, ap, subst, ◌∙◌, codes, ℤ, pos, negsuc, arith, inl, inr, ◌⊎◌}
use Rattle.std.proofs.lemmas.Bool.Decides.{nat_tests}
use Rattle.std.proofs.lemmas.Fmt.{decimal_by_steps}
use Rattle.std.proofs.lemmas.Nat.{be_bytes_4}
use Rattle.std.proofs.lemmas.Int.{ints}
use Rattle.std.specs.Prelude.{FitsSigned}
use Rattle.std.specs.List.{list_all}
use Rattle.std.specs.Char.{is_ascii_digit}
use Rattle.std.specs.Int.{w32}
use Rattle.std.specs.Fmt.{decimal, digit_glyph}
use Rattle.std.specs.Str.{bytes_eq}
use Rattle.std.proofs.lemmas.Bool.{and_from, and_parts}
use Rattle.fab_base.specs.declared.object.Oid.{Oid}
use Rattle.fab_base.specs.FieldSpelling.{two_bytes, four_bytes, oid_bytes, IsOid}
use Rattle.fab_base.specs.Tokens.{is_word_byte, is_name_text, is_hex_digit, hex_value}
use Rattle.fab_language.specs.Words.{hex}
use Rattle.fab_wire.specs.Reading.{byte_at}
use Rattle.fab_wire.proofs.ReaderLaws.{IsBytes, IsBytes-nil, IsBytes-cons, Stops, Reads, made_reads, both_reads, respelled}
use Rattle.fab_wire.proofs.NumberLaws.{byte_reads, two_bytes_of}
use Rattle.fab_reports.specs.declared.line.ShownName.{ShownName}
use Rattle.fab_reports.specs.declared.line.ShownName.TheVariants.{Root, Unnamed}
use Rattle.fab_reports.specs.declared.line.ShownValue.{ShownValue}
use Rattle.fab_reports.specs.declared.line.ShownValue.TheVariants as v
use Rattle.fab_reports.specs.Lines.{shown_name, shown_value, IsWord, IsShownName, IsShownValue}
use Rattle.fab_reports.specs.Reading.{is_end, number_at, digit_at, pair_at, two_at, four_at, oid_at, end_at, unnamed_at, rooted_at, name_at, negative_at, natural_at, named_value, named_at, value_at}
use Rattle.fab_reports.proofs.Combining.{Image, image_reads, Begins, either_reads}
use Rattle.fab_reports.proofs.Given.{by_test, opposite, answers_are}
use Rattle.fab_reports.proofs.Words.{hex_append, AreEnds, number_reads, word_reads, glyph_of, glyph_is, glyph_small, one_byte}

-- ---- one byte that passes a test

-- a reader of one byte, which f makes something of where it passes
pub one_reads : {A : Type 0} (read : List ℕ → Result (A × List ℕ) ℕ) (text : A → ℕ) (fits : A → Type 0)
    → (read [] ≡ Err 0)
    → ((b : ℕ) (rest : List ℕ) → ((x : A) × fits x × (text x ≡ b) × (read (b ∷ rest) ≡ Ok (x, rest))) ⊎ (((x : A) → fits x → text x ≡ b → ⊥) × (read (b ∷ rest) ≡ Err (length (b ∷ rest)))))
    → ((x y : A) → fits x → fits y → text x ≡ text y → x ≡ y) → ((x : A) → fits x → text x < 256) → (x : A) → fits x
    → Reads read (λ x. text x ∷ []) fits
one_reads {A = A} read text fits none one same small some is_some = record {
  some = (some, is_some);
  bytes = λ x fx. IsBytes-cons (text x) [] (small x fx) IsBytes-nil;
  again = again;
  found = found;
  stops = stops;
} where
  again : (x : A) (rest : List ℕ) → fits x → read (text x ∷ rest) ≡ Ok (x, rest)
  again x rest fx = elim (one (text x) rest) [
    | inl y ↦ y.3 ∙ ap (λ (z : A). Ok (z, rest)) (same y.0 x y.1 fx y.2)
    | inr never ↦ absurd (never.0 x fx refl)
  ]

  found : (bytes : List ℕ) (x : A) (rest : List ℕ) → IsBytes bytes → read bytes ≡ Ok (x, rest) → (bytes ≡ text x ∷ rest) × fits x
  found [] x rest isb e = let g = sym none ∙ e in absurd cc
  found (b ∷ bs) x rest isb e = elim (one b bs) [
    | inl y ↦
        let q = answers_are y.0 x bs rest (sym y.3 ∙ e) in
        let at = q.0 in
        let left = q.1 in
        (ap (λ (n : ℕ). n ∷ bs) (sym y.2 ∙ ap text at) ∙ ap (λ (z : List ℕ). text x ∷ z) left, subst fits at y.1)
    | inr never ↦ let g = sym never.1 ∙ e in absurd cc
  ]

  stops : (bytes : List ℕ) (left : ℕ) → IsBytes bytes → read bytes ≡ Err left → Stops (λ x. text x ∷ []) fits bytes left
  stops [] left isb e =
      let g = sym none ∙ e in
      record { front = []; back = []; cut = refl; left_is = cc; next = some; next_fits = is_some; more = text some ∷ []; begins = refl; bad = λ c rest tail eb x after fx ex. absurd cc }
  stops (b ∷ bs) left isb e = elim (one b bs) [
    | inl y ↦ let g = sym y.3 ∙ e in absurd cc
    | inr never ↦
        let g = sym never.1 ∙ e in
        record {
          front = [];
          back = b ∷ bs;
          cut = refl;
          left_is = cc;
          next = some;
          next_fits = is_some;
          more = text some ∷ [];
          begins = refl;
          bad = λ c rest tail eb x after fx ex.
              let at : b ≡ c = cc in
              let is : text x ≡ c = cc in
              never.0 x fx (is ∙ sym at);
        }
  ]

-- ---- digits of base 16

digit_case : (b : ℕ) (rest : List ℕ) → ((x : ℕ) × (x < 16) × (digit_glyph false x ≡ b) × (digit_at (b ∷ rest) ≡ Ok (x, rest)))
    ⊎ (((x : ℕ) → x < 16 → digit_glyph false x ≡ b → ⊥) × (digit_at (b ∷ rest) ≡ Err (length (b ∷ rest))))
digit_case b rest = elim (by_test (is_hex_digit b)) [
  | inl t ↦ let g = glyph_of b t in inl (hex_value b, g.1, g.0, rw t refl)
  | inr f ↦ inr (λ x lt e. opposite (is_hex_digit b) (ap is_hex_digit (sym e) ∙ (glyph_is x lt).0) f, rw f refl)
]

pub digit_reads : Reads digit_at (λ d. digit_glyph false d ∷ []) (λ d. d < 16)
digit_reads =
    one_reads digit_at (λ d. digit_glyph false d) (λ d. d < 16) refl digit_case
    (λ x y sx sy e. sym (glyph_is x sx).1 ∙ ap hex_value e ∙ (glyph_is y sy).1) glyph_small 0 (omega arith)

pub pair_reads : Reads pair_at (λ b. hex (b ∷ [])) (λ b. b < 256)
unfolding pair_at
pair_reads =
    made_reads (λ p. 16 * p.0 + p.1) (λ b. hex (b ∷ [])) (λ b. b < 256) (both_reads digit_reads digit_reads)
    (λ p fp. (one_byte p.0 p.1 fp.0 fp.1, omega (arith, fp.0, fp.1)))
    (λ b lt. ((b / 16, b % 16), (omega arith, omega arith), omega arith))

pub two_reads : Reads two_at (λ n. hex (two_bytes n)) (λ n. n < 2 ^ 16)
unfolding two_at
two_reads =
    made_reads (λ p. 256 * p.0 + p.1) (λ n. hex (two_bytes n)) (λ n. n < 2 ^ 16) (both_reads pair_reads pair_reads)
    (λ p fp. (ap (λ n. hex (two_bytes n)) (times p.0 p.1) ∙ ap hex (two_bytes_of p.0 p.1 fp.0 fp.1), omega (arith, fp.0, fp.1)))
    (λ n lt. ((n / 256, n % 256), (omega arith, omega arith), omega arith))
  where
    times : (h l : ℕ) → 256 * h + l ≡ h * 256 + l
    times h l = omega arith

four_of_two : (h l : ℕ) → h < 65536 → l < 65536 → four_bytes (65536 * h + l) ≡ two_bytes h ++ two_bytes l
four_of_two h l sh sl =
    be_bytes_4 (two_bytes h ++ two_bytes l) (65536 * h + l) refl (four_small h l) (omega arith)
  where
    four_small : (h l : ℕ) → IsBytes (two_bytes h ++ two_bytes l)
    four_small h l zero = omega arith
    four_small h l (suc zero) = omega arith
    four_small h l (suc (suc zero)) = omega arith
    four_small h l (suc (suc (suc zero))) = omega arith
    four_small h l (suc (suc (suc (suc i)))) = omega arith

pub four_reads : Reads four_at (λ n. hex (four_bytes n)) (λ n. n < 2 ^ 32)
unfolding four_at
four_reads =
    made_reads (λ p. 65536 * p.0 + p.1) (λ n. hex (four_bytes n)) (λ n. n < 2 ^ 32) (both_reads two_reads two_reads)
    (λ p fp. (ap hex (four_of_two p.0 p.1 fp.0 fp.1) ∙ hex_append (two_bytes p.0) (two_bytes p.1), omega (arith, fp.0, fp.1)))
    (λ n lt. ((n / 65536, n % 65536), (omega arith, omega arith), omega arith))

oid_text : (o : Oid) → hex (oid_bytes o) ≡ hex (two_bytes o.store) ++ (hex (two_bytes o.class) ++ (hex (two_bytes o.worker) ++ (hex (four_bytes o.boot) ++ (hex (four_bytes o.number) ++ (hex (two_bytes o.site) ++ hex (two_bytes o.index))))))
oid_text o = refl

pub oid_reads : Reads oid_at (λ o. hex (oid_bytes o)) IsOid
unfolding oid_at
oid_reads =
    made_reads (λ p. record { store = p.0; class = p.1.0; worker = p.1.1.0; boot = p.1.1.1.0; number = p.1.1.1.1.0; site = p.1.1.1.1.1.0; index = p.1.1.1.1.1.1 }) (λ o. hex (oid_bytes o)) IsOid
    (both_reads two_reads (both_reads two_reads (both_reads two_reads (both_reads four_reads (both_reads four_reads (both_reads two_reads two_reads))))))
    (λ p fp. (
      oid_text (record { store = p.0; class = p.1.0; worker = p.1.1.0; boot = p.1.1.1.0; number = p.1.1.1.1.0; site = p.1.1.1.1.1.0; index = p.1.1.1.1.1.1 }),
      record { store = fp.0; class = fp.1.0; worker = fp.1.1.0; boot = fp.1.1.1.0; number = fp.1.1.1.1.0; site = fp.1.1.1.1.1.0; index = fp.1.1.1.1.1.1 },
    ))
    (λ o fo. ((o.store, (o.class, (o.worker, (o.boot, (o.number, (o.site, o.index)))))), (fo.store, (fo.class, (fo.worker, (fo.boot, (fo.number, (fo.site, fo.index)))))), refl))

-- ---- names

end_case : (ends : List ℕ) (b : ℕ) (rest : List ℕ) → ((x : ℕ) × (is_end ends x ≡ true) × (x ≡ b) × (end_at ends (b ∷ rest) ≡ Ok (x, rest)))
    ⊎ (((x : ℕ) → is_end ends x ≡ true → x ≡ b → ⊥) × (end_at ends (b ∷ rest) ≡ Err (length (b ∷ rest))))
end_case ends b rest = elim (by_test (is_end ends b)) [
  | inl t ↦ inl (b, t, refl, rw t refl)
  | inr f ↦ inr (λ x h e. opposite (is_end ends b) (ap (is_end ends) (sym e) ∙ h) f, rw f refl)
]

pub end_reads : (ends : List ℕ) → AreEnds ends → Reads (end_at ends) (λ e. e ∷ []) (λ e. is_end ends e ≡ true)
end_reads ends are = one_reads (end_at ends) (λ e. e) (λ e. is_end ends e ≡ true) refl (end_case ends) (λ x y fx fy e. e) are.bytes are.some.0 are.some.1

abbrev pub ended : {A : Type 0} → (A → List ℕ) → A × ℕ → List ℕ
ended text p = text p.0 ++ p.1 ∷ []

abbrev pub fits_ended : {A : Type 0} → (A → Type 0) → List ℕ → A × ℕ → Type 0
fits_ended fits ends p = fits p.0 × (is_end ends p.1 ≡ true)

abbrev unnamed_of : (ℕ × (Oid × ℕ)) → ShownName × ℕ
unnamed_of p = (Unnamed p.1.0, p.1.1)

unnamed_reads : (ends : List ℕ) → AreEnds ends → Reads (unnamed_at ends) (ended shown_name) (Image unnamed_of (λ p. ((35 ≤ p.0) × (p.0 ≤ 35)) × (IsOid p.1.0 × (is_end ends p.1.1 ≡ true))))
unfolding unnamed_at
unnamed_reads ends are =
    image_reads unnamed_of (ended shown_name) (both_reads (byte_reads 35 35 (omega arith) (omega arith)) (both_reads oid_reads (end_reads ends are)))
    (λ p fp. ap (λ (n : ℕ). n ∷ (hex (oid_bytes p.1.0) ++ p.1.1 ∷ [])) (omega (arith, fp.0.0, fp.0.1)))

abbrev rooted_of : (List ℕ × ℕ) → ShownName × ℕ
rooted_of p = (Root p.0, p.1)

rooted_reads : (ends : List ℕ) → AreEnds ends → Reads (rooted_at ends) (ended shown_name) (Image rooted_of (fits_ended IsWord ends))
unfolding rooted_at
rooted_reads ends are = image_reads rooted_of (ended shown_name) (word_reads ends are) (λ p fp. refl)

is_hash : ℕ → Bool
is_hash b = eqb b 35

-- the first byte of a word
abbrev word_first : (ℕ → Bool) → List ℕ → Type 0
word_first test w = Begins test false w

no_first : (test : ℕ → Bool) → ((b : ℕ) → is_word_byte b ≡ true → is_ascii_digit b ≡ false → test b ≡ false) → (w : List ℕ) (e : ℕ) → IsWord w → Begins test false (w ++ e ∷ [])
no_first test never [] e h = absurd cc
no_first test never (b ∷ w) e h =
    let p = and_parts (list_all is_word_byte (b ∷ w)) (is_name_text (b ∷ w)) h in
    let q = and_parts (is_word_byte b) (list_all is_word_byte w) p.0 in
    let r = and_parts (not (is_ascii_digit b)) (leb (length w) 63) p.1 in
    never b q.0 (grind (arith, nat_tests))

name_to : (ends : List ℕ) (p : ShownName × ℕ) → Image unnamed_of (λ p. ((35 ≤ p.0) × (p.0 ≤ 35)) × (IsOid p.1.0 × (is_end ends p.1.1 ≡ true))) p ⊎ Image rooted_of (fits_ended IsWord ends) p
    → fits_ended IsShownName ends p
name_to ends p (inl i) = subst (fits_ended IsShownName ends) i.2 i.1.1
name_to ends p (inr i) = subst (fits_ended IsShownName ends) i.2 i.1

name_from : (ends : List ℕ) (n : ShownName) (e : ℕ) → IsShownName n → is_end ends e ≡ true
    → Image unnamed_of (λ p. ((35 ≤ p.0) × (p.0 ≤ 35)) × (IsOid p.1.0 × (is_end ends p.1.1 ≡ true))) (n, e) ⊎ Image rooted_of (fits_ended IsWord ends) (n, e)
name_from ends (Root w) e h k = inr ((w, e), (h, k), refl)
name_from ends (Unnamed o) e h k = inl ((35, (o, e)), ((omega arith, omega arith), (h, k)), refl)

pub name_reads : (ends : List ℕ) → AreEnds ends → Reads (name_at ends) (ended shown_name) (fits_ended IsShownName ends)
unfolding name_at
name_reads ends are =
    respelled (ended shown_name) (fits_ended IsShownName ends)
    (either_reads (λ b. eqb b 35) (unnamed_reads ends are) (rooted_reads ends are)
    (λ p i. subst (λ (q : ShownName × ℕ). Begins (λ b. eqb b 35) true (ended shown_name q)) i.2 refl)
    (λ p i. subst (λ (q : ShownName × ℕ). Begins (λ b. eqb b 35) false (ended shown_name q)) i.2 (no_first (λ b. eqb b 35) (λ b h k. grind (arith, nat_tests)) i.0.0 i.0.1 i.1.0)))
    (λ p fp. refl) (name_to ends) (λ p fp. name_from ends p.0 p.1 fp.0 fp.1)

-- ---- values

abbrev negative_of : (ℕ × (ℕ × ℕ)) → ShownValue × ℕ
negative_of p = (v.Number (negsuc (p.1.0 - 1)), p.1.1)

abbrev FitsNegative : List ℕ → (ℕ × (ℕ × ℕ)) → Type 0
FitsNegative ends p = ((45 ≤ p.0) × (p.0 ≤ 45)) × (((1 ≤ p.1.0) × (p.1.0 ≤ 2147483648)) × (is_end ends p.1.1 ≡ true))

negative_reads : (ends : List ℕ) → AreEnds ends → Reads (negative_at ends) (ended shown_value) (Image negative_of (FitsNegative ends))
unfolding negative_at
negative_reads ends are =
    image_reads negative_of (ended shown_value) (both_reads (byte_reads 45 45 (omega arith) (omega arith)) (number_reads 1 2147483648 ends are (omega arith) (omega arith) (omega arith)))
    (λ p fp.
    let sign : 45 ≡ p.0 = omega (arith, fp.0.0, fp.0.1) in
    let size : suc (p.1.0 - 1) ≡ p.1.0 = omega (arith, fp.1.0.0) in
    ap (λ (n : ℕ). n ∷ (decimal (suc (p.1.0 - 1)) ++ p.1.1 ∷ [])) sign ∙ ap (λ (n : ℕ). p.0 ∷ (decimal n ++ p.1.1 ∷ [])) size)

abbrev natural_of : (ℕ × ℕ) → ShownValue × ℕ
natural_of p = (v.Number (pos p.0), p.1)

natural_reads : (ends : List ℕ) → AreEnds ends → Reads (natural_at ends) (ended shown_value) (Image natural_of (λ p. ((0 ≤ p.0) × (p.0 ≤ 2147483647)) × (is_end ends p.1 ≡ true)))
unfolding natural_at
natural_reads ends are = image_reads natural_of (ended shown_value) (number_reads 0 2147483647 ends are (omega arith) (omega arith) (omega arith)) (λ p fp. refl)

first_digit : (n : ℕ) → n < 2 ^ 64 → Begins is_ascii_digit true (decimal n)
first_digit = decimal_by_steps (λ n ds. Begins is_ascii_digit true ds) (λ n h. grind (arith, nat_tests)) (λ n ds h i. begins_more ds ((48 + n % 10) ∷ []) i) where
  begins_more : (ds more : List ℕ) → Begins is_ascii_digit true ds → Begins is_ascii_digit true (ds ++ more)
  begins_more [] more h = absurd h
  begins_more (d ∷ ds) more h = h

begins_on : (test : ℕ → Bool) (t : Bool) (ds more : List ℕ) → Begins test t ds → Begins test t (ds ++ more)
begins_on test t [] more h = absurd h
begins_on test t (d ∷ ds) more h = h

begins_other : (test other : ℕ → Bool) (t s : Bool) → ((b : ℕ) → test b ≡ t → other b ≡ s) → (ds : List ℕ) → Begins test t ds → Begins other s ds
begins_other test other t s h [] i = absurd i
begins_other test other t s h (d ∷ ds) i = h d i

-- ---- the value that a name stands for

text_eq : (a b : List ℕ) → bytes_eq a b ≡ true → a ≡ b
text_eq [] [] h = refl
text_eq [] (y ∷ b) h = absurd cc
text_eq (x ∷ a) [] h = absurd cc
text_eq (x ∷ a) (y ∷ b) h =
    let g = and_parts (eqb x y) (bytes_eq a b) h in
    let e : x ≡ y = grind (arith, nat_tests) in
    ap (λ (n : ℕ). n ∷ a) e ∙ ap (λ (z : List ℕ). y ∷ z) (text_eq a b g.1)

text_itself : (a : List ℕ) → bytes_eq a a ≡ true
text_itself [] = refl
text_itself (x ∷ a) = and_from (eqb x x) (bytes_eq a a) (grind (arith, nat_tests)) (text_itself a)

null_text : List ℕ
null_text = codes "null"

abbrev as_value : Bool → List ℕ → ShownValue
as_value t text = cond t v.Null (v.Object (Root text))

value_spelled : (n : ShownName) → shown_value (named_value n) ≡ shown_name n
value_spelled (Unnamed o) = refl
value_spelled (Root text) = go (bytes_eq text (codes "null")) refl where
  go : (t : Bool) → bytes_eq text (codes "null") ≡ t → shown_value (as_value t text) ≡ text
  go true h = sym (text_eq text (codes "null") h)
  go false h = refl

value_fits : (n : ShownName) → IsShownName n → IsShownValue (named_value n)
value_fits (Unnamed o) i = i
value_fits (Root text) i = go (bytes_eq text (codes "null")) refl where
  go : (t : Bool) → bytes_eq text (codes "null") ≡ t → IsShownValue (as_value t text)
  go true h = tt
  go false h = (i, λ e. opposite (bytes_eq text (codes "null")) (ap (λ (x : List ℕ). bytes_eq x (codes "null")) e ∙ text_itself (codes "null")) h)

not_null : (text : List ℕ) → text ≢ codes "null" → named_value (Root text) ≡ v.Object (Root text)
not_null text h = go (bytes_eq text (codes "null")) refl where
  go : (t : Bool) → bytes_eq text (codes "null") ≡ t → as_value t text ≡ v.Object (Root text)
  go true e = absurd (h (text_eq text (codes "null") e))
  go false e = refl

abbrev named_of : ShownName × ℕ → ShownValue × ℕ
named_of p = (named_value p.0, p.1)

named_reads : (ends : List ℕ) → AreEnds ends → Reads (named_at ends) (ended shown_value) (Image named_of (fits_ended IsShownName ends))
unfolding named_at
named_reads ends are = image_reads named_of (ended shown_value) (name_reads ends are) (λ p fp. ap (λ (x : List ℕ). x ++ p.1 ∷ []) (value_spelled p.0))

-- ---- all values

abbrev FitsNatural : List ℕ → ℕ × ℕ → Type 0
FitsNatural ends p = ((0 ≤ p.0) × (p.0 ≤ 2147483647)) × (is_end ends p.1 ≡ true)

abbrev OneOf : List ℕ → ShownValue × ℕ → Type 0
OneOf ends p = Image negative_of (FitsNegative ends) p ⊎ (Image natural_of (FitsNatural ends) p ⊎ Image named_of (fits_ended IsShownName ends) p)

is_minus : ℕ → Bool
is_minus b = eqb b 45

name_first : (test : ℕ → Bool) → (test 35 ≡ false) → ((b : ℕ) → is_word_byte b ≡ true → is_ascii_digit b ≡ false → test b ≡ false)
    → (n : ShownName) (e : ℕ) → IsShownName n → Begins test false (shown_name n ++ e ∷ [])
name_first test hash never (Root w) e h = no_first test never w e h
name_first test hash never (Unnamed o) e h = hash

named_first : (test : ℕ → Bool) → (test 35 ≡ false) → ((b : ℕ) → is_word_byte b ≡ true → is_ascii_digit b ≡ false → test b ≡ false)
    → (ends : List ℕ) (p : ShownValue × ℕ) → Image named_of (fits_ended IsShownName ends) p → Begins test false (ended shown_value p)
named_first test hash never ends p i =
    subst (λ (q : ShownValue × ℕ). Begins test false (ended shown_value q)) i.2
    (subst (λ (x : List ℕ). Begins test false (x ++ i.0.1 ∷ [])) (sym (value_spelled i.0.0)) (name_first test hash never i.0.0 i.0.1 i.1.0))

natural_first : (test : ℕ → Bool) (t : Bool) → ((b : ℕ) → is_ascii_digit b ≡ true → test b ≡ t) → (ends : List ℕ) (p : ShownValue × ℕ) → Image natural_of (FitsNatural ends) p → Begins test t (ended shown_value p)
natural_first test t is ends p i =
    subst (λ (q : ShownValue × ℕ). Begins test t (ended shown_value q)) i.2
    (begins_on test t (decimal i.0.0) (i.0.1 ∷ []) (begins_other is_ascii_digit test true t is (decimal i.0.0) (first_digit i.0.0 (omega (arith, i.1.0.1)))))

value_to : (ends : List ℕ) (p : ShownValue × ℕ) → OneOf ends p → fits_ended IsShownValue ends p
value_to ends p (inl i) =
    let f : FitsSigned w32 (negsuc (i.0.1.0 - 1)) = omega (arith, ints, i.1.1.0.0, i.1.1.0.1) in
    subst (fits_ended IsShownValue ends) i.2 (f, i.1.1.1)
value_to ends p (inr (inl i)) =
    let f : FitsSigned w32 (pos i.0.0) = omega (arith, ints, i.1.0.1) in
    subst (fits_ended IsShownValue ends) i.2 (f, i.1.1)
value_to ends p (inr (inr i)) = subst (fits_ended IsShownValue ends) i.2 (value_fits i.0.0 i.1.0, i.1.1)

value_from : (ends : List ℕ) (x : ShownValue) (e : ℕ) → IsShownValue x → is_end ends e ≡ true → OneOf ends (x, e)
value_from ends (v.Number (pos n)) e h k = inr (inl ((n, e), ((omega arith, omega (arith, ints, h)), k), refl))
value_from ends (v.Number (negsuc n)) e h k =
    let size : n + 1 - 1 ≡ n = omega arith in
    inl ((45, (n + 1, e)), ((omega arith, omega arith), ((omega arith, omega (arith, ints, h)), k)), ap (λ (i : ℕ). (v.Number (negsuc i), e)) size)
value_from ends v.Null e h k = inr (inr ((Root (codes "null"), e), (refl, k), refl))
value_from ends (v.Object (Root text)) e h k = inr (inr ((Root text, e), (h.0, k), ap (λ (x : ShownValue). (x, e)) (not_null text h.1)))
value_from ends (v.Object (Unnamed o)) e h k = inr (inr ((Unnamed o, e), (h, k), refl))

pub value_reads : (ends : List ℕ) → AreEnds ends → Reads (value_at ends) (ended shown_value) (fits_ended IsShownValue ends)
unfolding value_at
value_reads ends are =
    respelled (ended shown_value) (fits_ended IsShownValue ends)
    (either_reads (λ b. eqb b 45) (negative_reads ends are)
    (either_reads is_ascii_digit (natural_reads ends are) (named_reads ends are)
    (natural_first is_ascii_digit true (λ b h. h) ends)
    (named_first is_ascii_digit refl (λ b h k. k) ends))
    (λ p i. subst (λ (q : ShownValue × ℕ). Begins (λ b. eqb b 45) true (ended shown_value q)) i.2 refl)
    later_first)
    (λ p fp. refl) (value_to ends) (λ p fp. value_from ends p.0 p.1 fp.0 fp.1)
  where
    later_first : (p : ShownValue × ℕ) → Image natural_of (FitsNatural ends) p ⊎ Image named_of (fits_ended IsShownName ends) p → Begins (λ b. eqb b 45) false (ended shown_value p)
    later_first p (inl i) = natural_first (λ b. eqb b 45) false (λ b h. grind (arith, nat_tests)) ends p i
    later_first p (inr i) = named_first (λ b. eqb b 45) refl (λ b h k. grind (arith, nat_tests)) ends p i

-- ---- what the calls answer

pub natural_is : (ends bytes : List ℕ) (n e : ℕ) (rest : List ℕ) (z : ℤ) → number_at 0 2147483647 ends bytes ≡ Ok ((n, e), rest) → z ≡ pos n
    → natural_at ends bytes ≡ Ok ((v.Number z, e), rest)
unfolding natural_at
natural_is ends bytes n e rest z h same = rw h (ap (λ (y : ℤ). Ok ((v.Number y, e), rest)) (sym same))

pub negative_is : (ends bytes : List ℕ) (sign : ℕ) (mid : List ℕ) (n e : ℕ) (rest : List ℕ) (z : ℤ) → byte_at 45 45 bytes ≡ Ok (sign, mid) → number_at 1 2147483648 ends mid ≡ Ok ((n, e), rest)
    → z ≡ negsuc (n - 1) → negative_at ends bytes ≡ Ok ((v.Number z, e), rest)
unfolding negative_at
negative_is ends bytes sign mid n e rest z first second same = rw (first, second) (ap (λ (y : ℤ). Ok ((v.Number y, e), rest)) (sym same))
