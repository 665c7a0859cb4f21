-- The words of lines, each with the one byte that ends it, and the values at the end of a line.
use Rattle.std.proofs.Common.{◌≡◌, ℕ, zero, suc, ◌/◌, ◌%◌, ◌^◌, ◌<◌, ◌≤◌, Bool, true, false, cond, not, eqb, ◌||◌, List, [], ◌∷◌, ◌++◌, map, Result, refl, sym, ap, subst, ◌∙◌, append_assoc, length-append, codes, arith, inl, inr, ◌⊎◌}
use Rattle.std.proofs.lemmas.Bool.Decides.{nat_tests}
use Rattle.std.specs.List.{AllByRecursion, flat_map}
use Rattle.std.specs.Fmt.{decimal, digit_glyph, digits_onto, digits}
use Rattle.fab_base.specs.Tokens.{is_word_byte}
use Rattle.fab_language.specs.Words.{hex}
use Rattle.fab_wire.specs.Reading.{made}
use Rattle.fab_wire.proofs.ReaderLaws.{IsBytes, IsBytes-nil, IsBytes-cons, Reads, made_reads, chosen_reads, both_reads, respelled}
use Rattle.fab_wire.proofs.NumberLaws.{byte_reads}
use Rattle.fab_reports.specs.declared.line.Attempt.{Attempt}
use Rattle.fab_reports.specs.declared.line.ShownValue.{ShownValue}
use Rattle.fab_reports.specs.declared.line.ShownValue.TheVariants as v
use Rattle.fab_reports.specs.Lines.{shown_name, shown_value, IsWord, AreBytes, IsRequest, IsAttempt, IsShownName, IsShownValue}
use Rattle.fab_reports.specs.Reading.{is_end, before, number_at, word_at, bytes_at, name_at, value_at, fields_at, u32_before, request_before, word_before, bytes_before, attempt_before, held_at, counted}
use Rattle.fab_reports.proofs.Given.{exact_reads}
use Rattle.fab_reports.proofs.Words.{AreEnds, number_reads, word_reads, bytes_reads}
use Rattle.fab_reports.proofs.NameLaws.{ended, fits_ended, name_reads, value_reads}
use Rattle.fab_reports.proofs.Repeating.{IsRest, Items, items_reads}

-- ---- ends

only_end : (e b : ℕ) → is_end (e ∷ []) b ≡ true → b ≡ e
only_end e b h = grind (arith, nat_tests)

is_end_itself : (e : ℕ) → is_end (e ∷ []) e ≡ true
is_end_itself e = grind (arith, nat_tests)

single_ends : (e : ℕ) → e < 256 → (is_word_byte e ≡ false) → AreEnds (e ∷ [])
single_ends e small never = record {
  words = λ b h. words b h (eqb e b) refl;
  some = (e, is_end_itself e);
  bytes = λ b h. subst (λ (n : ℕ). n < 256) (sym (only_end e b h)) small;
} where
  words : (b : ℕ) → is_word_byte b ≡ true → (t : Bool) → eqb e b ≡ t → (t || false) ≡ false
  words b h true s = let same : e ≡ b = grind (arith, nat_tests) in absurd (let k : is_word_byte e ≡ true = ap is_word_byte same ∙ h in cc)
  words b h false s = refl

pub space_ends : AreEnds (32 ∷ [])
space_ends = single_ends 32 (omega arith) refl

pub line_ends : AreEnds (10 ∷ [])
line_ends = single_ends 10 (omega arith) refl

pub dot_ends : AreEnds (46 ∷ [])
dot_ends = single_ends 46 (omega arith) refl

either_end : (b : ℕ) → is_end (codes " \n") b ≡ true → (b ≡ 32) ⊎ (b ≡ 10)
either_end b h = grind (arith, nat_tests)

pub field_ends : AreEnds (codes " \n")
field_ends = record {
  words = λ b h. grind (arith, nat_tests);
  some = (32, refl);
  bytes = λ b h. elim (either_end b h) [ inl e ↦ omega arith | inr e ↦ omega arith ];
}

pub single_reads : {A : Type 0} (read : List ℕ → List ℕ → Result ((A × ℕ) × List ℕ) ℕ) (text : A → List ℕ) (fits : A → Type 0) (e : ℕ)
    → Reads (read (e ∷ [])) (ended text) (fits_ended fits (e ∷ [])) → Reads (before read e) (λ a. text a ++ e ∷ []) fits
single_reads read text fits e r =
    made_reads (λ p. p.0) (λ a. text a ++ e ∷ []) fits r
    (λ p fp. (ap (λ (n : ℕ). text p.0 ++ n ∷ []) (sym (only_end e p.1 fp.1)), fp.0))
    (λ a fa. ((a, e), (fa, is_end_itself e), refl))

pub u32_reads : (e : ℕ) → AreEnds (e ∷ []) → Reads (u32_before e) (λ n. decimal n ++ e ∷ []) (λ n. n < 2 ^ 32)
unfolding u32_before
u32_reads e are =
    respelled (λ n. decimal n ++ e ∷ []) (λ n. n < 2 ^ 32)
    (single_reads (number_at 0 4294967295) decimal (λ n. (0 ≤ n) × (n ≤ 4294967295)) e (number_reads 0 4294967295 (e ∷ []) are (omega arith) (omega arith) (omega arith)))
    (λ n lt. refl) (λ n h. omega (arith, h.1)) (λ n lt. (omega arith, omega arith))

pub request_reads : (e : ℕ) → AreEnds (e ∷ []) → Reads (request_before e) (λ n. decimal n ++ e ∷ []) IsRequest
unfolding request_before
request_reads e are =
    respelled (λ n. decimal n ++ e ∷ []) IsRequest
    (single_reads (number_at 1 4294967295) decimal (λ n. (1 ≤ n) × (n ≤ 4294967295)) e (number_reads 1 4294967295 (e ∷ []) are (omega arith) (omega arith) (omega arith)))
    (λ n lt. refl) (λ n h. (h.0, omega (arith, h.1))) (λ n h. (h.0, omega (arith, h.1)))

pub word_before_reads : (e : ℕ) → AreEnds (e ∷ []) → Reads (word_before e) (λ w. w ++ e ∷ []) IsWord
unfolding word_before
word_before_reads e are = single_reads word_at (λ w. w) IsWord e (word_reads (e ∷ []) are)

pub bytes_before_reads : (e : ℕ) → AreEnds (e ∷ []) → Reads (bytes_before e) (λ bs. hex bs ++ e ∷ []) AreBytes
unfolding bytes_before
bytes_before_reads e are = single_reads bytes_at hex AreBytes e (bytes_reads (e ∷ []) are)

pub name_before_reads : (e : ℕ) → AreEnds (e ∷ []) → Reads (before name_at e) (λ n. shown_name n ++ e ∷ []) IsShownName
name_before_reads e are = single_reads name_at shown_name IsShownName e (name_reads (e ∷ []) are)

pub value_before_reads : (e : ℕ) → AreEnds (e ∷ []) → Reads (before value_at e) (λ n. shown_value n ++ e ∷ []) IsShownValue
value_before_reads e are = single_reads value_at shown_value IsShownValue e (value_reads (e ∷ []) are)

-- boot, a dot, number, end
abbrev pub attempt_text : ℕ → Attempt → List ℕ
attempt_text e a = (decimal a.boot ++ 46 ∷ []) ++ (decimal a.number ++ e ∷ [])

pub attempt_reads : (e : ℕ) → AreEnds (e ∷ []) → Reads (attempt_before e) (attempt_text e) IsAttempt
unfolding attempt_before
attempt_reads e are =
    made_reads (λ p. record { boot = p.0; number = p.1 }) (attempt_text e) IsAttempt (both_reads (u32_reads 46 dot_ends) (u32_reads e are))
    (λ p fp. (refl, fp)) (λ a fa. ((a.boot, a.number), fa, refl))

-- ---- a line's own number

onto_bytes : (k n : ℕ) (acc : List ℕ) → IsBytes acc → IsBytes (digits_onto k 10 false n acc)
onto_bytes zero n acc h = h
onto_bytes (suc k) n acc h =
    let small : digit_glyph false (n % 10) < 256 = grind (arith, nat_tests) in
    let more : IsBytes (digit_glyph false (n % 10) ∷ acc) = IsBytes-cons _ acc small h in
    elim (eqb (n / 10) 0) as (λ t. IsBytes (cond t (digit_glyph false (n % 10) ∷ acc) (digits_onto k 10 false (n / 10) (digit_glyph false (n % 10) ∷ acc)))) [
      | true ↦ more
      | false ↦ onto_bytes k (n / 10) (digit_glyph false (n % 10) ∷ acc) more
    ]

pub decimal_bytes : (n : ℕ) → IsBytes (decimal n)
unfolding digits
decimal_bytes n = onto_bytes 64 n [] IsBytes-nil

abbrev pub IsCounted : ℕ → ℕ → List ℕ × ℕ → Type 0
IsCounted n e p = (p.0 ≡ decimal n) × ((e ≤ p.1) × (p.1 ≤ e))

pub counted_reads : (n e : ℕ) → e < 256 → Reads (counted n e) (λ p. p.0 ++ p.1 ∷ []) (IsCounted n e)
counted_reads n e small = both_reads (exact_reads (decimal n) (decimal_bytes n)) (byte_reads e e (omega arith) small)

-- ---- values

-- the byte behind a word that these values follow, and what stands behind that
abbrev pub end_before : List ShownValue → ℕ
end_before [] = 10
end_before (x ∷ xs) = 32

abbrev pub values_text : List ShownValue → List ℕ
values_text [] = []
values_text (x ∷ xs) = shown_value x ++ (end_before xs ∷ values_text xs)

is_over : ℕ → Bool
is_over b = not (eqb b 32)

over_false : (b : ℕ) → not (eqb b 32) ≡ false → b ≡ 32
over_false b h = grind (arith, nat_tests)

over_true : (b : ℕ) → not (eqb b 32) ≡ true → is_end (codes " \n") b ≡ true → b ≡ 10
over_true b h k = grind (arith, nat_tests)

pub value_items : Items (λ b. not (eqb b 32)) (λ b. value_at (codes " \n")) (λ b p. p.1) (ended shown_value) (λ b. fits_ended IsShownValue (codes " \n"))
value_items = record {
  reads = λ b h. value_reads (codes " \n") field_ends;
  some = λ b p fp. omega (arith, length-append (shown_value p.0) (p.1 ∷ []));
  ends = λ b. ended_at (not (eqb b 32)) b refl;
} where
  ended_at : (t : Bool) (b : ℕ) → not (eqb b 32) ≡ t → (xs : List (ShownValue × ℕ)) × IsRest (λ b. not (eqb b 32)) (λ b. fits_ended IsShownValue (codes " \n")) (λ b p. p.1) b xs
  ended_at true b h = ([], h)
  ended_at false b h = ((v.Null, 10) ∷ [], (h, (tt, refl), refl))

abbrev Values : ℕ → List (ShownValue × ℕ) → Type 0
Values e ps = IsRest (λ b. not (eqb b 32)) (λ b. fits_ended IsShownValue (codes " \n")) (λ b p. p.1) e ps

abbrev AreValues : ℕ → List ShownValue → Type 0
AreValues e xs = AllByRecursion IsShownValue xs × (end_before xs ≡ e)

values_to : (ps : List (ShownValue × ℕ)) (e : ℕ) → is_end (codes " \n") e ≡ true → Values e ps
    → (values_text (map (λ p. p.0) ps) ≡ flat_map (ended shown_value) ps) × AreValues e (map (λ p. p.0) ps)
values_to [] e h i = (refl, (tt, sym (over_true e i h)))
values_to (p ∷ ps) e h i =
    let r = values_to ps p.1 i.1.1 i.2 in (
      ap (λ (n : ℕ). shown_value p.0 ++ (n ∷ values_text (map (λ p. p.0) ps))) r.1.1 ∙ ap (λ (x : List ℕ). shown_value p.0 ++ (p.1 ∷ x)) r.0
          ∙ sym (append_assoc (shown_value p.0) (p.1 ∷ []) (flat_map (ended shown_value) ps)),
      ((i.1.0, r.1.0), sym (over_false e i.0)),
    )

values_from : (xs : List ShownValue) (e : ℕ) → AreValues e xs → (ps : List (ShownValue × ℕ)) × Values e ps × (map (λ p. p.0) ps ≡ xs)
values_from [] e h = ([], ap (λ (n : ℕ). not (eqb n 32)) (sym h.1), refl)
values_from (x ∷ xs) e h =
    let r = values_from xs (end_before xs) (h.0.1, refl) in
    ((x, end_before xs) ∷ r.0, (ap (λ (n : ℕ). not (eqb n 32)) (sym h.1), (h.0.0, is_one xs), r.1), ap (λ (ys : List ShownValue). x ∷ ys) r.2)
  where
    is_one : (ys : List ShownValue) → is_end (codes " \n") (end_before ys) ≡ true
    is_one [] = refl
    is_one (y ∷ ys) = refl

pub values_reads : (e : ℕ) → is_end (codes " \n") e ≡ true → Reads (fields_at e) values_text (AreValues e)
unfolding fields_at
values_reads e h =
    made_reads (map (λ p. p.0)) values_text (AreValues e) (items_reads value_items e) (λ ps i. values_to ps e h i) (λ xs i. values_from xs e i)

abbrev pub held_text : ℕ × List ShownValue → List ℕ
held_text c = decimal c.0 ++ (end_before c.1 ∷ values_text c.1)

abbrev pub IsHeld : ℕ × List ShownValue → Type 0
IsHeld c = (c.0 < 2 ^ 32) × AllByRecursion IsShownValue c.1

abbrev held_tag : ℕ × List ShownValue → ℕ × ℕ
held_tag c = (c.0, end_before c.1)

is_field_end : (xs : List ShownValue) → is_end (codes " \n") (end_before xs) ≡ true
is_field_end [] = refl
is_field_end (x ∷ xs) = refl

behind_version : (a : ℕ × ℕ) → is_end (codes " \n") a.1 ≡ true
    → Reads (made (λ fields. (a.0, fields)) (fields_at a.1)) (λ c. values_text c.1) (λ c. AllByRecursion IsShownValue c.1 × (held_tag c ≡ a))
behind_version a h =
    made_reads (λ fields. (a.0, fields)) (λ c. values_text c.1) (λ c. AllByRecursion IsShownValue c.1 × (held_tag c ≡ a)) (values_reads a.1 h)
    (λ xs i. (refl, (i.0, ap (λ (n : ℕ). (a.0, n)) i.1)))
    (λ c i. (c.1, (i.0, ap (λ (q : ℕ × ℕ). q.1) i.1), ap (λ (q : ℕ × ℕ). (q.0, c.1)) (sym i.1)))

pub held_reads : Reads held_at held_text IsHeld
unfolding held_at
held_reads =
    respelled held_text IsHeld
    (chosen_reads (λ n. made (λ fields. (n.0, fields)) (fields_at n.1)) held_tag (λ c. values_text c.1) (λ c. AllByRecursion IsShownValue c.1)
    (number_reads 0 4294967295 (codes " \n") field_ends (omega arith) (omega arith) (omega arith)) (λ a fa. behind_version a fa.1))
    (λ c fc. sym (append_assoc (decimal c.0) (end_before c.1 ∷ []) (values_text c.1)))
    (λ c h. (omega (arith, h.0.0.1), h.1))
    (λ c h. (((omega arith, omega (arith, h.0)), is_field_end c.1), h.1))
