-- Where the report begins in a text: the search for it, a line at a time, and that there is one place at the most.
use Rattle.std.proofs.Common.{◌≡◌, ℕ, ◌+◌, ◌-◌, ◌≤◌, ◌<◌, ◌==◌, Bool, true, false, if◌then◌else◌, List, [], ◌∷◌, ◌++◌, length, take, drop, Some, refl, sym, ap, subst, ◌∙◌, ◌⊎◌, inl, inr, append_assoc, length-append, arith}
use Rattle.std.proofs.lemmas.Bool.{eqb-true, eq-eqb}
use Rattle.std.proofs.lemmas.List.{append-nil, append_cancel_left, nil_from_length}
use Rattle.std.proofs.Math.Seq.{drop-append_seam, take-append_seam}
use Rattle.fab_evidence.specs.Parts.{BeginsReport, HasNoReport, IsLineStart, IsParted, IsPlace, head}
use Rattle.fab_evidence.specs.Texts.{behind}

-- ---- two cuts of one text

-- what stands between them
between : (p q b c : List ℕ) → p ++ b ≡ q ++ c → length p ≤ length q → (y : List ℕ) × (q ≡ p ++ y) × (b ≡ y ++ c)
between [] q b c e le = (q, refl, e)
between (x ∷ p) [] b c e le = absurd (omega (arith, le))
between (x ∷ p) (z ∷ q) b c e le =
    let heads : x ≡ z = cc in
    let tails : p ++ b ≡ q ++ c = cc in
    let more = between p q b c tails (omega (arith, le)) in
    (more.0, ap (λ (l : List ℕ). z ∷ l) more.1 ∙ ap (λ (k : ℕ). k ∷ (p ++ more.0)) (sym heads), more.2)

one_cut : (p q b c : List ℕ) → p ++ b ≡ q ++ c → length p ≡ length q → (p ≡ q) × (b ≡ c)
one_cut p q b c e same =
    let more = between p q b c e (omega (arith, same)) in
    let none : more.0 ≡ [] = nil_from_length more.0 (omega (arith, same, ap length more.1, length-append p more.0)) in
    (sym (more.1 ∙ ap (λ (l : List ℕ). p ++ l) none ∙ append-nil p), more.2 ∙ ap (λ (l : List ℕ). l ++ c) none)

-- ---- what stands behind the first line

-- these bytes do, or no line feed ends it and there are none
abbrev Follows : List ℕ → List ℕ → Type 0
Follows bytes rest = (rest ≡ []) ⊎ ((line : List ℕ) × (bytes ≡ line ++ 10 ∷ rest))

follows : (bytes : List ℕ) → Follows bytes (behind 10 bytes)
follows [] = inl refl
follows (b ∷ bytes) = by (follows bytes) (b == 10) (eqb-true b 10)
  where
    by : Follows bytes (behind 10 bytes) → (t : Bool) → (t ≡ true → b ≡ 10) → Follows (b ∷ bytes) (if t then bytes else behind 10 bytes)
    by later true ends = inr ([], ap (λ (c : ℕ). c ∷ bytes) (ends refl))
    by (inl none) false ends = inl none
    by (inr (line, cut)) false ends = inr (b ∷ line, ap (λ (l : List ℕ). b ∷ l) cut)

-- no line begins farther in front
farthest : (bytes line more : List ℕ) → bytes ≡ line ++ 10 ∷ more → length more ≤ length (behind 10 bytes)
farthest [] line more cut = absurd (omega (arith, ap length cut, length-append line (10 ∷ more)))
farthest (b ∷ bytes) [] more cut =
    let ends : b ≡ 10 = cc in
    let same : bytes ≡ more = cc in
    let here : behind 10 (b ∷ bytes) ≡ bytes = ap (λ (t : Bool). if t then bytes else behind 10 bytes) (eq-eqb b 10 ends) in
    omega (arith, ap length same, ap length here)
farthest (b ∷ bytes) (c ∷ line) more cut =
    let tails : bytes ≡ line ++ 10 ∷ more = cc in
    by (farthest bytes line more tails) (omega (arith, ap length tails, length-append line (10 ∷ more))) (b == 10)
  where
    by : length more ≤ length (behind 10 bytes) → length more ≤ length bytes → (t : Bool) → length more ≤ length (if t then bytes else behind 10 bytes)
    by later within true = within
    by later within false = later

pub fewer_behind : (bytes : List ℕ) → 0 < length bytes → length (behind 10 bytes) < length bytes
fewer_behind bytes some = by (follows bytes)
  where
    by : Follows bytes (behind 10 bytes) → length (behind 10 bytes) < length bytes
    by (inl none) = omega (arith, some, ap length none)
    by (inr (line, cut)) = omega (arith, ap length cut, length-append line (10 ∷ behind 10 bytes))

-- ---- the head

pub begins_some : (bytes : List ℕ) → BeginsReport bytes → 0 < length bytes
begins_some bytes (inl is) = omega (arith, ap length is)
begins_some bytes (inr (more, is)) = omega (arith, ap length is)

-- the line at the head of bytes that begin with these words, and don't end there, is the head if a line feed follows
pub head_line : (bytes rest : List ℕ) (r : Bool) → bytes ≡ head ++ rest → 0 < length rest → (r ≡ true → rest ≡ 10 ∷ drop 1 rest) × ((more : List ℕ) → rest ≡ 10 ∷ more → r ≡ true)
    → (r ≡ true → BeginsReport bytes) × (BeginsReport bytes → r ≡ true)
head_line bytes rest r cut some starts = (λ e. inr (drop 1 rest, cut ∙ ap (λ (l : List ℕ). head ++ l) (starts.0 e)), by)
  where
    by : BeginsReport bytes → r ≡ true
    by (inl is) = absurd (omega (arith, some, ap length (sym is ∙ cut), length-append head rest))
    by (inr (more, is)) = starts.1 more (append_cancel_left head rest (10 ∷ more) (sym cut ∙ is))

-- ---- the search

-- A line begins at the bytes that are left, unless there are none, and no report begins in front of them.
pub record IsSought (text rest : List ℕ) : Type 0 where
  pub front : List ℕ
  pub cut : text ≡ front ++ rest
  pub start : (rest ≡ []) ⊎ IsLineStart front
  pub first : (before more : List ℕ) → text ≡ before ++ more → IsLineStart before → BeginsReport more → length more ≤ length rest

pub at_first : (text : List ℕ) → IsSought text text
at_first text = record {
  front = [];
  cut = refl;
  start = inr (inl refl);
  first = λ before more cut start begins. omega (arith, ap length cut, length-append before more);
}

-- a later front at which a line begins ends with a line feed
ended : (front between_them : List ℕ) → IsLineStart (front ++ between_them) → (between_them ≡ []) ⊎ ((line : List ℕ) × (between_them ≡ line ++ 10 ∷ []))
ended front [] start = inl refl
ended front (b ∷ more) (inl none) = absurd (omega (arith, ap length none, length-append front (b ∷ more)))
ended front (b ∷ more) (inr (before, is)) =
    let lengths : length front + length (b ∷ more) ≡ length before + 1 = omega (arith, ap length is, length-append front (b ∷ more), length-append before (10 ∷ [])) in
    let parts = between front before (b ∷ more) (10 ∷ []) is (omega (arith, lengths)) in
    inr (parts.0, parts.2)

module _ (text rest : List ℕ) (s : IsSought text rest) where
  -- where the line isn't the head
  pub one_line_on : (BeginsReport rest → ⊥) → IsSought text (behind 10 rest)
  one_line_on other = by (follows rest)
    where
      none_before : (before more : List ℕ) → text ≡ before ++ more → IsLineStart before → BeginsReport more → length more ≤ length (behind 10 rest)
      none_before before more cut start begins =
          let within = s.first before more cut start begins in
          let cuts : s.front ++ rest ≡ before ++ more = sym s.cut ∙ cut in
          let lengths : length s.front + length rest ≡ length before + length more = omega (arith, ap length cuts, length-append s.front rest, length-append before more) in
          let parts = between s.front before rest more cuts (omega (arith, lengths, within)) in
          elim (ended s.front parts.0 (subst IsLineStart parts.1 start)) [
            | inl none ↦ absurd (other (subst BeginsReport (sym (parts.2 ∙ ap (λ (l : List ℕ). l ++ more) none)) begins))
            | inr (line, is) ↦ farthest rest line more (parts.2 ∙ ap (λ (l : List ℕ). l ++ more) is ∙ append_assoc line (10 ∷ []) more)
          ]

      by : Follows rest (behind 10 rest) → IsSought text (behind 10 rest)
      by (inl none) = record {
        front = text;
        cut = sym (ap (λ (l : List ℕ). text ++ l) none ∙ append-nil text);
        start = inl none;
        first = none_before;
      }
      by (inr (line, cut)) = record {
        front = s.front ++ (line ++ 10 ∷ []);
        cut = s.cut ∙ ap (λ (l : List ℕ). s.front ++ l) (cut ∙ sym (append_assoc line (10 ∷ []) (behind 10 rest))) ∙ sym (append_assoc s.front (line ++ 10 ∷ []) (behind 10 rest));
        start = inr (inr (s.front ++ line, sym (append_assoc s.front line (10 ∷ []))));
        first = none_before;
      }

  abbrev Parted : ℕ → Type 0
  Parted n = IsParted text (take n text) (drop n text)

  -- where it is
  pub found : BeginsReport rest → IsPlace text (Some (length text - length rest))
  found begins = (omega arith, subst Parted at parted)
    where
      lengths : length text ≡ length s.front + length rest
      lengths = ap length s.cut ∙ length-append s.front rest

      at : length s.front ≡ length text - length rest
      at = omega (arith, lengths)

      bundle_is : take (length s.front) text ≡ s.front
      bundle_is = ap (λ (l : List ℕ). take (length s.front) l) s.cut ∙ take-append_seam s.front rest

      report_is : drop (length s.front) text ≡ rest
      report_is = ap (λ (l : List ℕ). drop (length s.front) l) s.cut ∙ drop-append_seam s.front rest

      started : (rest ≡ []) ⊎ IsLineStart s.front → IsLineStart s.front
      started (inl none) = absurd (omega (arith, ap length none, begins_some rest begins))
      started (inr start) = start

      at_front : IsParted text s.front rest
      at_front = record {
        cut = s.cut;
        start = started s.start;
        begins = begins;
        first = λ before more cut start others. omega (arith, lengths, s.first before more cut start others, ap length cut, length-append before more);
      }

      parted : Parted (length s.front)
      parted = subst (λ (l : List ℕ). IsParted text l (drop (length s.front) text)) (sym bundle_is) (subst (λ (l : List ℕ). IsParted text s.front l) (sym report_is) at_front)

  -- where no bytes are left
  pub none_left : rest ≡ [] → HasNoReport text
  none_left none before more cut start begins = omega (arith, ap length none, s.first before more cut start begins, begins_some more begins)

-- ---- one place at the most

pub one_parting : (text b x c y : List ℕ) → IsParted text b x → IsParted text c y → (b ≡ c) × (x ≡ y)
one_parting text b x c y h g =
    let least : length b ≤ length c = h.first c y g.cut g.start g.begins in
    let most : length c ≤ length b = g.first b x h.cut h.start h.begins in
    one_cut b c x y (sym h.cut ∙ g.cut) (omega (arith, least, most))

pub parted_has : (text b x : List ℕ) → IsParted text b x → HasNoReport text → ⊥
parted_has text b x h none = none b x h.cut h.start h.begins
