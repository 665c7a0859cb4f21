-- Where the report begins in a text: at the first line that is exactly its head.
use Rattle.std.specs.Prelude.{◌≡◌, ◌≤◌, ◌⊎◌, ℕ, List, [], ◌∷◌, ◌++◌, length, take, drop, codes, Option, Some, None}

abbrev pub head : List ℕ
head = codes "fab report 1"

-- a line begins behind this front of a text
abbrev pub IsLineStart : List ℕ → Type 0
IsLineStart front = (front ≡ []) ⊎ ((before : List ℕ) × (front ≡ before ++ 10 ∷ []))

-- the first line of these bytes is that one; the last line of a text may lack its line feed
abbrev pub BeginsReport : List ℕ → Type 0
BeginsReport bytes = (bytes ≡ head) ⊎ ((more : List ℕ) × (bytes ≡ head ++ 10 ∷ more))

-- the report stands behind this front, and the line at its head is the first such line
pub record IsParted (text bundle report : List ℕ) : Type 0 where
  pub cut : text ≡ bundle ++ report
  pub start : IsLineStart bundle
  pub begins : BeginsReport report
  pub first : (front rest : List ℕ) → text ≡ front ++ rest → IsLineStart front → BeginsReport rest → length bundle ≤ length front

-- no line of the text is that one
abbrev pub HasNoReport : List ℕ → Type 0
HasNoReport text = (front rest : List ℕ) → text ≡ front ++ rest → IsLineStart front → BeginsReport rest → ⊥

-- what is answered of a text: how many bytes stand in front of the report, or that there is none
abbrev pub IsPlace : List ℕ → Option ℕ → Type 0
IsPlace text (Some n) = (n ≤ length text) × IsParted text (take n text) (drop n text)
IsPlace text None = HasNoReport text
