-- The first line of a text that isn't what belongs there.
use Rattle.std.specs.Prelude.{ℕ, suc, ◌==◌, nat_lt, List, [], ◌∷◌, ◌++◌, Option, Some, None, codes, map, take, if◌then◌else◌}
use Rattle.std.specs.List.{starts_with}
use Rattle.std.specs.Str.{bytes_eq}
use Rattle.fab_evidence.specs.declared.shown.Difference.{Difference}

-- ---- lines and their kinds

abbrev pub onto : ℕ → List (List ℕ) → List (List ℕ)
onto b [] = (b ∷ []) ∷ []
onto b (first ∷ more) = (b ∷ first) ∷ more

-- the lines of bytes, each without the line feed that ends it
abbrev pub lines_in : List ℕ → List (List ℕ)
lines_in [] = []
lines_in (b ∷ bytes) = if b == 10 then [] ∷ lines_in bytes else onto b (lines_in bytes)

-- the first words of lines, in the order in which the lines of an audit stand
abbrev pub first_words : List (List ℕ)
first_words = codes "fab" ∷ codes "event" ∷ codes "commit" ∷ codes "outcome" ∷ codes "object" ∷ codes "end" ∷ codes "journal" ∷ []

-- the place of the word with which a line begins, behind so many
abbrev pub place_from : ℕ → List (List ℕ) → List ℕ → ℕ
place_from k [] text = k
place_from k (word ∷ words) text = if starts_with (λ a b. a == b) text word then k else place_from (suc k) words text

-- a line's kind
abbrev pub kind_of : List ℕ → ℕ
kind_of text = place_from 0 first_words text

-- a line, with its kind
pub record Row : Type 0 where
  pub kind : ℕ
  pub text : List ℕ

abbrev pub row_of : List ℕ → Row
row_of text = record { kind = kind_of text; text = text }

abbrev pub rows_of : List ℕ → List Row
rows_of text = map row_of (lines_in text)

-- what is kept in the place of an event that may not come
abbrev pub not_enabled : Row
not_enabled = record { kind = kind_of (codes "event"); text = codes "not enabled" }

-- so many lines, and then such an event
abbrev pub up_to_barred : ℕ → List Row → List Row
up_to_barred n rows = take n rows ++ not_enabled ∷ []

-- ---- the first difference

abbrev pub differ_at : ℕ → List ℕ → List ℕ → Option Difference
differ_at line found kept = Some (record { line = line; found = found; kept = kept })

-- The first line of the text that isn't so, from this number on, beside the lines that belong there. Where lines of one kind stand, these are what
-- is found and what is kept. A line of a kind that comes later leaves out the one that belongs there, and one of an earlier kind belongs nowhere.
abbrev pub first_from : ℕ → List Row → List Row → Option Difference
first_from line [] [] = None
first_from line [] (y ∷ ys) = differ_at line [] y.text
first_from line (x ∷ xs) [] = differ_at line x.text []
first_from line (x ∷ xs) (y ∷ ys) =
    if bytes_eq x.text y.text then first_from (suc line) xs ys
    else if nat_lt y.kind x.kind then differ_at line [] y.text
    else if nat_lt x.kind y.kind then differ_at line x.text []
    else differ_at line x.text y.text
