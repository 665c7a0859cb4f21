-- Worked examples of where the report begins in a text.
use Rattle.std.proofs.Common.{ℕ, List, [], ◌∷◌, get_or, reverse, Some, None, inl, inr, refl, ap, ◌∙◌, codes, arith}
use Rattle.std.proofs.lemmas.List.{reverse-append}
use Rattle.fab_evidence.specs.Parts.{BeginsReport, HasNoReport, IsLineStart, IsPlace}
use Rattle.fab_evidence.proofs.Parts.{at_first, found, none_left, one_line_on, one_parting}

-- ---- lines

behind_a_line : IsLineStart (codes "node w\n")
behind_a_line = inr (codes "node w", refl)

-- in the midst of a line none begins
in_the_midst : IsLineStart (codes "x ") → ⊥
in_the_midst (inl none) = absurd cc
in_the_midst (inr (before, is)) = omega (arith, ap (λ (l : List ℕ). get_or l 0 0) (ap reverse is ∙ reverse-append before (10 ∷ [])))

with_lines_behind : BeginsReport (codes "fab report 1\nend 0\n")
with_lines_behind = inr (codes "end 0\n", refl)

-- at the end of a text the line feed may lack
cut_short : BeginsReport (codes "fab report 1")
cut_short = inl refl

-- a longer line with the head in front, one with a blank at its end, and one with a carriage return
longer : BeginsReport (codes "fab report 10\n") → ⊥
longer (inl is) = omega (arith, ap (λ (l : List ℕ). get_or l 12 0) is)
longer (inr (more, is)) = omega (arith, ap (λ (l : List ℕ). get_or l 12 0) is)

with_a_blank : BeginsReport (codes "fab report 1 \n") → ⊥
with_a_blank (inl is) = omega (arith, ap (λ (l : List ℕ). get_or l 12 0) is)
with_a_blank (inr (more, is)) = omega (arith, ap (λ (l : List ℕ). get_or l 12 0) is)

with_a_return : BeginsReport (codes "fab report 1\r\n") → ⊥
with_a_return (inl is) = omega (arith, ap (λ (l : List ℕ). get_or l 12 0) is)
with_a_return (inr (more, is)) = omega (arith, ap (λ (l : List ℕ). get_or l 12 0) is)

-- and a shorter one
shorter : BeginsReport (codes "fab report\n") → ⊥
shorter (inl is) = omega (arith, ap (λ (l : List ℕ). get_or l 10 0) is)
shorter (inr (more, is)) = omega (arith, ap (λ (l : List ℕ). get_or l 10 0) is)

-- ---- texts

abbrev text : List ℕ
text = codes "node w\nfab report 1\nend 0\n"

node_first : BeginsReport text → ⊥
node_first (inl is) = omega (arith, ap (λ (l : List ℕ). get_or l 0 0) is)
node_first (inr (more, is)) = omega (arith, ap (λ (l : List ℕ). get_or l 0 0) is)

behind_a_bundle : IsPlace text (Some 7)
behind_a_bundle = found text (codes "fab report 1\nend 0\n") (one_line_on text text (at_first text) node_first) with_lines_behind

-- there is one, so "none" is wrong, and so is another place
has_one : IsPlace text None → ⊥
has_one none = none (codes "node w\n") (codes "fab report 1\nend 0\n") refl behind_a_line with_lines_behind

elsewhere : IsPlace text (Some 20) → ⊥
elsewhere h = let one = one_parting text _ _ _ _ behind_a_bundle.1 h.1 in omega (arith, ap (λ (l : List ℕ). get_or l 7 0) one.0)

-- of two such lines it is the first
abbrev twice : List ℕ
twice = codes "fab report 1\nfab report 1\n"

at_the_first : IsPlace twice (Some 0)
at_the_first = found twice twice (at_first twice) (inr (codes "fab report 1\n", refl))

at_the_second : IsPlace twice (Some 13) → ⊥
at_the_second h = omega (arith, h.1.first [] twice refl (inl refl) (inr (codes "fab report 1\n", refl)))

-- the head in the midst of a line
midst : IsPlace (codes "x fab report 1\n") (Some 2) → ⊥
midst h = in_the_midst h.1.start

-- no bytes, and no line that is the head
nothing : HasNoReport []
nothing = none_left [] [] (at_first []) refl

only_longer : HasNoReport (codes "fab report 10\n")
only_longer = none_left (codes "fab report 10\n") [] (one_line_on (codes "fab report 10\n") (codes "fab report 10\n") (at_first (codes "fab report 10\n")) longer) refl
