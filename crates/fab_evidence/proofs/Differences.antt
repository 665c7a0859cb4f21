-- Where no line of two texts differs, they have the same lines; and of an audit's text some line isn't that of an event that may not come.
use Rattle.std.proofs.Common.{◌≡◌, ℕ, zero, suc, ◌/◌, ◌%◌, ◌<◌, ◌==◌, eqb, Bool, true, false, not, ◌&&◌, ◌||◌, cond, List, [], ◌∷◌, ◌++◌, map, take, Some, None, refl, sym, ap, subst, ◌∙◌, append_assoc, length, codes, arith}
use Rattle.std.proofs.lemmas.Bool.{and_from, and_parts, false≢true}
use Rattle.std.proofs.lemmas.Bool.Decides.{nat_tests}
use Rattle.std.proofs.lemmas.Grind.{flat_map-append}
use Rattle.std.proofs.lemmas.List.{append-nil, map-append, same_from_push}
use Rattle.std.proofs.lemmas.Slice.Eq.{bytes_eq-Decides}
use Rattle.std.specs.List.{flat_map, list_all}
use Rattle.std.specs.Fmt.{decimal, digit_glyph, digits, digits_onto}
use Rattle.std.specs.Prelude.{nat_lt}
use Rattle.std.specs.Str.{bytes_eq}
use Rattle.fab_base.specs.Tokens.{is_hex_digit}
use Rattle.fab_tree.specs.declared.resolved.Resolved.{Resolved}
use Rattle.fab_language.specs.Words.{hex, line, node_text, spaced}
use Rattle.fab_reports.specs.declared.line.ShownEvent.{ShownEvent}
use Rattle.fab_reports.specs.declared.line.ShownCommit.{ShownCommit}
use Rattle.fab_reports.specs.declared.line.ShownOutcome.{ShownOutcome}
use Rattle.fab_reports.specs.declared.line.ShownObject.{ShownObject}
use Rattle.fab_reports.specs.declared.line.Line.{Line}
use Rattle.fab_reports.specs.declared.line.Line.TheVariants as l
use Rattle.fab_reports.specs.Lines.{AreBytes, spelled_line}
use Rattle.fab_reports.specs.Reports.{IsReport, listed, numbered_commits, numbered_events}
use Rattle.fab_reports.proofs.Words.{glyph_is}
use Rattle.fab_evidence.specs.declared.shown.Difference.{Difference}
use Rattle.fab_evidence.specs.declared.shown.ShownJournal.{ShownJournal}
use Rattle.fab_evidence.specs.First.{Row, differ_at, first_from, lines_in, not_enabled, onto, row_of, rows_of, up_to_barred}
use Rattle.fab_evidence.specs.Texts.{AreOf, IsAuditText, behind, journal_line, journals_text}
use Rattle.fab_evidence.proofs.Lines.{ended_line, is_open}

-- ---- lines that are the same

pub same_none : (k : ℕ) (rows : List Row) → first_from k rows rows ≡ None
same_none k [] = refl
same_none k (x ∷ xs) = rw ((bytes_eq-Decides x.text x.text).1 refl) (same_none (suc k) xs)

-- the lines of rows
abbrev pub texts : List Row → List (List ℕ)
texts rows = map (λ (x : Row). x.text) rows

differ_some : (s t : Bool) (a b c : Difference) → cond s (Some a) (cond t (Some b) (Some c)) ≡ None → ⊥
differ_some true t a b c h = cc
differ_some false true a b c h = cc
differ_some false false a b c h = cc

pub none_texts : (k : ℕ) (xs ys : List Row) → first_from k xs ys ≡ None → texts xs ≡ texts ys
none_texts k [] [] h = refl
none_texts k [] (y ∷ ys) h = absurd cc
none_texts k (x ∷ xs) [] h = absurd cc
none_texts k (x ∷ xs) (y ∷ ys) h = by (λ more. none_texts (suc k) xs ys more) (bytes_eq x.text y.text) refl h
  where
    by : (first_from (suc k) xs ys ≡ None → texts xs ≡ texts ys) → (t : Bool) → bytes_eq x.text y.text ≡ t
        → cond t (first_from (suc k) xs ys)
        (cond (nat_lt y.kind x.kind) (differ_at k [] y.text) (cond (nat_lt x.kind y.kind) (differ_at k x.text []) (differ_at k x.text y.text))) ≡ None
        → x.text ∷ texts xs ≡ y.text ∷ texts ys
    by later true e more = ap (λ (text : List ℕ). text ∷ texts xs) ((bytes_eq-Decides x.text y.text).0 e) ∙ ap (λ (others : List (List ℕ)). y.text ∷ others) (later more)
    by later false e more = absurd (differ_some (nat_lt y.kind x.kind) (nat_lt x.kind y.kind) _ _ _ more)

row_texts : (lines : List (List ℕ)) → texts (map row_of lines) ≡ lines
row_texts [] = refl
row_texts (text ∷ lines) = ap (λ (others : List (List ℕ)). text ∷ others) (row_texts lines)

pub none_same : (k : ℕ) (a b : List ℕ) → first_from k (rows_of a) (rows_of b) ≡ None → lines_in a ≡ lines_in b
none_same k a b h = sym (row_texts (lines_in a)) ∙ none_texts k (rows_of a) (rows_of b) h ∙ row_texts (lines_in b)

-- ---- the last line of a text

abbrev are_digits : List ℕ → Bool
are_digits bytes = list_all is_hex_digit bytes

digit_open : (b : ℕ) → is_hex_digit b ≡ true → not (b == 10) ≡ true
digit_open b h = grind (arith, nat_tests)

digits_open : (bytes : List ℕ) → are_digits bytes ≡ true → is_open bytes ≡ true
digits_open [] h = refl
digits_open (b ∷ bytes) h = let p = and_parts (is_hex_digit b) (are_digits bytes) h in and_from (not (b == 10)) (is_open bytes) (digit_open b p.0) (digits_open bytes p.1)

-- a space, and digits of base 16 up to the end of the line
abbrev EndsSo : List ℕ → Type 0
EndsSo bytes = (front word : List ℕ) × (are_digits word ≡ true) × (bytes ≡ front ++ (32 ∷ line word))

so_behind : (a b : List ℕ) → EndsSo b → EndsSo (a ++ b)
so_behind a b h = (a ++ h.0, h.1, h.2, ap (λ (x : List ℕ). a ++ x) h.3 ∙ sym (append_assoc a h.0 (32 ∷ line h.1)))

-- these bytes are the end of the last line
abbrev LastEnds : List ℕ → List (List ℕ) → Type 0
LastEnds end lines = (others : List (List ℕ)) × (start : List ℕ) × (lines ≡ others ++ (start ++ end) ∷ [])

onto_last : (b : ℕ) (end : List ℕ) (lines : List (List ℕ)) → LastEnds end lines → LastEnds end (onto b lines)
onto_last b end lines ([], start, is) = ([], b ∷ start, ap (onto b) is)
onto_last b end lines (first ∷ others, start, is) = ((b ∷ first) ∷ others, start, ap (onto b) is)

last_ends : (front end : List ℕ) → is_open end ≡ true → LastEnds end (lines_in (front ++ line end))
last_ends [] end h = ([], [], ended_line end [] h)
last_ends (b ∷ front) end h = by (last_ends front end h) (b == 10)
  where
    by : LastEnds end (lines_in (front ++ line end)) → (t : Bool) → LastEnds end (cond t ([] ∷ lines_in (front ++ line end)) (onto b (lines_in (front ++ line end))))
    by later true = ([] ∷ later.0, later.1, ap (λ (lines : List (List ℕ)). [] ∷ lines) later.2)
    by later false = onto_last b end (lines_in (front ++ line end)) later

-- ---- how reports and journals end

number_digits : (k n : ℕ) (bytes : List ℕ) → are_digits bytes ≡ true → are_digits (digits_onto k 10 false n bytes) ≡ true
number_digits zero n bytes h = h
number_digits (suc k) n bytes h =
    let one : is_hex_digit (digit_glyph false (n % 10)) ≡ true = (glyph_is (n % 10) (omega arith)).0 in
    let more : are_digits (digit_glyph false (n % 10) ∷ bytes) ≡ true = and_from _ _ one h in
    elim (eqb (n / 10) 0) as (λ t. are_digits (cond t (digit_glyph false (n % 10) ∷ bytes) (digits_onto k 10 false (n / 10) (digit_glyph false (n % 10) ∷ bytes))) ≡ true) [
      | true ↦ more
      | false ↦ number_digits k (n / 10) (digit_glyph false (n % 10) ∷ bytes) more
    ]

decimal_digits : (n : ℕ) → are_digits (decimal n) ≡ true
unfolding digits
decimal_digits n = number_digits 64 n [] refl

hex_digits : (bytes : List ℕ) → AreBytes bytes → are_digits (hex bytes) ≡ true
hex_digits [] h = refl
hex_digits (b ∷ bytes) h =
    let small : b < 256 = h.0 in
    and_from _ _ (glyph_is (b / 16) (omega arith)).0 (and_from _ _ (glyph_is (b % 16) (omega arith)).0 (hex_digits bytes h.1))

-- a line whose last word is in such digits
word_last : (front word : List ℕ) → are_digits word ≡ true → EndsSo (line (front ++ spaced (word ∷ [])))
word_last front word h =
    (front, word, h, ap (λ (x : List ℕ). line (front ++ (32 ∷ x))) (append-nil word) ∙ append_assoc front (32 ∷ word) (10 ∷ []))

-- the lines of a report but the last
abbrev before_end : List ShownEvent → List ShownCommit → List ShownOutcome → List ShownObject → List Line
before_end events commits outcomes objects =
    l.Head ∷ (numbered_events 0 events ++ (numbered_commits 0 commits ++ (map l.Outcome outcomes ++ map l.Object objects)))

end_last : (events : List ShownEvent) (commits : List ShownCommit) (outcomes : List ShownOutcome) (objects : List ShownObject)
    → listed events commits outcomes objects ≡ before_end events commits outcomes objects ++ l.End (length events) ∷ []
end_last events commits outcomes objects =
    let end : List Line = l.End (length events) ∷ [] in
    ap (λ (ls : List Line). l.Head ∷ ls)
    (ap (λ (ls : List Line). numbered_events 0 events ++ ls)
    (ap (λ (ls : List Line). numbered_commits 0 commits ++ ls) (sym (append_assoc (map l.Outcome outcomes) (map l.Object objects) end))
    ∙ sym (append_assoc (numbered_commits 0 commits) (map l.Outcome outcomes ++ map l.Object objects) end))
    ∙ sym (append_assoc (numbered_events 0 events) (numbered_commits 0 commits ++ (map l.Outcome outcomes ++ map l.Object objects)) end))

end_ends : (n : ℕ) → EndsSo (spelled_line (l.End n) ++ [])
end_ends n = subst EndsSo (sym (append-nil (spelled_line (l.End n)))) (word_last (codes "end") (decimal n) (decimal_digits n))

report_end : (report : List ℕ) (lines : List Line) → IsReport report lines → EndsSo report
report_end report lines h =
    let front : List Line = before_end h.events h.commits h.outcomes h.objects in
    let split : report ≡ flat_map spelled_line front ++ (spelled_line (l.End (length h.events)) ++ []) =
    h.spelled ∙ ap (flat_map spelled_line) (h.order ∙ end_last h.events h.commits h.outcomes h.objects) ∙ flat_map-append spelled_line front (l.End (length h.events) ∷ []) in
    subst EndsSo (sym split) (so_behind (flat_map spelled_line front) (spelled_line (l.End (length h.events)) ++ []) (end_ends (length h.events)))

journal_end : (r : Resolved) (journal : ShownJournal) → AreBytes journal.bytes → EndsSo (journal_line r journal)
journal_end r journal h =
    let front : List ℕ = codes "journal" ++ (32 ∷ node_text r journal.node) in
    subst EndsSo
    (ap line (append_assoc (codes "journal") (32 ∷ node_text r journal.node) (spaced (hex journal.bytes ∷ []))))
    (word_last front (hex journal.bytes) (hex_digits journal.bytes h))

journals_end : (r : Resolved) (nodes front : List ℕ) (journals : List ShownJournal) → EndsSo front → AreOf nodes journals → EndsSo (front ++ journals_text r journals)
journals_end r nodes front [] ends are = subst EndsSo (sym (append-nil front)) ends
journals_end r nodes front (x ∷ xs) ends are =
    subst EndsSo (append_assoc front (journal_line r x) (journals_text r xs))
    (journals_end r (behind x.node nodes) (front ++ journal_line r x) xs (so_behind front (journal_line r x) (journal_end r x are.1)) are.2)

-- ---- what never stands there

-- somewhere a space, and such digits alone behind it
abbrev has_such : List ℕ → Bool
has_such [] = false
has_such (b ∷ bytes) = ((b == 32) && are_digits bytes) || has_such bytes

such_behind : (start word : List ℕ) → are_digits word ≡ true → has_such (start ++ (32 ∷ word)) ≡ true
such_behind [] word h = ap (λ (t : Bool). t || has_such word) h
such_behind (b ∷ start) word h = by (such_behind start word h) ((b == 32) && are_digits (start ++ (32 ∷ word)))
  where
    by : has_such (start ++ (32 ∷ word)) ≡ true → (t : Bool) → (t || has_such (start ++ (32 ∷ word))) ≡ true
    by later true = refl
    by later false = later

not_barred : (start word : List ℕ) → are_digits word ≡ true → start ++ (32 ∷ word) ≡ codes "not enabled" → ⊥
not_barred start word h e = false≢true (sym (ap has_such e) ∙ such_behind start word h)

-- no text of an audit has, as its last line, what is kept in the place of an event that may not come
pub never_barred : (r : Resolved) (nodes text : List ℕ) (lines : List Line) (journals : List ShownJournal) (k n : ℕ) (rows : List Row) → IsAuditText r nodes text lines journals
    → first_from k (rows_of text) (up_to_barred n rows) ≡ None → ⊥
never_barred r nodes text lines journals k n rows h none =
    let ends = subst EndsSo (sym h.spelled) (journals_end r nodes h.report journals (report_end h.report lines h.is) h.order) in
    let unended : is_open (32 ∷ ends.1) ≡ true = digits_open ends.1 ends.2 in
    let last = last_ends ends.0 (32 ∷ ends.1) unended in
    let same : last.0 ++ (last.1 ++ (32 ∷ ends.1)) ∷ [] ≡ texts (take n rows) ++ codes "not enabled" ∷ [] =
    sym (ap lines_in ends.3 ∙ last.2) ∙ sym (row_texts (lines_in text)) ∙ none_texts k (rows_of text) (up_to_barred n rows) none ∙ map-append (λ (x : Row). x.text) (take n rows) (not_enabled ∷ []) in
    not_barred last.1 ends.1 ends.2 (same_from_push last.0 (texts (take n rows)) (last.1 ++ (32 ∷ ends.1)) (codes "not enabled") same).1
