-- Texts whose last byte ends a line: each is its lines. So are reports, and journals behind one, and they are told apart.
use Rattle.std.proofs.Common.{◌≡◌, ℕ, suc, ◌<◌, ◌≤◌, ◌==◌, Bool, true, false, cond, List, [], ◌∷◌, ◌++◌, map, length, refl, sym, ap, subst, ◌∙◌, append_assoc, length-append, codes, arith, inl, inr, ◌⊎◌}
use Rattle.std.proofs.lemmas.Bool.{eqb-true}
use Rattle.std.proofs.lemmas.List.{append-nil}
use Rattle.std.specs.Fmt.{decimal}
use Rattle.std.specs.List.{flat_map}
use Rattle.fab_tree.specs.declared.resolved.Resolved.{Resolved}
use Rattle.fab_language.specs.Words.{hex, line, node_text, spaced}
use Rattle.fab_rights.specs.declared.rights.Rights.{Rights}
use Rattle.fab_wire.proofs.ReaderLaws.{one_reading}
use Rattle.fab_reports.specs.declared.line.ShownEvent.{ShownEvent}
use Rattle.fab_reports.specs.declared.line.Line.{Line}
use Rattle.fab_reports.specs.declared.line.Line.TheVariants as l
use Rattle.fab_reports.specs.Lines.{shown_attempt, shown_ending, shown_event, shown_name, shown_value, spelled_line}
use Rattle.fab_reports.specs.Reports.{IsReport}
use Rattle.fab_reports.proofs.Listing.{are_reported}
use Rattle.fab_reports.proofs.ReportLaws.{report_reads}
use Rattle.fab_evidence.specs.declared.shown.ShownJournal.{ShownJournal}
use Rattle.fab_evidence.specs.First.{lines_in, onto}
use Rattle.fab_evidence.specs.Marks.{events_in, told_from, told_in}
use Rattle.fab_evidence.specs.Reading.{AreNamed}
use Rattle.fab_evidence.specs.Texts.{AreOf, IsAuditText, behind, journal_line, journals_text}
use Rattle.fab_evidence.proofs.Steps.{in_among, journal_reads, line_long, named_behind}

-- ---- texts that end with a line

abbrev pub IsEnded : List ℕ → Type 0
IsEnded bytes = (bytes ≡ []) ⊎ ((front : List ℕ) × (bytes ≡ line front))

pub ended_append : (a b : List ℕ) → IsEnded a → IsEnded b → IsEnded (a ++ b)
ended_append a b ended (inl none) = subst IsEnded (sym (ap (λ (x : List ℕ). a ++ x) none ∙ append-nil a)) ended
ended_append a b ended (inr (front, is)) = inr (a ++ front, ap (λ (x : List ℕ). a ++ x) is ∙ sym (append_assoc a front (10 ∷ [])))

pub each_ended : {A : Type 0} (text : A → List ℕ) → ((x : A) → IsEnded (text x)) → (xs : List A) → IsEnded (flat_map text xs)
each_ended text ended [] = inl refl
each_ended text ended (x ∷ xs) = ended_append (text x) (flat_map text xs) (ended x) (each_ended text ended xs)

-- lines, each with its line feed
abbrev joined : List (List ℕ) → List ℕ
joined = flat_map line

onto_first : (b : ℕ) (lines : List (List ℕ)) → 0 < length lines → joined (onto b lines) ≡ b ∷ joined lines
onto_first b [] some = absurd (omega arith)
onto_first b (first ∷ more) some = refl

some_line : (b : ℕ) (bytes : List ℕ) → 0 < length (lines_in (b ∷ bytes))
some_line b bytes = by (b == 10) (lines_in bytes)
  where
    by : (t : Bool) (lines : List (List ℕ)) → 0 < length (cond t ([] ∷ lines) (onto b lines))
    by true lines = omega arith
    by false [] = omega arith
    by false (first ∷ more) = omega arith

some_lines : (front : List ℕ) → 0 < length (lines_in (line front))
some_lines [] = some_line 10 []
some_lines (b ∷ front) = some_line b (line front)

line_joined : (front : List ℕ) → joined (lines_in (line front)) ≡ line front
line_joined [] = refl
line_joined (b ∷ front) = by (line_joined front) (b == 10) refl
  where
    by : joined (lines_in (line front)) ≡ line front → (t : Bool) → (b == 10) ≡ t → joined (cond t ([] ∷ lines_in (line front)) (onto b (lines_in (line front)))) ≡ b ∷ line front
    by later true e = ap (λ (c : ℕ). c ∷ joined (lines_in (line front))) (sym (eqb-true b 10 e)) ∙ ap (λ (x : List ℕ). b ∷ x) later
    by later false e = onto_first b (lines_in (line front)) (some_lines front) ∙ ap (λ (x : List ℕ). b ∷ x) later

-- such a text is its lines
pub its_lines : (bytes : List ℕ) → IsEnded bytes → joined (lines_in bytes) ≡ bytes
its_lines bytes (inl none) = ap (λ (x : List ℕ). joined (lines_in x)) none ∙ sym none
its_lines bytes (inr (front, is)) = ap (λ (x : List ℕ). joined (lines_in x)) is ∙ line_joined front ∙ sym is

pub one_text : (a b : List ℕ) → IsEnded a → IsEnded b → lines_in a ≡ lines_in b → a ≡ b
one_text a b ended other same = sym (its_lines a ended) ∙ ap joined same ∙ its_lines b other

-- ---- reports, and journals behind them

one_line : (x : Line) → (front : List ℕ) × (spelled_line x ≡ line front)
one_line l.Head = (codes "fab report 1", refl)
one_line (l.Event number event) = (codes "event" ++ spaced (decimal number ∷ shown_event event), refl)
one_line (l.Commit number c) = (codes "commit" ++ spaced (decimal number ∷ c.worker ∷ decimal c.request ∷ shown_attempt c.attempt ∷ []), refl)
one_line (l.Outcome x) = (codes "outcome" ++ spaced (x.worker ∷ decimal x.request ∷ shown_ending x.ending), refl)
one_line (l.Object x) = (codes "object" ++ spaced (x.store ∷ shown_name x.name ∷ x.class ∷ decimal x.version ∷ map shown_value x.fields), refl)
one_line (l.End count) = (codes "end" ++ spaced (decimal count ∷ []), refl)

pub lines_ended : (lines : List Line) → IsEnded (flat_map spelled_line lines)
lines_ended lines = each_ended spelled_line (λ x. inr (one_line x)) lines

pub report_ended : (report : List ℕ) (lines : List Line) → IsReport report lines → IsEnded report
report_ended report lines h = subst IsEnded (sym h.spelled) (lines_ended lines)

pub journals_ended : (r : Resolved) (journals : List ShownJournal) → IsEnded (journals_text r journals)
journals_ended r journals = each_ended (journal_line r) (λ x. inr (codes "journal" ++ spaced (node_text r x.node ∷ hex x.bytes ∷ []), refl)) journals

pub audit_ended : (r : Resolved) (nodes text : List ℕ) (lines : List Line) (journals : List ShownJournal) → IsAuditText r nodes text lines journals → IsEnded text
audit_ended r nodes text lines journals h =
    subst IsEnded (sym h.spelled) (ended_append h.report (journals_text r journals) (report_ended h.report lines h.is) (journals_ended r journals))

-- ---- how many lines, events and moves there are

few_spelled : (lines : List Line) → length lines ≤ length (flat_map spelled_line lines)
few_spelled [] = omega arith
few_spelled (x ∷ xs) =
    let one = one_line x in
    omega (arith, few_spelled xs, length-append (spelled_line x) (flat_map spelled_line xs), ap length one.1, length-append one.0 (10 ∷ []))

pub few_lines : (report : List ℕ) (lines : List Line) → IsReport report lines → length lines ≤ length report
few_lines report lines h = omega (arith, few_spelled lines, ap length h.spelled)

pub few_events : (lines : List Line) → length (events_in lines) ≤ length lines
few_events [] = omega arith
few_events (l.Head ∷ xs) = omega (arith, few_events xs)
few_events (l.Event number event ∷ xs) = omega (arith, few_events xs)
few_events (l.Commit number commit ∷ xs) = omega (arith, few_events xs)
few_events (l.Outcome x ∷ xs) = omega (arith, few_events xs)
few_events (l.Object x ∷ xs) = omega (arith, few_events xs)
few_events (l.End count ∷ xs) = omega (arith, few_events xs)

-- as many are told as there are events
pub all_told : (r : Resolved) (rights : Rights) (lines : List Line) (events : List ShownEvent) → length (told_from r rights lines events) ≡ length events
all_told r rights lines [] = refl
all_told r rights lines (x ∷ xs) = ap suc (all_told r rights lines xs)

pub few_told : (r : Resolved) (rights : Rights) (lines : List Line) → length (told_in r rights lines) ≤ length lines
few_told r rights lines = omega (arith, few_events lines, all_told r rights lines (events_in lines))

-- ---- what stands where

-- of two texts that are the same, each a report and what stands behind it, both parts are
pub one_split : (x y : List ℕ) (m n : List Line) (a b : List ℕ) → IsReport x m → IsReport y n → x ++ a ≡ y ++ b → (x ≡ y) × (a ≡ b)
one_split x y m n a b s t same =
    let one = one_reading report_reads m n a b (are_reported x m s) (are_reported y n t) (ap (λ (z : List ℕ). z ++ a) (sym s.spelled) ∙ same ∙ ap (λ (z : List ℕ). z ++ b) t.spelled) in
    (s.spelled ∙ ap (flat_map spelled_line) one.0 ∙ sym t.spelled, one.1)

pub one_journals : (r : Resolved) (nodes : List ℕ) (a b : List ShownJournal) → AreNamed r nodes → AreOf nodes a → AreOf nodes b → journals_text r a ≡ journals_text r b → a ≡ b
one_journals r nodes [] [] named of_a of_b same = refl
one_journals r nodes [] (y ∷ ys) named of_a of_b same =
    absurd (omega (arith, ap length same, length-append (journal_line r y) (journals_text r ys), line_long r y))
one_journals r nodes (x ∷ xs) [] named of_a of_b same =
    absurd (omega (arith, ap length same, length-append (journal_line r x) (journals_text r xs), line_long r x))
one_journals r nodes (x ∷ xs) (y ∷ ys) named of_a of_b same =
    let one = one_reading (journal_reads r nodes x.node (in_among x.node nodes of_a.0) named) x y (journals_text r xs) (journals_text r ys) (of_a.0, of_a.1) (of_b.0, of_b.1) same in
    ap (λ (z : ShownJournal). z ∷ xs) one.0
    ∙ ap (λ (zs : List ShownJournal). y ∷ zs)
    (one_journals r (behind x.node nodes) xs ys (named_behind r x.node nodes named) of_a.2 (subst (λ (z : ShownJournal). AreOf (behind z.node nodes) ys) (sym one.0) of_b.2) one.1)
