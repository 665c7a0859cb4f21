-- Items that a loop reads, one after the other.
use Rattle.std.proofs.Common.{◌≡◌, ℕ, ◌+◌, ◌<◌, ◌≤◌, true, false, not, eqb, List, [], ◌∷◌, ◌++◌, map, length, Result, Ok, Err, refl, sym, ap, subst, ◌∙◌, append_assoc, length-append, codes, arith}
use Rattle.std.proofs.lemmas.List.{append-nil}
use Rattle.fab_wire.specs.declared.stop.Stop.{Stop}
use Rattle.fab_wire.specs.declared.stop.Stop.TheVariants as stops
use Rattle.fab_wire.specs.Reading.{◌>>=◌, Fails, made, both}
use Rattle.fab_wire.proofs.ReaderLaws.{IsBytes, IsBytes-rest}
use Rattle.fab_wire.proofs.Loop.{with_front}
use Rattle.fab_reports.specs.declared.line.ShownValue.{ShownValue}
use Rattle.fab_reports.specs.declared.line.Line.{Line}
use Rattle.fab_reports.specs.declared.line.Line.TheVariants as l
use Rattle.fab_reports.specs.declared.place.Place.{Place}
use Rattle.fab_reports.specs.Reading.{exactly, value_at, fields_at, line_at, is_over, place_behind, first_place, lines_at, report_at}
use Rattle.fab_reports.proofs.Repeating.{all_items, one_more, one_wrong, is_over_then}
use Rattle.fab_reports.proofs.FieldLaws.{value_items}
use Rattle.fab_reports.proofs.Given.{exact_reads, small_bytes}
use Rattle.fab_reports.proofs.ReportLaws.{line_items, head_text}

front_more : {A : Type 0} (front : List A) (a : A) (r : Result (List A × List ℕ) ℕ) → with_front front (with_front (a ∷ []) r) ≡ with_front (front ++ a ∷ []) r
front_more {A = A} front a (Ok x) = ap (λ (xs : List A). Ok (xs, x.1)) (sym (append_assoc front (a ∷ []) x.0))
front_more front a (Err e) = refl

pub front_none : {A : Type 0} (r : Result (List A × List ℕ) ℕ) → with_front [] r ≡ r
front_none (Ok x) = refl
front_none (Err e) = refl

-- ---- the fields of an object

abbrev firsts : Result (List (ShownValue × ℕ) × List ℕ) ℕ → Result (List ShownValue × List ℕ) ℕ
firsts r = r >>= λ ps. Ok (map (λ (p : ShownValue × ℕ). p.0) ps.0, ps.1)

firsts_more : (p : ShownValue × ℕ) (r : Result (List (ShownValue × ℕ) × List ℕ) ℕ) → firsts (with_front (p ∷ []) r) ≡ with_front (p.0 ∷ []) (firsts r)
firsts_more p (Ok x) = refl
firsts_more p (Err e) = refl

abbrev values : ℕ → List ℕ → Result (List (ShownValue × ℕ) × List ℕ) ℕ
values e bytes = all_items (λ b. not (eqb b 32)) (λ b. value_at (codes " \n")) (λ b p. p.1) e bytes

pub field_on : (front : List ShownValue) (last : ℕ) (bytes : List ℕ) (x : ShownValue) (e : ℕ) (mid : List ℕ) (total : Result (List ShownValue × List ℕ) ℕ) → IsBytes bytes → last ≡ 32
    → value_at (codes " \n") bytes ≡ Ok ((x, e), mid) → with_front front (fields_at last bytes) ≡ total
    → (with_front (front ++ x ∷ []) (fields_at e mid) ≡ total) × (length mid < length bytes) × IsBytes mid
unfolding fields_at
field_on front last bytes x e mid total isb is h so_far =
    let going : not (eqb last 32) ≡ false = ap (λ (n : ℕ). not (eqb n 32)) is in
    let one = one_more value_items last bytes (x, e) mid isb going h in
    (sym (front_more front x (firsts (values e mid))) ∙ ap (with_front front) (sym (firsts_more (x, e) (values e mid)) ∙ ap firsts (sym one.0)) ∙ so_far, one.1, one.2)

pub field_wrong : (stop : Stop) (front : List ShownValue) (last : ℕ) (bytes : List ℕ) (total : Result (List ShownValue × List ℕ) ℕ) → IsBytes bytes → last ≡ 32
    → Fails stop (value_at (codes " \n") bytes) → with_front front (fields_at last bytes) ≡ total → Fails stop total
unfolding fields_at
field_wrong stops.Memory front last bytes total isb is h so_far = tt
field_wrong (stops.Bad left) front last bytes total isb is h so_far =
    let going : not (eqb last 32) ≡ false = ap (λ (n : ℕ). not (eqb n 32)) is in
    sym so_far ∙ ap (λ r. with_front front (firsts r)) (one_wrong value_items last bytes left isb going h)

pub fields_end : (front : List ShownValue) (last : ℕ) (bytes : List ℕ) (total : Result (List ShownValue × List ℕ) ℕ) → not (eqb last 32) ≡ true
    → with_front front (fields_at last bytes) ≡ total → total ≡ Ok (front, bytes)
unfolding fields_at
fields_end front last bytes total over so_far =
    sym so_far ∙ ap (λ r. with_front front (firsts r)) (is_over_then (λ b. not (eqb b 32)) (λ b. value_at (codes " \n")) (λ b p. p.1) last bytes over)
    ∙ ap (λ (xs : List ShownValue). Ok (xs, bytes)) (append-nil front)

-- ---- the lines of a report

pub line_on : (front : List Line) (p : Place) (bytes : List ℕ) (x : Line) (mid : List ℕ) (total : Result (List Line × List ℕ) ℕ) → IsBytes bytes → is_over p ≡ false
    → line_at p bytes ≡ Ok (x, mid) → with_front front (lines_at p bytes) ≡ total
    → (with_front (front ++ x ∷ []) (lines_at (place_behind p x) mid) ≡ total) × (length mid < length bytes) × IsBytes mid
unfolding lines_at
line_on front p bytes x mid total isb going h so_far =
    let one = one_more line_items p bytes x mid isb going h in
    (sym (front_more front x (all_items is_over line_at place_behind (place_behind p x) mid)) ∙ ap (with_front front) (sym one.0) ∙ so_far, one.1, one.2)

pub line_wrong : (stop : Stop) (front : List Line) (p : Place) (bytes : List ℕ) (total : Result (List Line × List ℕ) ℕ) → IsBytes bytes → is_over p ≡ false
    → Fails stop (line_at p bytes) → with_front front (lines_at p bytes) ≡ total → Fails stop total
unfolding lines_at
line_wrong stops.Memory front p bytes total isb going h so_far = tt
line_wrong (stops.Bad left) front p bytes total isb going h so_far =
    sym so_far ∙ ap (λ r. with_front front r) (one_wrong line_items p bytes left isb going h)

pub lines_end : (front : List Line) (p : Place) (bytes : List ℕ) (total : Result (List Line × List ℕ) ℕ) → is_over p ≡ true
    → with_front front (lines_at p bytes) ≡ total → total ≡ Ok (front, bytes)
unfolding lines_at
lines_end front p bytes total over so_far =
    sym so_far ∙ ap (λ r. with_front front r) (is_over_then is_over line_at place_behind p bytes over) ∙ ap (λ (xs : List Line). Ok (xs, bytes)) (append-nil front)

abbrev headed_by : Result (List ℕ × List ℕ) ℕ → Result (List Line × List ℕ) ℕ
headed_by r = made (λ (q : List ℕ × List Line). l.Head ∷ q.1) (both (λ (x : List ℕ). r) (lines_at first_place)) []

head_before : (r : Result (List Line × List ℕ) ℕ) (rest : List ℕ)
    → made (λ (q : List ℕ × List Line). l.Head ∷ q.1) (both (λ (x : List ℕ). Ok (head_text, rest)) (λ (x : List ℕ). r)) [] ≡ with_front (l.Head ∷ []) r
head_before (Ok x) rest = refl
head_before (Err e) rest = refl

-- one line more, at most one event and one commit more
pub counts_on : (p : Place) (x : Line) → ((place_behind p x).events ≤ p.events + 1) × ((place_behind p x).commits ≤ p.commits + 1)
counts_on p l.Head = (omega arith, omega arith)
counts_on p (l.Event number event) = (omega arith, omega arith)
counts_on p (l.Commit number commit) = (omega arith, omega arith)
counts_on p (l.Outcome outcome) = (omega arith, omega arith)
counts_on p (l.Object object) = (omega arith, omega arith)
counts_on p (l.End events) = (omega arith, omega arith)

-- behind the head
pub head_read : (bytes rest : List ℕ) → exactly head_text bytes ≡ Ok (head_text, rest) → with_front (l.Head ∷ []) (lines_at first_place rest) ≡ report_at bytes
unfolding report_at
head_read bytes rest h = sym (ap headed_by h ∙ head_before (lines_at first_place rest) rest)

-- the head takes bytes
pub head_shorter : (bytes rest : List ℕ) → IsBytes bytes → exactly head_text bytes ≡ Ok (head_text, rest) → (length rest ≤ length bytes) × IsBytes rest
head_shorter bytes rest isb h =
    let g = (exact_reads head_text (small_bytes head_text refl)).found bytes head_text rest isb h in
    (omega (arith, ap length g.0, length-append head_text rest), IsBytes-rest head_text rest (subst IsBytes g.0 isb))

pub head_wrong : (stop : Stop) (bytes : List ℕ) → Fails stop (exactly head_text bytes) → Fails stop (report_at bytes)
unfolding report_at
head_wrong stops.Memory bytes h = tt
head_wrong (stops.Bad left) bytes h = rw h refl
