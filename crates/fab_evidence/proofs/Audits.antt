-- A report and the journals behind it are one text, read in one way, and it stops where the one or the other does.
use Rattle.std.proofs.Common.{◌≡◌, ℕ, suc, ◌+◌, ◌-◌, ◌<◌, ◌≤◌, List, [], ◌∷◌, ◌++◌, length, take, Ok, Err, refl, sym, ap, subst, ◌∙◌, append_assoc, length-append, arith, inl, inr}
use Rattle.std.proofs.lemmas.Bool.{cases_lt}
use Rattle.std.proofs.lemmas.List.{append-nil}
use Rattle.std.proofs.Math.Seq.{take-append-add, take-append_seam}
use Rattle.std.specs.List.{flat_map}
use Rattle.fab_tree.specs.declared.resolved.Resolved.{Resolved}
use Rattle.fab_wire.specs.Reading.{Fails}
use Rattle.fab_wire.specs.declared.stop.Stop.{Stop}
use Rattle.fab_wire.specs.declared.stop.Stop.TheVariants as stops
use Rattle.fab_wire.proofs.ReaderLaws.{IsBytes, IsBytes-rest, one_reading}
use Rattle.fab_reports.specs.declared.line.Line.{Line}
use Rattle.fab_reports.specs.Lines.{spelled_line}
use Rattle.fab_reports.specs.Reading.{report_at}
use Rattle.fab_reports.proofs.ReportLaws.{AreReported, report_reads}
use Rattle.fab_reports.proofs.Listing.{is_report, are_reported}
use Rattle.fab_evidence.specs.declared.shown.ShownJournal.{ShownJournal}
use Rattle.fab_evidence.specs.Reading.{AnswersJournals, AnswersText, AreJournals, AreNone}
use Rattle.fab_evidence.specs.Texts.{BeginsAuditText, IsAuditText, IsBadAudit, journals_text}

-- ---- the longest front with which something begins

past : (P : List ℕ → Type 0) (bytes front back : List ℕ) (n : ℕ) → bytes ≡ front ++ back → length front < n → n ≤ length front + length back → P (take n bytes)
    → ((b : ℕ) (rest tail : List ℕ) → back ≡ b ∷ rest → P (front ++ (b ∷ tail)) → ⊥) → ⊥
past P bytes front [] n cut lt le begins bad = omega arith
past P bytes front (b ∷ rest) n cut lt le begins bad =
    let k = n - length front - 1 in
    let is : n ≡ length front + suc k = omega arith in
    let taken : take n bytes ≡ front ++ (b ∷ take k rest) = ap (λ (x : List ℕ). take n x) cut ∙ ap (λ (i : ℕ). take i (front ++ (b ∷ rest))) is ∙ take-append-add front (b ∷ rest) (suc k) in
    bad b rest (take k rest) refl (subst P taken begins)

module _ (r : Resolved) (nodes : List ℕ) where
  abbrev Begins : List ℕ → Type 0
  Begins front = BeginsAuditText r nodes front

  bad_at : (text front back : List ℕ) (k : ℕ) → text ≡ front ++ back → length back ≡ k → Begins front
      → ((b : ℕ) (rest tail : List ℕ) → back ≡ b ∷ rest → Begins (front ++ (b ∷ tail)) → ⊥)
      → ((lines : List Line) (journals : List ShownJournal) → IsAuditText r nodes text lines journals → ⊥)
      → (k ≤ length text) × IsBadAudit r nodes text (length text - k)
  bad_at text front back k cut left begins bad unread =
      let all : length text ≡ length front + length back = ap length cut ∙ length-append front back in
      let at : length front ≡ length text - k = omega arith in
      let placed : IsBadAudit r nodes text (length front) = record {
        unread = unread;
        within = omega arith;
        begins = subst Begins (sym (ap (λ (x : List ℕ). take (length front) x) cut ∙ take-append_seam front back)) begins;
        longest = λ n le more_begins.
            elim (cases_lt (length front) n) [
              | inl lt ↦ absurd (past Begins text front back n cut lt (omega arith) more_begins bad)
              | inr le_front ↦ omega arith
            ];
      } in
      (omega arith, subst (λ (n : ℕ). IsBadAudit r nodes text n) at placed)

  -- ---- the report

  abbrev spelled : List Line → List ℕ
  spelled lines = flat_map spelled_line lines

  -- a text of an audit begins with its report
  report_first : (text : List ℕ) (lines : List Line) (journals : List ShownJournal) (h : IsAuditText r nodes text lines journals)
      → text ≡ spelled lines ++ journals_text r journals
  report_first text lines journals h = h.spelled ∙ ap (λ (x : List ℕ). x ++ journals_text r journals) h.is.spelled

  fits : (text : List ℕ) (lines : List Line) (journals : List ShownJournal) → IsAuditText r nodes text lines journals → AreReported lines
  fits text lines journals h = are_reported h.report lines h.is

  made_text : (text : List ℕ) (lines : List Line) (rest : List ℕ) (journals : List ShownJournal) → AreReported lines → text ≡ spelled lines ++ rest
      → AreJournals r nodes rest journals → IsAuditText r nodes text lines journals
  made_text text lines rest journals are cut h = record {
    report = spelled lines;
    is = is_report (spelled lines) lines are refl;
    order = h.order;
    spelled = cut ∙ ap (λ (x : List ℕ). spelled lines ++ x) h.spelled;
  }

  -- where the report stops, the text does
  pub stops_in_report : (text : List ℕ) (k : ℕ) → IsBytes text → report_at text ≡ Err k → (k ≤ length text) × IsBadAudit r nodes text (length text - k)
  stops_in_report text k are_bytes e =
      let s = report_reads.stops text k are_bytes e in
      bad_at text s.front s.back k s.cut s.left_is
      (record {
        more = s.more;
        lines = s.next;
        journals = [];
        whole = made_text (s.front ++ s.more) s.next [] [] s.next_fits (sym s.begins ∙ sym (append-nil (spelled s.next))) (record { order = tt; spelled = refl });
      })
      (λ b rest tail eb h.
      s.bad b rest (tail ++ h.more) eb h.lines (journals_text r h.journals) (fits _ h.lines h.journals h.whole)
      (sym (report_first _ h.lines h.journals h.whole) ∙ append_assoc s.front (b ∷ tail) h.more))
      (λ lines journals h.
      let again : report_at (spelled lines ++ journals_text r journals) ≡ Ok (lines, journals_text r journals) =
      report_reads.again lines (journals_text r journals) (fits text lines journals h) in
      let same : report_at text ≡ Ok (lines, journals_text r journals) = ap report_at (report_first text lines journals h) ∙ again in
      cc)

  -- ---- and behind it

  module _ (text : List ℕ) (are_bytes : IsBytes text) (lines : List Line) (rest : List ℕ) (is : report_at text ≡ Ok (lines, rest)) where
    read : (text ≡ spelled lines ++ rest) × AreReported lines
    read = report_reads.found text lines rest are_bytes is

    pub rest_bytes : IsBytes rest
    rest_bytes = IsBytes-rest (spelled lines) rest (subst IsBytes read.0 are_bytes)

    pub text_found : (journals : List ShownJournal) → AreJournals r nodes rest journals → IsAuditText r nodes text lines journals
    text_found journals h = made_text text lines rest journals read.1 read.0 h

    -- another text with this front has these lines, and the journals behind it
    lines_are : (all more : List ℕ) (m : List Line) (journals : List ShownJournal) → all ≡ spelled lines ++ more → IsAuditText r nodes all m journals
        → (m ≡ lines) × AreJournals r nodes more journals
    lines_are all more m journals cut h =
        let one = one_reading report_reads m lines (journals_text r journals) more (fits all m journals h) read.1 (sym (report_first all m journals h) ∙ cut) in
        (one.0, record { order = h.order; spelled = sym one.1 })

    pub text_only : (m : List Line) (journals : List ShownJournal) → IsAuditText r nodes text m journals → (m ≡ lines) × AreJournals r nodes rest journals
    text_only m journals h = lines_are text rest m journals read.0 h

    pub stops_behind : (k : ℕ) → AreNone r nodes rest k → (k ≤ length text) × IsBadAudit r nodes text (length text - k)
    stops_behind k h =
        bad_at text (spelled lines ++ h.front) h.back k (read.0 ∙ ap (λ (x : List ℕ). spelled lines ++ x) h.cut ∙ sym (append_assoc (spelled lines) h.front h.back)) h.left_is
        (record {
          more = h.more;
          lines = lines;
          journals = h.next;
          whole = made_text ((spelled lines ++ h.front) ++ h.more) lines (h.front ++ h.more) h.next read.1 (append_assoc (spelled lines) h.front h.more) h.begins;
        })
        (λ b others tail eb g.
        let cut : ((spelled lines ++ h.front) ++ (b ∷ tail)) ++ g.more ≡ spelled lines ++ (h.front ++ (b ∷ (tail ++ g.more))) =
        ap (λ (x : List ℕ). x ++ g.more) (append_assoc (spelled lines) h.front (b ∷ tail))
        ∙ append_assoc (spelled lines) (h.front ++ (b ∷ tail)) g.more
        ∙ ap (λ (x : List ℕ). spelled lines ++ x) (append_assoc h.front (b ∷ tail) g.more) in
        h.bad b others (tail ++ g.more) g.journals eb (lines_are _ _ g.lines g.journals cut g.whole).1)
        (λ m journals g. h.unread journals (text_only m journals g).1)

  -- ---- what reading answers

  pub stop_first : (stop : Stop) (text : List ℕ) → IsBytes text → Fails stop (report_at text) → AnswersText r nodes text (Err stop)
  stop_first stops.Memory text are_bytes e = tt
  stop_first (stops.Bad k) text are_bytes e = stops_in_report text k are_bytes e

  pub stop_behind : (stop : Stop) (text : List ℕ) → IsBytes text → (lines : List Line) (rest : List ℕ) → report_at text ≡ Ok (lines, rest)
      → AnswersJournals r nodes rest (Err stop) → AnswersText r nodes text (Err stop)
  stop_behind stops.Memory text are_bytes lines rest is h = tt
  stop_behind (stops.Bad k) text are_bytes lines rest is h = stops_behind text are_bytes lines rest is k h

  pub both_read : (text : List ℕ) → IsBytes text → (lines : List Line) (rest : List ℕ) → report_at text ≡ Ok (lines, rest)
      → (journals : List ShownJournal) → AnswersJournals r nodes rest (Ok journals) → AnswersText r nodes text (Ok (record { lines = lines; journals = journals }))
  both_read text are_bytes lines rest is journals h = (
    text_found text are_bytes lines rest is journals h.0,
    λ m others g. let one = text_only text are_bytes lines rest is m others g in (one.0, h.1 others one.1),
  )
