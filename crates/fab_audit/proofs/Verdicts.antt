-- What an audit's text says is one thing: it is right exactly where none of its lines is wrong.
use Rattle.std.specs.Prelude.{◌≡◌, ℕ, suc, ◌+◌, ◌≤◌, ◌==◌, Bool, true, false, List, [], ◌∷◌, ◌++◌, map, length, Some, None, Result, Ok, Err, if◌then◌else◌}
use Rattle.std.specs.List.{AllByRecursion, list_any}
use Rattle.std.proofs.Common.{refl, sym, ap, ◌∙◌, subst, arith, inl, inr, length-append}
use Rattle.std.proofs.lemmas.Bool.{eq-eqb, eqb-true}
use Rattle.fab_tree.specs.declared.resolved.Resolved.{Resolved}
use Rattle.fab_rights.specs.declared.rights.Rights.{Rights}
use Rattle.fab_world.specs.Machine.{Move, at_start}
use Rattle.fab_world.specs.Serial.{IsRun}
use Rattle.fab_settings.specs.Settings.{setting_of}
use Rattle.fab_reports.specs.declared.line.Line.{Line}
use Rattle.fab_reports.specs.Lines.{AreBytes}
use Rattle.fab_reports.specs.Reports.{IsReport}
use Rattle.fab_reports.proofs.Wholes.{one_report}
use Rattle.fab_shown.specs.Shown.{lines_of, report_of}
use Rattle.fab_shown.proofs.Shown.{read_back}
use Rattle.fab_evidence.specs.declared.shown.Difference.{Difference}
use Rattle.fab_evidence.specs.declared.shown.ShownJournal.{ShownJournal}
use Rattle.fab_evidence.specs.First.{Row, first_from, rows_of, up_to_barred}
use Rattle.fab_evidence.specs.Marks.{told_in}
use Rattle.fab_evidence.specs.Reading.{AreNamed}
use Rattle.fab_evidence.specs.Texts.{AreOf, IsAuditText, IsBadAudit, behind, journals_text}
use Rattle.fab_evidence.proofs.Differences.{never_barred, none_same, same_none}
use Rattle.fab_evidence.proofs.Texts.{audit_ended, ended_append, few_lines, few_told, journals_ended, one_journals, one_split, one_text, report_ended}
use Rattle.fab_audit.specs.Auditing.{AreSame, IsAudit, IsBundle}
use Rattle.fab_audit.specs.Right.{IsKept, IsRight, IsWrong, Says, first_wrong, journal_behind, kept_journal, kept_rows, kept_text}
use Rattle.fab_audit.specs.Runs.{front_of, has_failed, honest_nodes}
use Rattle.fab_audit.specs.declared.verdict.Verdict.{Verdict}
use Rattle.fab_audit.specs.declared.verdict.Verdict.TheVariants as v
use Rattle.fab_audit.specs.declared.verdict.AuditError.{AuditError}
use Rattle.fab_audit.specs.declared.verdict.AuditError.TheVariants as e
use Rattle.fab_audit.proofs.Fronts.{all_long, front_runs, long_front, run_front}

-- ---- journals that are shown, and those that belong there

module _ (r : Resolved) (rights : Rights) (moves : List Move) where
  abbrev Chosen : ShownJournal → Bool → ShownJournal
  Chosen journal failed = if failed then journal else record { node = journal.node; bytes = journal_behind r rights moves journal.node }

  kept_by : (journal : ShownJournal) (failed : Bool) → has_failed moves journal.node ≡ failed → IsKept r rights moves journal → Chosen journal failed ≡ journal
  kept_by journal true e h = refl
  kept_by journal false e h = ap (λ bytes. record { node = journal.node; bytes = bytes }) (sym (h e))

  all_kept : (journals : List ShownJournal) → AllByRecursion (IsKept r rights moves) journals → map (kept_journal r rights moves) journals ≡ journals
  all_kept [] h = refl
  all_kept (journal ∷ more) h =
      ap (λ x. x ∷ map (kept_journal r rights moves) more) (kept_by journal (has_failed moves journal.node) refl h.0) ∙ ap (λ xs. journal ∷ xs) (all_kept more h.1)

  keeps_by : (journal : ShownJournal) (failed : Bool) → has_failed moves journal.node ≡ failed → Chosen journal failed ≡ journal → IsKept r rights moves journal
  keeps_by journal true e k = λ unfailed. absurd (let both : true ≡ false = sym e ∙ unfailed in cc)
  keeps_by journal false e k = λ unfailed. sym (ap (λ (x : ShownJournal). x.bytes) k)

  first_same : (x y : ShownJournal) (xs ys : List ShownJournal) → x ∷ xs ≡ y ∷ ys → x ≡ y
  first_same x y xs ys e = cc

  rest_same : (x y : ShownJournal) (xs ys : List ShownJournal) → x ∷ xs ≡ y ∷ ys → xs ≡ ys
  rest_same x y xs ys e = cc

  keeps_all : (journals : List ShownJournal) → map (kept_journal r rights moves) journals ≡ journals → AllByRecursion (IsKept r rights moves) journals
  keeps_all [] e = tt
  keeps_all (journal ∷ more) e =
      let kept = map (kept_journal r rights moves) more in (
        keeps_by journal (has_failed moves journal.node) refl (first_same (kept_journal r rights moves journal) journal kept more e),
        keeps_all more (rest_same (kept_journal r rights moves journal) journal kept more e),
      )

  node_by : (journal : ShownJournal) (failed : Bool) → (Chosen journal failed).node ≡ journal.node
  node_by journal true = refl
  node_by journal false = refl

  -- they are of the same nodes
  kept_of : (nodes : List ℕ) (journals : List ShownJournal) → AreOf nodes journals → AllByRecursion (λ j. AreBytes (kept_journal r rights moves j).bytes) journals
      → AreOf nodes (map (kept_journal r rights moves) journals)
  kept_of nodes [] of bytes = tt
  kept_of nodes (journal ∷ more) of bytes =
      let kept = kept_journal r rights moves journal in
      let same : journal.node ≡ kept.node = sym (node_by journal (has_failed moves journal.node)) in (
        subst (λ (n : ℕ). list_any (λ m. m == n) nodes ≡ true) same of.0,
        bytes.0,
        subst (λ (n : ℕ). AreOf (behind n nodes) (map (kept_journal r rights moves) more)) same (kept_of (behind journal.node nodes) more of.2 bytes.1),
      )

-- ---- of an accepted bundle

module _ (r : Resolved) (rights : Rights) (b : IsBundle r rights) (named : AreNamed r (honest_nodes r rights)) where
  -- what is printed of a run of it is a report
  reported : (moves : List Move) → IsRun (setting_of r rights) moves → IsReport (report_of r rights moves) (lines_of r rights moves)
  reported moves run =
      subst (λ (p : Resolved). IsReport (report_of p rights moves) (lines_of p rights moves)) b.numbers
      (read_back b.text b.tokens b.start rights moves b.cut b.spelled b.accepted (subst (λ (p : Resolved). IsRun (setting_of p rights) moves) (sym b.numbers) run))

  -- a text of an audit is of one list of lines, and of one of journals
  one_audit : (text : List ℕ) (l m : List Line) (i j : List ShownJournal) → IsAuditText r (honest_nodes r rights) text l i → IsAuditText r (honest_nodes r rights) text m j
      → (l ≡ m) × (i ≡ j)
  one_audit text l m i j x y =
      let s = one_split x.report y.report l m (journals_text r i) (journals_text r j) x.is y.is (sym x.spelled ∙ y.spelled) in
      (one_report x.report l m x.is (subst (λ t. IsReport t m) (sym s.0) y.is), one_journals r (honest_nodes r rights) i j named x.order y.order s.1)

  -- what belongs in the places of the lines, as all events come or not
  abbrev Rows : List Line → List ShownJournal → Bool → List Row
  Rows lines journals all =
      let front = front_of r rights lines in
      if all then rows_of (kept_text r rights front journals) else up_to_barred (suc (length front)) (rows_of (report_of r rights front))

  abbrev AllCome : List Line → Bool
  AllCome lines = length (front_of r rights lines) == length (told_in r rights lines)

  -- ---- no line of a right text is wrong

  right_first : (text : List ℕ) (x : IsRight r rights text) → first_wrong r rights text x.lines x.journals ≡ None
  right_first text x =
      let S = setting_of r rights in
      let front : front_of r rights x.lines ≡ x.moves = run_front S (at_start S) (told_in r rights x.lines) x.moves x.told x.run.enabled in
      let long : length (front_of r rights x.lines) ≡ length (told_in r rights x.lines) = ap length front ∙ all_long (told_in r rights x.lines) x.moves x.told in
      let kept : kept_text r rights x.moves x.journals ≡ text =
      ap (λ js. report_of r rights x.moves ++ journals_text r js) (all_kept r rights x.moves x.journals x.kept) ∙ ap (λ t. t ++ journals_text r x.journals) (sym x.reported)
      ∙ sym x.form.spelled in
      let rows : kept_rows r rights x.lines x.journals ≡ rows_of text =
      ap (Rows x.lines x.journals) (eq-eqb (length (front_of r rights x.lines)) (length (told_in r rights x.lines)) long)
      ∙ ap (λ m. rows_of (kept_text r rights m x.journals)) front ∙ ap rows_of kept in
      ap (first_from 1 (rows_of text)) rows ∙ same_none 1 (rows_of text)

  -- ---- a text of which no line is wrong is right

  module _ (text : List ℕ) (lines : List Line) (journals : List ShownJournal) (few : length text ≤ 4194304)
      (form : IsAuditText r (honest_nodes r rights) text lines journals) where
    abbrev front : List Move
    front = front_of r rights lines

    few_come : length (told_in r rights lines) ≤ 4000000000
    few_come =
        let told = few_told r rights lines in
        let line = few_lines form.report lines form.is in
        let all : length text ≡ length form.report + length (journals_text r journals) = ap length form.spelled ∙ length-append form.report (journals_text r journals) in
        omega (arith, told, line, all, few)

    runs : IsRun (setting_of r rights) front
    runs = front_runs (setting_of r rights) (told_in r rights lines) few_come

    all_right : AllCome lines ≡ true → AllByRecursion (λ j. AreBytes (kept_journal r rights front j).bytes) journals
        → first_from 1 (rows_of text) (rows_of (kept_text r rights front journals)) ≡ None → IsRight r rights text
    all_right all bytes none =
        let S = setting_of r rights in
        let kept = map (kept_journal r rights front) journals in
        let told = long_front S (at_start S) (told_in r rights lines) (eqb-true _ _ all) in
        let is = reported front runs in
        let ended = ended_append (report_of r rights front) (journals_text r kept) (report_ended (report_of r rights front) (lines_of r rights front) is) (journals_ended r kept) in
        let same = one_text text (kept_text r rights front journals) (audit_ended r (honest_nodes r rights) text lines journals form) ended
        (none_same 1 text (kept_text r rights front journals) none) in
        let s = one_split form.report (report_of r rights front) lines (lines_of r rights front) (journals_text r journals) (journals_text r kept) form.is is (sym form.spelled ∙ same) in
        let are = one_journals r (honest_nodes r rights) journals kept named form.order (kept_of r rights front (honest_nodes r rights) journals form.order bytes) s.1 in
        record { lines = lines; journals = journals; moves = front; form = form; told = told; run = runs; reported = s.0; kept = keeps_all r rights front journals (sym are) }

    right_by : (all : Bool) → AllCome lines ≡ all → (all ≡ true → AllByRecursion (λ j. AreBytes (kept_journal r rights front j).bytes) journals)
        → first_from 1 (rows_of text) (Rows lines journals all) ≡ None → IsRight r rights text
    right_by true e bytes none = all_right e (bytes refl) none
    right_by false e bytes none =
        absurd (never_barred r (honest_nodes r rights) text lines journals 1 (suc (length front)) (rows_of (report_of r rights front)) form none)

    pub first_right : (AllCome lines ≡ true → AllByRecursion (λ j. AreBytes (kept_journal r rights front j).bytes) journals)
        → first_wrong r rights text lines journals ≡ None → IsRight r rights text
    first_right bytes none = right_by (AllCome lines) refl bytes none

  -- ---- one answer

  right_wrong : {A : Type 0} (text : List ℕ) (d : Difference) → IsRight r rights text → IsWrong r rights text d → A
  right_wrong text d x y =
      let s = one_audit text x.lines y.lines x.journals y.journals x.form y.form in
      let none : None ≡ Some d = sym (right_first text x) ∙ ap (λ l. first_wrong r rights text l x.journals) s.0 ∙ ap (first_wrong r rights text y.lines) s.1 ∙ y.first in
      absurd (cc)

  wrong_wrong : (text : List ℕ) (d f : Difference) → IsWrong r rights text d → IsWrong r rights text f → d ≡ f
  wrong_wrong text d f x y =
      let s = one_audit text x.lines y.lines x.journals y.journals x.form y.form in
      let same : Some d ≡ Some f = sym x.first ∙ ap (λ l. first_wrong r rights text l x.journals) s.0 ∙ ap (first_wrong r rights text y.lines) s.1 ∙ y.first in
      cc

  bad_bad : (text : List ℕ) (m n : ℕ) → IsBadAudit r (honest_nodes r rights) text m → IsBadAudit r (honest_nodes r rights) text n → m ≡ n
  bad_bad text m n x y =
      let up = x.longest n y.within y.begins in
      let down = y.longest m x.within x.begins in
      omega (arith, up, down)

  only_says : (text : List ℕ) (result x : Result Verdict AuditError) → Says r rights text result → Says r rights text x → AreSame x result
  only_says text (Err e.Memory) x s t = inr (inl refl)
  only_says text result (Err e.Memory) s t = inl refl
  only_says text (Ok v.Right) (Ok v.Right) s t = inr (inr refl)
  only_says text (Ok v.Right) (Ok (v.Wrong d)) s t = right_wrong text d s t
  only_says text (Ok v.Right) (Err (e.Trace at)) s t = absurd (t.unread s.lines s.journals s.form)
  only_says text (Ok (v.Wrong d)) (Ok v.Right) s t = right_wrong text d t s
  only_says text (Ok (v.Wrong d)) (Ok (v.Wrong f)) s t = inr (inr (ap (λ x. Ok (v.Wrong x)) (wrong_wrong text d f s t)))
  only_says text (Ok (v.Wrong d)) (Err (e.Trace at)) s t = absurd (t.unread s.lines s.journals s.form)
  only_says text (Err (e.Trace at)) (Ok v.Right) s t = absurd (s.unread t.lines t.journals t.form)
  only_says text (Err (e.Trace at)) (Ok (v.Wrong d)) s t = absurd (s.unread t.lines t.journals t.form)
  only_says text (Err (e.Trace at)) (Err (e.Trace before)) s t = inr (inr (ap (λ n. Err (e.Trace n)) (bad_bad text at before s t)))

  pub audited : (text : List ℕ) (result : Result Verdict AuditError) → Says r rights text result → IsAudit r rights text result
  audited text result says = record { says = says; only = λ x. only_says text result x says }
