-- Reading the text of an audit from left to right.
use Rattle.std.specs.Prelude.{◌≡◌, ◌≤◌, ◌-◌, ℕ, List, [], ◌∷◌, ◌++◌, length, codes, Result, Ok, Err}
use Rattle.std.specs.List.{AllByRecursion}
use Rattle.fab_tree.specs.declared.resolved.Resolved.{Resolved}
use Rattle.fab_language.specs.Words.{node_text}
use Rattle.fab_wire.specs.Reading.{Reader, both, made}
use Rattle.fab_wire.specs.declared.stop.Stop.{Stop}
use Rattle.fab_wire.specs.declared.stop.Stop.TheVariants as stops
use Rattle.fab_reports.specs.Lines.{IsWord}
use Rattle.fab_reports.specs.Reading.{bytes_before, exactly, kind_at}
use Rattle.fab_reports.specs.declared.line.Line.{Line}
use Rattle.fab_evidence.specs.declared.shown.Evidence.{Evidence}
use Rattle.fab_evidence.specs.declared.shown.ShownJournal.{ShownJournal}
use Rattle.fab_evidence.specs.Texts.{AreOf, IsAuditText, IsBadAudit, journals_text}

-- a node's name, and the space that ends it
abbrev pub name_before : Resolved → ℕ → List ℕ
name_before r n = node_text r n ++ 32 ∷ []

-- the line of a journal of one of these nodes
unfoldable pub journal_at : Resolved → List ℕ → Reader ShownJournal
journal_at r nodes =
    made (λ p. record { node = p.1.0; bytes = p.1.1 }) (both (exactly (codes "journal ")) (both (kind_at (name_before r) nodes) (bytes_before 10)))

-- the names of these nodes are words, and no two of them are the same
abbrev pub AreNamed : Resolved → List ℕ → Type 0
AreNamed r [] = Unit {0}
AreNamed r (n ∷ ns) = IsWord (node_text r n) × AllByRecursion (λ m. node_text r n ≡ node_text r m → ⊥) ns × AreNamed r ns

-- the bytes are these journals of these nodes
pub record AreJournals (r : Resolved) (nodes bytes : List ℕ) (journals : List ShownJournal) : Type 0 where
  pub order : AreOf nodes journals
  pub spelled : bytes ≡ journals_text r journals

-- They are no such journals: a front goes along with some, and with the next byte it goes along with none.
pub record AreNone (r : Resolved) (nodes bytes : List ℕ) (left : ℕ) : Type 0 where
  pub front : List ℕ
  pub back : List ℕ
  pub cut : bytes ≡ front ++ back
  pub left_is : length back ≡ left
  pub next : List ShownJournal
  pub more : List ℕ
  pub begins : AreJournals r nodes (front ++ more) next
  pub bad : (b : ℕ) (rest tail : List ℕ) (journals : List ShownJournal) → back ≡ b ∷ rest → AreJournals r nodes (front ++ b ∷ tail) journals → ⊥
  pub unread : (journals : List ShownJournal) → AreJournals r nodes bytes journals → ⊥

-- a text has no others
abbrev pub IsOnlyText : Resolved → List ℕ → List ℕ → Evidence → Type 0
IsOnlyText r nodes text x =
    (lines : List Line) (journals : List ShownJournal) → IsAuditText r nodes text lines journals → (lines ≡ x.lines) × (journals ≡ x.journals)

-- what reading journals answers: these, and no others; or that there are none
abbrev pub AnswersJournals : Resolved → List ℕ → List ℕ → Result (List ShownJournal) Stop → Type 0
AnswersJournals r nodes bytes (Ok journals) =
    AreJournals r nodes bytes journals × ((others : List ShownJournal) → AreJournals r nodes bytes others → others ≡ journals)
AnswersJournals r nodes bytes (Err stops.Memory) = Unit {0}
AnswersJournals r nodes bytes (Err (stops.Bad left)) = AreNone r nodes bytes left

-- what reading the text of an audit answers: these lines and journals, and no others; or the place where it stops being one
abbrev pub AnswersText : Resolved → List ℕ → List ℕ → Result Evidence Stop → Type 0
AnswersText r nodes text (Ok x) = IsAuditText r nodes text x.lines x.journals × IsOnlyText r nodes text x
AnswersText r nodes text (Err stops.Memory) = Unit {0}
AnswersText r nodes text (Err (stops.Bad left)) = (left ≤ length text) × IsBadAudit r nodes text (length text - left)
