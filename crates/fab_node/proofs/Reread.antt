-- What a node reads of its journal as it comes back.
use Rattle.std.proofs.Common.{◌≡◌, ℕ, ◌<◌, ◌^◌, false, ◌++◌, List, length, take, sym, ap, ◌∙◌, subst}
use Rattle.fab_base.specs.declared.entry.Entry.{Entry}
use Rattle.fab_base.specs.JournalSpelling.{journal_bytes, record_bytes, IsEntry, IsReadAs, journal_version}
use Rattle.fab_journal.proofs.Appending.{torn_read}
use Rattle.fab_journal.proofs.Journals.{version_stays}
use Rattle.fab_world.specs.Machine.{Node}
use Rattle.fab_node.specs.Standing.{GivenModel, NodeModel, Stands}
use Rattle.fab_node.specs.Deeds.{HoldsRecords}

pub reads_whole : (n : ℕ) (entries : List Entry) (torn bytes : List ℕ) → n < 2 ^ 16 → HoldsRecords n entries torn bytes
    → IsReadAs bytes entries (length (journal_bytes journal_version n entries))
reads_whole n entries torn bytes few h =
    let entry = h.cut_off.0 in
    let k = h.cut_off.1 in
    let read : IsReadAs (journal_bytes journal_version n entries ++ take k (record_bytes journal_version entry)) entries (length (journal_bytes journal_version n entries)) =
    subst (λ version. IsReadAs (journal_bytes journal_version n entries ++ take k (record_bytes version entry)) entries (length (journal_bytes journal_version n entries))) (version_stays journal_version entries)
    (torn_read n entries entry k few h.spelled (subst (λ version. IsEntry version entry) (sym (version_stays journal_version entries)) h.cut_off.2)
    (subst (λ version. k < length (record_bytes version entry)) (sym (version_stays journal_version entries)) h.cut_off.3)) in
    subst (λ (b : List ℕ). IsReadAs b entries (length (journal_bytes journal_version n entries)))
    (ap (λ (t : List ℕ). journal_bytes journal_version n entries ++ t) (sym h.cut_off.4) ∙ sym h.is) read

-- the journal of a node that hasn't failed holds its records and what is torn
pub holds_of : (g : GivenModel) (x : Node) (node : NodeModel) (n : ℕ) (bytes : List ℕ) → Stands g x node → x.failed ≡ false → n ≡ node.number
    → bytes ≡ node.journal.content → HoldsRecords n x.entries x.torn bytes
holds_of g x node n bytes s unfailed number content = record {
  spelled = s.spelled;
  cut_off = s.torn;
  is = content ∙ s.journal.content_is unfailed ∙ ap (λ k. journal_bytes journal_version k x.entries ++ x.torn) (sym number);
}
