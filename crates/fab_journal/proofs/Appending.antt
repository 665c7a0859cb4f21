-- One record behind a journal, and what a crash leaves of it.
use Rattle.std.proofs.Common.{◌≡◌, ℕ, ◌+◌, ◌-◌, ◌^◌, ◌<◌, ◌≤◌, List, [], ◌∷◌, ◌++◌, length, take, drop, refl, sym, ap, subst, ◌∙◌, append_assoc, length-append, arith, inr}
use Rattle.std.proofs.lemmas.List.{append-nil, length-take}
use Rattle.std.proofs.Math.Seq.{take-append_seam, drop-append_seam, take-append-add}
use Rattle.fab_base.specs.declared.entry.Entry.{Entry}
use Rattle.fab_base.specs.JournalSpelling.{header_bytes, records_from, record_bytes, version_behind, journal_bytes, IsEntry, AreEntries, IsTorn, IsReadAs, journal_version}
use Rattle.fab_base.proofs.Torn.{short_is_torn}
use Rattle.fab_device.specs.Devices.{MayLeave}
use Rattle.fab_journal.proofs.Fronts.{torn_inside}
use Rattle.fab_journal.proofs.Journals.{version_stays, records-push}

-- ---- what a crash leaves

pub left_is_front : (old bytes left : List ℕ) → MayLeave (old ++ bytes) (length old) left → (n : ℕ) × (n ≤ length bytes) × (left ≡ old ++ take n bytes)
left_is_front old bytes left may =
    let n = length left - length old in
    let long : length left ≡ length old + n = omega (arith, may.longer) in
    let cut : take (length left) (old ++ bytes) ≡ old ++ take n bytes = ap (λ (k : ℕ). take k (old ++ bytes)) long ∙ take-append-add old bytes n in
    (n, omega (arith, ap length may.front, length-take (length left) (old ++ bytes), length-append old bytes, long), sym may.front ∙ cut)

pub front_is_left : (old bytes left : List ℕ) → (n : ℕ) × (n ≤ length bytes) × (left ≡ old ++ take n bytes) → MayLeave (old ++ bytes) (length old) left
front_is_left old bytes left h =
    let n = h.0 in
    let long : length left ≡ length old + n = omega (arith, ap length h.2, length-append old (take n bytes), length-take n bytes, h.1) in
    record {
      longer = omega (arith, long);
      front = ap (λ (k : ℕ). take k (old ++ bytes)) long ∙ take-append-add old bytes n ∙ sym h.2;
    }

-- ---- the journal with one record more

pub journal-push : (node : ℕ) (entries : List Entry) (e : Entry) → journal_bytes journal_version node (entries ++ e ∷ []) ≡ journal_bytes journal_version node entries ++ record_bytes (version_behind journal_version entries) e
journal-push node entries e =
    ap (λ (t : List ℕ). header_bytes journal_version node ++ t) (records-push journal_version entries e)
    ∙ sym (append_assoc (header_bytes journal_version node) (records_from journal_version entries) (record_bytes (version_behind journal_version entries) e))

-- ---- what is behind a journal and no whole record is dropped

behind : (node : ℕ) (entries : List Entry) (rest : List ℕ) → node < 2 ^ 16 → AreEntries journal_version entries → IsTorn rest → IsReadAs (journal_bytes journal_version node entries ++ rest) entries (length (journal_bytes journal_version node entries))
behind node entries rest small fits torn =
    inr (record {
      front = record {
        node = node;
        in_range = small;
        entries_fit = fits;
        within = omega (arith, length-append (journal_bytes journal_version node entries) rest);
        spelled = take-append_seam (journal_bytes journal_version node entries) rest;
      };
      torn = subst IsTorn (sym (drop-append_seam (journal_bytes journal_version node entries) rest)) torn;
    })

pub whole_read : (node : ℕ) (entries : List Entry) → node < 2 ^ 16 → AreEntries journal_version entries → IsReadAs (journal_bytes journal_version node entries) entries (length (journal_bytes journal_version node entries))
whole_read node entries small fits =
    subst (λ (t : List ℕ). IsReadAs t entries (length (journal_bytes journal_version node entries))) (append-nil (journal_bytes journal_version node entries))
    (behind node entries [] small fits (short_is_torn [] (omega arith)))

cut_record : (e : Entry) (n : ℕ) → IsEntry journal_version e → n < length (record_bytes journal_version e) → IsTorn (take n (record_bytes journal_version e))
cut_record e n fits lt = subst (λ (t : List ℕ). IsTorn (take n t)) (append-nil (record_bytes journal_version e)) (torn_inside e [] n fits lt)

pub torn_read : (node : ℕ) (entries : List Entry) (e : Entry) (n : ℕ) → node < 2 ^ 16 → AreEntries journal_version entries → IsEntry (version_behind journal_version entries) e → n < length (record_bytes (version_behind journal_version entries) e)
    → IsReadAs (journal_bytes journal_version node entries ++ take n (record_bytes (version_behind journal_version entries) e)) entries (length (journal_bytes journal_version node entries))
torn_read node entries e n small fits =
    subst (λ (v : ℕ). IsEntry v e → n < length (record_bytes v e) → IsReadAs (journal_bytes journal_version node entries ++ take n (record_bytes v e)) entries (length (journal_bytes journal_version node entries)))
    (sym (version_stays journal_version entries))
    (λ one lt. behind node entries (take n (record_bytes journal_version e)) small fits (cut_record e n one lt))
