-- Bytes are read in one way, or go wrong.
use Rattle.std.proofs.Common.{◌≡◌, ◌≢◌, ℕ, ◌+◌, ◌^◌, ◌<◌, List, [], ◌∷◌, ◌++◌, length, get_or, drop, Result, Ok, Err, refl, sym, ap, subst, ◌∙◌, append_assoc, arith, inl, inr}
use Rattle.std.proofs.lemmas.List.{take-append-drop, length-take-le, get_or-take}
use Rattle.std.proofs.Math.ListN.{get_or-append}
use Rattle.fab_base.specs.declared.entry.Entry.{Entry}
use Rattle.fab_base.specs.FieldSpelling.{two_bytes}
use Rattle.fab_base.specs.JournalSpelling.{opening, header_bytes, body_bytes, IsEntry, framed, record_bytes, records_from, AreEntries, IsTorn, IsSpelledTo, IsReadAs, IsFirstWrong, IsBadRecord, GoesWrongAt, IsBadPlace, journal_version}
use Rattle.fab_wire.proofs.ReaderLaws.{one_reading}
use Rattle.fab_journal.specs.declared.error.RecordError.{RecordError}
use Rattle.fab_journal.specs.declared.error.RecordError.TheVariants.{Memory, Bad}
use Rattle.fab_journal.specs.Records.{ReadsRecords, AnswersOnly}
use Rattle.fab_journal.proofs.EntryLaws.{entry_reads}
use Rattle.fab_journal.proofs.Journals.{same_front, header_rest, length-journal, version_stays}
use Rattle.fab_journal.proofs.Lengths.{body_small}

-- the whole records at the front of some bytes, and what follows them, are given by the bytes
pub same_entries : (es es' : List Entry) (r r' : List ℕ) → AreEntries journal_version es → AreEntries journal_version es' → IsTorn r → IsTorn r' → records_from journal_version es ++ r ≡ records_from journal_version es' ++ r' → (es ≡ es') × (r ≡ r')
same_entries [] [] r r' f f' t t' same = (refl, same)
same_entries [] (e ∷ es') r r' f f' t t' same = absurd (t (body_bytes journal_version e) (records_from journal_version es' ++ r') (body_small e f'.0) (same ∙ append_assoc (record_bytes journal_version e) (records_from journal_version es') r'))
same_entries (e ∷ es) [] r r' f f' t t' same = absurd (t' (body_bytes journal_version e) (records_from journal_version es ++ r) (body_small e f.0) (sym same ∙ append_assoc (record_bytes journal_version e) (records_from journal_version es) r))
same_entries (e ∷ es) (e' ∷ es') r r' f f' t t' same =
    let parts = same_front (body_bytes journal_version e) (body_bytes journal_version e') (records_from journal_version es ++ r) (records_from journal_version es' ++ r') (body_small e f.0) (body_small e' f'.0)
    (sym (append_assoc (record_bytes journal_version e) (records_from journal_version es) r) ∙ same ∙ append_assoc (record_bytes journal_version e') (records_from journal_version es') r') in
    let one = one_reading entry_reads e e' [] [] f.0 f'.0 (ap (λ (t : List ℕ). t ++ []) parts.0) in
    let others = same_entries es es' r r' f.1 f'.1 t t' parts.1 in
    (ap (λ (x : Entry). x ∷ es) one.0 ∙ ap (λ (xs : List Entry). e' ∷ xs) others.0, others.1)

-- before a record that is no spelling the bytes aren't torn
no_bad_among : (before es : List Entry) (body more rest : List ℕ) → AreEntries journal_version before → AreEntries journal_version es → length body < 2 ^ 32 → ((e : Entry) → IsEntry journal_version e → body ≢ body_bytes journal_version e) → IsTorn rest
    → records_from journal_version before ++ (framed body ++ more) ≡ records_from journal_version es ++ rest → ⊥
no_bad_among [] [] body more rest f f' small unspelled torn same = torn body more small (sym same)
no_bad_among [] (e ∷ es) body more rest f f' small unspelled torn same =
    unspelled e f'.0 ((same_front body (body_bytes journal_version e) more (records_from journal_version es ++ rest) small (body_small e f'.0) (same ∙ append_assoc (record_bytes journal_version e) (records_from journal_version es) rest)).0)
no_bad_among (b ∷ before) [] body more rest f f' small unspelled torn same =
    torn (body_bytes journal_version b) (records_from journal_version before ++ (framed body ++ more)) (body_small b f.0) (sym same ∙ append_assoc (record_bytes journal_version b) (records_from journal_version before) (framed body ++ more))
no_bad_among (b ∷ before) (e ∷ es) body more rest f f' small unspelled torn same =
    let parts = same_front (body_bytes journal_version b) (body_bytes journal_version e) (records_from journal_version before ++ (framed body ++ more)) (records_from journal_version es ++ rest) (body_small b f.0) (body_small e f'.0)
    (sym (append_assoc (record_bytes journal_version b) (records_from journal_version before) (framed body ++ more)) ∙ same ∙ append_assoc (record_bytes journal_version e) (records_from journal_version es) rest) in
    no_bad_among before es body more rest f.1 f'.1 small unspelled torn parts.1

-- the bytes, in parts
pub in_parts : (bytes : List ℕ) (es : List Entry) (len : ℕ) (s : IsSpelledTo bytes es len) → bytes ≡ header_bytes journal_version s.node ++ (records_from journal_version es ++ drop len bytes)
in_parts bytes es len s =
    sym (take-append-drop len bytes) ∙ ap (λ (t : List ℕ). t ++ drop len bytes) s.spelled ∙ append_assoc (header_bytes journal_version s.node) (records_from journal_version es) (drop len bytes)

pub length-spelled : (bytes : List ℕ) (es : List Entry) (len : ℕ) → IsSpelledTo bytes es len → len ≡ 8 + length (records_from journal_version es)
length-spelled bytes es len s = sym (length-take-le len bytes s.within) ∙ ap length s.spelled ∙ length-journal s.node es

pub one_way : (bytes : List ℕ) (es es' : List Entry) (len len' : ℕ) → IsReadAs bytes es len → IsReadAs bytes es' len' → (es ≡ es') × (len ≡ len')
one_way bytes es es' len len' (inl torn) (inl torn') = (torn.1 ∙ sym torn'.1, torn.2 ∙ sym torn'.2)
one_way bytes es es' len len' (inl torn) (inr whole) = absurd (omega (arith, torn.0.shorter, whole.front.within, length-spelled bytes es' len' whole.front))
one_way bytes es es' len len' (inr whole) (inl torn) = absurd (omega (arith, torn.0.shorter, whole.front.within, length-spelled bytes es len whole.front))
one_way bytes es es' len len' (inr whole) (inr whole') =
    let rests = header_rest whole.front.node whole'.front.node (records_from journal_version es ++ drop len bytes) (records_from journal_version es' ++ drop len' bytes)
    (sym (in_parts bytes es len whole.front) ∙ in_parts bytes es' len' whole'.front) in
    let same = same_entries es es' (drop len bytes) (drop len' bytes) whole.front.entries_fit whole'.front.entries_fit whole.torn whole'.torn rests in
    (same.0, length-spelled bytes es len whole.front ∙ ap (λ (xs : List Entry). 8 + length (records_from journal_version xs)) same.0 ∙ sym (length-spelled bytes es' len' whole'.front))

-- bytes that go wrong in the header are read in no way
wrong_header : (bytes : List ℕ) (at : ℕ) → IsFirstWrong opening bytes at → (es : List Entry) (len : ℕ) → IsReadAs bytes es len → ⊥
wrong_header bytes at w es len (inl torn) =
    w.wrong (ap (λ (t : List ℕ). get_or t at 0) torn.0.begins ∙ get_or-take (length bytes) (header_bytes journal_version torn.0.node) at 0 w.within ∙ get_or-append opening (two_bytes torn.0.node) 0 at w.known)
wrong_header bytes at w es len (inr whole) =
    let rest : List ℕ = records_from journal_version es ++ drop len bytes in
    w.wrong (ap (λ (t : List ℕ). get_or t at 0) (in_parts bytes es len whole.front) ∙ get_or-append (header_bytes journal_version whole.front.node) rest 0 at (omega (arith, w.known)) ∙ get_or-append opening (two_bytes whole.front.node) 0 at w.known)

wrong_record : (bytes : List ℕ) (at : ℕ) → IsBadRecord bytes at → (es : List Entry) (len : ℕ) → IsReadAs bytes es len → ⊥
wrong_record bytes at w es len (inl torn) = omega (arith, torn.0.shorter, w.front.within, length-spelled bytes w.before w.start w.front)
wrong_record bytes at w es len (inr whole) =
    let rests = header_rest w.front.node whole.front.node (records_from journal_version w.before ++ drop w.start bytes) (records_from journal_version es ++ drop len bytes)
    (sym (in_parts bytes w.before w.start w.front) ∙ in_parts bytes es len whole.front) in
    no_bad_among w.before es w.body w.more (drop len bytes) w.front.entries_fit whole.front.entries_fit w.length_fits (subst (λ (v : ℕ). (e : Entry) → IsEntry v e → w.body ≢ body_bytes v e) (version_stays journal_version w.before) w.bad.unspelled) whole.torn
    (ap (λ (t : List ℕ). records_from journal_version w.before ++ t) (sym w.follows) ∙ rests)

pub is_unread : (bytes : List ℕ) (at : ℕ) → GoesWrongAt bytes at → (es : List Entry) (len : ℕ) → IsReadAs bytes es len → ⊥
is_unread bytes at (inl w) es len read = wrong_header bytes at w es len read
is_unread bytes at (inr w) es len read = wrong_record bytes at w es len read

pub is_bad : (bytes : List ℕ) (at : ℕ) → GoesWrongAt bytes at → IsBadPlace bytes at
is_bad bytes at w = record { unread = is_unread bytes at w; wrong = w }

pub answers_only : (result : Result (List Entry × ℕ) RecordError) (bytes : List ℕ) → ReadsRecords result bytes → (es : List Entry) (len : ℕ) → IsReadAs bytes es len → AnswersOnly result es len
answers_only (Ok read) bytes h es len is = one_way bytes read.0 es read.1 len h is
answers_only (Err Memory) bytes h es len is = tt
answers_only (Err (Bad at)) bytes h es len is = h.unread es len is
