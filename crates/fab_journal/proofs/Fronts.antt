-- Fronts of journals, as a crash leaves them.
use Rattle.std.proofs.Common.{◌≡◌, ℕ, zero, suc, ◌+◌, ◌-◌, ◌^◌, ◌<◌, ◌≤◌, List, [], ◌∷◌, ◌++◌, length, take, drop, refl, sym, ap, subst, ◌∙◌, length-append, add-one, arith, inl, inr}
use Rattle.std.specs.Prelude.{◌↔◌}
use Rattle.std.proofs.lemmas.Bool.{cases_lt}
use Rattle.std.proofs.lemmas.List.{append-nil, take-append-le, length-take, take-take}
use Rattle.std.specs.Int.{w32, from_be_bytes}
use Rattle.std.proofs.Math.Seq.{take-nil, take-append-add, drop-append-add}
use Rattle.fab_base.specs.declared.entry.Entry.{Entry}
use Rattle.fab_base.specs.JournalSpelling.{header_bytes, body_bytes, IsEntry, record_bytes, records_from, journal_bytes, AreEntries, IsTornHeader, IsTorn, IsReadAs, journal_version}
use Rattle.fab_base.proofs.Torn.{number_in, number_in-framed, length-framed, short_is_torn, cut_is_torn}
use Rattle.fab_journal.specs.Crash.{length_to, ReadsWholeRecords}
use Rattle.fab_journal.proofs.Journals.{length-journal}
use Rattle.fab_journal.proofs.Lengths.{body_small}

-- how long the first so many records are
abbrev records_to : List Entry → ℕ → ℕ
records_to entries count = length (records_from journal_version (take count entries))

-- of the first n bytes of some records these are the whole ones
record Fronts (entries : List Entry) (n : ℕ) : Type 0 where
  pub count : ℕ
  pub within : count ≤ length entries
  pub fits : records_to entries count ≤ length (take n (records_from journal_version entries))
  pub spelled : take (records_to entries count) (take n (records_from journal_version entries)) ≡ records_from journal_version (take count entries)
  pub torn : IsTorn (drop (records_to entries count) (take n (records_from journal_version entries)))
  pub whole : (index : ℕ) → index < length entries → (records_to entries (index + 1) ≤ n) ↔ (index < count)

-- the records behind a first one that is whole
whole_further : (e : Entry) (es : List Entry) (n : ℕ) → length (record_bytes journal_version e) ≤ n → (f : Fronts es (n - length (record_bytes journal_version e))) (index : ℕ) → index < length (e ∷ es) → (records_to (e ∷ es) (index + 1) ≤ n) ↔ (index < suc f.count)
whole_further e es n le f zero below = ((λ h. omega arith), (λ h. omega (arith, le, ap length (append-nil (record_bytes journal_version e)))))
whole_further e es n le f (suc index) below =
    let w = f.whole index (omega (arith, below)) in
    let to : records_to (e ∷ es) (suc index + 1) ≡ length (record_bytes journal_version e) + records_to es (index + 1) =
    let next : suc index + 1 ≡ suc (index + 1) = omega arith in
    ap (λ (k : ℕ). records_to (e ∷ es) k) next ∙ length-append (record_bytes journal_version e) (records_from journal_version (take (index + 1) es)) in
    ((λ h. omega (arith, w.0 (omega (arith, h, to)))), (λ h. omega (arith, to, le, w.1 (omega (arith, h)))))

-- a record that doesn't fit is torn
pub torn_inside : (e : Entry) (more : List ℕ) (n : ℕ) → IsEntry journal_version e → n < length (record_bytes journal_version e) → IsTorn (take n (record_bytes journal_version e ++ more))
torn_inside e more n fits lt =
    let long : length (record_bytes journal_version e ++ more) ≡ length (record_bytes journal_version e) + length more = length-append (record_bytes journal_version e) more in
    let len : length (take n (record_bytes journal_version e ++ more)) ≡ n = length-take n (record_bytes journal_version e ++ more) ∙ omega (arith, lt, long) in
    elim (cases_lt n 4) [
      | inl short ↦ short_is_torn (take n (record_bytes journal_version e ++ more)) (omega (arith, len, short))
      | inr le ↦
          let same : take 4 (take n (record_bytes journal_version e ++ more)) ≡ take 4 (record_bytes journal_version e ++ more) = take-take 4 n (record_bytes journal_version e ++ more) le in
          let number : number_in (take n (record_bytes journal_version e ++ more)) ≡ length (body_bytes journal_version e) = ap (from_be_bytes w32) same ∙ number_in-framed (body_bytes journal_version e) more (body_small e fits) in
          cut_is_torn (take n (record_bytes journal_version e ++ more)) (omega (arith, len, number, lt, length-framed (body_bytes journal_version e)))
    ]

-- the first record is whole
first_whole : (e : Entry) (es : List Entry) (n : ℕ) → length (record_bytes journal_version e) ≤ n → Fronts es (n - length (record_bytes journal_version e)) → Fronts (e ∷ es) n
first_whole e es n le f =
    let m = length (record_bytes journal_version e) in
    let rest = take (n - m) (records_from journal_version es) in
    let cut : take n (record_bytes journal_version e ++ records_from journal_version es) ≡ record_bytes journal_version e ++ rest =
    ap (λ (k : ℕ). take k (record_bytes journal_version e ++ records_from journal_version es)) (omega (arith, le)) ∙ take-append-add (record_bytes journal_version e) (records_from journal_version es) (n - m) in
    let to : (count : ℕ) → records_to (e ∷ es) (suc count) ≡ m + records_to es count = λ count. length-append (record_bytes journal_version e) (records_from journal_version (take count es)) in
    record {
      count = suc f.count;
      within = omega (arith, f.within);
      fits = omega (arith, to f.count, ap length cut, length-append (record_bytes journal_version e) rest, f.fits);
      spelled = ap (λ (t : List ℕ). take (records_to (e ∷ es) (suc f.count)) t) cut ∙ ap (λ (k : ℕ). take k (record_bytes journal_version e ++ rest)) (to f.count) ∙ take-append-add (record_bytes journal_version e) rest (records_to es f.count)
          ∙ ap (λ (t : List ℕ). record_bytes journal_version e ++ t) f.spelled;
      torn =
          let same : drop (records_to (e ∷ es) (suc f.count)) (take n (record_bytes journal_version e ++ records_from journal_version es)) ≡ drop (records_to es f.count) rest =
          ap (λ (t : List ℕ). drop (records_to (e ∷ es) (suc f.count)) t) cut ∙ ap (λ (k : ℕ). drop k (record_bytes journal_version e ++ rest)) (to f.count) ∙ drop-append-add (record_bytes journal_version e) rest (records_to es f.count) in
          subst IsTorn (sym same) f.torn;
      whole = whole_further e es n le f;
    }

-- it isn't
first_cut : (e : Entry) (es : List Entry) (n : ℕ) → IsEntry journal_version e → n < length (record_bytes journal_version e) → Fronts (e ∷ es) n
first_cut e es n fits lt = record {
  count = 0;
  within = omega arith;
  fits = omega arith;
  spelled = refl;
  torn = torn_inside e (records_from journal_version es) n fits lt;
  whole = λ index below.
      ((λ le. absurd (omega (arith, le, lt, ap (λ (k : ℕ). length (records_from journal_version (take k (e ∷ es)))) (add-one index), length-append (record_bytes journal_version e) (records_from journal_version (take index es))))), (λ lt0. absurd (omega (arith, lt0))));
}

fronts : (entries : List Entry) (n : ℕ) → AreEntries journal_version entries → Fronts entries n
fronts [] n fits = record {
  count = 0;
  within = omega arith;
  fits = omega arith;
  spelled = refl;
  torn = subst IsTorn (sym (take-nil n)) (short_is_torn [] (omega arith));
  whole = λ index below. absurd (omega (arith, below));
}
fronts (e ∷ es) n fits =
    elim (cases_lt n (length (record_bytes journal_version e))) [
      | inl lt ↦ first_cut e es n fits.0 lt
      | inr le ↦ first_whole e es n le (fronts es (n - length (record_bytes journal_version e)) fits.1)
    ]

AreEntries-take : (count : ℕ) (entries : List Entry) → AreEntries journal_version entries → AreEntries journal_version (take count entries)
AreEntries-take zero entries fits = tt
AreEntries-take (suc count) [] fits = tt
AreEntries-take (suc count) (e ∷ entries) fits = (fits.0, AreEntries-take count entries fits.1)

-- behind a whole header
behind_header : (node : ℕ) (entries : List Entry) (left : ℕ) → node < 2 ^ 16 → AreEntries journal_version entries → 8 ≤ left → ReadsWholeRecords node entries left
behind_header node entries left small fits le =
    let n = left - 8 in
    let f = fronts entries n fits in
    let records = records_from journal_version entries in
    let cut : take left (journal_bytes journal_version node entries) ≡ header_bytes journal_version node ++ take n records =
    ap (λ (k : ℕ). take k (journal_bytes journal_version node entries)) (omega (arith, le)) ∙ take-append-add (header_bytes journal_version node) records n in
    let len = 8 + records_to entries f.count in
    let read : IsReadAs (header_bytes journal_version node ++ take n records) (take f.count entries) len =
    inr (record {
      front = record {
        node = node;
        in_range = small;
        entries_fit = AreEntries-take f.count entries fits;
        within = omega (arith, f.fits, length-append (header_bytes journal_version node) (take n records));
        spelled = take-append-add (header_bytes journal_version node) (take n records) (records_to entries f.count) ∙ ap (λ (t : List ℕ). header_bytes journal_version node ++ t) f.spelled;
      };
      torn = subst IsTorn (sym (drop-append-add (header_bytes journal_version node) (take n records) (records_to entries f.count))) f.torn;
    }) in
    record {
      count = f.count;
      len = len;
      read = subst (λ (t : List ℕ). IsReadAs t (take f.count entries) len) (sym cut) read;
      within = f.within;
      whole = λ index below.
          let w = f.whole index below in
          let long = length-journal node (take (index + 1) entries) in
          ((λ h. w.0 (omega (arith, h, long, le))), (λ h. omega (arith, w.1 h, long, le)));
    }

-- inside the header
inside_header : (node : ℕ) (entries : List Entry) (left : ℕ) → node < 2 ^ 16 → left < 8 → ReadsWholeRecords node entries left
inside_header node entries left small lt =
    let cut : take left (journal_bytes journal_version node entries) ≡ take left (header_bytes journal_version node) = take-append-le left (header_bytes journal_version node) (records_from journal_version entries) (omega (arith, lt)) in
    let len : length (take left (header_bytes journal_version node)) ≡ left = length-take left (header_bytes journal_version node) ∙ omega (arith, lt) in
    let torn : IsTornHeader (take left (header_bytes journal_version node)) =
    record { node = node; in_range = small; shorter = omega (arith, len, lt); begins = ap (λ (k : ℕ). take k (header_bytes journal_version node)) (sym len) } in
    record {
      count = 0;
      len = 0;
      read = inl (subst IsTornHeader (sym cut) torn, refl, refl);
      within = omega arith;
      whole = λ index below. ((λ h. absurd (omega (arith, h, lt, length-journal node (take (index + 1) entries)))), (λ h. absurd (omega (arith, h))));
    }

pub crash_law : (node : ℕ) (entries : List Entry) (left : ℕ) → node < 2 ^ 16 → AreEntries journal_version entries → ReadsWholeRecords node entries left
crash_law node entries left small fits =
    elim (cases_lt left 8) [ inl lt ↦ inside_header node entries left small lt | inr le ↦ behind_header node entries left small fits le ]

pub cut_law : (node : ℕ) (entries : List Entry) (synced cut index : ℕ) → node < 2 ^ 16 → AreEntries journal_version entries → synced ≤ cut → index < length entries → length_to node entries (index + 1) ≤ synced
    → (count len : ℕ) × (index < count) × IsReadAs (take cut (journal_bytes journal_version node entries)) (take count entries) len
cut_law node entries synced cut index small fits le below whole =
    let r = crash_law node entries cut small fits in
    (r.count, r.len, (r.whole index below).0 (omega (arith, le, whole)), r.read)
