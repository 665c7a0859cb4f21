-- All of the bytes as one report, and where they stop being one.
use Rattle.std.proofs.Common.{◌≡◌, ℕ, suc, ◌+◌, ◌-◌, ◌<◌, ◌≤◌, Bool, true, false, cond, eqb, List, [], ◌∷◌, ◌++◌, length, take, Ok, Err, refl, sym, ap, subst, ◌∙◌, append_assoc, length-append, arith, inl, inr}
use Rattle.std.proofs.lemmas.Bool.{cases_lt, eqb-true}
use Rattle.std.proofs.lemmas.List.{append-nil, nil_from_length}
use Rattle.std.proofs.Math.Seq.{take-append-add, take-append_seam}
use Rattle.std.specs.List.{flat_map}
use Rattle.fab_wire.proofs.ReaderLaws.{IsBytes, Stops, bind_ok, bind_err, one_reading}
use Rattle.fab_reports.specs.declared.line.Line.{Line}
use Rattle.fab_reports.specs.Lines.{spelled_line}
use Rattle.fab_reports.specs.Reports.{IsReport, BeginsReport, IsBadPlace}
use Rattle.fab_reports.specs.Reading.{report_at, all_of}
use Rattle.fab_reports.proofs.ReportLaws.{AreReported, report_reads}
use Rattle.fab_reports.proofs.Listing.{is_report, are_reported}

abbrev text : List Line → List ℕ
text lines = flat_map spelled_line lines

-- bytes are the report of one list of lines
pub one_report : (bytes : List ℕ) (m n : List Line) → IsReport bytes m → IsReport bytes n → m ≡ n
one_report bytes m n s t =
    (one_reading report_reads m n [] [] (are_reported bytes m s) (are_reported bytes n t) (append-nil (text m) ∙ sym s.spelled ∙ t.spelled ∙ sym (append-nil (text n)))).0

-- no report begins another
pub nothing_follows : (bytes more : List ℕ) (m n : List Line) → IsReport bytes m → IsReport (bytes ++ more) n → more ≡ []
nothing_follows bytes more m n s t =
    (one_reading report_reads m n more [] (are_reported bytes m s) (are_reported (bytes ++ more) n t) (ap (λ (x : List ℕ). x ++ more) (sym s.spelled) ∙ t.spelled ∙ sym (append-nil (text n)))).1

-- ---- reading all

ended_ok : {A : Type 0} (b : Bool) (left : ℕ) (x y : A) → cond b (Ok x) (Err left) ≡ Ok y → (b ≡ true) × (x ≡ y)
ended_ok true left x y e = (refl, cc)
ended_ok false left x y e = absurd cc

ended_err : {A : Type 0} (b : Bool) (left k : ℕ) (x : A) → cond b (Ok x) (Err left) ≡ Err k → (b ≡ false) × (left ≡ k)
ended_err true left k x e = absurd cc
ended_err false left k x e = (refl, cc)

pub whole_found : (bytes : List ℕ) (m : List Line) → IsBytes bytes → all_of bytes ≡ Ok m → IsReport bytes m
unfolding all_of
whole_found bytes m isb e =
    let p = bind_ok (report_at bytes) (λ x. cond (eqb (length x.1) 0) (Ok x.0) (Err (length x.1))) m e in
    let g = ended_ok (eqb (length p.0.1) 0) (length p.0.1) p.0.0 m p.2 in
    let f = report_reads.found bytes p.0.0 p.0.1 isb p.1 in
    let nothing : p.0.1 ≡ [] = nil_from_length p.0.1 (eqb-true _ _ g.0) in
    let whole : bytes ≡ text p.0.0 = f.0 ∙ ap (λ (r : List ℕ). text p.0.0 ++ r) nothing ∙ append-nil (text p.0.0) in
    subst (λ (x : List Line). IsReport bytes x) g.1 (is_report bytes p.0.0 f.1 whole)

pub whole_again : (bytes : List ℕ) (m : List Line) → IsReport bytes m → all_of bytes ≡ Ok m
unfolding all_of
whole_again bytes m s =
    let one : report_at bytes ≡ Ok (m, []) = ap report_at (s.spelled ∙ sym (append-nil (text m))) ∙ report_reads.again m [] (are_reported bytes m s) in
    rw one refl

-- ---- the place

past : (bytes front back : List ℕ) (n : ℕ) → bytes ≡ front ++ back → length front < n → n ≤ length front + length back → BeginsReport (take n bytes)
    → ((b : ℕ) (rest tail : List ℕ) → back ≡ b ∷ rest → BeginsReport (front ++ (b ∷ tail)) → ⊥) → ⊥
past bytes front [] n cut lt le begins bad = omega arith
past bytes front (b ∷ rest) n cut lt le begins bad =
    let k = n - length front - 1 in
    let is : n ≡ length front + suc k = omega arith in
    let taken : take n bytes ≡ front ++ (b ∷ take k rest) = ap (λ (x : List ℕ). take n x) cut ∙ ap (λ (i : ℕ). take i (front ++ (b ∷ rest))) is ∙ take-append-add front (b ∷ rest) (suc k) in
    bad b rest (take k rest) refl (subst BeginsReport taken begins)

pub record Longest (bytes : List ℕ) (at : ℕ) : Type 0 where
  pub within : at ≤ length bytes
  pub begins : BeginsReport (take at bytes)
  pub longest : (n : ℕ) → n ≤ length bytes → BeginsReport (take n bytes) → n ≤ at

longest_front : (bytes front back : List ℕ) → bytes ≡ front ++ back → BeginsReport front
    → ((b : ℕ) (rest tail : List ℕ) → back ≡ b ∷ rest → BeginsReport (front ++ (b ∷ tail)) → ⊥) → Longest bytes (length front)
longest_front bytes front back cut begins bad = record {
  within = omega (arith, ap length cut, length-append front back);
  begins = subst BeginsReport (sym (ap (λ (x : List ℕ). take (length front) x) cut ∙ take-append_seam front back)) begins;
  longest = λ n le more_begins.
      elim (cases_lt (length front) n) [
        | inl lt ↦ absurd (past bytes front back n cut lt (omega (arith, ap length cut, length-append front back)) more_begins bad)
        | inr le_front ↦ omega arith
      ];
}

stopped : (bytes : List ℕ) (left : ℕ) → Stops text AreReported bytes left → (left ≤ length bytes) × Longest bytes (length bytes - left)
stopped bytes left s =
    let len = length-append s.front s.back in
    let all : length bytes ≡ length s.front + left = ap length s.cut ∙ len ∙ ap (λ (n : ℕ). length s.front + n) s.left_is in
    let at : length s.front ≡ length bytes - left = omega arith in
    let longest : Longest bytes (length s.front) =
    longest_front bytes s.front s.back s.cut (s.more, s.next, is_report (s.front ++ s.more) s.next s.next_fits (sym s.begins))
    (λ b rest tail eb h.
    s.bad b rest (tail ++ h.0) eb h.1 [] (are_reported ((s.front ++ (b ∷ tail)) ++ h.0) h.1 h.2)
    (append-nil (text h.1) ∙ sym h.2.spelled ∙ append_assoc s.front (b ∷ tail) h.0)) in
    (omega arith, subst (λ (n : ℕ). Longest bytes n) at longest)

followed : (bytes : List ℕ) (m : List Line) (rest : List ℕ) → bytes ≡ text m ++ rest → AreReported m → (length rest ≤ length bytes) × Longest bytes (length bytes - length rest)
followed bytes m rest cut fits =
    let all : length bytes ≡ length (text m) + length rest = ap length cut ∙ length-append (text m) rest in
    let at : length (text m) ≡ length bytes - length rest = omega arith in
    let is : IsReport (text m) m = is_report (text m) m fits refl in
    let longest : Longest bytes (length (text m)) =
    longest_front bytes (text m) rest cut ([], m, is_report (text m ++ []) m fits (append-nil (text m)))
    (λ b others tail eb h.
    let e = nothing_follows (text m) ((b ∷ tail) ++ h.0) m h.1 is (subst (λ (x : List ℕ). IsReport x h.1) (append_assoc (text m) (b ∷ tail) h.0) h.2) in
    absurd cc) in
    (omega arith, subst (λ (n : ℕ). Longest bytes n) at longest)

pub whole_place : (bytes : List ℕ) (left : ℕ) → IsBytes bytes → all_of bytes ≡ Err left → (left ≤ length bytes) × Longest bytes (length bytes - left)
unfolding all_of
whole_place bytes left isb e =
    elim (bind_err (report_at bytes) (λ x. cond (eqb (length x.1) 0) (Ok x.0) (Err (length x.1))) left e) [
      | inl bad ↦ stopped bytes left (report_reads.stops bytes left isb bad)
      | inr ok ↦
          let g = ended_err (eqb (length ok.0.1) 0) (length ok.0.1) left ok.0.0 ok.2 in
          let f = report_reads.found bytes ok.0.0 ok.0.1 isb ok.1 in
          subst (λ (k : ℕ). (k ≤ length bytes) × Longest bytes (length bytes - k)) g.1 (followed bytes ok.0.0 ok.0.1 f.0 f.1)
    ]

pub never_read : (bytes : List ℕ) (left : ℕ) → all_of bytes ≡ Err left → (m : List Line) → IsReport bytes m → ⊥
never_read bytes left e m s = let f = whole_again bytes m s in cc

pub bad_place : (bytes : List ℕ) (left : ℕ) → IsBytes bytes → all_of bytes ≡ Err left → IsBadPlace bytes (length bytes - left)
bad_place bytes left isb e =
    let w = (whole_place bytes left isb e).1 in
    record { unread = never_read bytes left e; within = w.within; begins = w.begins; longest = w.longest }
