-- All of the bytes as one message, and where they stop being one.
use Rattle.std.proofs.Common.{◌≡◌, ℕ, suc, ◌+◌, ◌-◌, ◌<◌, ◌≤◌, Bool, true, false, cond, eqb, leb, ◌&&◌, Option, Some, None, List, [], ◌∷◌, ◌++◌, length, take, Result, Ok, Err, refl, sym, ap, subst, ◌∙◌, append_assoc, length-append, arith, inl, inr}
use Rattle.std.proofs.lemmas.Bool.{cases_lt, eqb-true, lt-ltb, le-ltb, le-leb, leb-true}
use Rattle.std.proofs.lemmas.List.{append-nil, nil_from_length}
use Rattle.std.proofs.Math.Seq.{take-append-add, take-append_seam}
use Rattle.fab_base.specs.declared.message.Message.{Message}
use Rattle.std.specs.Result.{result_ok}
use Rattle.fab_base.specs.MessageSpelling.{message_bytes, spelled, IsMessage, Spells, BeginsSpelling, IsLongestFront, byte_limit, IsReadAs, IsBadPlace}
use Rattle.fab_base.specs.FieldSpelling.{sent_version}
use Rattle.fab_wire.specs.Reading.{message_at, all_of, are_bytes, read_message}
use Rattle.fab_wire.proofs.ReaderLaws.{IsBytes, IsBytes-nil, IsBytes-cons, Stops, bind_ok, bind_err, one_reading}
use Rattle.fab_wire.proofs.MessageLaws.{message_reads}

-- there is one version
pub at_one : (bytes : List ℕ) (m : Message) → Spells bytes m → IsMessage sent_version m × (bytes ≡ message_bytes sent_version m)
at_one bytes m s = subst (λ (v : ℕ). IsMessage v m × (bytes ≡ message_bytes v m)) s.1.known (s.1, s.2)

pub one_message : (bytes : List ℕ) (m n : Message) → Spells bytes m → Spells bytes n → m ≡ n
one_message bytes m n s t =
    let a = at_one bytes m s in
    let b = at_one bytes n t in
    (one_reading message_reads m n [] [] a.0 b.0 (append-nil (message_bytes sent_version m) ∙ sym a.1 ∙ b.1 ∙ sym (append-nil (message_bytes sent_version n)))).0

pub nothing_follows : (bytes more : List ℕ) (m n : Message) → Spells bytes m → Spells (bytes ++ more) n → more ≡ []
nothing_follows bytes more m n s t =
    let a = at_one bytes m s in
    let b = at_one (bytes ++ more) n t in
    (one_reading message_reads m n more [] a.0 b.0 (ap (λ (x : List ℕ). x ++ more) (sym a.1) ∙ b.1 ∙ sym (append-nil (message_bytes sent_version n)))).1

-- ---- reading all

ended_ok : {A : Type 0} (b : Bool) (left : ℕ) (x y : A) → cond b (Ok x) (Err left) ≡ Ok y → (b ≡ true) × (x ≡ y)
ended_ok true left x y e = (refl, cc)
ended_ok false left x y e = absurd cc

ended_err : {A : Type 0} (b : Bool) (left k : ℕ) (x : A) → cond b (Ok x) (Err left) ≡ Err k → (b ≡ false) × (left ≡ k)
ended_err true left k x e = absurd cc
ended_err false left k x e = (refl, cc)

pub whole_found : (bytes : List ℕ) (m : Message) → IsBytes bytes → all_of bytes ≡ Ok m → Spells bytes m
unfolding all_of
whole_found bytes m isb e =
    let p = bind_ok (message_at bytes) (λ x. cond (eqb (length x.1) 0) (Ok x.0) (Err (length x.1))) m e in
    let g = ended_ok (eqb (length p.0.1) 0) (length p.0.1) p.0.0 m p.2 in
    let f = message_reads.found bytes p.0.0 p.0.1 isb p.1 in
    let nothing : p.0.1 ≡ [] = nil_from_length p.0.1 (eqb-true _ _ g.0) in
    let whole : bytes ≡ message_bytes sent_version p.0.0 = f.0 ∙ ap (λ (r : List ℕ). message_bytes sent_version p.0.0 ++ r) nothing ∙ append-nil (message_bytes sent_version p.0.0) in
    subst (λ (x : Message). Spells bytes x) g.1 (sent_version, f.1, whole)

pub whole_again : (bytes : List ℕ) (m : Message) → Spells bytes m → all_of bytes ≡ Ok m
unfolding all_of
whole_again bytes m s =
    let a = at_one bytes m s in
    let one : message_at bytes ≡ Ok (m, []) = ap message_at (a.1 ∙ sym (append-nil (message_bytes sent_version m))) ∙ message_reads.again m [] a.0 in
    rw one refl

-- ---- the place

past : (bytes front back : List ℕ) (n : ℕ) → bytes ≡ front ++ back → length front < n → n ≤ length front + length back → BeginsSpelling (take n bytes)
    → ((b : ℕ) (rest tail : List ℕ) → back ≡ b ∷ rest → BeginsSpelling (front ++ (b ∷ tail)) → ⊥) → ⊥
past bytes front [] n cut lt le begins bad = omega arith
past bytes front (b ∷ rest) n cut lt le begins bad =
    let k = n - length front - 1 in
    let is : n ≡ length front + suc k = omega arith in
    let taken : take n bytes ≡ front ++ (b ∷ take k rest) = ap (λ (x : List ℕ). take n x) cut ∙ ap (λ (i : ℕ). take i (front ++ (b ∷ rest))) is ∙ take-append-add front (b ∷ rest) (suc k) in
    bad b rest (take k rest) refl (subst BeginsSpelling taken begins)

longest_front : (bytes front back : List ℕ) → bytes ≡ front ++ back → BeginsSpelling front
    → ((b : ℕ) (rest tail : List ℕ) → back ≡ b ∷ rest → BeginsSpelling (front ++ (b ∷ tail)) → ⊥) → IsLongestFront bytes (length front)
longest_front bytes front back cut begins bad = record {
  within = omega (arith, ap length cut, length-append front back);
  begins = subst BeginsSpelling (sym (ap (λ (x : List ℕ). take (length front) x) cut ∙ take-append_seam front back)) begins;
  longest = λ n le more_begins.
      elim (cases_lt (length front) n) [
        | inl lt ↦ absurd (past bytes front back n cut lt (omega (arith, ap length cut, length-append front back)) more_begins bad)
        | inr le_front ↦ omega arith
      ];
}

stopped : (bytes : List ℕ) (left : ℕ) → Stops (message_bytes sent_version) (IsMessage sent_version) bytes left → (left ≤ length bytes) × IsLongestFront bytes (length bytes - left)
stopped bytes left s =
    let len = length-append s.front s.back in
    let all : length bytes ≡ length s.front + left = ap length s.cut ∙ len ∙ ap (λ (n : ℕ). length s.front + n) s.left_is in
    let at : length s.front ≡ length bytes - left = omega arith in
    let longest : IsLongestFront bytes (length s.front) =
    longest_front bytes s.front s.back s.cut (s.more, s.next, (sent_version, s.next_fits, sym s.begins))
    (λ b rest tail eb h.
    let a = at_one ((s.front ++ (b ∷ tail)) ++ h.0) h.1 h.2 in
    s.bad b rest (tail ++ h.0) eb h.1 [] a.0 (append-nil (message_bytes sent_version h.1) ∙ sym a.1 ∙ append_assoc s.front (b ∷ tail) h.0)) in
    (omega arith, subst (λ (n : ℕ). IsLongestFront bytes n) at longest)

followed : (bytes : List ℕ) (m : Message) (rest : List ℕ) → bytes ≡ message_bytes sent_version m ++ rest → IsMessage sent_version m → (length rest ≤ length bytes) × IsLongestFront bytes (length bytes - length rest)
followed bytes m rest cut fits =
    let all : length bytes ≡ length (message_bytes sent_version m) + length rest = ap length cut ∙ length-append (message_bytes sent_version m) rest in
    let at : length (message_bytes sent_version m) ≡ length bytes - length rest = omega arith in
    let longest : IsLongestFront bytes (length (message_bytes sent_version m)) =
    longest_front bytes (message_bytes sent_version m) rest cut ([], m, (sent_version, fits, append-nil (message_bytes sent_version m)))
    (λ b others tail eb h.
    let e = nothing_follows (message_bytes sent_version m) ((b ∷ tail) ++ h.0) m h.1 (sent_version, fits, refl) (h.2.0, h.2.1, sym (append_assoc (message_bytes sent_version m) (b ∷ tail) h.0) ∙ h.2.2) in
    absurd cc) in
    (omega arith, subst (λ (n : ℕ). IsLongestFront bytes n) at longest)

pub whole_place : (bytes : List ℕ) (left : ℕ) → IsBytes bytes → all_of bytes ≡ Err left → (left ≤ length bytes) × IsLongestFront bytes (length bytes - left)
unfolding all_of
whole_place bytes left isb e =
    elim (bind_err (message_at bytes) (λ x. cond (eqb (length x.1) 0) (Ok x.0) (Err (length x.1))) left e) [
      | inl bad ↦ stopped bytes left (message_reads.stops bytes left isb bad)
      | inr ok ↦
          let g = ended_err (eqb (length ok.0.1) 0) (length ok.0.1) left ok.0.0 ok.2 in
          let f = message_reads.found bytes ok.0.0 ok.0.1 isb ok.1 in
          subst (λ (k : ℕ). (k ≤ length bytes) × IsLongestFront bytes (length bytes - k)) g.1 (followed bytes ok.0.0 ok.0.1 f.0 f.1)
    ]

pub never_read : (bytes : List ℕ) (left : ℕ) → all_of bytes ≡ Err left → (m : Message) → Spells bytes m → ⊥
never_read bytes left e m s = let f = whole_again bytes m s in cc

pub bad_place : (bytes : List ℕ) (left : ℕ) → IsBytes bytes → all_of bytes ≡ Err left → length bytes ≤ byte_limit → IsBadPlace bytes (length bytes - left)
bad_place bytes left isb e le = record {
  unread = λ m read. never_read bytes left e m read.spelled;
  long = λ gt. absurd (omega arith);
  short = λ _. (whole_place bytes left isb e).1;
}

-- ---- the function

all_are : (bytes : List ℕ) → IsBytes bytes → are_bytes bytes ≡ true
all_are [] h = refl
all_are (b ∷ bytes) h =
    elim (cases_lt b 256) [
      | inl lt ↦ rw (lt-ltb b 256 lt) (all_are bytes (λ i. h (suc i)))
      | inr ge ↦ let first : b < 256 = h 0 in absurd (omega (arith, ge, first))
    ]

are_all : (bytes : List ℕ) → are_bytes bytes ≡ true → IsBytes bytes
are_all [] e = IsBytes-nil
are_all (b ∷ bytes) e =
    elim (cases_lt b 256) [
      | inl lt ↦ let f = rw (lt-ltb b 256 lt) at e in IsBytes-cons b bytes lt (are_all bytes f)
      | inr ge ↦ let f = rw (le-ltb b 256 ge) at e in absurd cc
    ]

guarded : (a b : Bool) (r : Result Message ℕ) (m : Message) → cond (a && b) (result_ok r) None ≡ Some m → (a ≡ true) × (b ≡ true) × (r ≡ Ok m)
guarded true true (Ok n) m e = (refl, refl, cc)
guarded true true (Err k) m e = absurd cc
guarded true false r m e = absurd cc
guarded false b r m e = absurd cc

pub read_found : (bytes : List ℕ) (m : Message) → read_message bytes ≡ Some m → (length bytes ≤ byte_limit) × IsMessage sent_version m × (bytes ≡ spelled m)
unfolding read_message
read_found bytes m e =
    let g = guarded (leb (length bytes) byte_limit) (are_bytes bytes) (all_of bytes) m e in
    let s = at_one bytes m (whole_found bytes m (are_all bytes g.1) g.2) in
    (leb-true (length bytes) byte_limit g.0, s.0, s.1)

pub read_again : (bytes : List ℕ) (m : Message) → (length bytes ≤ byte_limit) × IsMessage sent_version m × (bytes ≡ spelled m) → read_message bytes ≡ Some m
unfolding read_message
read_again bytes m h =
    let short : leb (length bytes) byte_limit ≡ true = le-leb (length bytes) byte_limit h.0 in
    let every : are_bytes bytes ≡ true = all_are bytes (subst IsBytes (sym h.2) (message_reads.bytes m h.1)) in
    let whole : all_of bytes ≡ Ok m = whole_again bytes m (sent_version, h.1, h.2) in
    rw (short, every, whole) refl

-- what is read, and what isn't
pub is_read : (bytes : List ℕ) (m : Message) → IsReadAs bytes m → read_message bytes ≡ Some m
is_read bytes m read =
    let s = at_one bytes m read.spelled in
    read_again bytes m (read.short, s.0, s.1)

none_of : (o : Option Message) → ((m : Message) → o ≡ Some m → ⊥) → o ≡ None
none_of None h = refl
none_of (Some m) h = absurd (h m refl)

pub is_unread : (bytes : List ℕ) → ((m : Message) → IsReadAs bytes m → ⊥) → read_message bytes ≡ None
is_unread bytes h =
    none_of (read_message bytes) (λ m e.
    let g = read_found bytes m e in
    h m (record { short = g.0; spelled = (sent_version, g.1, g.2) }))
