-- The lines of bytes, one after the other.
use Rattle.std.proofs.Common.{◌≡◌, ℕ, zero, suc, ◌+◌, ◌<◌, ◌≤◌, ◌==◌, Bool, true, false, not, if◌then◌else◌, List, [], ◌∷◌, ◌++◌, length, get_or, take, drop, refl, sym, ap, ◌∙◌, length-drop, arith}
use Rattle.std.proofs.lemmas.Bool.{and_from, and_parts}
use Rattle.std.proofs.lemmas.List.{append-nil, take_more, drop_more}
use Rattle.std.specs.List.{list_all}
use Rattle.fab_evidence.specs.First.{lines_in, onto}

-- no byte of it ends a line
abbrev pub is_open : List ℕ → Bool
is_open bytes = list_all (λ b. not (b == 10)) bytes

pub open_more : (bytes : List ℕ) (b : ℕ) → is_open bytes ≡ true → (b == 10) ≡ false → is_open (bytes ++ b ∷ []) ≡ true
open_more [] b h e = rw e refl
open_more (c ∷ bytes) b h e =
    let p = and_parts (not (c == 10)) (is_open bytes) h in
    and_from (not (c == 10)) (is_open (bytes ++ b ∷ [])) p.0 (open_more bytes b p.1 e)

not_is_false : (t : Bool) → not t ≡ true → t ≡ false
not_is_false true h = absurd cc
not_is_false false h = refl

-- a line that is ended
pub ended_line : (front after : List ℕ) → is_open front ≡ true → lines_in (front ++ 10 ∷ after) ≡ front ∷ lines_in after
ended_line [] after h = refl
ended_line (c ∷ front) after h =
    let p = and_parts (not (c == 10)) (is_open front) h in
    ap (λ (t : Bool). if t then [] ∷ lines_in (front ++ 10 ∷ after) else onto c (lines_in (front ++ 10 ∷ after))) (not_is_false (c == 10) p.0)
    ∙ ap (onto c) (ended_line front after p.1)

-- and one that isn't, at the end
pub last_line : (b : ℕ) (front : List ℕ) → is_open (b ∷ front) ≡ true → lines_in (b ∷ front) ≡ (b ∷ front) ∷ []
last_line b [] h = ap (λ (t : Bool). if t then [] ∷ [] else (b ∷ []) ∷ []) (not_is_false (b == 10) (and_parts (not (b == 10)) true h).0)
last_line b (c ∷ front) h =
    let p = and_parts (not (b == 10)) (is_open (c ∷ front)) h in
    ap (λ (t : Bool). if t then [] ∷ lines_in (c ∷ front) else onto b (lines_in (c ∷ front))) (not_is_false (b == 10) p.0)
    ∙ ap (onto b) (last_line c front p.1)

-- so many bytes were read, and none of them ends a line
pub record IsGoing (bytes rest : List ℕ) (n : ℕ) : Type 0 where
  pub rest_is : rest ≡ drop n bytes
  pub within : n ≤ length bytes
  pub going : is_open (take n bytes) ≡ true

pub none_yet : (bytes : List ℕ) → IsGoing bytes bytes 0
none_yet bytes = record { rest_is = refl; within = omega arith; going = refl }

parts_at : (bytes rest : List ℕ) (n b : ℕ) (after : List ℕ) → IsGoing bytes rest n → rest ≡ b ∷ after
    → (n < length bytes) × (drop (n + 1) bytes ≡ after) × (take (n + 1) bytes ≡ take n bytes ++ b ∷ [])
parts_at bytes rest n b after s e =
    let left : drop n bytes ≡ b ∷ after = sym s.rest_is ∙ e in
    let lt : n < length bytes = omega (arith, ap length left, length-drop n bytes) in
    let parts : get_or bytes n 0 ∷ drop (n + 1) bytes ≡ b ∷ after = sym (drop_more bytes n 0 lt) ∙ left in
    let byte : get_or bytes n 0 ≡ b = cc in
    let others : drop (n + 1) bytes ≡ after = cc in
    (lt, others, take_more bytes n 0 lt ∙ ap (λ (x : ℕ). take n bytes ++ x ∷ []) byte)

pub one_on : (bytes rest : List ℕ) (n b : ℕ) (after : List ℕ) → IsGoing bytes rest n → rest ≡ b ∷ after → (b == 10) ≡ false → IsGoing bytes after (n + 1)
one_on bytes rest n b after s e other =
    let p = parts_at bytes rest n b after s e in
    let lt : n < length bytes = p.0 in
    record { rest_is = sym p.1; within = omega arith; going = ap is_open p.2 ∙ open_more (take n bytes) b s.going other }

pub split_at : (n : ℕ) (bytes : List ℕ) → bytes ≡ take n bytes ++ drop n bytes
split_at zero bytes = refl
split_at (suc n) [] = refl
split_at (suc n) (b ∷ bytes) = ap (λ (x : List ℕ). b ∷ x) (split_at n bytes)

-- a line feed ends it
pub ended_here : (bytes rest : List ℕ) (n : ℕ) (after : List ℕ) → IsGoing bytes rest n → rest ≡ 10 ∷ after → lines_in bytes ≡ take n bytes ∷ lines_in after
ended_here bytes rest n after s e =
    ap lines_in (split_at n bytes ∙ ap (λ (x : List ℕ). take n bytes ++ x) (sym s.rest_is ∙ e)) ∙ ended_line (take n bytes) after s.going

-- or nothing does
open_all : (bytes : List ℕ) → 0 < length bytes → is_open bytes ≡ true → lines_in bytes ≡ bytes ∷ []
open_all [] h g = absurd (omega arith)
open_all (b ∷ bytes) h g = last_line b bytes g

pub never_ended : (bytes rest : List ℕ) (n : ℕ) → IsGoing bytes rest n → rest ≡ [] → 0 < length bytes → lines_in bytes ≡ bytes ∷ lines_in rest
never_ended bytes rest n s e some =
    let whole : bytes ≡ take n bytes = split_at n bytes ∙ ap (λ (x : List ℕ). take n bytes ++ x) (sym s.rest_is ∙ e) ∙ append-nil (take n bytes) in
    open_all bytes some (ap is_open whole ∙ s.going) ∙ ap (λ (x : List (List ℕ)). bytes ∷ x) (sym (ap lines_in e))
