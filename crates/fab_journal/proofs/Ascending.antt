-- Reading ascending numbers one after the other, as a loop does.
use Rattle.std.proofs.Common.{◌≡◌, ℕ, suc, ◌-◌, ◌+◌, ◌≤◌, ◌<◌, List, [], ◌∷◌, ◌++◌, Result, Ok, Err, refl, sym, ap, ◌∙◌, append_assoc, arith}
use Rattle.std.proofs.lemmas.List.{append-nil}
use Rattle.fab_wire.specs.declared.stop.Stop.{Stop}
use Rattle.fab_wire.specs.declared.stop.Stop.TheVariants as stops
use Rattle.fab_wire.specs.Reading.{◌>>=◌, Fails}
use Rattle.fab_wire.proofs.Loop.{with_front}
use Rattle.fab_journal.specs.EntryReading.{between_at, ascending_at}

-- one number before the others, as reading one more gives it
abbrev behind : ℕ → List ℕ × List ℕ → Result (List ℕ × List ℕ) ℕ
behind x others = Ok (x ∷ others.0, others.1)

regroup : (front : List ℕ) (x : ℕ) (read : Result (List ℕ × List ℕ) ℕ) → with_front front (read >>= behind x) ≡ with_front (front ++ x ∷ []) read
regroup front x (Ok y) = ap (λ (xs : List ℕ). Ok (xs, y.1)) (simp append_assoc)
regroup front x (Err f) = refl

pub goes_on : (front : List ℕ) (count i low : ℕ) (bytes : List ℕ) (x : ℕ) (after : List ℕ) (total : Result (List ℕ × List ℕ) ℕ)
    → i < count → between_at low (65535 - (count - 1 - i)) bytes ≡ Ok (x, after) → with_front front (ascending_at (count - i) low bytes) ≡ total
    → with_front (front ++ x ∷ []) (ascending_at (count - (i + 1)) (x + 1) after) ≡ total
unfolding ascending_at
goes_on front count i low bytes x after total lt h so_far =
    let k : count - i ≡ suc (count - (i + 1)) = omega arith in
    let j : count - 1 - i ≡ count - (i + 1) = omega arith in
    let g : between_at low (65535 - (count - (i + 1))) bytes ≡ Ok (x, after) = ap (λ n. between_at low (65535 - n) bytes) (sym j) ∙ h in
    let one : with_front front (ascending_at (count - i) low bytes) ≡ with_front (front ++ x ∷ []) (ascending_at (count - (i + 1)) (x + 1) after) =
    rw (k, g) (regroup front x (ascending_at (count - (i + 1)) (x + 1) after)) in
    sym one ∙ so_far

pub ends : (e : Stop) (front : List ℕ) (count i low : ℕ) (bytes : List ℕ) (total : Result (List ℕ × List ℕ) ℕ)
    → i < count → Fails e (between_at low (65535 - (count - 1 - i)) bytes) → with_front front (ascending_at (count - i) low bytes) ≡ total → Fails e total
unfolding ascending_at
ends stops.Memory front count i low bytes total lt h so_far = tt
ends (stops.Bad left) front count i low bytes total lt h so_far =
    let k : count - i ≡ suc (count - (i + 1)) = omega arith in
    let j : count - 1 - i ≡ count - (i + 1) = omega arith in
    let g : between_at low (65535 - (count - (i + 1))) bytes ≡ Err left = ap (λ n. between_at low (65535 - n) bytes) (sym j) ∙ h in
    let one : with_front front (ascending_at (count - i) low bytes) ≡ Err left = rw (k, g) refl in
    sym so_far ∙ one

pub is_done : (front : List ℕ) (count i low : ℕ) (bytes : List ℕ) (total : Result (List ℕ × List ℕ) ℕ)
    → count ≤ i → with_front front (ascending_at (count - i) low bytes) ≡ total → total ≡ Ok (front, bytes)
unfolding ascending_at
is_done front count i low bytes total le so_far =
    let k : count - i ≡ 0 = omega arith in
    let one : with_front front (ascending_at (count - i) low bytes) ≡ Ok (front, bytes) = rw k (ap (λ (xs : List ℕ). Ok (xs, bytes)) (append-nil front)) in
    sym so_far ∙ one
