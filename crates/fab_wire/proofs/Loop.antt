-- Reading one after the other, as a loop does.
use Rattle.std.proofs.Common.{◌≡◌, ℕ, suc, ◌-◌, ◌+◌, ◌≤◌, ◌<◌, List, [], ◌∷◌, ◌++◌, Result, Ok, Err, refl, sym, ap, ◌∙◌, append_assoc, arith}
use Rattle.std.proofs.lemmas.List.{append-nil}
use Rattle.fab_wire.specs.declared.stop.Stop.{Stop}
use Rattle.fab_wire.specs.declared.stop.Stop.TheVariants as stops
use Rattle.fab_wire.specs.Reading.{Reader, ◌>>=◌, Fails, many_at}

-- what was read before, and what is still read
abbrev pub with_front : {A : Type 0} → List A → Result (List A × List ℕ) ℕ → Result (List A × List ℕ) ℕ
with_front front read = read >>= λ x. Ok (front ++ x.0, x.1)

-- an item before the others, as reading one more gives it
abbrev pair_with : {A : Type 0} → A → List A × List ℕ → Result ((A × List A) × List ℕ) ℕ
pair_with x others = Ok ((x, others.0), others.1)

abbrev cons_pair : {A : Type 0} → (A × List A) × List ℕ → Result (List A × List ℕ) ℕ
cons_pair p = Ok (p.0.0 ∷ p.0.1, p.1)

regroup : {A : Type 0} (front : List A) (x : A) (read : Result (List A × List ℕ) ℕ) → with_front front (read >>= pair_with x >>= cons_pair) ≡ with_front (front ++ x ∷ []) read
regroup {A = A} front x (Ok y) = ap (λ (xs : List A). Ok (xs, y.1)) (simp append_assoc)
regroup front x (Err f) = refl

pub goes_on : {A : Type 0} (r : Reader A) (front : List A) (count i : ℕ) (bytes : List ℕ) (x : A) (after : List ℕ) (total : Result (List A × List ℕ) ℕ)
    → i < count → r bytes ≡ Ok (x, after) → with_front front (many_at r (count - i) bytes) ≡ total
    → with_front (front ++ x ∷ []) (many_at r (count - (i + 1)) after) ≡ total
unfolding many_at
goes_on r front count i bytes x after total lt h so_far =
    let k : count - i ≡ suc (count - (i + 1)) = omega arith in
    let one : with_front front (many_at r (count - i) bytes) ≡ with_front (front ++ x ∷ []) (many_at r (count - (i + 1)) after) =
    rw (k, h) (regroup front x (many_at r (count - (i + 1)) after)) in
    sym one ∙ so_far

pub ends : {A : Type 0} (r : Reader A) (e : Stop) (front : List A) (count i : ℕ) (bytes : List ℕ) (total : Result (List A × List ℕ) ℕ)
    → i < count → Fails e (r bytes) → with_front front (many_at r (count - i) bytes) ≡ total → Fails e total
unfolding many_at
ends r stops.Memory front count i bytes total lt h so_far = tt
ends r (stops.Bad left) front count i bytes total lt h so_far =
    let k : count - i ≡ suc (count - (i + 1)) = omega arith in
    let one : with_front front (many_at r (count - i) bytes) ≡ Err left = rw (k, h) refl in
    sym so_far ∙ one

pub is_done : {A : Type 0} (r : Reader A) (front : List A) (count i : ℕ) (bytes : List ℕ) (total : Result (List A × List ℕ) ℕ)
    → count ≤ i → with_front front (many_at r (count - i) bytes) ≡ total → total ≡ Ok (front, bytes)
unfolding many_at
is_done {A = A} r front count i bytes total le so_far =
    let k : count - i ≡ 0 = omega arith in
    let one : with_front front (many_at r (count - i) bytes) ≡ Ok (front, bytes) = rw k (ap (λ (xs : List A). Ok (xs, bytes)) (append-nil front)) in
    sym so_far ∙ one
