-- How much of a name with a space behind it stands at the front of bytes.
use Rattle.std.proofs.Common.{◌≡◌, ℕ, suc, ◌+◌, ◌<◌, ◌≤◌, Bool, true, false, cond, eqb, List, [], ◌∷◌, ◌++◌, length, drop, refl, ap, arith}
use Rattle.fab_reports.specs.Reading.{shared}
use Rattle.fab_reports.proofs.Given.{shared_le}

-- what ends within a word ends there, whatever stands behind the word
pub shared_within_word : (w v bytes : List ℕ) → shared w bytes < length w → shared (w ++ v) bytes ≡ shared w bytes
shared_within_word [] v bytes h = absurd (omega arith)
shared_within_word (c ∷ w) v [] h = refl
shared_within_word (c ∷ w) v (b ∷ bytes) h = by (λ g. shared_within_word w v bytes g) (eqb c b) h
  where
    by : (shared w bytes < length w → shared (w ++ v) bytes ≡ shared w bytes) → (t : Bool) → cond t (suc (shared w bytes)) 0 < suc (length w)
        → cond t (suc (shared (w ++ v) bytes)) 0 ≡ cond t (suc (shared w bytes)) 0
    by later true g = ap suc (later (omega arith))
    by later false g = refl

-- and what goes on behind it, goes on there
shared_behind_word : (w v bytes : List ℕ) → shared w bytes ≡ length w → shared (w ++ v) bytes ≡ length w + shared v (drop (length w) bytes)
shared_behind_word [] v bytes h = omega arith
shared_behind_word (c ∷ w) v [] h = absurd (omega arith)
shared_behind_word (c ∷ w) v (b ∷ bytes) h = by (λ g. shared_behind_word w v bytes g) (eqb c b) h
  where
    by : (shared w bytes ≡ length w → shared (w ++ v) bytes ≡ length w + shared v (drop (length w) bytes)) → (t : Bool) → cond t (suc (shared w bytes)) 0 ≡ suc (length w)
        → cond t (suc (shared (w ++ v) bytes)) 0 ≡ suc (length w) + shared v (drop (length w) bytes)
    by later true g = let more = later (omega arith) in omega arith
    by later false g = absurd (omega arith)

pub shared_past_word : (w v bytes : List ℕ) → length w ≤ shared w bytes → shared (w ++ v) bytes ≡ shared w bytes + shared v (drop (shared w bytes) bytes)
shared_past_word w v bytes far =
    let most = shared_le w bytes in
    let whole : shared w bytes ≡ length w = omega arith in
    let same : shared w bytes + shared v (drop (shared w bytes) bytes) ≡ length w + shared v (drop (length w) bytes) = ap (λ (k : ℕ). k + shared v (drop k bytes)) whole in
    let other = shared_behind_word w v bytes whole in
    cc
