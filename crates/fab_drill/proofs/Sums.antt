-- Sums and counts over lists put together.
use Rattle.std.proofs.Common.{◌≡◌, ℕ, List, [], ◌∷◌, ◌++◌, flat_map, ℤ, ◌+ℤ◌, ap, sym, ◌∙◌}
use Rattle.std.proofs.Math.IntN.{+ℤ_assoc, +ℤ_idl}
use Rattle.std.proofs.lemmas.Grind.{flat_map-append}
use Rattle.fab_base.specs.declared.object.Oid.{Oid}
use Rattle.fab_base.specs.declared.object.Object.{Object}
use Rattle.fab_drill.specs.Summary.{joined, numbers_of, total}

total-append : (front others : List ℤ) → total (front ++ others) ≡ total front +ℤ total others
total-append [] others = sym (+ℤ_idl (total others))
total-append (n ∷ front) others = ap (λ k. n +ℤ k) (total-append front others) ∙ sym (+ℤ_assoc n (total front) (total others))

-- some numbers on, the sum so far and that of those to come are what they were
pub sum_on : (before now all : ℤ) (front others : List ℤ) → now ≡ before +ℤ total front → before +ℤ total (front ++ others) ≡ all → now +ℤ total others ≡ all
sum_on before now all front others added so_far =
    ap (λ k. k +ℤ total others) added
    ∙ +ℤ_assoc before (total front) (total others)
    ∙ ap (λ k. before +ℤ k) (sym (total-append front others))
    ∙ so_far

-- the same of the objects of a store
pub store_on : (before now all : ℤ) (rows : List (Oid × ℕ × Object)) (stores : List (List (Oid × ℕ × Object))) → now ≡ before +ℤ total (flat_map numbers_of rows)
    → before +ℤ total (flat_map numbers_of (joined (rows ∷ stores))) ≡ all → now +ℤ total (flat_map numbers_of (joined stores)) ≡ all
store_on before now all rows stores added so_far =
    sum_on before now all (flat_map numbers_of rows) (flat_map numbers_of (joined stores)) added
    (ap (λ ns. before +ℤ total ns) (sym (flat_map-append numbers_of rows (joined stores))) ∙ so_far)
