-- The summary of a run: how many requests there were, how many of them were committed, how many objects are held, and
-- what the numbers in their fields come to.
use Rattle.std.specs.Prelude.{ℕ, Bool, true, false, List, [], ◌∷◌, ◌++◌, map, length, count_by, codes, flat_map, ℤ, pos, ◌+ℤ◌}
use Rattle.std.specs.Fmt.{decimal, signed_decimal}
use Rattle.fab_base.specs.declared.object.Oid.{Oid}
use Rattle.fab_base.specs.declared.object.Object.{Object}
use Rattle.fab_base.specs.declared.object.Value.{Value}
use Rattle.fab_base.specs.declared.object.Value.TheVariants.{Int, Null, Ref}
use Rattle.fab_language.specs.Words.{line, spaced}
use Rattle.fab_net.specs.declared.outcome.ReqOutcome.{ReqOutcome}
use Rattle.fab_net.specs.declared.outcome.ReqOutcome.TheVariants as o

-- these lists one behind the other
abbrev pub joined : {A : Type 0} → List (List A) → List A
joined lists = flat_map (λ xs. xs) lists

abbrev pub is_committed : ReqOutcome → Bool
is_committed (o.Committed t value) = true
is_committed _ = false

-- what a field counts
abbrev pub number_in : Value → ℤ
number_in (Int n) = n
number_in Null = pos 0
number_in (Ref o) = pos 0

-- of an object that is held
abbrev pub numbers_of : Oid × ℕ × Object → List ℤ
numbers_of row = map number_in row.2.fields

-- what numbers come to
abbrev pub total : List ℤ → ℤ
total [] = pos 0
total (n ∷ ns) = n +ℤ total ns

abbrev pub summary_line : ℕ → ℕ → ℕ → ℤ → List ℕ
summary_line requests committed objects sum =
    line (codes "requests"
    ++ spaced (decimal requests ∷ codes "committed" ∷ decimal committed ∷ codes "objects" ∷ decimal objects ∷ codes "total" ∷ signed_decimal sum ∷ []))

-- of what is held at each node, and the outcomes of each node's requests
abbrev pub summary_of : List (List (Oid × ℕ × Object)) → List (List ReqOutcome) → List ℕ
summary_of held outcomes =
    let requests = joined outcomes in
    let objects = joined held in
    summary_line (length requests) (count_by is_committed requests) (length objects) (total (flat_map numbers_of objects))
