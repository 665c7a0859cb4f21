-- Worked examples of the summary.
use Rattle.std.proofs.Common.{◌≡◌, ℕ, true, List, [], ◌∷◌, Some, None, refl, codes, count_by, pos, negsuc}
use Rattle.std.specs.Fmt.{digits}
use Rattle.fab_base.specs.declared.object.Oid.{Oid}
use Rattle.fab_base.specs.declared.object.Object.{Object}
use Rattle.fab_base.specs.declared.object.Value.{Value}
use Rattle.fab_base.specs.declared.object.Value.TheVariants.{Int, Null, Ref}
use Rattle.fab_base.specs.declared.object.Stop.TheVariants.{Fuel}
use Rattle.fab_net.specs.declared.outcome.Denial.TheVariants.{Rights}
use Rattle.fab_net.specs.declared.outcome.ReqOutcome.{ReqOutcome}
use Rattle.fab_net.specs.declared.outcome.ReqOutcome.TheVariants as o
use Rattle.fab_drill.specs.Summary.{is_committed, numbers_of, total, summary_of}

abbrev named : ℕ → Oid
named n = record { store = 1; class = 0; worker = 65535; boot = 0; number = n; site = 65535; index = 0 }

abbrev row : ℕ → ℕ → List Value → Oid × ℕ × Object
row n version fields = (named n, version, record { class = 0; fields = fields })

abbrev done : ReqOutcome
done = o.Committed (record { worker = 0; boot = 1; number = 1 }) None

-- ---- requests

others : List ReqOutcome
others = o.Failed ∷ o.Conflict ∷ o.Silent 1 ∷ o.Denied 1 Rights ∷ o.Stopped Fuel ∷ o.NodeDown ∷ o.Unfinished ∷ []

-- no other end is a commit
one_end_counts : count_by is_committed (done ∷ others) ≡ 1
unfolding others
one_end_counts = refl

-- a commit with a value counts, too
with_value : is_committed (o.Committed (record { worker = 2; boot = 1; number = 7 }) (Some Null)) ≡ true
with_value = refl

-- ---- fields

-- neither a reference nor null nor a version counts
numbers_alone : total (numbers_of (row 0 9 (Int (pos 3) ∷ Null ∷ Ref (named 1) ∷ Int (negsuc 4) ∷ []))) ≡ negsuc 1
numbers_alone = refl

-- 32 bits don't bound a sum
beyond : total (pos 2147483647 ∷ pos 2147483647 ∷ []) ≡ pos 4294967294
beyond = refl

-- ---- the whole

nothing : summary_of [] [] ≡ codes "requests 0 committed 0 objects 0 total 0\n"
unfolding digits
nothing = refl

-- of four nodes, two of them workers and one a store
whole : summary_of ([] ∷ [] ∷ (row 0 2 (Int (pos 1005) ∷ []) ∷ row 1 1 (Null ∷ []) ∷ row 2 3 (Int (pos 995) ∷ Ref (named 0) ∷ []) ∷ []) ∷ [] ∷ [])
    ((done ∷ o.Failed ∷ done ∷ []) ∷ (done ∷ o.Silent 2 ∷ []) ∷ [] ∷ [] ∷ []) ≡ codes "requests 5 committed 3 objects 3 total 2000\n"
unfolding digits
whole = refl

below_zero : summary_of ((row 0 1 (Int (negsuc 2147483647) ∷ []) ∷ []) ∷ (row 1 1 (Int (negsuc 0) ∷ []) ∷ []) ∷ []) ((o.Unfinished ∷ []) ∷ [])
    ≡ codes "requests 1 committed 0 objects 2 total -2147483649\n"
unfolding digits
below_zero = refl
