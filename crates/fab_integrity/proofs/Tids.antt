-- Tids: those that are one, their ranks, which rise from boot to boot, and those that messages can spell.
use Rattle.std.specs.Prelude.{◌≡◌, ℕ, suc, ◌+◌, ◌<◌, ◌≤◌, Bool, true, false, not, ◌&&◌, ◌||◌, ◌==◌, nat_lt, IsTrue}
use Rattle.std.proofs.Common.{sym, ap, ◌∙◌, subst, inl, inr, arith}
use Rattle.std.proofs.lemmas.Bool.{and_parts, and_cases, or_parts, eqb-true, eqb-false, ltb-false}
use Rattle.std.proofs.lemmas.Bool.Decides.{nat_tests}
use Rattle.fab_base.specs.declared.object.Oid.{Oid}
use Rattle.fab_base.specs.declared.object.Tid.{Tid}
use Rattle.fab_base.specs.FieldSpelling.{IsTid}
use Rattle.fab_base.specs.Tids.{is_above}
use Rattle.fab_protocol.specs.Versions.{is_tid, maker_of, is_made_in}
use Rattle.fab_protocol.proofs.Commits.{tid_itself}
use Rattle.fab_world.specs.Workers as workers
use Rattle.fab_world.specs.Workers.{Attempt, Kept, Phase, tid_of}
use Rattle.fab_integrity.proofs.Invariant.{Standing, limit, limit_in, limit_at, rank, rank_of}

-- ---- tids that are one

-- tids that pass the test are one, and the other way
pub tid_is : (t u : Tid) → is_tid t u ≡ true → t ≡ u
tid_is t u h =
    let a = and_parts (t.worker == u.worker) ((t.boot == u.boot) && (t.number == u.number)) h in
    let b = and_parts (t.boot == u.boot) (t.number == u.number) a.1 in
    λ i. record { worker = eqb-true t.worker u.worker a.0 i; boot = eqb-true t.boot u.boot b.0 i; number = eqb-true t.number u.number b.1 i }

pub tid_same : (t u : Tid) → t ≡ u → IsTrue (is_tid t u)
tid_same t u e = subst (λ x. IsTrue (is_tid t x)) e (tid_itself t)

-- a name is made in one tid at most
pub made_in_one : (t u : Tid) (o : Oid) → is_made_in t o ≡ true → is_made_in u o ≡ true → t ≡ u
made_in_one t u o h g = sym (tid_is (maker_of o) t h) ∙ tid_is (maker_of o) u g

-- no tid is above itself, so what an attempt may know of wasn't made in it
pub above_itself : (w b k : ℕ) (o : Oid) → is_tid (maker_of o) (record { worker = w; boot = b; number = k }) ≡ true
    → (not (o.worker == w) || is_above (record { worker = w; boot = b; number = k }) (maker_of o)) ≡ false
above_itself w b k o h = grind (arith, nat_tests)

-- ---- ranks

-- a tid above another of small number has the greater rank
pub above_rank : (t l : Tid) → is_above t l ≡ true → l.number < 4294967296 → rank_of l < rank_of t
above_rank t l h low = grind (arith, nat_tests)

-- a tid that is no later than the last one has no higher rank
pub not_above : (t last : Tid) → is_above t last ≡ false → t.number < 4294967296 → rank_of t ≤ rank_of last
not_above t last h low =
    let g = or_parts (nat_lt last.boot t.boot) ((t.boot == last.boot) && nat_lt last.number t.number) h in
    let boots : t.boot ≤ last.boot = ltb-false last.boot t.boot g.0 in
    elim (and_cases (t.boot == last.boot) (nat_lt last.number t.number) g.1) [
      | inl other ↦ let apart = eqb-false t.boot last.boot other in omega (arith, boots, apart, low)
      | inr later ↦ let numbers : t.number ≤ last.number = ltb-false last.number t.number later in omega (arith, boots, numbers)
    ]

-- each tid that was prepared is that of the attempt, or an earlier one
pub limit_at_most : (phase : Phase) (k : ℕ) → limit_at phase k ≤ suc k
limit_at_most workers.Idle k = omega arith
limit_at_most workers.Evaluating k = omega arith
limit_at_most (workers.Fetching o) k = omega arith
limit_at_most (workers.Preparing ls) k = omega arith

-- the next boot comes behind each number of this one
pub limit_next : (up : Bool) (boot : ℕ) (a : Attempt) → boot + a.number ≤ 4000000001 → limit_in up boot a ≤ rank (suc boot) 0
limit_next true boot a low = omega (arith, limit_at_most a.phase a.number)
limit_next false boot a low = omega arith

-- a worker that is down stands before its next boot
pub limit_asleep : (v : Standing) → v.up ≡ false → limit v ≡ rank (suc v.kept.boot) 0
limit_asleep v e = ap (λ b. limit_in b v.kept.boot v.attempt) e

-- what is below the limit is of no later boot
pub early_boot : (t : Tid) (v : Standing) → rank_of t < limit v → v.kept.boot + v.attempt.number ≤ 4000000001 → t.boot ≤ v.kept.boot
early_boot t v early low = omega (arith, limit_next v.up v.kept.boot v.attempt low)

-- ---- tids that messages can spell

-- that of an attempt
pub tid_spelled : (n : ℕ) (k : Kept) (a : Attempt) → n < 64 → k.boot + a.number ≤ 4000000001 → IsTid (tid_of n k a)
tid_spelled n k a low few = record { worker = omega (arith, low); boot = omega (arith, few); number = omega (arith, few) }

-- and one that was prepared, if its number is small
pub early_spelled : (n : ℕ) (v : Standing) (t : Tid) → n < 64 → t.worker ≡ n → rank_of t < limit v → v.kept.boot + v.attempt.number ≤ 4000000001
    → t.number < 4294967296 → IsTid t
early_spelled n v t node own early low number =
    let le = early_boot t v early low in
    record { worker = omega (arith, node, own); boot = omega (arith, le, low); number = number }
