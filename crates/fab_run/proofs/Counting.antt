-- Counts that are those of who reads beside a run.
use Rattle.std.proofs.Common.{◌≡◌, ℕ, zero, suc, ◌≤◌, ◌<◌, ◌+◌, List, [], ◌∷◌, ◌++◌, length, map, take, get_or, replicate, Some, Result, Ok, Err, IfOk, refl, sym, ap, ◌∙◌, subst, arith}
use Rattle.std.specs.Prelude.{slice_get}
use Rattle.std.specs.List.{AllByRecursion}
use Rattle.fab_net.specs.declared.note.Commit.{Commit}
use Rattle.fab_reads.specs.Reads.{AreCounts, NeverFall}
use Rattle.fab_reads.proofs.Walking.{at_least}

-- ---- walks

-- what is made of one element more
pub one_taken : {A B : Type 0} (f : A → B) (xs : List A) (i : ℕ) (x : A) → i < length xs → x ≡ get_or xs i x → map f (take (suc i) xs) ≡ map f (take i xs) ++ f x ∷ []
one_taken f [] i x h is = absurd (omega (arith, h))
one_taken f (y ∷ ys) zero x h is = ap (λ z. f z ∷ []) (sym is)
one_taken f (y ∷ ys) (suc i) x h is = ap (λ l. f y ∷ l) (one_taken f ys i x (omega (arith, h)) is)

-- ---- those that were seen

-- one number more that is no smaller than the one before
pub rises : (last k : ℕ) (ks rest all : List ℕ) → rest ≡ k ∷ ks → last ≤ k
    → (NeverFall rest → AllByRecursion (λ j. last ≤ j) rest → NeverFall all)
    → NeverFall ks → AllByRecursion (λ j. k ≤ j) ks → NeverFall all
rises last k ks rest all is up h fall least =
    let fall_rest : NeverFall rest = subst NeverFall (sym is) (least, fall) in
    let least_rest : AllByRecursion (λ j. last ≤ j) rest = subst (AllByRecursion (λ j. last ≤ j)) (sym is) (up, at_least last k ks up least) in
    h fall_rest least_rest

pub risen : (last : ℕ) (rest all : List ℕ) → length rest ≡ 0 → (NeverFall rest → AllByRecursion (λ j. last ≤ j) rest → NeverFall all) → NeverFall all
risen last [] all none h = h tt tt
risen last (k ∷ ks) all none h = absurd (omega (arith, none))

pub falls_not : (last k : ℕ) (ks rest : List ℕ) → rest ≡ k ∷ ks → k < last → AllByRecursion (λ j. last ≤ j) rest → ⊥
falls_not last k ks rest is less all = let first = (subst (AllByRecursion (λ j. last ≤ j)) is all).0 in omega (arith, less, first)

long : (ks : List ℕ) (k : ℕ) → length (ks ++ k ∷ []) ≡ suc (length ks)
long [] k = refl
long (j ∷ ks) k = ap suc (long ks k)

last_of : (ks : List ℕ) (k : ℕ) → slice_get (ks ++ k ∷ []) (length ks) ≡ Some k
last_of [] k = refl
last_of (j ∷ ks) k = last_of ks k

long_map : {A B : Type 0} (f : A → B) (xs : List A) → length (map f xs) ≡ length xs
long_map f [] = refl
long_map f (x ∷ xs) = ap suc (long_map f xs)

pub seen_counts : {A : Type 0} (f : A → ℕ) (times all : ℕ) (seen : List A) (counts : List ℕ) (commits : List Commit)
    → length seen ≡ times → counts ≡ map f seen ++ all ∷ [] → all ≡ length commits → NeverFall counts → AreCounts times commits counts
seen_counts f times all seen counts commits many is whole rising =
    let count = long_map f seen ∙ many in
    record {
      many = ap length is ∙ long (map f seen) all ∙ ap suc count;
      rising = rising;
      whole = ap (λ l. slice_get l times) is ∙ ap (slice_get (map f seen ++ all ∷ [])) (sym count) ∙ last_of (map f seen) all ∙ ap Some whole;
    }

-- ---- the same number so many times

long_same : (n k : ℕ) → length (replicate n k) ≡ n
long_same zero k = refl
long_same (suc n) k = ap suc (long_same n k)

same_least : (n k : ℕ) → AllByRecursion (λ j. k ≤ j) (replicate n k)
same_least zero k = tt
same_least (suc n) k = (omega arith, same_least n k)

same_rising : (n k : ℕ) → NeverFall (replicate n k)
same_rising zero k = tt
same_rising (suc n) k = (same_least n k, same_rising n k)

same_last : (n k : ℕ) → slice_get (replicate (suc n) k) n ≡ Some k
same_last zero k = refl
same_last (suc n) k = same_last n k

pub behind_all : (times all : ℕ) (counts : List ℕ) (commits : List Commit) → counts ≡ replicate (suc times) all → all ≡ length commits → AreCounts times commits counts
behind_all times all counts commits is whole = record {
  many = ap length is ∙ long_same (suc times) all;
  rising = subst NeverFall (sym is) (same_rising (suc times) all);
  whole = ap (λ l. slice_get l times) is ∙ same_last times all ∙ ap Some whole;
}

pub behind : {E : Type 0} (result : Result (List ℕ) E) (times all : ℕ) (commits : List Commit) → all ≡ length commits
    → IfOk result (λ counts. counts ≡ replicate (times + 1) all) → IfOk result (AreCounts times commits)
behind (Ok counts) times all commits whole is = behind_all times all counts commits (is ∙ ap (λ n. replicate n all) (next times)) whole
  where
    next : (n : ℕ) → n + 1 ≡ suc n
    next n = omega arith
behind (Err e) times all commits whole is = tt
