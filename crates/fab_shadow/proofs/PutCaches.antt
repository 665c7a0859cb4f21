-- Caches behind puts: the cache of a store depends on its own puts alone.
use Rattle.std.proofs.Common.{◌≡◌, ℕ, zero, suc, ◌+◌, List, [], ◌∷◌, ◌++◌, length, refl, arith}
use Rattle.fab_protocol.specs.Caches.{at_store, cached, last_distinct}
use Rattle.fab_protocol.specs.Versions.{Rows}
use Rattle.fab_shadow.proofs.Shadow.{cache_of}

-- the same at a store where the same was cached and the same is put
pub cached_alike : (k : ℕ) (puts others : Rows) (from : ℕ) (xs ys : List Rows) (s : ℕ) → length xs ≡ length ys → cache_of xs s ≡ cache_of ys s
    → ((d : ℕ) → d ≡ from + s → at_store d puts ≡ at_store d others) → cache_of (cached k puts from xs) s ≡ cache_of (cached k others from ys) s
cached_alike k puts others from [] [] s long same put = refl
cached_alike k puts others from [] (y ∷ ys) s long same put = absurd (omega (arith, long))
cached_alike k puts others from (x ∷ xs) [] s long same put = absurd (omega (arith, long))
cached_alike k puts others from (x ∷ xs) (y ∷ ys) zero long same put = λ i. last_distinct k (same i ++ put from (omega arith) i)
cached_alike k puts others from (x ∷ xs) (y ∷ ys) (suc s) long same put =
    cached_alike k puts others (suc from) xs ys s (omega (arith, long)) same (λ d e. put d (omega (arith, e)))
