-- Caches behind puts.
use Rattle.std.proofs.Common.{◌≡◌, ℕ, suc, List, [], ◌∷◌, length, refl, ap}
use Rattle.fab_protocol.specs.Caches.{cached}
use Rattle.fab_protocol.specs.Versions.{Rows}

-- there are as many as before
pub cached_as_many : (k : ℕ) (puts : Rows) (s : ℕ) (caches : List Rows) → length (cached k puts s caches) ≡ length caches
cached_as_many k puts s [] = refl
cached_as_many k puts s (cache ∷ caches) = ap suc (cached_as_many k puts (suc s) caches)
