-- Caches by example: what puts renew, and what they leave alone.
use Rattle.std.proofs.Common.{◌≡◌, ℕ, List, [], ◌∷◌, Some, None, pos, refl}
use Rattle.fab_protocol.specs.Versions.{Row, Rows}
use Rattle.fab_protocol.specs.Caches.{last_distinct}
use Rattle.fab_protocol.proofs.Toy.{account, holding}
use Rattle.fab_cache.specs.Caching.{laid, lasting, renewed}

-- version n of an account, at store 1
abbrev seen : ℕ → ℕ → Row
seen a n = (account a, n, holding (pos 5))

abbrev caches : List Rows
caches = [] ∷ (seen 0 1 ∷ seen 1 1 ∷ []) ∷ []

-- the put of a name that is there makes it the newest
put_again : renewed 2 (seen 0 2 ∷ []) 0 caches ≡ None ∷ Some (seen 1 1 ∷ seen 0 2 ∷ []) ∷ []
put_again = refl

-- one of another name drives the oldest out
put_more : laid (renewed 2 (seen 2 1 ∷ []) 0 caches) caches ≡ [] ∷ (seen 1 1 ∷ seen 2 1 ∷ []) ∷ []
put_more = refl

-- without room nothing is kept, though the store is renewed
no_room : renewed 0 (seen 0 2 ∷ []) 0 caches ≡ None ∷ Some [] ∷ []
no_room = refl

-- a cache that is longer than it may be isn't its own last
too_long : last_distinct 1 (seen 0 1 ∷ seen 1 1 ∷ []) ≡ seen 1 1 ∷ []
too_long = refl

-- in front of newer rows, those of other names stay, the last ones
before_newer : lasting 2 (seen 0 1 ∷ seen 2 1 ∷ seen 1 1 ∷ []) (seen 1 2 ∷ []) ≡ seen 2 1 ∷ seen 1 2 ∷ []
before_newer = refl
