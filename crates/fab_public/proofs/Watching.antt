-- Workers whose caches stay.
use Rattle.std.proofs.Common.{◌≡◌, ℕ, List, [], ◌∷◌, map, refl, ap, subst, sym, ◌∙◌}
use Rattle.std.specs.List.{range_with_len}
use Rattle.fab_cache.specs.Caching.{AreLast, Caching}
use Rattle.fab_public.specs.declared.states.Watched.{Watched}
use Rattle.fab_public.specs.States.{IsCaching, IsRunBy, IsWatched}
use Rattle.fab_release.specs.Sights.{Public}

pub still_caching : (k : ℕ) (x y : Watched) → y.caches ≡ x.caches → IsCaching k x → IsCaching k y
still_caching k x y same is = record {
  limit = ap (λ (c : Caching). c.k) same ∙ is.limit;
  last = subst (λ (c : Caching). AreLast k c.caches) (sym same) is.last;
}

are_last : (k : ℕ) (stores : List ℕ) → AreLast k (map (λ s. []) stores)
are_last k [] = tt
are_last k (s ∷ stores) = (refl, are_last k stores)

-- fresh caches
pub fresh_caching : (k : ℕ) (w : Watched) → w.caches ≡ record { k = k; caches = map (λ s. []) (range_with_len 0 64) } → IsCaching k w
fresh_caching k w fresh = record {
  limit = ap (λ (c : Caching). c.k) fresh;
  last = subst (λ (c : Caching). AreLast k c.caches) (sym fresh) (are_last k (range_with_len 0 64));
}

-- it is run as before
pub still_watched : (P : Public) (x y : Watched) → y.known.by ≡ x.known.by → (IsWatched P x → IsCaching P.cache y) → IsWatched P x → IsWatched P y
still_watched P x y same caching is = record { caching = caching is; by = subst (IsRunBy P) (sym same) is.by }

pub watched_still : (P : Public) (x y : Watched) → y.caches ≡ x.caches → y.known.by ≡ x.known.by → IsWatched P x → IsWatched P y
watched_still P x y caches same is = still_watched P x y same (λ f. still_caching P.cache x y caches f.caching) is
