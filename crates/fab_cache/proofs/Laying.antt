-- New caches in the places of old ones.
use Rattle.std.proofs.Common.{◌≡◌, ℕ, suc, ◌<◌, ◌≤◌, List, [], ◌∷◌, ◌++◌, map, length, set, true, false, ◌==◌, ◌||◌, cond, Option, Some, None, unwrap_or, refl, sym, ap, ◌∙◌, append-nil, length-append, arith}
use Rattle.std.specs.List.{list_any}
use Rattle.std.proofs.lemmas.Bool.{or_parts, true≢false}
use Rattle.std.proofs.lemmas.List.{length-set}
use Rattle.fab_protocol.specs.Versions.{Rows}
use Rattle.fab_protocol.specs.Caches.{last_distinct, at_store, cached}
use Rattle.fab_cache.specs.Caching.{AreFew, AreLast, AreOnce, laid, renewed, renewed_one}
use Rattle.fab_cache.proofs.Lasting.{last_again, last_few, last_once}

-- ---- laid over the old ones, new caches are what puts make of them

one_laid : (k : ℕ) (puts cache : Rows) → last_distinct k cache ≡ cache → unwrap_or (renewed_one k puts cache) cache ≡ last_distinct k (cache ++ puts)
one_laid k [] cache own = sym (ap (last_distinct k) (append-nil cache) ∙ own)
one_laid k (put ∷ puts) cache own = refl

pub laid_renewed : (k : ℕ) (puts : Rows) (s : ℕ) (caches : List Rows) → AreLast k caches → laid (renewed k puts s caches) caches ≡ cached k puts s caches
laid_renewed k puts s [] own = refl
laid_renewed k puts s (cache ∷ caches) own =
    λ i. one_laid k (at_store s puts) cache own.0 i ∷ laid_renewed k puts (suc s) caches own.1 i

-- ---- what holds of what puts make

pub cached_last : (k : ℕ) (puts : Rows) (s : ℕ) (caches : List Rows) → AreLast k (cached k puts s caches)
cached_last k puts s [] = tt
cached_last k puts s (cache ∷ caches) = (last_again k (cache ++ at_store s puts), cached_last k puts (suc s) caches)

pub cached_few : (k : ℕ) (puts : Rows) (s : ℕ) (caches : List Rows) → AreFew k (cached k puts s caches)
cached_few k puts s [] = tt
cached_few k puts s (cache ∷ caches) = (last_few k (cache ++ at_store s puts), cached_few k puts (suc s) caches)

pub cached_once : (k : ℕ) (puts : Rows) (s : ℕ) (caches : List Rows) → AreOnce (cached k puts s caches)
cached_once k puts s [] = tt
cached_once k puts s (cache ∷ caches) = (last_once k (cache ++ at_store s puts), cached_once k puts (suc s) caches)

pub empty_last : {A : Type 0} (k : ℕ) (xs : List A) → AreLast k (map (λ x. []) xs)
empty_last k [] = tt
empty_last k (x ∷ xs) = (refl, empty_last k xs)

-- ---- new caches

pub renewed_as_many : (k : ℕ) (puts : Rows) (s : ℕ) (caches : List Rows) → length (renewed k puts s caches) ≡ length caches
renewed_as_many k puts s [] = refl
renewed_as_many k puts s (cache ∷ caches) = ap suc (renewed_as_many k puts (suc s) caches)

-- a store that no put is of, and one that some is of
pub none_here : (s : ℕ) (puts : Rows) → list_any (λ row. row.0.store == s) puts ≡ false → at_store s puts ≡ []
none_here s [] h = refl
none_here s (put ∷ puts) h =
    let parts = or_parts (put.0.store == s) (list_any (λ row. row.0.store == s) puts) h in
    ap (λ b. cond b (put ∷ at_store s puts) (at_store s puts)) parts.0 ∙ none_here s puts parts.1

pub some_here : (k s : ℕ) (puts cache : Rows) → list_any (λ row. row.0.store == s) puts ≡ true
    → renewed_one k (at_store s puts) cache ≡ Some (last_distinct k (cache ++ at_store s puts))
some_here k s [] cache h = absurd (true≢false (sym h))
some_here k s (put ∷ puts) cache h =
    elim (put.0.store == s) as (λ b. (put.0.store == s) ≡ b → renewed_one k (cond b (put ∷ at_store s puts) (at_store s puts)) cache
    ≡ Some (last_distinct k (cache ++ cond b (put ∷ at_store s puts) (at_store s puts)))) [
      | true ↦ λ e. refl
      | false ↦ λ e. some_here k s puts cache (sym (ap (λ b. b || list_any (λ row. row.0.store == s) puts) e) ∙ h)
    ] refl

-- ---- the last of new caches first

laid_none : (news : List (Option Rows)) (olds : List Rows) → laid (news ++ None ∷ []) olds ≡ laid news olds
laid_none [] [] = refl
laid_none [] (old ∷ olds) = refl
laid_none (one ∷ news) [] = refl
laid_none (one ∷ news) (old ∷ olds) = ap (λ l. unwrap_or one old ∷ l) (laid_none news olds)

laid_some : (news : List (Option Rows)) (olds : List Rows) (cache : Rows) → length news < length olds
    → laid (news ++ Some cache ∷ []) olds ≡ laid news (set olds (length news) cache)
laid_some [] [] cache h = absurd (omega (arith, h))
laid_some [] (old ∷ olds) cache h = refl
laid_some (one ∷ news) [] cache h = absurd (omega (arith, h))
laid_some (one ∷ news) (old ∷ olds) cache h = ap (λ l. unwrap_or one old ∷ l) (laid_some news olds cache (omega (arith, h)))

pub shorter : (news rest : List (Option Rows)) (one : Option Rows) (n : ℕ) → news ≡ rest ++ one ∷ [] → length news ≤ n → length rest < n
shorter news rest one n split fits = omega (arith, ap length split, length-append rest (one ∷ []), fits)

pub still_fits : (rest : List (Option Rows)) (olds : List Rows) (i : ℕ) (cache : Rows) → length rest < length olds → length rest ≤ length (set olds i cache)
still_fits rest olds i cache h = omega (arith, h, length-set olds i cache)

pub none_laid : (news rest : List (Option Rows)) (one : Option Rows) (olds : List Rows) → news ≡ rest ++ one ∷ [] → one ≡ None
    → laid news olds ≡ laid rest olds
none_laid news rest one olds split is = ap (λ l. laid l olds) (split ∙ ap (λ o. rest ++ o ∷ []) is) ∙ laid_none rest olds

pub some_laid : (news rest : List (Option Rows)) (one : Option Rows) (cache : Rows) (olds : List Rows) (i : ℕ) → news ≡ rest ++ one ∷ []
    → one ≡ Some cache → i ≡ length rest → length news ≤ length olds → laid news olds ≡ laid rest (set olds i cache)
some_laid news rest one cache olds i split is place fits =
    ap (λ l. laid l olds) (split ∙ ap (λ o. rest ++ o ∷ []) is)
    ∙ laid_some rest olds cache (shorter news rest one (length olds) split fits)
    ∙ ap (λ n. laid rest (set olds n cache)) (sym place)
