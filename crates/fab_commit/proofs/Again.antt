-- Commits that are told again, one decision more.
use Rattle.std.proofs.Common.{◌≡◌, ℕ, ◌+◌, ◌<◌, List, [], ◌∷◌, ◌++◌, map, length, take, get_or, append-nil, ap, ◌∙◌}
use Rattle.std.specs.List.{flat_map}
use Rattle.std.proofs.lemmas.Grind.{flat_map-append}
use Rattle.std.proofs.lemmas.List.{map-append, take_more}
use Rattle.std.proofs.lemmas.Simd.{map-map}
use Rattle.fab_base.specs.MessageSpelling.{spelled}
use Rattle.fab_base.specs.declared.message.Message.{Message}
use Rattle.fab_base.specs.declared.message.Message.TheVariants.{Commit}
use Rattle.fab_protocol.specs.declared.parts.Decision.{Decision}
use Rattle.fab_commit.specs.Coordinators.{commits_of, spelled_sends}

abbrev as_bytes : ℕ × Message → ℕ × List ℕ
as_bytes x = (x.0, spelled x.1)

abbrev commits_in : Decision → List (ℕ × Message)
commits_in d = map (λ s. (s, Commit d.tid)) d.stores

pub commits_more : (decided : List Decision) (i : ℕ) (d : Decision) → i < length decided
    → spelled_sends (commits_of (take (i + 1) decided))
    ≡ spelled_sends (commits_of (take i decided)) ++ map (λ s. (s, spelled (Commit (get_or decided i d).tid))) (get_or decided i d).stores
commits_more decided i d h =
    ap (λ ds. spelled_sends (commits_of ds)) (take_more decided i d h)
    ∙ ap (map as_bytes) (flat_map-append commits_in (take i decided) (get_or decided i d ∷ []))
    ∙ map-append as_bytes (flat_map commits_in (take i decided)) (commits_in (get_or decided i d) ++ [])
    ∙ ap (λ l. map as_bytes (flat_map commits_in (take i decided)) ++ l)
    (ap (map as_bytes) (append-nil (commits_in (get_or decided i d))) ∙ map-map as_bytes (λ s. (s, Commit (get_or decided i d).tid)) (get_or decided i d).stores)
