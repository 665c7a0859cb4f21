-- The labels of sites, as they are gathered.
use Rattle.std.specs.Prelude.{ℕ, List, ◌++◌, map}
use Rattle.fab_labelling.specs.Sites.{Sited, all_under}

-- behind these the labels of further sites
unfoldable pub all_sited : List (List ℕ) → Sited → List (List ℕ)
all_sited out xs = out ++ map (λ x. x.1) xs

-- the same of sites under the same labels
abbrev pub with_sites : List (List ℕ) → List ℕ → List ℕ → List (List ℕ)
with_sites out pc sites = all_sited out (all_under pc sites)
