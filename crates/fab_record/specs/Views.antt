-- What is kept of a program to say what a set of nodes sees of it.
use Rattle.std.specs.Prelude.{ℕ, Bool, not, ◌&&◌, List, [], ◌∷◌, if◌then◌else◌}
use Rattle.std.specs.List.{flat_map}
use Rattle.fab_erasure.specs.Agreement.{Downgrading}
use Rattle.fab_release.specs.Sights.{Sight}
use Rattle.fab_rights.specs.Computed.{has_bit}
use Rattle.fab_sets.specs.Numbers.{is_listed}
use Rattle.fab_record.specs.declared.sights.Sights.{Sights}

-- a downgrade goes out of the unseen into the seen
abbrev pub crosses : (ℕ → Bool) → Downgrading → Bool
crosses sees d = not (sees d.1.0) && sees d.1.1

abbrev pub crossing_sites : (ℕ → Bool) → List Downgrading → List ℕ
crossing_sites sees ds = flat_map (λ d. if crosses sees d then d.0 ∷ [] else []) ds

abbrev pub sight_in : Sights → Sight
sight_in x = record {
  has = has_bit x.nodes;
  shows = has_bit x.classes;
  in_view = λ site. not (is_listed site x.hidden.keys);
  into_view = λ site. not (is_listed site x.hidden.keys) && is_listed site x.crossing.keys;
}
