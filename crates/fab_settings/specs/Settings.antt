-- What the machine is given by a bundle, and what a bundle must be for integrity to hold of all its runs.
use Rattle.std.specs.Prelude.{◌≡◌, ◌<◌, ◌-◌, ◌^◌, ◌==◌, ℕ, Bool, false, if◌then◌else◌, List, [], map, length, Option, Some, None, option_map, unwrap_or, slice_get}
use Rattle.std.specs.List.{filter, AllByRecursion}
use Rattle.fab_base.specs.declared.object.Tid.{Tid}
use Rattle.fab_base.specs.FlatMap.{FlatMap}
use Rattle.fab_tree.specs.declared.start.Start.{Start}
use Rattle.fab_tree.specs.declared.resolved.Request.{Request}
use Rattle.fab_tree.specs.declared.resolved.Resolved.{Resolved}
use Rattle.fab_tree.specs.Limits.{first_passed}
use Rattle.fab_language.specs.declared.ending.Ending.TheVariants.{Failed}
use Rattle.fab_language.specs.Evaluation.{map_at_start}
use Rattle.fab_language.specs.Faults.{faults}
use Rattle.fab_language.specs.Meaning.{Meant, meaning}
use Rattle.fab_language.specs.Names.{is_hostile}
use Rattle.fab_language.specs.Numbers.{resolved}
use Rattle.fab_labelling.specs.Claims.{IsWellLabelled}
use Rattle.fab_labelling.specs.Placement.{role_of}
use Rattle.fab_places.specs.Places.{AreRights}
use Rattle.fab_rights.specs.declared.rights.Rights.{Rights}
use Rattle.fab_wire.specs.Reading.{read_message}
use Rattle.fab_attempts.specs.Sessions.{requests_of}
use Rattle.fab_world.specs.Crashing.{CrashLine}
use Rattle.fab_world.specs.Machine.{Setting}
use Rattle.fab_settings.specs.Numbers.{IsSmall, values_of}
use Rattle.fab_base.specs.JournalSpelling.{journal_version}

-- it was declared hostile
abbrev pub is_hostile_node : Resolved → ℕ → Bool
is_hostile_node r n = unwrap_or (option_map is_hostile (role_of r n)) false

-- what a node has to post and to whom, in the order of the text
abbrev pub posts_of : Resolved → ℕ → List (ℕ × List ℕ)
posts_of r h = map (λ p. (p.receiver, p.bytes)) (filter (λ p. p.sender == h) r.posts)

-- the crash lines of a node, in the order of the text
abbrev pub lines_of : Resolved → ℕ → List CrashLine
lines_of r n = map (λ c. record { after = c.after; keep = c.keep }) (filter (λ c. c.node == n) r.crashes)

-- a worker's request of this number, from 1
abbrev pub request_at : Resolved → ℕ → ℕ → Option Request
request_at r n number = if number == 0 then None else slice_get (requests_of r n) (number - 1)

-- What a request means in an attempt over a map, with 1,000,000 of fuel. A worker asks for no request that isn't there;
-- one that isn't would fail at once.
abbrev pub meant_of : Resolved → Option Request → Tid → FlatMap → Meant
meant_of r None t N = record { ending = Failed; map = N; written = []; made = []; touches = []; downs = [] }
meant_of r (Some request) t N = meaning r N request t 1000000

abbrev pub setting_of : Resolved → Rights → Setting
setting_of r rights = record {
  rights = rights;
  cache = r.cache;
  hostile = is_hostile_node r;
  first = λ n. journal_version;
  requests = λ n. length (requests_of r n);
  posts = posts_of r;
  roots = map_at_start r;
  read = read_message;
  means = λ n number t N. meant_of r (request_at r n number) t N;
}

-- An accepted bundle, and its rights: within the limits, without faults, well labelled. Masks have 64 bits, and the numbers
-- that stand in the bundle 32; each tree and each mask of the code has so few by its type.
pub record IsAcceptedWith (s : Start) (rights : Rights) : Type 0 where
  pub within : first_passed s ≡ None
  pub named : faults s ≡ []
  pub labelled : IsWellLabelled (resolved s)
  pub rights_are : AreRights (resolved s) rights
  pub workers : rights.workers < 2 ^ 64
  pub stores : rights.stores < 2 ^ 64
  pub numbers : AllByRecursion IsSmall (values_of (resolved s))
