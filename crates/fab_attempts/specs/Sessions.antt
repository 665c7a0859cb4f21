-- What is asked of a worker, and what its program must be for it to be evaluated and spelled.
use Rattle.std.specs.Prelude.{◌≡◌, ℕ, ◌≤◌, ◌<◌, ◌^◌, ◌==◌, true, List, [], map, length, Option, Some, None}
use Rattle.std.specs.List.{AllByRecursion, find}
use Rattle.fab_tree.specs.declared.resolved.Request.{Request}
use Rattle.fab_tree.specs.declared.resolved.Resolved.{Resolved}
use Rattle.fab_tree.specs.declared.resolved.Session.{Session}
use Rattle.fab_laws.specs.Shapes.{is_fitting, IsFitting}
use Rattle.fab_places.specs.Places.{shape_of}
use Rattle.fab_rights.specs.declared.rights.Rights.{Rights}

-- the requests of a worker's session, in order; none where it has no session
abbrev pub requests_in : Option Session → List Request
requests_in None = []
requests_in (Some session) = map (λ asked. asked.request) session.requests

abbrev pub requests_of : Resolved → ℕ → List Request
requests_of program n = requests_in (find (λ session. session.worker.number == n) program.sessions)

-- Values fit where the program puts them, and so do the arguments of this worker's requests; classes have at most
-- 16 fields, and the rights know these fields.
pub record IsProgramOf (program : Resolved) (n : ℕ) (rights : Rights) : Type 0 where
  pub fitting : is_fitting program ≡ true
  pub requests : AllByRecursion (IsFitting program) (requests_of program n)
  pub few : length (requests_of program n) < 2 ^ 32
  pub fields : AllByRecursion (λ class. length class.fields ≤ 16) program.classes
  pub shapes : map (λ class. class.fields) rights.classes ≡ map (λ class. map shape_of class.fields) program.classes
