-- What a set of nodes sees of a bundle, and what it may know of it before any run.
use Rattle.std.specs.Prelude.{ℕ, Bool, if◌then◌else◌, List, [], map, Option, Some, None, slice_get}
use Rattle.std.specs.List.{filter}
use Rattle.fab_base.specs.declared.object.Tid.{Tid}
use Rattle.fab_base.specs.declared.object.Value.{Value}
use Rattle.fab_base.specs.FlatMap.{FlatMap}
use Rattle.fab_tree.specs.declared.resolved.Asked.{Asked}
use Rattle.fab_tree.specs.declared.resolved.Method.{Method}
use Rattle.fab_tree.specs.declared.resolved.Request.{Request}
use Rattle.fab_tree.specs.declared.resolved.Resolved.{Resolved}
use Rattle.fab_tree.specs.declared.resolved.Root.{Root}
use Rattle.fab_tree.specs.declared.resolved.Session.{Session}
use Rattle.fab_language.specs.declared.ending.Ending.TheVariants.{Failed}
use Rattle.fab_language.specs.Evaluation.{map_at_start}
use Rattle.fab_language.specs.Meaning.{Meant}
use Rattle.fab_rights.specs.declared.rights.Rights.{Rights}
use Rattle.fab_wire.specs.Reading.{read_message}
use Rattle.fab_settings.specs.Settings.{request_at}
use Rattle.fab_erasure.specs.Erased.{erased, args_shown}
use Rattle.fab_erasure.specs.Agreement.{in_view, goes_into_view}
use Rattle.fab_release.specs.Sights.{Sight, Public}

-- by the labels and classes that it sees
module _ (sees shows : ℕ → Bool) where
  -- a root keeps its name, and its values where its class is seen
  abbrev pub public_root : Root → Root
  public_root x = record x {
    name = record x.name { at = 0 };
    values = if shows x.oid.class then x.values else [];
  }

  -- what a method's parameters are given, null where a parameter's label isn't seen; all of it, where there is no such method
  abbrev pub public_args : Option Method → List Value → List Value
  public_args None args = args
  public_args (Some m) args = args_shown sees shows m.locals args

  abbrev pub public_asked : List Method → Asked → Asked
  public_asked methods x = record {
    request = record x.request { args = public_args (slice_get methods x.request.method) x.request.args };
    at = 0;
  }

  abbrev pub public_session : List Method → Session → Session
  public_session methods x = record {
    worker = record x.worker { at = 0 };
    requests = map (public_asked methods) x.requests;
  }

  -- The whole program, the nodes and the delegations; each root's name, class and store; of each request its worker, method and what of
  -- its arguments is seen; and how many objects a cache keeps. Nothing of posts, crash lines and schedule, and no place of the run part.
  abbrev pub public_part : Resolved → Resolved
  public_part r = record r {
    roots = map public_root r.roots;
    sessions = map (public_session r.methods) r.sessions;
    posts = [];
    crashes = [];
    schedule = [];
  }

  -- the set sees this of a program
  abbrev pub sight_of : (ℕ → Bool) → Resolved → Sight
  sight_of has r = record { has = has; shows = shows; in_view = in_view sees shows r; into_view = goes_into_view sees shows r }

  -- of a request that isn't there nothing comes
  abbrev pub erased_of : Resolved → Option Request → Tid → FlatMap → List Value → Meant
  erased_of part None t known given = record { ending = Failed; map = known; written = []; made = []; touches = []; downs = [] }
  erased_of part (Some request) t known given = erased sees shows part known request t 1000000 given

  -- and may know this of a bundle with these rights, by its public part alone
  abbrev pub public_of : Rights → Resolved → Public
  public_of rights part = record {
    rights = rights;
    cache = part.cache;
    roots = filter (λ root. shows root.0.class) (map_at_start part);
    read = read_message;
    means = λ n number t known given. erased_of part (request_at part n number) t known given;
  }
