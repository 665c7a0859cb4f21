-- Trusted replay: what commits make of the objects of classes that exclude some nodes, from these objects, the requests and the
-- endorsed values.
--
-- It is serial replay with the erased meaning: who can't have influenced a label stands where who sees one stood. No answer
-- enters it. A request whose begin label isn't trusted does nothing.
use Rattle.std.specs.Prelude.{ℕ, Bool, not, ◌&&◌, ◌==◌, List, [], ◌∷◌, map, Option, Some, None}
use Rattle.std.specs.List.{filter, flat_map, list_any}
use Rattle.fab_base.specs.declared.object.Tid.{Tid}
use Rattle.fab_base.specs.declared.object.Value.{Value}
use Rattle.fab_base.specs.FlatMap.{FlatMap, map_of}
use Rattle.fab_tree.specs.declared.resolved.Request.{Request}
use Rattle.fab_tree.specs.declared.resolved.Resolved.{Resolved}
use Rattle.fab_language.specs.Evaluation.{map_at_start}
use Rattle.fab_language.specs.Meaning.{Meant}
use Rattle.fab_net.specs.declared.note.Commit.{Commit}
use Rattle.fab_protocol.specs.Versions.{objects_of}
use Rattle.fab_erasure.specs.Agreement.{in_view}
use Rattle.fab_erasure.specs.Erased.{erased}
use Rattle.fab_settings.specs.Settings.{meant_of, request_at}
use Rattle.fab_world.specs.Serial.{within}
use Rattle.fab_integrity.specs.Changed.{changed}
use Rattle.fab_downgrades.specs.declared.rows.Downgraded.{Downgraded}
use Rattle.fab_downgrades.specs.Downgraded.{downgraded_by, endorses}

-- the first of some lists of values, and those behind it
abbrev pub first_of : List (List Value) → List Value
first_of [] = []
first_of (vs ∷ given) = vs

abbrev pub rest_of : List (List Value) → List (List Value)
rest_of [] = []
rest_of (vs ∷ given) = given

-- these labels are trusted, and objects of these classes kept
module _ (trusts keeps : ℕ → Bool) (r : Resolved) where
  -- at a site, what isn't trusted is endorsed to what is
  abbrev pub lets_in : ℕ → Downgraded → Bool
  lets_in site d = endorses d.downgrade && ((d.site == site) && (not (trusts d.from) && trusts d.to))

  -- and the site is trusted
  abbrev pub endorses_at : ℕ → Bool
  endorses_at site = in_view trusts keeps r site && list_any (lets_in site) (flat_map downgraded_by r.methods)

  abbrev pub endorsed_by : Meant → List Value
  endorsed_by meant = map (λ d. d.1) (filter (λ d. endorses_at d.0) meant.downs)

  -- ---- commits

  -- what a commit's attempt did, over its answers
  abbrev pub done_by : Commit → Meant
  done_by c = meant_of r (request_at r c.worker c.request) c.tid (map_of (objects_of c.answers))

  -- of each commit the endorsed values
  abbrev pub endorsed : List Commit → List (List Value)
  endorsed commits = map (λ c. endorsed_by (done_by c)) commits

  -- what a request is trusted to do, given endorsed values; one that isn't there would fail at once
  abbrev pub trusted_meaning : Option Request → Tid → FlatMap → List Value → Meant
  trusted_meaning None t N given = meant_of r None t N
  trusted_meaning (Some request) t N given = erased trusts keeps r N request t 1000000 given

  abbrev pub trusted_by : FlatMap → Commit → List Value → Meant
  trusted_by N c given = trusted_meaning (request_at r c.worker c.request) c.tid N given

  -- the map behind one commit more
  abbrev pub trusted_one : FlatMap → Commit → List Value → FlatMap
  trusted_one N c given = let m = trusted_by N c given in changed keeps m.written m.made m.map N

  -- commits in turn, each with its endorsed values; one without takes none
  abbrev pub replayed_from : FlatMap → List Commit → List (List Value) → FlatMap
  replayed_from N [] given = N
  replayed_from N (c ∷ cs) given = replayed_from (trusted_one N c (first_of given)) cs (rest_of given)

  abbrev pub trusted_replay : List Commit → List (List Value) → FlatMap
  trusted_replay commits given = replayed_from (within keeps (map_at_start r)) commits given
