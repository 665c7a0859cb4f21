-- A worker that is alone: what its requests come to, one after the other, and what it must be allowed for that.
use Rattle.std.specs.Prelude.{◌≡◌, ℕ, zero, suc, ◌<◌, false, true, IsTrue}
use Rattle.fab_base.specs.declared.object.Oid.{Oid}
use Rattle.fab_base.specs.declared.object.Tid.{Tid}
use Rattle.fab_base.specs.declared.object.Value.{Value}
use Rattle.fab_base.specs.FlatMap.{FlatMap, ascends}
use Rattle.std.specs.Prelude.{List, Option}
use Rattle.fab_language.specs.declared.ending.Ending.{Ending}
use Rattle.fab_language.specs.declared.ending.Ending.TheVariants as endings
use Rattle.fab_language.specs.Evaluation.{if_ended}
use Rattle.fab_language.specs.Meaning.{Meant}
use Rattle.fab_laws.specs.Closed.{IsFound}
use Rattle.fab_laws.specs.Locality.{IsPart, IsSameOver, LacksToo, with_changes}
use Rattle.fab_net.specs.declared.outcome.ReqOutcome.{ReqOutcome}
use Rattle.fab_net.specs.declared.outcome.ReqOutcome.TheVariants.{Committed, Failed, Stopped, Unfinished}
use Rattle.fab_rights.specs.Computed.{is_worker, may_fetch, may_write}
use Rattle.fab_world.specs.Crashing.{CrashLine, IsOver}
use Rattle.fab_world.specs.Machine.{Setting, Move, outcome}
use Rattle.fab_world.specs.Serial.{IsRun, changes, held_map, world_of}
use Rattle.fab_ended.specs.Silence.{IsCalm, NoneIsHostile}

-- the outcome of a request that an attempt ended so; for want of an object none does
abbrev pub outcome_by : Tid → Ending → ReqOutcome
outcome_by t (endings.Ended value) = Committed t value
outcome_by t endings.Failed = Failed
outcome_by t (endings.Stopped limit) = Stopped limit
outcome_by t (endings.Missing site o) = Unfinished

-- ---- one request after the other

-- a worker's attempt of this number, in its first boot
abbrev pub first_tid : ℕ → ℕ → Tid
first_tid n k = record { worker = n; boot = 1; number = k }

module _ (S : Setting) (n : ℕ) where
  -- what request k means over a map, in attempt k
  abbrev pub meant_over : ℕ → FlatMap → Meant
  meant_over k m = S.means n k (first_tid n k) m

  -- the objects behind the first k requests, which end one after the other over the roots
  abbrev pub map_behind : ℕ → FlatMap
  map_behind zero = S.roots
  map_behind (suc k) = if_ended (meant_over (suc k) (map_behind k)).ending (meant_over (suc k) (map_behind k)).map (map_behind k)

  -- what the request behind the first k means there
  abbrev pub meant_behind : ℕ → Meant
  meant_behind k = meant_over (suc k) (map_behind k)

  -- ---- what the worker must be allowed

  pub record IsAlone : Type 0 where
    pub worker : IsTrue (is_worker S.rights n)
    pub only : (m : ℕ) → IsTrue (is_worker S.rights m) → m ≡ n

  -- It may fetch what a request accesses: what is missing for it over some of the objects, so what it is stopped at, too. It may write what a request
  -- that ends writes and makes.
  pub record HasRights : Type 0 where
    pub fetches : (k site : ℕ) (some : FlatMap) (o : Oid) → k < S.requests n → IsPart some (map_behind k)
        → (meant_over (suc k) some).ending ≡ endings.Missing site o → IsTrue (may_fetch S.rights n o.class)
    pub writes : (k : ℕ) (o : Oid) (value : Option Value) → k < S.requests n → (meant_behind k).ending ≡ endings.Ended value
        → IsTrue (changes (meant_behind k) o) → IsTrue (may_write S.rights n o.class)

  -- no request lacks an object
  abbrev pub NoneLacks : Type 0
  NoneLacks = (k : ℕ) → k < S.requests n → IsFound (meant_behind k).ending

  -- Over more objects a request does the same, unless one was missing that is now there; and what it writes and makes is put into them.
  pub record IsSameOverMore : Type 0 where
    pub same : (r : ℕ) (t : Tid) (few many : FlatMap) → IsPart few many → LacksToo many (S.means n r t few)
        → IsSameOver many (S.means n r t few) (S.means n r t many)
    pub carried : (r : ℕ) (t : Tid) (few many : FlatMap) → IsPart few many → LacksToo many (S.means n r t few) → IsTrue (ascends few) → IsTrue (ascends many)
        → (S.means n r t many).map ≡ with_changes (S.means n r t few) many

  -- ---- what a run comes to

  -- each request ends as it does one after the other, and the objects that are held are those behind the last
  pub record IsInTurn (moves : List Move) : Type 0 where
    pub outcomes : (k : ℕ) → k < S.requests n → outcome S (world_of S moves) n (suc k) ≡ outcome_by (first_tid n (suc k)) (meant_behind k).ending
    pub held : held_map S (λ m. false) (λ class. true) (world_of S moves) ≡ map_behind (S.requests n)

  -- where nobody else works, none is hostile and none goes down, so it is behind each run that is over
  abbrev pub RunsInTurn : Type 0
  RunsInTurn = (lines : ℕ → List CrashLine) (moves : List Move) → IsAlone → NoneIsHostile S → HasRights → NoneLacks → IsSameOverMore
      → IsRun S moves → IsCalm moves → IsOver S lines moves → IsInTurn moves
