-- That a commit which is replayed does again what its attempt did.
use Rattle.std.specs.Prelude.{◌≡◌, ℕ, Bool, true, IsTrue, List, [], ◌∷◌, Option, Some}
use Rattle.fab_base.specs.declared.object.Oid.{Oid}
use Rattle.fab_base.specs.declared.object.Object.{Object}
use Rattle.fab_base.specs.declared.object.Value.{Value}
use Rattle.fab_base.specs.FlatMap.{FlatMap, ascends, get, map_of, put_all}
use Rattle.fab_language.specs.declared.ending.Ending.TheVariants.{Ended}
use Rattle.fab_language.specs.Meaning.{Meant}
use Rattle.fab_net.specs.declared.note.Commit.{Commit}
use Rattle.fab_protocol.specs.Versions.{objects_of}
use Rattle.fab_world.specs.Machine.{Move, Setting}
use Rattle.fab_world.specs.Serial.{AreAlike, AreFit, Excludes, IsRun, again, commits_in, outside, replay_one, within}

-- what a commit's attempt did over its answers
abbrev pub done_by : Setting → Commit → Meant
done_by S c = S.means c.worker c.request c.tid (map_of (objects_of c.answers))

-- It ends, does what the attempt did, and does so over objects that fit; the map so far has objects of classes in ex alone.
pub record IsRedone (S : Setting) (ex : ℕ → Bool) (N : FlatMap) (c : Commit) : Type 0 where
  pub value : Option Value
  pub ended : (again S ex N c).ending ≡ Ended value
  pub alike : AreAlike (done_by S c) (again S ex N c)
  pub up : IsTrue (ascends N)
  pub inside : (o : Oid) (x : Object) → get N o ≡ Some x → ex o.class ≡ true
  pub both : IsTrue (ascends (put_all (outside ex (objects_of c.answers)) N))
  pub fits : AreFit S (put_all (outside ex (objects_of c.answers)) N)

abbrev pub AllRedone : Setting → (ℕ → Bool) → FlatMap → List Commit → Type 0
AllRedone S ex N [] = Unit {0}
AllRedone S ex N (c ∷ cs) = IsRedone S ex N c × AllRedone S ex (replay_one S ex N c) cs

-- so does each commit of a run
abbrev pub IsFaithful : Setting → Type 0
IsFaithful S = (D ex : ℕ → Bool) (moves : List Move) → Excludes S D ex → IsRun S moves → AllRedone S ex (within ex S.roots) (commits_in S D moves)
