-- Steps of walks over rows that are put into a map where a test holds, and what a replayed commit changes.
use Rattle.std.proofs.Common.{arith, length, ◌≡◌, ℕ, Bool, true, false, Option, Some, None, List, [], ◌∷◌, ◌++◌, IsTrue, refl, sym, ap, ◌∙◌}
use Rattle.std.specs.Prelude.{not, if◌then◌else◌, filter}
use Rattle.std.specs.List.{fold, list_all}
use Rattle.std.proofs.lemmas.Bool.{and_parts}
use Rattle.fab_base.specs.declared.object.Oid.{Oid}
use Rattle.fab_base.specs.declared.object.Object.{Object}
use Rattle.fab_base.specs.FlatMap.{FlatMap, ascends, put, put_all}
use Rattle.fab_language.specs.Meaning.{Meant}
use Rattle.fab_map.proofs.Made.{map_of_own}
use Rattle.fab_meaning.specs.declared.whole.Changes.{Changes}
use Rattle.fab_meaning.specs.Ends.{AreChanges}
use Rattle.fab_integrity.proofs.Maps.{ascends_filter}
use Rattle.fab_integrity.proofs.Replays.{changed_by}
use Rattle.fab_net.specs.declared.note.Commit.{Commit}
use Rattle.fab_protocol.specs.Versions.{Rows, objects_of}
use Rattle.fab_world.specs.Attempts.{parts_of}
use Rattle.fab_world.specs.Serial.{again, changes_of, within, outside}
use Rattle.fab_tree.specs.declared.resolved.Request.{Request}
use Rattle.fab_tree.specs.declared.resolved.Resolved.{Resolved}
use Rattle.fab_settings.specs.Settings.{meant_of, request_at}
use Rattle.fab_integrity.specs.Changed.{changed}
use Rattle.fab_serial.specs.Replays.{behind, setting}
use Rattle.fab_serial.proofs.Keeping.{put_is}

-- ---- rows that are put one after the other

-- a row more is put where the test holds of it
pub one_more : (test : Oid × Object → Bool) (row : Oid × Object) (rows m : FlatMap)
    → put_all (filter test (row ∷ rows)) m ≡ put_all (filter test rows) (if test row then put row.0 row.1 m else m)
one_more test row rows m =
    elim (test row) as (λ t. put_all (if t then row ∷ filter test rows else filter test rows) m ≡ put_all (filter test rows) (if t then put row.0 row.1 m else m)) [
      | true ↦ refl
      | false ↦ refl
    ]

-- rows of a map in order, put one after the other, are these rows
pub own_rows : (test : Oid × Object → Bool) (m : FlatMap) → ascends m ≡ true → put_all (filter test m) [] ≡ filter test m
own_rows test m h = map_of_own (filter test m) (ascends_filter test m h)

-- a test that never holds
pub none_pass : {A : Type 0} (xs : List A) → filter (λ x. false) xs ≡ []
none_pass [] = refl
none_pass (x ∷ xs) = none_pass xs

-- one that always holds
pub all_pass : {A : Type 0} (xs : List A) → filter (λ x. true) xs ≡ xs
all_pass [] = refl
all_pass (x ∷ xs) = ap (λ l. x ∷ l) (all_pass xs)

-- ---- what a commit changes

-- nothing, where no name was written and none was made
pub unchanged : (ex : ℕ → Bool) (rows N : FlatMap) → changed ex [] [] rows N ≡ N
unchanged ex rows N = ap (λ l. put_all (within ex (l ++ l)) N) (none_pass rows)

-- answers of these classes alone leave none of another
pub none_outside : (ex : ℕ → Bool) (answers : Rows) → list_all (λ row. ex row.0.class) answers ≡ true → outside ex (objects_of answers) ≡ []
none_outside ex [] h = refl
none_outside ex (row ∷ rows) h =
    let both = and_parts (ex row.0.class) (list_all (λ row. ex row.0.class) rows) h in
    ap (λ b. if not b then (row.0, row.2) ∷ outside ex (objects_of rows) else outside ex (objects_of rows)) both.0 ∙ none_outside ex rows both.1

module _ (r : Resolved) (ex : ℕ → Bool) (N : FlatMap) (c : Commit) where
  -- what the request means over these objects, and over the answers for those of other classes
  abbrev pub over_answers : Option Request → Meant
  over_answers asked = meant_of r asked c.tid (put_all (outside ex (objects_of c.answers)) N)

  -- what it changes is what is kept of the commit, in whatever map
  pub kept_in : (asked : Option Request) (M : FlatMap) → asked ≡ request_at r c.worker c.request
      → changed ex (over_answers asked).written (over_answers asked).made (over_answers asked).map M
      ≡ put_all (within ex (changes_of (parts_of c.answers (again (setting r) ex N c)))) M
  kept_in asked M is =
      changed_by ex c.answers (over_answers asked) M
      ∙ ap (λ a. put_all (within ex (changes_of (parts_of c.answers (over_answers a)))) M) is

  -- without a request nothing is
  pub nothing_kept : (M : FlatMap) → None ≡ request_at r c.worker c.request → M ≡ put_all (within ex (changes_of (parts_of c.answers (again (setting r) ex N c)))) M
  nothing_kept M is = sym (unchanged ex (over_answers None).map M) ∙ kept_in None M is

  -- and so of what was found to be changed
  pub found_kept : (request : Request) (found : Changes) (rows M : FlatMap) → Some request ≡ request_at r c.worker c.request
      → AreChanges found (over_answers (Some request)) → rows ≡ found.changed → IsTrue (ascends M)
      → put_all (within ex rows) M ≡ put_all (within ex (changes_of (parts_of c.answers (again (setting r) ex N c)))) M
  found_kept request found rows M is are rows_are up = put_is ex found (over_answers (Some request)) rows M are rows_are up ∙ kept_in (Some request) M is

  -- in the map of the objects themselves: the step of a replay
  pub none_behind : None ≡ request_at r c.worker c.request → N ≡ behind r ex N c
  unfolding behind
  none_behind is = nothing_kept N is

  pub found_behind : (request : Request) (found : Changes) (rows : FlatMap) → Some request ≡ request_at r c.worker c.request
      → AreChanges found (over_answers (Some request)) → rows ≡ found.changed → IsTrue (ascends N) → put_all (within ex rows) N ≡ behind r ex N c
  unfolding behind
  found_behind request found rows is are rows_are up = found_kept request found rows N is are rows_are up

-- ---- a walk that is over

pub walked : {A B : Type 0} (step : A → B → A) (here end : A) (rest : List B) → length rest ≡ 0 → fold step here rest ≡ end → here ≡ end
walked step here end [] none h = h
walked step here end (x ∷ xs) none h = absurd (omega arith)
