-- Where no limit is passed, each count is within its own.
use Rattle.std.proofs.Common.{◌≡◌, ◌≤◌, Bool, true, false, cond, List, [], ◌∷◌, find, Some, None, refl, ltb-false}
use Rattle.fab_base.specs.declared.limit.What.{What}
use Rattle.fab_base.specs.declared.limit.What.TheVariants as w
use Rattle.fab_tree.specs.declared.start.Start.{Start}
use Rattle.fab_tree.specs.Limits.{IsWithin, limit_of, count_of, order, passes, first_passed}

-- none of these passes a test
abbrev NonePasses : (What → Bool) → List What → Type 0
NonePasses p [] = Unit {0}
NonePasses p (x ∷ xs) = (p x ≡ false) × NonePasses p xs

none_passes : (p : What → Bool) (xs : List What) → find p xs ≡ None → NonePasses p xs
none_passes p [] e = tt
none_passes p (x ∷ xs) e = by (p x) e (none_passes p xs)
  where
    by : (b : Bool) → cond b (Some x) (find p xs) ≡ None → (find p xs ≡ None → NonePasses p xs) → (b ≡ false) × NonePasses p xs
    by true h later = absurd (cc)
    by false h later = (refl, later h)

within : (x : Start) (what : What) → passes x what ≡ false → count_of what x ≤ limit_of what
within x what e = ltb-false (limit_of what) (count_of what x) e

pub is_within : (x : Start) → first_passed x ≡ None → IsWithin x
is_within x e =
    let n = none_passes (passes x) order e in
    record {
      principals = within x w.Principals n.0;
      nodes = within x w.Nodes n.1.0;
      labels = within x w.Labels n.1.1.0;
      classes = within x w.Classes n.1.1.1.0;
      fields = within x w.Fields n.1.1.1.1.0;
      methods = within x w.Methods n.1.1.1.1.1.0;
      parameters = within x w.Parameters n.1.1.1.1.1.1.0;
      locals = within x w.Locals n.1.1.1.1.1.1.1.0;
      sites = within x w.Sites n.1.1.1.1.1.1.1.1.0;
      roots = within x w.Roots n.1.1.1.1.1.1.1.1.1.0;
      requests = within x w.Requests n.1.1.1.1.1.1.1.1.1.1.0;
      posts = within x w.Posts n.1.1.1.1.1.1.1.1.1.1.1.0;
      crashes = within x w.Crashes n.1.1.1.1.1.1.1.1.1.1.1.1.0;
      events = within x w.Events n.1.1.1.1.1.1.1.1.1.1.1.1.1.0;
      cache = within x w.Cache n.1.1.1.1.1.1.1.1.1.1.1.1.1.1.0;
    }
