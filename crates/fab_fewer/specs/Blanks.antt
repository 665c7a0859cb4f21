-- Arguments that aren't seen change nothing.
use Rattle.std.specs.Prelude.{◌≡◌, ℕ, Bool, IsTrue, List, [], ◌∷◌, Option, Some, None, slice_get}
use Rattle.fab_base.specs.declared.object.Tid.{Tid}
use Rattle.fab_base.specs.declared.object.Value.{Value}
use Rattle.fab_base.specs.FlatMap.{FlatMap}
use Rattle.fab_tree.specs.declared.resolved.Local.{Local}
use Rattle.fab_tree.specs.declared.resolved.Method.{Method}
use Rattle.fab_tree.specs.declared.resolved.Request.{Request}
use Rattle.fab_tree.specs.declared.resolved.Resolved.{Resolved}
use Rattle.fab_erasure.specs.Erased.{erased, args_shown}

abbrev pub locals_of : Option Method → List Local
locals_of None = []
locals_of (Some m) = m.locals

module _ (sees shows : ℕ → Bool) where
  -- as many values, given in turn to these locals; each that is given to what is seen is the same, and so is one too many
  abbrev pub AreAlike : List Local → List Value → List Value → Type 0
  AreAlike [] vs ws = vs ≡ ws
  AreAlike (x ∷ xs) [] [] = Unit {0}
  AreAlike (x ∷ xs) [] (w ∷ ws) = ⊥
  AreAlike (x ∷ xs) (v ∷ vs) [] = ⊥
  AreAlike (x ∷ xs) (v ∷ vs) (w ∷ ws) = (IsTrue (sees x.label.number) → v ≡ w) × AreAlike xs vs ws

  -- a request with a blank for each argument that isn't seen
  abbrev pub blanked : Resolved → Request → Request
  blanked r request = record request { args = args_shown sees shows (locals_of (slice_get r.methods request.method)) request.args }

abbrev pub BlanksChangeNothing : Type 0
BlanksChangeNothing =
    (sees shows : ℕ → Bool) (r : Resolved) (known : FlatMap) (request : Request) (args : List Value) (tid : Tid) (fuel : ℕ) (given : List Value)
    → AreAlike sees shows (locals_of (slice_get r.methods request.method)) request.args args
    → erased sees shows r known request tid fuel given ≡ erased sees shows r known (record request { args = args }) tid fuel given

abbrev pub BlankedIsAlike : Type 0
BlankedIsAlike =
    (sees shows : ℕ → Bool) (r : Resolved) (request : Request)
    → AreAlike sees shows (locals_of (slice_get r.methods request.method)) request.args (blanked sees shows r request).args
