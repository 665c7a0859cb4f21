-- A statement in two parts: what it does at once, by its deed, and what that leads into.
use Rattle.std.specs.Prelude.{◌≡◌, ℕ, List, [], ◌∷◌, Option}
use Rattle.fab_base.specs.declared.object.Value.{Value}
use Rattle.fab_tree.specs.declared.resolved.Statement.{Statement}
use Rattle.fab_language.specs.Meaning.{State, M, gives, and_then, ◌>>=◌, ◌>>◌, atomically, back_with}
use Rattle.fab_left.specs.Left.{Place, Means, Entry, rest, tried, block, handed}

-- nothing more; a block; a block and the statement again; a block that is tried before another; and a call of a method of a
-- number, with what it is given and the local that takes what it gives
pub data Deed : Type 0 where
  passed : Deed
  into : List Statement → Deed
  again : List Statement → Deed
  trying : List Statement → List Statement → Deed
  entering : ℕ → List Value → Option ℕ → Deed

-- what is left of a statement when it has done that
abbrev pub afterwards : Means → Place → Statement → Deed → M (Unit {0})
afterwards m p s passed = gives tt
afterwards m p s (into a) = block m p a
afterwards m p s (again a) = block m p a >> m.statement p s
afterwards m p s (trying a b) = atomically (block m p a) (block m p b)
afterwards m p s (entering number args target) = m.call p number args >>= handed m p target

-- what stands behind the entries when a statement of a block has done that: the rest of the block, and what it leads into;
-- a call is entered from there
abbrev pub pushed : Place → Statement → List Statement → State → Deed → List Entry
pushed p s ss t passed = rest p ss ∷ []
pushed p s ss t (into a) = rest p ss ∷ rest p a ∷ []
pushed p s ss t (again a) = rest p (s ∷ ss) ∷ rest p a ∷ []
pushed p s ss t (trying a b) = rest p ss ∷ tried p t.locals t.heap b ∷ rest p a ∷ []
pushed p s ss t (entering number args target) = rest p ss ∷ []

-- no call
abbrev pub StaysHere : Deed → Type 0
StaysHere passed = Unit {0}
StaysHere (into a) = Unit {0}
StaysHere (again a) = Unit {0}
StaysHere (trying a b) = Unit {0}
StaysHere (entering number args target) = ⊥

-- a call runs a method at a place of its own, over locals of its own
abbrev pub Enters : Means → Place → ℕ → List Value → State → Place → List Value → Type 0
Enters m caller number args t callee locals =
    m.call caller number args t ≡ back_with t.locals (and_then (block m callee callee.method.body (record t { locals = locals })) (λ _. m.result callee))
