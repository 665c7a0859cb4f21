-- The method of a number, where it is and where it isn't.
use Rattle.std.proofs.Common.{◌≡◌, ℕ, zero, suc, ◌<◌, ◌≤◌, List, [], ◌∷◌, length, get_or, Some, None, refl, sym, ap, arith}
use Rattle.std.specs.Prelude.{slice_get}
use Rattle.fab_tree.specs.declared.resolved.Method.{Method}

pub none_at : (ms : List Method) (m : ℕ) → length ms ≤ m → slice_get ms m ≡ None
none_at [] m h = refl
none_at (x ∷ ms) zero h = absurd (omega arith)
none_at (x ∷ ms) (suc m) h = none_at ms m (omega arith)

pub some_at : (ms : List Method) (m : ℕ) (x : Method) → m < length ms → x ≡ get_or ms m x → slice_get ms m ≡ Some x
some_at [] m x h e = absurd (omega arith)
some_at (y ∷ ms) zero x h e = ap Some (sym e)
some_at (y ∷ ms) (suc m) x h e = some_at ms m x (omega arith) e
