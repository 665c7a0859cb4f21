-- What holds of each object of a map holds of each where one is put into it.
use Rattle.std.proofs.Common.{◌≡◌, Bool, true, false, Some, refl, sym, ap, ◌∙◌, subst}
use Rattle.fab_base.specs.declared.object.Oid.{Oid}
use Rattle.fab_base.specs.declared.object.Object.{Object}
use Rattle.fab_base.specs.FlatMap.{FlatMap, get, put, is_same}
use Rattle.fab_base.proofs.Lists.{some_same}
use Rattle.fab_base.proofs.NameOrder.{one_name}
use Rattle.fab_map.proofs.Rows.{get-put_same, get-put_other}

module _ (P : Oid → Object → Type 0) where
  abbrev pub AreAll : FlatMap → Type 0
  AreAll m = (o : Oid) (x : Object) → get m o ≡ Some x → P o x

  pub put_keeps : (o : Oid) (y : Object) (m : FlatMap) → AreAll m → P o y → AreAll (put o y m)
  put_keeps o y m a i p z e = by (is_same o p) refl
    where
      by : (b : Bool) → is_same o p ≡ b → P p z
      by true j =
          let same : y ≡ z = some_same y z (sym (ap (get (put o y m)) (sym (one_name o p j)) ∙ get-put_same o y m) ∙ e) in
          subst (λ x. P p x) same (subst (λ q. P q y) (one_name o p j) i)
      by false j = a p z (sym (get-put_other o p y m j) ∙ e)
