-- How a `Seq` stores its elements, for types that hold a `Seq` of themselves. Its value is the list of them, which its `Vec` holds.
use mathlib.Core.Path.{◌≡◌, refl, sym}
use mathlib.Core.List.{List, []}
use mathlib.Core.Former.{Former, this, list, via, children}
use base.Stored.{code_map}
use denote.RattleType.{RattleType}
use denote.HoleLaws.{Alike}
use denote.HolePlaces.{Recodes, struct_places, laid}
use denote.Hole.Carrier.{listed, list-listed}
use denote.Hole.Fix.{over}
use denote.Param.Weighed.{Weighed, w_list}
use denote.Model.Placed.{view_places}
use Rattle.std.specs.formers.vec.Vec as elements
use Rattle.std.specs.declared.alloc.Global.{Global}
use Rattle.std.specs.contracts.alloc.Global as global
use Rattle.std.specs.contracts.impls.GlobalAllocator.TheImpl.{ghosts}
use Rattle.fab_base.specs.declared.seq.Seq.TheInside.{Inside}
use Rattle.fab_base.specs.declared.seq.Seq.TheView.{view, invariant}
use Rattle.fab_base.specs.contracts.seq.Seq as outer
use Rattle.fab_base.specs.contracts.seq.Seq.TheInside as inner

abbrev pub the_former : Former {0} → Former {0}
the_former element = list element

abbrev pub the_weighed : {element : Former {0}} → Weighed element → Weighed (the_former element)
the_weighed weight = w_list weight

pub the_empty : List ⊥
the_empty = []

abbrev pub the_items : (A : Type 0) → List A → List A
the_items A xs = xs

pub the_items_listed : (A : Type 0) (xs : List A) → listed _ (children (the_former this) A xs) ≡ the_items A xs
the_items_listed A xs = list-listed A xs

-- the one field
abbrev stored : Former {0}
stored = via (elements.the_former this Global) Inside (λ A s. s.items) (λ A v. record { items = v }) (λ A s. refl) (λ A v. refl)

module _ (A B : RattleType) (f : A.Denot → B.Denot) where
  pub the_places : Alike A B f → Alike (outer.the_row A) (outer.the_row B) ((the_former this).map A.Denot B.Denot f)
  the_places same =
      let vector = elements.the_places global.the_row ghosts A B f same in
      let field = struct_places (inner.the_type A) (inner.the_type B) (elements.mapped f, tt) _ (λ s. refl) refl (laid _ _ _ vector, tt) in
      view_places stored (list this) view (λ X Y k v. refl) (λ X v. refl) A.Denot B.Denot f
      (outer.the_row A).coded (outer.the_row B).coded (invariant A.Denot) (invariant B.Denot)
      (λ v p q. refl) (λ v p q. refl) (λ v e. tt) (λ v e. tt)
      (over (inner.the_row A)) (over (inner.the_row B)) field

  pub the_codes_placed : Recodes A B f → Recodes (outer.the_row A) (outer.the_row B) ((the_former this).map A.Denot B.Denot f)
  the_codes_placed same xs = sym (code_map A.coded.code B.coded.code f (λ x. sym (same x)) xs)
