-- How a `Boxed` stores its value, for types that hold a `Boxed` of themselves. Its value is the one that its `Box` holds.
use mathlib.Core.Path.{refl}
use mathlib.Core.Former.{Former, this, const, pair, via}
use base.Stored.{gnil}
use base.Fml.{ftrue}
use denote.RattleType.{RattleType}
use denote.Memory.{part_of}
use denote.RawPtr.{Ptr}
use denote.Sharing.{nothing}
use denote.HoleLaws.{Alike}
use denote.HolePlaces.{Recodes, struct_places, laid, one_value}
use denote.Hole.Fix.{over}
use denote.Param.Weighed.{Weighed}
use denote.Model.Placed.{view_places}
use Rattle.std.specs.declared.boxed.Box.{Box}
use Rattle.std.specs.contracts.boxed.Box as boxes
use Rattle.std.specs.declared.alloc.Global.{Global}
use Rattle.std.specs.contracts.alloc.Global as global
use Rattle.std.specs.contracts.impls.GlobalAllocator.TheImpl.{ghosts}
use Rattle.fab_base.specs.declared.boxed.Boxed.TheInside.{Inside}
use Rattle.fab_base.specs.declared.boxed.Boxed.TheView.{view, invariant}
use Rattle.fab_base.specs.contracts.boxed.Boxed as outer
use Rattle.fab_base.specs.contracts.boxed.Boxed.TheInside as inner

abbrev pub the_former : Former {0} → Former {0}
the_former content = content

abbrev pub the_weighed : {content : Former {0}} → Weighed content → Weighed (the_former content)
the_weighed weight = weight

-- the one field: a pointer, an allocator and the value
abbrev stored : Former {0}
stored =
    via (pair (const (Ptr × Global)) this) Inside
    (λ A b. ((b.inner.ptr, b.inner.alloc), b.inner.value))
    (λ A v. record { inner = record { ptr = v.0.0; alloc = v.0.1; value = v.1 } })
    (λ A b. refl) (λ A v. refl)

abbrev another : {A B : Type 0} → Box A Global → B → Box B Global
another b y = record { ptr = b.ptr; alloc = b.alloc; value = y }

abbrev row : RattleType → RattleType
row A = boxes.the_row A global.the_row ghosts

module _ (A B : RattleType) (f : A.Denot → B.Denot) where
  box_placed : Alike A B f → Alike (row A) (row B) (λ b. another b (f b.value))
  unfolding part_of
  box_placed same = record {
    mir_same = λ i. (row (one_value A (same.mir_same i) (λ _. ftrue) (λ _ _. nothing) gnil)).mir;
    own_same = λ b i. (row (one_value A (same.mir_same i) (same.own_same b.value i) (same.shr_same b.value i) gnil)).own_val (another b tt);
    shr_same = λ b i. (row (one_value A (same.mir_same i) (same.own_same b.value i) (same.shr_same b.value i) gnil)).shr_at (another b tt);
  }

  pub the_places : Alike A B f → Alike (outer.the_row A) (outer.the_row B) ((the_former this).map A.Denot B.Denot f)
  the_places same =
      let field =
      struct_places (inner.the_type A) (inner.the_type B) ((λ b. another b (f b.value)), tt) _
      (λ b. refl) refl (laid _ _ _ (box_placed same), tt) in
      view_places stored this view (λ X Y k v. refl) (λ X v. refl) A.Denot B.Denot f
      (outer.the_row A).coded (outer.the_row B).coded (invariant A.Denot) (invariant B.Denot)
      (λ v p q. refl) (λ v p q. refl) (λ v e. tt) (λ v e. tt)
      (over (inner.the_row A)) (over (inner.the_row B)) field

  pub the_codes_placed : Recodes A B f → Recodes (outer.the_row A) (outer.the_row B) ((the_former this).map A.Denot B.Denot f)
  the_codes_placed same x = same x
