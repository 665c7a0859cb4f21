-- One answer more, which reaches each heap: no changed object has its name, now or before any change.
use Rattle.std.proofs.Common.{◌≡◌, ℕ, Bool, true, false, not, ◌||◌, if◌then◌else◌, List, [], ◌∷◌, ◌++◌, map, reverse, drop, Option, Some, None, is_some, refl, sym, ap, subst, ◌∙◌}
use Rattle.std.proofs.lemmas.Bool.{true≢false}
use Rattle.std.proofs.lemmas.List.{map_push, reverse-append}
use Rattle.fab_base.specs.declared.object.Oid.{Oid}
use Rattle.fab_base.specs.declared.object.Object.{Object}
use Rattle.fab_base.specs.declared.object.Value.{Value}
use Rattle.fab_base.specs.FlatMap.{FlatMap, is_same, is_among, get, put, ascends}
use Rattle.fab_base.proofs.NameOrder.{one_name}
use Rattle.fab_base.specs.contracts.object.OidPartialEq as oids
use Rattle.fab_language.specs.Heaps.{Heap, with_row}
use Rattle.fab_map.specs.Changes.{with_field_of, put_some, put_field, removed}
use Rattle.fab_map.proofs.Rows.{ascends-put, get-put_other}
use Rattle.fab_map.proofs.Changing.{ascends-removed, ascends-put_field, put_field_absent}
use Rattle.indexmap.specs.IndexMap.{insert_entry}
use Rattle.fab_nested.specs.declared.log.Change.{Change}
use Rattle.fab_nested.specs.declared.log.Change.TheVariants.{Wrote, Joined, Made, Remade}
use Rattle.fab_nested.specs.Logs.{before, before_all, heap_at, put_again, saved_in}
use Rattle.fab_nested.specs.Nested.{Nested, answered}
use Rattle.fab_nested.specs.Overlay.{over, framed, IsKnown, IsFramed}
use Rattle.fab_nested.proofs.Naming.{among_push, insert_last}
use Rattle.fab_nested.proofs.Over.{absent_over, get_only, put_under}
use Rattle.fab_nested.proofs.Stepping.{there_more}

-- ---- before a change there is no name that isn't there behind it

-- what is taken away adds none
absent-removed : (p o : Oid) (rows : FlatMap) → get rows o ≡ None → get (removed p rows) o ≡ None
absent-removed p o rows e = get_only (λ q. not (is_same q p)) rows o ∙ by (not (is_same o p))
  where
    by : (b : Bool) → (if b then get rows o else None) ≡ None
    by true = e
    by false = refl

absent-put_field : (p o : Oid) (field : ℕ) (v : Value) (rows : FlatMap) → get rows o ≡ None → get (put_field p field v rows) o ≡ None
absent-put_field p o field v rows e = by (is_same p o) refl
  where
    other : (r : Option Object) → is_same p o ≡ false → get (put_some p r rows) o ≡ None
    other None apart = e
    other (Some x) apart = get-put_other p o x rows apart ∙ e

    by : (b : Bool) → is_same p o ≡ b → get (put_field p field v rows) o ≡ None
    by true same = let name : p ≡ o = one_name p o same in ap (λ (m : FlatMap). get m o) (put_field_absent p field v rows (ap (get rows) name ∙ e)) ∙ e
    by false apart = other (with_field_of field v (get rows p)) apart

absent-put_again : (p o : Oid) (x : Object) (rows : FlatMap) → get rows o ≡ None → get (put_again p x rows) o ≡ None
absent-put_again p o x rows e = by (is_same p o) refl
  where
    there : is_same p o ≡ false → (b : Bool) → get (if b then put p x rows else rows) o ≡ None
    there apart true = get-put_other p o x rows apart ∙ e
    there apart false = e

    by : (b : Bool) → is_same p o ≡ b → get (put_again p x rows) o ≡ None
    by true same = ap (λ (r : Option Object). get (if is_some r then put p x rows else rows) o) (ap (get rows) (one_name p o same) ∙ e) ∙ e
    by false apart = there apart (is_some (get rows p))

ascends-put_again : (p : Oid) (x : Object) (rows : FlatMap) → ascends rows ≡ true → ascends (put_again p x rows) ≡ true
ascends-put_again p x rows a = by (is_some (get rows p))
  where
    by : (b : Bool) → ascends (if b then put p x rows else rows) ≡ true
    by true = ascends-put p x rows a
    by false = a

absent-before : (c : Change) (h : Heap) (o : Oid) → get h.rows o ≡ None → get (before c h).rows o ≡ None
absent-before (Wrote p field old) h o e = absent-put_field p o field old h.rows e
absent-before (Joined p) h o e = absent-removed p o h.rows e
absent-before (Made p) h o e = absent-removed p o h.rows e
absent-before (Remade p x) h o e = absent-put_again p o x h.rows e

ascends-before : (c : Change) (h : Heap) → ascends h.rows ≡ true → ascends (before c h).rows ≡ true
ascends-before (Wrote p field old) h a = ascends-put_field p field old h.rows a
ascends-before (Joined p) h a = ascends-removed p h.rows a
ascends-before (Made p) h a = ascends-removed p h.rows a
ascends-before (Remade p x) h a = ascends-put_again p x h.rows a

absent-before_all : (cs : List Change) (h : Heap) (o : Oid) → get h.rows o ≡ None → get (before_all cs h).rows o ≡ None
absent-before_all [] h o e = e
absent-before_all (c ∷ cs) h o e = absent-before c (before_all cs h) o (absent-before_all cs h o e)

ascends-before_all : (cs : List Change) (h : Heap) → ascends h.rows ≡ true → ascends (before_all cs h).rows ≡ true
ascends-before_all [] h a = a
ascends-before_all (c ∷ cs) h a = ascends-before c (before_all cs h) (ascends-before_all cs h a)

-- ---- each heap

map-reverse : {A B : Type 0} (f : A → B) (xs : List A) → map f (reverse xs) ≡ reverse (map f xs)
map-reverse f [] = refl
map-reverse f (x ∷ xs) =
    ap (map f) (reverse-append (x ∷ []) xs)
    ∙ map_push f (reverse xs) x
    ∙ ap (λ ys. ys ++ f x ∷ []) (map-reverse f xs)
    ∙ sym (reverse-append (f x ∷ []) (map f xs))

module _ (o : Oid) (x : Object) (known : FlatMap) (log : List Change) (h : Heap) (below : ascends known ≡ true) (above : ascends h.rows ≡ true) (absent : get h.rows o ≡ None) where
  answered_at : (k : ℕ) → over (put o x known) (heap_at log h k) ≡ with_row o x (over known (heap_at log h k))
  answered_at k =
      let was : Heap = heap_at log h k in
      ap (λ rows. record was { rows = rows }) (put_under o x was.rows known (ascends-before_all (drop k log) h above) below (absent-before_all (drop k log) h o absent))

  answered_marks : (marks : List ℕ) → map (over (put o x known)) (map (heap_at log h) marks) ≡ map (with_row o x) (map (over known) (map (heap_at log h) marks))
  answered_marks [] = refl
  answered_marks (k ∷ marks) = λ i. answered_at k i ∷ answered_marks marks i

  answered_saved : (marks : List ℕ) → map (over (put o x known)) (saved_in log h marks) ≡ map (with_row o x) (map (over known) (saved_in log h marks))
  answered_saved marks =
      map-reverse (over (put o x known)) (map (heap_at log h) marks)
      ∙ ap reverse (answered_marks marks)
      ∙ sym (map-reverse (with_row o x) (map (over known) (map (heap_at log h) marks)))
      ∙ ap (map (with_row o x)) (sym (map-reverse (over known) (map (heap_at log h) marks)))

  answered_now : over (put o x known) h ≡ with_row o x (over known h)
  answered_now = ap (λ rows. record h { rows = rows }) (put_under o x h.rows known above below absent)

-- ---- versions

-- what isn't known has no version
unversioned : (versions : List (Oid × ℕ)) (known : FlatMap) (o : Oid) → IsKnown versions known → get known o ≡ None → is_among o (map (λ (v : Oid × ℕ). v.0) versions) ≡ false
unversioned versions known o k absent = by (is_among o (map (λ (v : Oid × ℕ). v.0) versions)) refl
  where
    by : (b : Bool) → is_among o (map (λ (v : Oid × ℕ). v.0) versions) ≡ b → b ≡ false
    by true e = absurd (true≢false (sym (k.versioned o e) ∙ ap is_some absent))
    by false e = refl

either : (a b : Bool) → (a ≡ true → b ≡ true) → (c : Bool) → (a || c) ≡ true → (b || c) ≡ true
either true b f c h = ap (λ d. d || c) (f refl)
either false true f c h = refl
either false false f c h = h

known_more : (versions : List (Oid × ℕ)) (known : FlatMap) (o : Oid) (version : ℕ) (x : Object) → IsKnown versions known → IsKnown (versions ++ (o, version) ∷ []) (put o x known)
known_more versions known o version x k = record {
  ascending = ascends-put o x known k.ascending;
  versioned = λ p h.
      there_more o p x known
      ∙ either (is_among p (map (λ (v : Oid × ℕ). v.0) versions)) (is_some (get known p)) (k.versioned p) (is_same o p)
      (sym (ap (is_among p) (map_push (λ (v : Oid × ℕ). v.0) versions (o, version)) ∙ among_push p o (map (λ (v : Oid × ℕ). v.0) versions)) ∙ h);
}

-- ---- together
module _ (o : Oid) (version : ℕ) (x : Object) (versions reserved later : List (Oid × ℕ)) (known new : FlatMap) (log : List Change) (h : Heap) (marks : List ℕ) (touches : List (ℕ × Oid)) (n : Nested)
    (seen : framed versions known log h marks touches ≡ n) (f : IsFramed versions known log h marks) (absent : get n.now.rows o ≡ None)
    (kept : reserved ≡ versions) (inserted : later ≡ insert_entry oids.TheImpl.ghosts.eq reserved o version) (grown : new ≡ put o x known) where
  nowhere : (get h.rows o ≡ None) × (get known o ≡ None)
  nowhere = absent_over h.rows known o f.above.now.ascending (ap (λ (m : Nested). get m.now.rows o) seen ∙ absent)

  versioned_last : later ≡ versions ++ (o, version) ∷ []
  versioned_last = inserted ∙ ap (λ (vs : List (Oid × ℕ)). insert_entry oids.TheImpl.ghosts.eq vs o version) kept ∙ insert_last o version versions (unversioned versions known o f.below nowhere.1)

  pub answered_framed : IsFramed later new log h marks
  answered_framed = record {
    below = subst (λ (m : FlatMap). IsKnown later m) (sym grown) (subst (λ (vs : List (Oid × ℕ)). IsKnown vs (put o x known)) (sym versioned_last) (known_more versions known o version x f.below));
    above = f.above;
  }

  pub answered_is : framed later new log h marks touches ≡ answered o version x n
  answered_is =
      (λ i. framed (versioned_last i) (grown i) log h marks touches)
      ∙ (λ i. record {
        versions = versions ++ (o, version) ∷ [];
        now = answered_now o x known log h f.below.ascending f.above.now.ascending nowhere.0 i;
        saved = answered_saved o x known log h f.below.ascending f.above.now.ascending nowhere.0 marks i;
        touches = touches;
      })
      ∙ ap (answered o version x) seen
