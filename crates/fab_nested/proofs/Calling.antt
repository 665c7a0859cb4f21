-- What the calls come to, from what their parts do.
use Rattle.std.proofs.Common.{◌≡◌, ℕ, Bool, true, false, not, if◌then◌else◌, List, map, Option, Some, None, Bor, is_some, option_copied, refl, sym, ap, ◌∙◌}
use Rattle.std.specs.Bool.{OnFalse}
use Rattle.std.specs.Prelude.{option_map}
use Rattle.std.proofs.lemmas.Bool.{true≢false, false≢true}
use Rattle.fab_base.specs.declared.object.Oid.{Oid}
use Rattle.fab_base.specs.declared.object.Object.{Object}
use Rattle.fab_base.specs.declared.object.Value.{Value}
use Rattle.fab_base.specs.declared.object.Stop.TheVariants.{Reads, Writes}
use Rattle.fab_base.specs.FlatMap.{FlatMap, get}
use Rattle.fab_language.specs.Heaps.{Heap, Reach, is_among, is_changed, is_full, touched, noted, reach_in, reach_before, gone, found, full, replaced, created}
use Rattle.fab_language.specs.Meaning.{field_of, with_field}
use Rattle.fab_nested.specs.Nested.{Nested, Call, gives, needs, stops, reached, access, settled, read, write, create}
use Rattle.fab_nested.specs.declared.log.Change.{Change}
use Rattle.fab_nested.specs.Logs.{saved_in, IsSound}
use Rattle.fab_nested.specs.Overlay.{over, framed, IsFramed}
use Rattle.fab_nested.proofs.Naming.{first_of_two}
use Rattle.fab_nested.proofs.Over.{replaced_over, created_over}

module _ (versions : List (Oid × ℕ)) (known : FlatMap) (log : List Change) (h : Heap) (marks : List ℕ) (touches : List (ℕ × Oid)) (n : Nested) (seen : framed versions known log h marks touches ≡ n) where
  reached_from : {A : Type 0} (site : ℕ) (o : Oid) (next : Object → Nested → Call A) (r : Option Object) (q : Reach) → get (over known h).rows o ≡ r → reach_in site o r h.made touches ≡ q → access site o next n ≡ reached o q next (framed versions known log h marks touches)
  reached_from site o next r q there reaches =
      ap (access site o next) (sym seen)
      ∙ ap (λ s. reached o (reach_in site o s h.made touches) next (framed versions known log h marks touches)) there
      ∙ ap (λ s. reached o s next (framed versions known log h marks touches)) reaches

  -- ---- a field is read
  module _ (site : ℕ) (o : Oid) (field : ℕ) where
    pub read_needs : get (over known h).rows o ≡ None → read site o field n ≡ needs o n
    read_needs e = reached_from site o (λ x. gives (field_of field x)) None gone e refl ∙ ap (needs o) seen

    pub read_full : (x : Object) → get (over known h).rows o ≡ Some x → reach_in site o (Some x) h.made touches ≡ full → read site o field n ≡ stops Reads n
    read_full x e r = reached_from site o (λ y. gives (field_of field y)) (Some x) full e r ∙ ap (stops Reads) seen

    pub read_gives : (x : Object) (ts : List (ℕ × Oid)) → get (over known h).rows o ≡ Some x → reach_in site o (Some x) h.made touches ≡ found x ts → read site o field n ≡ gives (field_of field x) (framed versions known log h marks ts)
    read_gives x ts e r = reached_from site o (λ y. gives (field_of field y)) (Some x) (found x ts) e r

  -- ---- a field is written
  module _ (site : ℕ) (o : Oid) (field : ℕ) (v : Value) where
    abbrev next : Object → Nested → Call (Unit {0})
    next y m = settled (replaced o (with_field field v y) m.now) m

    pub write_needs : get (over known h).rows o ≡ None → write site o field v n ≡ needs o n
    write_needs e = reached_from site o next None gone e refl ∙ ap (needs o) seen

    pub write_full : (x : Object) → get (over known h).rows o ≡ Some x → reach_in site o (Some x) h.made touches ≡ full → write site o field v n ≡ stops Reads n
    write_full x e r = reached_from site o next (Some x) full e r ∙ ap (stops Reads) seen

    module _ (f : IsFramed versions known log h marks) (x : Object) (ts : List (ℕ × Oid)) (there : get (over known h).rows o ≡ Some x) (reaches : reach_in site o (Some x) h.made touches ≡ found x ts) where
      write_settled : (next_heap : Option Heap) → replaced o (with_field field v x) h ≡ next_heap → write site o field v n ≡ settled (option_map (over known) next_heap) (framed versions known log h marks ts)
      write_settled next_heap e =
          reached_from site o next (Some x) (found x ts) there reaches
          ∙ ap (λ r. settled r (framed versions known log h marks ts)) (sym (replaced_over known o (with_field field v x) h f.below.ascending f.above.now.ascending) ∙ ap (option_map (over known)) e)

      pub write_stops : replaced o (with_field field v x) h ≡ None → write site o field v n ≡ stops Writes (framed versions known log h marks ts)
      write_stops e = write_settled None e

      pub write_gives : (later : List Change) (new : Heap) → replaced o (with_field field v x) h ≡ Some new → saved_in later new marks ≡ saved_in log h marks → write site o field v n ≡ gives tt (framed versions known later new marks ts)
      write_gives later new e stay =
          write_settled (Some new) e
          ∙ (λ i. gives tt (record { versions = versions; now = over known new; saved = map (over known) (sym stay i); touches = ts }))

  -- ---- an object is made
  module _ (f : IsFramed versions known log h marks) (o : Oid) (x : Object) where
    create_settled : (next_heap : Option Heap) → created o x h ≡ next_heap → create o x n ≡ settled (option_map (over known) next_heap) (framed versions known log h marks touches)
    create_settled next_heap e =
        ap (create o x) (sym seen)
        ∙ ap (λ r. settled r (framed versions known log h marks touches)) (sym (created_over known o x h f.below.ascending f.above.now.ascending) ∙ ap (option_map (over known)) e)

    pub create_gives : (later : List Change) (new : Heap) → created o x h ≡ Some new → saved_in later new marks ≡ saved_in log h marks → create o x n ≡ gives tt (framed versions known later new marks touches)
    create_gives later new e stay =
        create_settled (Some new) e
        ∙ (λ i. gives tt (record { versions = versions; now = over known new; saved = map (over known) (sym stay i); touches = touches }))

-- nothing was done
pub same_left : (versions : List (Oid × ℕ)) (known : FlatMap) (log reserved : List Change) (h : Heap) (marks : List ℕ) (touches ts : List (ℕ × Oid)) (n : Nested) → framed versions known log h marks touches ≡ n → reserved ≡ log → ts ≡ touches
    → n ≡ framed versions known reserved h marks ts
same_left versions known log reserved h marks touches ts n seen e t = sym seen ∙ (λ i. framed versions known (sym e i) h marks (sym t i))

pub on_false : (b : Bool) (P : Type 0) → b ≡ false → OnFalse b P → P
on_false true P e f = absurd (true≢false e)
on_false false P e f = f

-- ---- what the parts say

pub some_of : (m : Option Object) → is_some m ≡ true → (x : Object) × (m ≡ Some x)
some_of None h = absurd (false≢true h)
some_of (Some x) h = (x, refl)

-- a field that is had is of an object that is there
pub field_had : (field : ℕ) (m : Option Object) (r : Option Value) (v : Value) → r ≡ option_map (field_of field) m → r ≡ Some v → (x : Object) × (m ≡ Some x) × (field_of field x ≡ v)
field_had field None r v e h = let no : None ≡ Some v = sym e ∙ h in cc
field_had field (Some x) r v e h = let one : Some (field_of field x) ≡ Some v = sym e ∙ h in (x, refl, (cc))

pub field_lacked : (field : ℕ) (m : Option Object) (r : Option Value) → r ≡ option_map (field_of field) m → r ≡ None → m ≡ None
field_lacked field None r e h = refl
field_lacked field (Some x) r e h = let no : Some (field_of field x) ≡ None = sym e ∙ h in cc

pub found_from : (b : Bool) (r : Reach) (x : Object) (ts : List (ℕ × Oid)) → b ≡ true → r ≡ (if b then found x ts else full) → r ≡ found x ts
found_from b r x ts h e = e ∙ rw h refl

pub full_from : (b : Bool) (r : Reach) (x : Object) (ts : List (ℕ × Oid)) → b ≡ false → r ≡ (if b then found x ts else full) → r ≡ full
full_from b r x ts h e = e ∙ rw h refl

-- an object that wasn't changed is reached as the touches say
pub reach_unchanged : (fits : Bool) (site : ℕ) (o : Oid) (x : Object) (h : Heap) (touches ts : List (ℕ × Oid)) → is_changed o h ≡ false → fits ≡ not (is_full o (touched touches))
    → ts ≡ (if fits then noted site o touches else touches) → reach_in site o (Some x) h.made touches ≡ (if fits then found x ts else full)
reach_unchanged fits site o x h touches ts unchanged f t =
    ap (λ (b : Bool). if b then found x touches else reach_before site o x touches) (first_of_two (is_among o h.made) (is_among o h.written) unchanged)
    ∙ by fits (is_full o (touched touches)) f t
  where
    by : (a b : Bool) → a ≡ not b → ts ≡ (if a then noted site o touches else touches) → (if b then full else found x (noted site o touches)) ≡ (if a then found x ts else full)
    by true true e t = absurd (true≢false e)
    by true false e t = ap (found x) (sym t)
    by false true e t = refl
    by false false e t = absurd (false≢true e)

copied_some : (r : Option (Bor Object)) → is_some (option_copied r) ≡ is_some r
copied_some None = refl
copied_some (Some b) = refl

-- what is found among the changed objects tells whether it was changed
pub changed_if : (b : Bool) (r : Option (Bor Object)) (h : Heap) (o : Oid) → IsSound h → option_copied r ≡ get h.rows o → is_some r ≡ b → is_changed o h ≡ b
changed_if b r h o s e f = sym (s.there o) ∙ ap is_some (sym e) ∙ copied_some r ∙ f

-- what was changed is there
pub changed_there : (h : Heap) (o : Oid) → IsSound h → is_changed o h ≡ true → (x : Object) × (get h.rows o ≡ Some x)
changed_there h o s c = some_of (get h.rows o) (s.there o ∙ c)

none_of : (m : Option Object) → is_some m ≡ false → m ≡ None
none_of None h = refl
none_of (Some x) h = absurd (true≢false h)

pub unchanged_absent : (h : Heap) (o : Oid) → IsSound h → is_changed o h ≡ false → get h.rows o ≡ None
unchanged_absent h o s c = none_of (get h.rows o) (s.there o ∙ c)
