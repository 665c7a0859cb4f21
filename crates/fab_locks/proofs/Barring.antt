-- Whether items bar a name, list by list.
use Rattle.std.proofs.Common.{◌≡◌, ℕ, Bool, ◌||◌, List, [], ◌∷◌, ◌++◌, map, append_assoc, refl, sym, ◌∙◌, ap}
use Rattle.std.specs.List.{list_any}
use Rattle.std.proofs.lemmas.List.Folds.{list_any-append}
use Rattle.fab_base.specs.declared.object.Oid.{Oid}
use Rattle.fab_base.specs.declared.object.Object.{Object}
use Rattle.fab_base.specs.declared.message.Items.{Items}
use Rattle.fab_base.specs.FlatMap.{is_same, is_among}
use Rattle.fab_protocol.specs.Stores.{Item, item_name, reads_in, writes_in, creates_in, all_in, changed_by, named_by}
use Rattle.fab_locks.specs.Indexes.{any_named}

-- a test of names, of what has a name
pub list_any-map : {X Y : Type 0} (test : Y → Bool) (f : X → Y) (xs : List X) → list_any test (map f xs) ≡ list_any (λ x. test (f x)) xs
list_any-map test f [] = refl
list_any-map test f (x ∷ xs) = ap (λ b. test (f x) || b) (list_any-map test f xs)

-- the names of each list of items
abbrev pub reads_name : Items → Oid → Bool
reads_name items = any_named {X = Oid × ℕ} (λ r. r.0) items.reads

abbrev pub writes_name : Items → Oid → Bool
writes_name items = any_named {X = Oid × ℕ × Object} (λ w. w.0) items.writes

abbrev pub creates_name : Items → Oid → Bool
creates_name items = any_named {X = Oid × Object} (λ c. c.0) items.creates

module _ (o : Oid) (items : Items) where
  by_names : (is : List Item) → is_among o (map item_name is) ≡ list_any (λ i. is_same (item_name i) o) is
  by_names is = list_any-map (λ p. is_same p o) item_name is

  in_reads : list_any (λ i. is_same (item_name i) o) (reads_in items) ≡ list_any (λ r. is_same r.0 o) items.reads
  in_reads = list_any-map (λ i. is_same (item_name i) o) _ items.reads

  in_writes : list_any (λ i. is_same (item_name i) o) (writes_in items) ≡ list_any (λ w. is_same w.0 o) items.writes
  in_writes = list_any-map (λ i. is_same (item_name i) o) _ items.writes

  in_creates : list_any (λ i. is_same (item_name i) o) (creates_in items) ≡ list_any (λ c. is_same c.0 o) items.creates
  in_creates = list_any-map (λ i. is_same (item_name i) o) _ items.creates

  changed_parts : list_any (λ i. is_same (item_name i) o) (writes_in items ++ creates_in items) ≡ (list_any (λ w. is_same w.0 o) items.writes || list_any (λ c. is_same c.0 o) items.creates)
  changed_parts =
      list_any-append (λ i. is_same (item_name i) o) (writes_in items) (creates_in items)
      ∙ (λ i. in_writes i || in_creates i)

  pub changed_are : is_among o (changed_by items) ≡ (list_any (λ w. is_same w.0 o) items.writes || list_any (λ c. is_same c.0 o) items.creates)
  changed_are = by_names (writes_in items ++ creates_in items) ∙ changed_parts

  all_parts : list_any (λ i. is_same (item_name i) o) (all_in items) ≡ list_any (λ i. is_same (item_name i) o) (reads_in items ++ (writes_in items ++ creates_in items))
  all_parts = rw append_assoc refl

  pub named_are : is_among o (named_by items) ≡ (list_any (λ r. is_same r.0 o) items.reads || is_among o (changed_by items))
  named_are =
      by_names (all_in items)
      ∙ all_parts
      ∙ list_any-append (λ i. is_same (item_name i) o) (reads_in items) (writes_in items ++ creates_in items)
      ∙ (λ i. in_reads i || sym (by_names (writes_in items ++ creates_in items)) i)
