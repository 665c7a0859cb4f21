-- Rights over classes, from masks; and what rights over all classes say.
use Rattle.std.proofs.Common.{◌≡◌, ℕ, zero, suc, true, ◌+◌, ◌<◌, ◌↔◌, List, [], ◌∷◌, ◌++◌, length, take, get_or, map, Option, Some, None, slice_get, IsSomeAnd, refl, sym, ap, ◌∙◌, subst, arith, IsBitSet, bit_and}
use Rattle.std.specs.List.{AllZip}
use Rattle.std.proofs.lemmas.Slice.Zip.{AllZip-long, all_zipped_more}
use Rattle.std.proofs.lemmas.List.{take_more}
use Rattle.fab_base.specs.declared.object.Value.{Value}
use Rattle.fab_base.specs.declared.object.Value.TheVariants.{Int, Null, Ref}
use Rattle.fab_base.specs.declared.object.Object.{Object}
use Rattle.fab_base.specs.Principals.{Delegations}
use Rattle.fab_tree.specs.declared.resolved.Sort.{Sort}
use Rattle.fab_tree.specs.declared.resolved.Sort.TheVariants as sorts
use Rattle.fab_tree.specs.declared.resolved.Field.{Field}
use Rattle.fab_tree.specs.declared.resolved.Class.{Class}
use Rattle.fab_tree.specs.declared.resolved.Resolved.{Resolved}
use Rattle.fab_language.specs.Names.{is_worker, is_store}
use Rattle.fab_language.specs.Flows.{delegations_of}
use Rattle.fab_labelling.specs.Readers.{IsReader, IsWriter, IsNode, label_at, principal_of}
use Rattle.fab_labelling.specs.Placement.{IsWorker, IsStore, FetchesClass, WritesClass, HoldsClass, MayHoldNumber}
use Rattle.fab_rights.specs.declared.rights.ClassRights.{ClassRights}
use Rattle.fab_rights.specs.declared.rights.Rights.{Rights}
use Rattle.fab_rights.specs.declared.rights.Shape.{Shape}
use Rattle.fab_rights.specs.Rights.{FitsField}
use Rattle.fab_places.specs.Places.{AreRights, HasNumbers, shape_of, shape_of_sort, MayContain}
use Rattle.fab_places.specs.ClassRights.{IsClassRights}
use Rattle.fab_places.proofs.Bits.{in_both}
use Rattle.fab_places.proofs.NodeLemmas.{numbered, role_is_node}

-- ---- one class

-- the mask has the bits of the nodes that may read, or have influenced, what has the label of this number
abbrev pub Reading : Resolved → Delegations → ℕ → ℕ → Type 0
Reading r d label mask = (n : ℕ) → IsBitSet mask n ↔ ((n < 64) × IsNode r n × IsReader d (label_at r label) (principal_of r n))

abbrev pub Influencing : Resolved → Delegations → ℕ → ℕ → Type 0
Influencing r d label mask = (n : ℕ) → IsBitSet mask n ↔ ((n < 64) × IsNode r n × IsWriter d (label_at r label) (principal_of r n))

module _ (r : Resolved) (class : Class) (numbers : HasNumbers r)
    (workers stores readers learners writers : ℕ)
    (is_workers : (n : ℕ) → IsBitSet workers n ↔ ((n < 64) × IsWorker r n)) (is_stores : (n : ℕ) → IsBitSet stores n ↔ ((n < 64) × IsStore r n))
    (is_readers : Reading r (delegations_of r) class.label.number readers) (is_learners : Reading r (delegations_of r) class.access.number learners)
    (is_writers : Influencing r (delegations_of r) class.label.number writers) where
  worker_is : (n : ℕ) → IsWorker r n → (n < 64) × IsNode r n
  worker_is n worker = let node = role_is_node r n (λ x. is_worker x ≡ true) worker in (numbered r n numbers node, node)

  store_is : (n : ℕ) → IsStore r n → (n < 64) × IsNode r n
  store_is n store = let node = role_is_node r n (λ x. is_store x ≡ true) store in (numbered r n numbers node, node)

  pub fetching : (n : ℕ) → IsBitSet (bit_and workers readers) n ↔ (IsWorker r n × FetchesClass r (delegations_of r) n class)
  fetching n = (
    λ bit. let both = (in_both workers readers n).0 bit in (((is_workers n).0 both.0).1, ((is_readers n).0 both.1).2),
    λ (worker, reads).
        let is = worker_is n worker in
        (in_both workers readers n).1 ((is_workers n).1 (is.0, worker), (is_readers n).1 (is.0, is.1, reads)),
  )

  pub writing : (n : ℕ) → IsBitSet (bit_and (bit_and workers readers) writers) n ↔ (IsWorker r n × WritesClass r (delegations_of r) n class)
  writing n = (
    λ bit.
        let both = (in_both (bit_and workers readers) writers n).0 bit in
        let fetches = (fetching n).0 both.0 in
        (fetches.0, (fetches.1, ((is_writers n).0 both.1).2)),
    λ (worker, (reads, writes)).
        let is = worker_is n worker in
        (in_both (bit_and workers readers) writers n).1 ((fetching n).1 (worker, reads), (is_writers n).1 (is.0, is.1, writes)),
  )

  pub holding : (n : ℕ) → IsBitSet (bit_and (bit_and (bit_and stores readers) learners) writers) n ↔ (IsStore r n × HoldsClass r (delegations_of r) n class)
  holding n = (
    λ bit.
        let three = (in_both (bit_and (bit_and stores readers) learners) writers n).0 bit in
        let two = (in_both (bit_and stores readers) learners n).0 three.0 in
        let one = (in_both stores readers n).0 two.0 in
        (((is_stores n).0 one.0).1, record { reads = ((is_readers n).0 one.1).2; learns = ((is_learners n).0 two.1).2; writes = ((is_writers n).0 three.1).2 }),
    λ (store, holds).
        let is = store_is n store in
        (in_both (bit_and (bit_and stores readers) learners) writers n).1 (
          (in_both (bit_and stores readers) learners n).1 (
            (in_both stores readers n).1 ((is_stores n).1 (is.0, store), (is_readers n).1 (is.0, is.1, holds.reads)),
            (is_learners n).1 (is.0, is.1, holds.learns),
          ),
          (is_writers n).1 (is.0, is.1, holds.writes),
        ),
  )

  pub class_rights_are : (fields : List Shape) → fields ≡ map shape_of class.fields
      → IsClassRights r class (record { fetchers = bit_and workers readers; writers = bit_and (bit_and workers readers) writers; holders = bit_and (bit_and (bit_and stores readers) learners) writers; fields = fields })
  class_rights_are fields kinds = record { fetchers = fetching; writers = writing; holders = holding; fields = kinds }

-- ---- all classes

-- what is related place by place says the same at a number
at_number : {A B : Type 0} (R : A → B → Type 0) (P : B → Type 0) (Q : A → Type 0) → ((x : A) (y : B) → R x y → P y ↔ Q x) → (xs : List A) (ys : List B) → AllZip R xs ys → (k : ℕ) → IsSomeAnd (slice_get ys k) P ↔ IsSomeAnd (slice_get xs k) Q
at_number R P Q same [] [] all k = (λ h. h, λ h. h)
at_number R P Q same [] (y ∷ ys) all k = absurd all
at_number R P Q same (x ∷ xs) [] all k = absurd all
at_number R P Q same (x ∷ xs) (y ∷ ys) all zero = same x y all.0
at_number R P Q same (x ∷ xs) (y ∷ ys) all (suc k) = at_number R P Q same xs ys all.1 k

-- each class has its fields' shapes
all_shapes : (r : Resolved) (cs : List Class) (xs : List ClassRights) → AllZip (IsClassRights r) cs xs → map (λ x. x.fields) xs ≡ map (λ c. map shape_of c.fields) cs
all_shapes r [] [] all = refl
all_shapes r [] (x ∷ xs) all = absurd all
all_shapes r (c ∷ cs) [] all = absurd all
all_shapes r (c ∷ cs) (x ∷ xs) all =
    let here : x.fields ≡ map shape_of c.fields = all.0.fields in
    let rest : map (λ (y : ClassRights). y.fields) xs ≡ map (λ (k : Class). map shape_of k.fields) cs = all_shapes r cs xs all.1 in
    cc

-- what doesn't speak of the element
beside : {A : Type 0} (W : Type 0) (P : A → Type 0) (o : Option A) → IsSomeAnd o (λ x. W × P x) ↔ (W × IsSomeAnd o P)
beside W P None = (λ h. absurd h, λ h. absurd h.1)
beside W P (Some x) = (λ h. h, λ h. h)

both_iff : {A B C : Type 0} → A ↔ B → B ↔ C → A ↔ C
both_iff one two = (λ a. two.0 (one.0 a), λ c. one.1 (two.1 c))

-- a field of rights holds what one of the class may contain
fits_field : (r : Resolved) (rights : Rights) → ((n c : ℕ) → IsSomeAnd (slice_get rights.classes c) (λ x. IsBitSet x.holders n) ↔ MayHoldNumber r (delegations_of r) n c) → (s : Sort) (v : Value)
    → FitsField rights (shape_of_sort s) v ↔ MayContain r s v
fits_field r rights held (sorts.Number w) v = (λ h. h, λ h. h)
fits_field r rights held (sorts.Class x) (Int n) = (λ h. h, λ h. h)
fits_field r rights held (sorts.Class x) Null = (λ h. h, λ h. h)
fits_field r rights held (sorts.Class x) (Ref o) = (λ h. (h.0, (held o.store o.class).0 h.1), λ h. (h.0, (held o.store o.class).1 h.1))

fit_fields : (r : Resolved) (rights : Rights) → ((n c : ℕ) → IsSomeAnd (slice_get rights.classes c) (λ x. IsBitSet x.holders n) ↔ MayHoldNumber r (delegations_of r) n c) → (fs : List Field) (vs : List Value)
    → AllZip (FitsField rights) (map shape_of fs) vs ↔ AllZip (λ f v. MayContain r f.sort v) fs vs
fit_fields r rights held [] [] = (λ h. h, λ h. h)
fit_fields r rights held [] (v ∷ vs) = (λ h. h, λ h. h)
fit_fields r rights held (f ∷ fs) [] = (λ h. h, λ h. h)
fit_fields r rights held (f ∷ fs) (v ∷ vs) =
    let here = fits_field r rights held f.sort v in
    let rest = fit_fields r rights held fs vs in
    (λ h. (here.0 h.0, rest.0 h.1), λ h. (here.1 h.0, rest.1 h.1))

module _ (r : Resolved) (rights : Rights) (numbers : HasNumbers r)
    (is_workers : (n : ℕ) → IsBitSet rights.workers n ↔ ((n < 64) × IsWorker r n)) (is_stores : (n : ℕ) → IsBitSet rights.stores n ↔ ((n < 64) × IsStore r n)) (all : AllZip (IsClassRights r) r.classes rights.classes) where
  fetched : (n c : ℕ) → IsSomeAnd (slice_get rights.classes c) (λ x. IsBitSet x.fetchers n) ↔ (IsWorker r n × IsSomeAnd (slice_get r.classes c) (λ k. FetchesClass r (delegations_of r) n k))
  fetched n c = both_iff
      (at_number (IsClassRights r) (λ x. IsBitSet x.fetchers n) (λ k. IsWorker r n × FetchesClass r (delegations_of r) n k) (λ k x is. is.fetchers n) r.classes rights.classes all c)
      (beside (IsWorker r n) (λ k. FetchesClass r (delegations_of r) n k) (slice_get r.classes c))

  written : (n c : ℕ) → IsSomeAnd (slice_get rights.classes c) (λ x. IsBitSet x.writers n) ↔ (IsWorker r n × IsSomeAnd (slice_get r.classes c) (λ k. WritesClass r (delegations_of r) n k))
  written n c = both_iff
      (at_number (IsClassRights r) (λ x. IsBitSet x.writers n) (λ k. IsWorker r n × WritesClass r (delegations_of r) n k) (λ k x is. is.writers n) r.classes rights.classes all c)
      (beside (IsWorker r n) (λ k. WritesClass r (delegations_of r) n k) (slice_get r.classes c))

  held : (n c : ℕ) → IsSomeAnd (slice_get rights.classes c) (λ x. IsBitSet x.holders n) ↔ MayHoldNumber r (delegations_of r) n c
  held n c = both_iff
      (at_number (IsClassRights r) (λ x. IsBitSet x.holders n) (λ k. IsStore r n × HoldsClass r (delegations_of r) n k) (λ k x is. is.holders n) r.classes rights.classes all c)
      (beside (IsStore r n) (λ k. HoldsClass r (delegations_of r) n k) (slice_get r.classes c))

  formed : (x : Object) → IsSomeAnd (slice_get rights.classes x.class) (λ c. AllZip (FitsField rights) c.fields x.fields) ↔ IsSomeAnd (slice_get r.classes x.class) (λ c. AllZip (λ f v. MayContain r f.sort v) c.fields x.fields)
  formed x = at_number (IsClassRights r) (λ c. AllZip (FitsField rights) c.fields x.fields) (λ c. AllZip (λ f v. MayContain r f.sort v) c.fields x.fields)
      (λ k c is. subst (λ (fs : List Shape). AllZip (FitsField rights) fs x.fields ↔ AllZip (λ f v. MayContain r f.sort v) k.fields x.fields) (sym is.fields) (fit_fields r rights held k.fields x.fields))
      r.classes rights.classes all x.class

  pub rights_are : AreRights r rights
  rights_are =
      let long : length rights.classes ≡ length r.classes = AllZip-long (IsClassRights r) r.classes rights.classes all in
      record {
        workers = λ n. (λ bit. ((is_workers n).0 bit).1, λ worker. (is_workers n).1 (numbered r n numbers (role_is_node r n (λ x. is_worker x ≡ true) worker), worker));
        stores = λ n. (λ bit. ((is_stores n).0 bit).1, λ store. (is_stores n).1 (numbered r n numbers (role_is_node r n (λ x. is_store x ≡ true) store), store));
        classes = λ c. (λ known. omega (arith, long, known), λ known. omega (arith, long, known));
        shapes = all_shapes r r.classes rights.classes all;
        fetched = fetched;
        written = written;
        held = held;
        formed = formed;
      }

-- one more class, as a loop reads it
pub one_more : (r : Resolved) (cs : List Class) (xs : List ClassRights) (i : ℕ) (c : Class) (x : ClassRights) → i < length cs → c ≡ get_or cs i c → IsClassRights r c x → AllZip (IsClassRights r) (take i cs) xs
    → AllZip (IsClassRights r) (take (i + 1) cs) (xs ++ x ∷ [])
one_more r cs xs i c x within at is all =
    subst (λ (front : List Class). AllZip (IsClassRights r) front (xs ++ x ∷ [])) (sym (take_more cs i c within ∙ ap (λ (k : Class). take i cs ++ k ∷ []) (sym at)))
    (all_zipped_more (IsClassRights r) (take i cs) xs c x all is)
