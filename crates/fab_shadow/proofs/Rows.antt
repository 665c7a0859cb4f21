-- Rows by name and version: what is found behind others, and what is found of rows that are placed.
use Rattle.std.proofs.Common.{◌≡◌, ◌⊎◌, inl, inr, ℕ, Bool, true, false, ◌&&◌, cond, List, [], ◌∷◌, ◌++◌, Some, refl, sym, ap, ◌∙◌, subst}
use Rattle.std.specs.Prelude.{◌==◌, if◌then◌else◌}
use Rattle.std.specs.List.{filter}
use Rattle.std.proofs.lemmas.Bool.{and_parts, cases_Bool, eq-eqb, eqb-true, false_from_ne_true, true≢false}
use Rattle.fab_base.specs.declared.object.Oid.{Oid}
use Rattle.fab_base.specs.FlatMap.{is_among, is_same}
use Rattle.fab_base.proofs.Names.{same_self}
use Rattle.fab_base.proofs.NameOrder.{one_name}
use Rattle.fab_base.proofs.Lists.{all_of_map}
use Rattle.fab_protocol.specs.Tables.{row_of, placed, placed_all}
use Rattle.fab_protocol.specs.Versions.{Row, Rows, name_of, names_of}
use Rattle.fab_protocol.proofs.NameLists.{none_among}
use Rattle.fab_protocol.proofs.TableLaws.{row_of_placed, row_of_placed_all}
use Rattle.fab_release.specs.Replay.{row_at}
use Rattle.fab_integrity.proofs.Invariant.{In}
use Rattle.fab_integrity.proofs.Lists.{in_map}
use Rattle.fab_integrity.proofs.Maps.{among_in}

-- ---- lists

-- two tests one after the other, and the other way round
swap_step : {A : Type 0} (p q : A → Bool) (x : A) (xs : List A) → filter p (filter q xs) ≡ filter q (filter p xs) → (b : Bool) → p x ≡ b → (c : Bool) → q x ≡ c
    → filter p (cond c (x ∷ filter q xs) (filter q xs)) ≡ filter q (cond b (x ∷ filter p xs) (filter p xs))
swap_step p q x xs same true e true g =
    ap (λ b. cond b (x ∷ filter p (filter q xs)) (filter p (filter q xs))) e ∙ ap (λ ys. x ∷ ys) same
    ∙ sym (ap (λ c. cond c (x ∷ filter q (filter p xs)) (filter q (filter p xs))) g)
swap_step p q x xs same true e false g = same ∙ sym (ap (λ c. cond c (x ∷ filter q (filter p xs)) (filter q (filter p xs))) g)
swap_step p q x xs same false e true g = ap (λ b. cond b (x ∷ filter p (filter q xs)) (filter p (filter q xs))) e ∙ same
swap_step p q x xs same false e false g = same

pub filter_swap : {A : Type 0} (p q : A → Bool) (xs : List A) → filter p (filter q xs) ≡ filter q (filter p xs)
filter_swap p q [] = refl
filter_swap p q (x ∷ xs) = swap_step p q x xs (filter_swap p q xs) (p x) refl (q x) refl

-- ---- at a version

-- behind rows of other names or versions what was found is found
past_step : (q : Row) (found : List Row) (o : Oid) (version : ℕ) → (q.0 ≡ o → q.1 ≡ version → ⊥) → (b : Bool) → (is_same q.0 o && (q.1 == version)) ≡ b
    → ◌≡◌ {A = Rows} (cond b (q ∷ []) found) found
past_step q found o version apart true e =
    let p = and_parts (is_same q.0 o) (q.1 == version) e in absurd (apart (one_name q.0 o p.0) (eqb-true q.1 version p.1))
past_step q found o version apart false e = refl

pub row_at_past : (rows more : Rows) (o : Oid) (version : ℕ) → ((q : Row) → In q rows → q.0 ≡ o → q.1 ≡ version → ⊥)
    → row_at (rows ++ more) o version ≡ row_at more o version
row_at_past [] more o version apart = refl
row_at_past (q ∷ rows) more o version apart =
    past_step q (row_at (rows ++ more) o version) o version (apart q (inl refl)) (is_same q.0 o && (q.1 == version)) refl
    ∙ row_at_past rows more o version (λ p i. apart p (inr i))

-- the row that is found is the first of its name and version
here_step : (q r : Row) (found : List Row) → (q.0 ≡ r.0 → q.1 ≡ r.1 → q ≡ r) → (q ≡ r) ⊎ (found ≡ r ∷ []) → (b : Bool) → (is_same q.0 r.0 && (q.1 == r.1)) ≡ b
    → ◌≡◌ {A = Rows} (cond b (q ∷ []) found) (r ∷ [])
here_step q r found one h true e =
    let p = and_parts (is_same q.0 r.0) (q.1 == r.1) e in ap (λ (x : Row). x ∷ []) (one (one_name q.0 r.0 p.0) (eqb-true q.1 r.1 p.1))
here_step q r found one (inr h) false e = h
here_step q r found one (inl same) false e =
    let passes : (is_same q.0 r.0 && (q.1 == r.1)) ≡ true =
    ap (λ (x : Row). is_same x.0 r.0 && (x.1 == r.1)) same ∙ ap (λ b. b && (r.1 == r.1)) (same_self r.0) ∙ eq-eqb r.1 r.1 refl in
    absurd (true≢false (sym passes ∙ e))

pub row_at_here : (rows more : Rows) (r : Row) → In r rows → ((q : Row) → In q rows → q.0 ≡ r.0 → q.1 ≡ r.1 → q ≡ r) → row_at (rows ++ more) r.0 r.1 ≡ r ∷ []
row_at_here [] more r listed one = absurd listed
row_at_here (q ∷ rows) more r (inl same) one =
    here_step q r (row_at (rows ++ more) r.0 r.1) (one q (inl refl)) (inl (sym same)) (is_same q.0 r.0 && (q.1 == r.1)) refl
row_at_here (q ∷ rows) more r (inr listed) one =
    here_step q r (row_at (rows ++ more) r.0 r.1) (one q (inl refl)) (inr (row_at_here rows more r listed (λ p i. one p (inr i))))
    (is_same q.0 r.0 && (q.1 == r.1)) refl

-- ---- rows that are placed

-- over tables that have the same of a name
pub placed_alike : (rs xs ys : Rows) (o : Oid) → row_of name_of xs o ≡ row_of name_of ys o
    → row_of name_of (placed_all name_of rs xs) o ≡ row_of name_of (placed_all name_of rs ys) o
placed_alike [] xs ys o same = same
placed_alike (r ∷ rs) xs ys o same =
    placed_alike rs (placed name_of r xs) (placed name_of r ys) o
    (row_of_placed name_of r xs o ∙ ap (λ found. if is_same r.0 o then Some r else found) same ∙ sym (row_of_placed name_of r ys o))

-- those of which none has the name change nothing of it
pub placed_others : (rs xs : Rows) (o : Oid) → ((q : Row) → In q rs → q.0 ≡ o → ⊥) → row_of name_of (placed_all name_of rs xs) o ≡ row_of name_of xs o
placed_others [] xs o apart = refl
placed_others (r ∷ rs) xs o apart =
    placed_others rs (placed name_of r xs) o (λ q i. apart q (inr i))
    ∙ row_of_placed name_of r xs o
    ∙ ap (λ b. if b then Some r else row_of name_of xs o) (false_from_ne_true (is_same r.0 o) (λ e. apart r (inl refl) (one_name r.0 o e)))

-- of those that have the name, if they are one row, that one
pub placed_one : (rs xs : Rows) (r : Row) → In r rs → ((q : Row) → In q rs → q.0 ≡ r.0 → q ≡ r) → row_of name_of (placed_all name_of rs xs) r.0 ≡ Some r
placed_one [] xs r listed one = absurd listed
placed_one (q ∷ rs) xs r (inr listed) one = placed_one rs (placed name_of q xs) r listed (λ p i. one p (inr i))
placed_one (q ∷ rs) xs r (inl same) one = elim (cases_Bool (is_among r.0 (names_of rs))) [
  | inl there ↦
      let f = in_map name_of r.0 rs (among_in r.0 (names_of rs) there) in
      placed_one rs (placed name_of q xs) r (subst (λ x. In x rs) (one f.0 (inr f.1) (sym f.2)) f.1) (λ p i. one p (inr i))
  | inr none ↦
      row_of_placed_all name_of rs (placed name_of q xs) r.0 (all_of_map (λ p. is_same p r.0 ≡ false) name_of rs (none_among r.0 (names_of rs) none))
      ∙ row_of_placed name_of q xs r.0
      ∙ ap (λ b. if b then Some q else row_of name_of xs r.0) (ap (λ (x : Row). is_same x.0 r.0) (sym same) ∙ same_self r.0)
      ∙ ap Some (sym same)
]
