-- A step that only adds commits keeps the rule.
use Rattle.std.proofs.Common.{◌≡◌, ℕ, ◌+◌, ◌≤◌, ◌≢◌, List, [], ◌∷◌, ◌++◌, length, set, refl, sym, ap, ◌∙◌, subst, ⊎_elim, append_assoc, append-nil, arith, Some, IfSome, false, Result, Ok, Err}
use Rattle.std.specs.Prelude.{MatchResult}
use Rattle.std.specs.Result.{is_err}
use Rattle.std.proofs.lemmas.Bool.{false≢true}
use mathlib.Core.Option.{some}
use lib.ListN.{get_elem?}
use Rattle.left_right.specs.Register.{Admits, TurnsAt, Forks, Merges}
use Rattle.atomic_table.proofs.Lists.{at_set, at_snoc}
use Rattle.fab_protocol.specs.Tables.{placed_all}
use Rattle.fab_protocol.specs.Versions.{Rows, name_of}
use Rattle.fab_snap.specs.declared.write_set.WriteSet.{WriteSet}
use Rattle.fab_snap.specs.declared.state.Change.{Change}
use Rattle.fab_snap.specs.declared.state.Snap.{Snap}
use Rattle.fab_snap.specs.declared.rule.View.{View}
use Rattle.fab_snap.specs.Commits.{StartsWith, rows_after}
use Rattle.fab_snap.specs.Shown.{commits_of, start_of, IsBehind}
use Rattle.fab_snap.specs.Rule.{Keeps, Knows, Publishes, informed, newcomer}

-- ---- lists that begin with others

pub starts_itself : (l : List WriteSet) → StartsWith l l
starts_itself l = ([], sym (append-nil l))

pub starts_empty : (l : List WriteSet) → StartsWith l []
starts_empty l = (l, refl)

pub starts_on : (a b c : List WriteSet) → StartsWith c b → StartsWith b a → StartsWith c a
starts_on a b c g f = (f.0 ++ g.0, g.1 ∙ ap (λ l. l ++ g.0) f.1 ∙ append_assoc a f.0 g.0)

pub no_longer : (a b : List WriteSet) → StartsWith b a → length a ≤ length b
no_longer a b s = subst (λ l. length a ≤ length l) (sym s.1) (front a s.0)
  where
    front : (xs ys : List WriteSet) → length xs ≤ length (xs ++ ys)
    front [] ys = omega arith
    front (x ∷ xs) ys = let h = front xs ys in omega arith

-- a list of the same length that begins with another is it
pub same_list : (a b : List WriteSet) → StartsWith b a → length b ≡ length a → b ≡ a
same_list [] [] s e = refl
same_list [] (y ∷ ys) s e = absurd (omega arith)
same_list (x ∷ xs) b s e = s.1 ∙ ap (λ l. (x ∷ xs) ++ l) (none s.0 (left (x ∷ xs) s.0 (sym (ap length s.1) ∙ e))) ∙ append-nil (x ∷ xs)
  where
    left : (zs ys : List WriteSet) → length (zs ++ ys) ≡ length zs → length ys ≡ 0
    left [] ys h = h
    left (z ∷ zs) ys h = left zs ys (omega arith)

    none : (ys : List WriteSet) → length ys ≡ 0 → ys ≡ []
    none [] h = refl
    none (y ∷ ys) h = absurd (omega arith)

-- ---- the rule

nothing : (start : Rows) (all : List WriteSet) → Knows start all newcomer
nothing start all = record { starts = tt; seen = starts_empty all; told = starts_empty all }

pub admits : Admits Keeps newcomer
admits x views h = (
  h.0,
  λ seat v at. ⊎_elim (h.1 seat v) (λ (e : newcomer ≡ v). subst (Knows (start_of x) (commits_of x)) e (nothing (start_of x) (commits_of x))) (at_snoc views newcomer v seat at),
)

pub turns : (seat : ℕ) (v : View) (x y : Snap) → start_of y ≡ start_of x → StartsWith (commits_of y) (commits_of x) → (IsBehind x → IsBehind y)
    → TurnsAt Keeps seat v x y Publishes
turns seat v x y same up behind views h at =
    let w : View = record { start = Some (start_of y); seen = commits_of y; told = v.told } in
    let k = later v (h.1 seat v at) in (
      w,
      (
        behind h.0,
        λ j u e. ⊎_elim
            (λ (t : (j ≡ seat) × (w ≡ u)). subst (Knows (start_of y) (commits_of y)) t.1 (record { starts = refl; seen = starts_itself (commits_of y); told = k.told }))
            (λ (t : (j ≢ seat) × (get_elem? views j ≡ some u)). later u (h.1 j u t.1))
            (at_set views seat j w u e),
      ),
      record { grown = k.seen; told_of = k.told; sees = refl; starts = refl; same_start = k.starts; same_told = refl; behind = behind h.0 },
    )
  where
    later : (u : View) → Knows (start_of x) (commits_of x) u → Knows (start_of y) (commits_of y) u
    later u k = record {
      starts = subst (λ (s : Rows). IfSome u.start (λ rows. rows ≡ s)) (sym same) k.starts;
      seen = starts_on u.seen (commits_of x) (commits_of y) up k.seen;
      told = starts_on u.told (commits_of x) (commits_of y) up k.told;
    }

-- one seat's view is another that is so, too
set_known : (x : Snap) (views : List View) (seat : ℕ) (w : View) → Keeps x views → Knows (start_of x) (commits_of x) w → Keeps x (set views seat w)
set_known x views seat w h k = (
  h.0,
  λ j u e. ⊎_elim (λ (t : (j ≡ seat) × (w ≡ u)). subst (Knows (start_of x) (commits_of x)) t.1 k)
      (λ (t : (j ≢ seat) × (get_elem? views j ≡ some u)). h.1 j u t.1) (at_set views seat j w u e),
)

pub forks : (seat : ℕ) (v : View) → Forks Keeps seat v v v
forks seat v x views h at =
    let k = h.1 seat v at in
    let g = set_known x views seat v h k in (
      g.0,
      λ j u e. ⊎_elim (g.1 j u) (λ (same : v ≡ u). subst (Knows (start_of x) (commits_of x)) same k) (at_snoc (set views seat v) v u j e),
    )

pub merges : (seat : ℕ) (v : View) (other : ℕ) (w : View) → Merges Keeps seat v other w (informed v w) newcomer
merges seat v other w x views h at apart there =
    let a = h.1 seat v at in
    let b : Knows (start_of x) (commits_of x) w = ⊎_elim (λ (t : (other ≡ seat) × (informed v w ≡ w)). absurd (apart t.0))
    (λ (t : (other ≢ seat) × (get_elem? views other ≡ some w)). h.1 other w t.1) (at_set views seat other (informed v w) w there) in
    set_known x (set views seat (informed v w)) other newcomer
    (set_known x views seat (informed v w) h (record { starts = b.starts; seen = a.seen; told = b.seen })) (nothing (start_of x) (commits_of x))

-- ---- no commit more, and one

pub opens : (seat : ℕ) (v : View) (x y : Snap) → y.count ≡ x.count → y.rows.rows ≡ x.rows.rows → commits_of y ≡ commits_of x → start_of y ≡ start_of x
    → TurnsAt Keeps seat v x y Publishes
opens seat v x y count rows told same = turns seat v x y same ([], told ∙ sym (append-nil (commits_of x))) (λ h. record {
  rows = rows ∙ h.rows ∙ ap (rows_after (start_of x)) (sym told) ∙ ap (λ (s : Rows). rows_after s (commits_of y)) (sym same);
  count = count ∙ h.count ∙ ap length (sym told);
})

rows_more : (start : Rows) (commits : List WriteSet) (c : WriteSet) → rows_after start (commits ++ c ∷ []) ≡ placed_all name_of c.leaves (rows_after start commits)
rows_more start [] c = refl
rows_more start (d ∷ commits) c = rows_more (placed_all name_of d.leaves start) commits c

length_more : (commits : List WriteSet) (c : WriteSet) → length (commits ++ c ∷ []) ≡ length commits + 1
length_more [] c = refl
length_more (d ∷ commits) c = let h = length_more commits c in omega arith

pub publishes : (seat : ℕ) (v : View) (x y : Snap) (commits all : List WriteSet) (c : WriteSet) → commits_of x ≡ commits → IsBehind x → all ≡ commits ++ c ∷ []
    → y.count ≡ x.count + 1 → y.rows.rows ≡ placed_all name_of c.leaves x.rows.rows → commits_of y ≡ all → start_of y ≡ start_of x → TurnsAt Keeps seat v x y Publishes
publishes seat v x y commits all c is behind more count rows told same =
    let e : commits_of y ≡ commits_of x ++ c ∷ [] = told ∙ more ∙ ap (λ l. l ++ c ∷ []) (sym is) in
    turns seat v x y same (c ∷ [], e) (λ h. record {
      rows =
          rows
          ∙ ap (placed_all name_of c.leaves) behind.rows
          ∙ sym (rows_more (start_of x) (commits_of x) c)
          ∙ ap (rows_after (start_of x)) (sym e)
          ∙ ap (λ (s : Rows). rows_after s (commits_of y)) (sym same);
      count = count ∙ ap (λ n. n + 1) behind.count ∙ sym (length_more (commits_of x) c) ∙ ap length (sym e);
    })

-- what is appended where it isn't refused
pub where_ok : (r : Result (Unit {0}) Change) (P : Type 0) (Q : Change → Type 0) → false ≡ is_err r → MatchResult r (λ _. P) Q → P
where_ok (Ok u) P Q e m = m
where_ok (Err x) P Q e m = absurd (false≢true e)
