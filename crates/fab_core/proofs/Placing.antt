-- Rows that are put into a table one after the other.
use Rattle.std.proofs.Common.{◌≡◌, ℕ, Bool, true, false, cond, List, [], ◌∷◌, ◌++◌, map, Option, Some, None, refl, sym, ap, ◌∙◌, append-nil}
use Rattle.std.specs.Prelude.{fold, reverse, if◌then◌else◌}
use Rattle.std.specs.Option.{option_map, option_or}
use Rattle.std.specs.List.{filter, flat_map, find}
use Rattle.std.proofs.lemmas.Grind.{flat_map-append}
use Rattle.std.proofs.lemmas.List.{map-append, reverse-append}
use Rattle.std.proofs.lemmas.List.Elements.{filter-append}
use Rattle.fab_base.specs.declared.object.Object.{Object}
use Rattle.fab_base.specs.declared.object.Tid.{Tid}
use Rattle.fab_core.specs.Cores.{slot}
use Rattle.fab_nodes.specs.Seen.{decided_in, left_if_decided, only_decided}
use Rattle.fab_nodes.specs.Under.{last_under, under}
use Rattle.fab_node.specs.Standing.{NodeModel}
use Rattle.fab_base.specs.declared.object.Oid.{Oid}
use Rattle.fab_base.specs.FlatMap.{is_same}
use Rattle.fab_base.specs.declared.message.Items.{Items}
use Rattle.fab_protocol.specs.Stores.{Prepared, behind}
use Rattle.fab_protocol.specs.Tables.{placed, placed_all, row_of}
use Rattle.fab_protocol.specs.Versions.{Row, Rows, begun, name_of, left_by, raised, risen}
use Rattle.fab_protocol.proofs.TableLaws.{row_of_placed}

-- some rows behind others
pub placed_both : (xs ys rows : Rows) → placed_all name_of (xs ++ ys) rows ≡ placed_all name_of ys (placed_all name_of xs rows)
placed_both [] ys rows = refl
placed_both (x ∷ xs) ys rows = placed_both xs ys (placed name_of x rows)

-- one transaction behind others
pub behind_one : (p : Prepared) (ps : List Prepared) (rows : Rows) → behind (p ∷ ps) rows ≡ behind ps (placed_all name_of (left_by p.1) rows)
behind_one p ps rows = placed_both (left_by p.1) (flat_map (λ q. left_by q.1) ps) rows

-- ---- under one name

under_both : (xs ys : Rows) (o : Oid) → under (xs ++ ys) o ≡ option_or (under xs o) (under ys o)
under_both [] ys o = refl
under_both (x ∷ xs) ys o =
    elim (is_same x.0 o) as (λ b. option_map (λ (row : Row). (row.1, row.2)) (cond b (Some x) (row_of name_of (xs ++ ys) o))
    ≡ option_or (option_map (λ (row : Row). (row.1, row.2)) (cond b (Some x) (row_of name_of xs o))) (under ys o)) [
      | true ↦ refl
      | false ↦ under_both xs ys o
    ]

-- of some rows behind others the last one is there
pub last_both : (xs ys : Rows) (o : Oid) → last_under (xs ++ ys) o ≡ option_or (last_under ys o) (last_under xs o)
last_both xs ys o = ap (λ zs. under zs o) (reverse-append xs ys) ∙ under_both (reverse ys) (reverse xs) o

or_again : {A : Type 0} (x y z : Option A) → option_or (option_or x y) z ≡ option_or x (option_or y z)
or_again None y z = refl
or_again (Some x) y z = refl

one_under : (r : Row) (rows : Rows) (o : Oid) → under (placed name_of r rows) o ≡ option_or (last_under (r ∷ []) o) (under rows o)
one_under r rows o =
    ap (λ (row : Option Row). option_map (λ (x : Row). (x.1, x.2)) row) (row_of_placed name_of r rows o)
    ∙ elim (is_same r.0 o) as (λ b. option_map (λ (x : Row). (x.1, x.2)) (if b then Some r else row_of name_of rows o)
    ≡ option_or (option_map (λ (x : Row). (x.1, x.2)) (cond b (Some r) None)) (under rows o)) [
      | true ↦ refl
      | false ↦ refl
    ]

-- rows that are put into others stand over them
pub placed_under : (rs rows : Rows) (o : Oid) → under (placed_all name_of rs rows) o ≡ option_or (last_under rs o) (under rows o)
placed_under [] rows o = refl
placed_under (r ∷ rs) rows o =
    placed_under rs (placed name_of r rows) o
    ∙ ap (option_or (last_under rs o)) (one_under r rows o)
    ∙ sym (or_again (last_under rs o) (last_under (r ∷ []) o) (under rows o))
    ∙ ap (λ x. option_or x (under rows o)) (sym (last_both (r ∷ []) rs o))

-- the last of some transactions, where its worker decided for it, or else those before it
pub decided_last : (nodes : List (Option NodeModel)) (ps : List Prepared) (p : Prepared) (o : Oid)
    → last_under (flat_map (λ q. left_by q.1) (only_decided nodes (ps ++ p ∷ []))) o
    ≡ option_or (left_if_decided nodes p o) (last_under (flat_map (λ q. left_by q.1) (only_decided nodes ps)) o)
decided_last nodes ps p o =
    ap (λ qs. last_under (flat_map (λ q. left_by q.1) qs) o) (filter-append (λ q. decided_in nodes q.0) ps (p ∷ []))
    ∙ ap (λ rows. last_under rows o) (flat_map-append (λ (q : Prepared). left_by q.1) (only_decided nodes ps) (only_decided nodes (p ∷ [])))
    ∙ last_both (flat_map (λ q. left_by q.1) (only_decided nodes ps)) (flat_map (λ q. left_by q.1) (only_decided nodes (p ∷ []))) o
    ∙ ap (λ x. option_or x (last_under (flat_map (λ q. left_by q.1) (only_decided nodes ps)) o)) (one (decided_in nodes p.0))
  where
    one : (b : Bool) → last_under (flat_map (λ q. left_by q.1) (cond b (p ∷ []) [])) o ≡ (if b then last_under (left_by p.1) o else None)
    one true = ap (λ rows. last_under rows o) (append-nil (left_by p.1))
    one false = refl

-- ---- what items leave

reverse_map : {A B : Type 0} (f : A → B) (xs : List A) → reverse (map f xs) ≡ map f (reverse xs)
reverse_map f [] = refl
reverse_map f (x ∷ xs) =
    reverse-append (f x ∷ []) (map f xs)
    ∙ ap (λ ys. ys ++ f x ∷ []) (reverse_map f xs)
    ∙ sym (map-append f (reverse xs) (x ∷ []))
    ∙ sym (ap (map f) (reverse-append (x ∷ []) xs))

-- what is made stands at version 1, and what is written at the version behind the one that was read
abbrev pub made : Oid × Object → ℕ × Object
made c = (1, c.1)

abbrev pub written : Row → ℕ × Object
written w = (risen w.1, w.2)

under_made : (cs : List (Oid × Object)) (o : Oid) → under (map begun cs) o ≡ option_map made (row_of (λ c. c.0) cs o)
under_made [] o = refl
under_made (c ∷ cs) o =
    elim (is_same c.0 o) as (λ b. option_map (λ (row : Row). (row.1, row.2)) (cond b (Some (begun c)) (row_of name_of (map begun cs) o))
    ≡ option_map made (cond b (Some c) (row_of (λ x. x.0) cs o))) [
      | true ↦ refl
      | false ↦ under_made cs o
    ]

under_written : (ws : Rows) (o : Oid) → under (map raised ws) o ≡ option_map written (row_of name_of ws o)
under_written [] o = refl
under_written (w ∷ ws) o =
    elim (is_same w.0 o) as (λ b. option_map (λ (row : Row). (row.1, row.2)) (cond b (Some (raised w)) (row_of name_of (map raised ws) o))
    ≡ option_map written (cond b (Some w) (row_of name_of ws o))) [
      | true ↦ refl
      | false ↦ under_written ws o
    ]

-- what items leave under a name is the last that they make or else write
pub left_is : (items : Items) (o : Oid)
    → last_under (left_by items) o ≡ option_or (option_map made (row_of (λ c. c.0) (reverse items.creates) o))
    (option_map written (row_of name_of (reverse items.writes) o))
left_is items o =
    last_both (map raised items.writes) (map begun items.creates) o
    ∙ ap (λ x. option_or x (last_under (map raised items.writes) o))
    (ap (λ rows. under rows o) (reverse_map begun items.creates) ∙ under_made (reverse items.creates) o)
    ∙ ap (option_or (option_map made (row_of (λ c. c.0) (reverse items.creates) o)))
    (ap (λ rows. under rows o) (reverse_map raised items.writes) ∙ under_written (reverse items.writes) o)
