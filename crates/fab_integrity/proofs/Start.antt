-- What holds at the start: nothing is committed, heard or prepared, and each root is at version 1.
use Rattle.std.specs.Prelude.{◌≡◌, ◌≤◌, ℕ, Bool, true, false, ◌==◌, if◌then◌else◌, is_some, List, [], ◌∷◌, map, length, Option, Some, None, option_map}
use Rattle.std.specs.List.{filter, range_with_len, AllByRecursion}
use Rattle.std.proofs.Common.{refl, sym, ap, ◌∙◌, subst, inl, cond, arith}
use Rattle.std.proofs.lemmas.Bool.{eqb-false}
use Rattle.std.proofs.lemmas.Option.{unwrap_or-slice_get}
use Rattle.fab_base.specs.declared.object.Oid.{Oid}
use Rattle.fab_base.specs.declared.object.Object.{Object}
use Rattle.fab_base.specs.FlatMap.{FlatMap, get, is_same}
use Rattle.fab_base.proofs.NameOrder.{one_name}
use Rattle.fab_protocol.specs.declared.sender.Sender.{Sender}
use Rattle.fab_protocol.specs.Shelves.{IsShelf}
use Rattle.fab_protocol.specs.Stores.{Shelf, Prepared, shelf_at_start, unheard, sender_in}
use Rattle.fab_protocol.specs.Tables.{row_of}
use Rattle.fab_protocol.specs.Versions.{Row, name_of, version_of, begun}
use Rattle.fab_protocol.proofs.ShelfKept.{start_is}
use Rattle.fab_protocol.proofs.VersionLaws.{version_in, version_by_row}
use Rattle.fab_world.specs.Machine.{Setting, at_start, kept, shelf}
use Rattle.fab_world.specs.Serial.{IsSetting, IsFit, within}
use Rattle.fab_world.specs.Workers as workers
use Rattle.fab_world.specs.Workers.{Kept, kept_of}
use Rattle.fab_integrity.proofs.Invariant.{In, State, committed, Pair, WorkerOk, CellOk, AreCommits, standing}
use Rattle.fab_integrity.proofs.Lists.{each_of, all_of, in_blank, get_or_all}
use Rattle.fab_integrity.proofs.Maps.{get_in, get_within, ascends_filter, in_row}
use Rattle.fab_integrity.proofs.Orders.{ordered_start}
use Rattle.fab_integrity.proofs.Steps.{Holds}
use Rattle.fab_integrity.proofs.Lasting.{kept_start, shelf_start}

-- ---- of no sender anything was heard

-- of the sender nothing was heard
pub record IsUnheard (x : Sender) : Type 0 where
  pub boot : x.last.boot ≡ 0
  pub number : x.last.number ≡ 0

each_unheard : (ns : List ℕ) → AllByRecursion IsUnheard (map unheard ns)
each_unheard [] = tt
each_unheard (n ∷ ns) = (record { boot = refl; number = refl }, each_unheard ns)

all_unheard : (ns : List ℕ) (n : ℕ) → IsUnheard (sender_in (map unheard ns) n)
all_unheard ns n = subst IsUnheard (sym (unwrap_or-slice_get (map unheard ns) n (unheard n)))
    (get_or_all IsUnheard (map unheard ns) n (unheard n) (each_unheard ns) (record { boot = refl; number = refl }))

-- ---- the roots at their stores

abbrev begun_at : FlatMap → ℕ → List Row
begun_at roots s = map begun (filter (λ root. root.0.store == s) roots)

same_row : (root : Oid × Object) (roots : FlatMap) (o : Oid) (rows : List Row) → row_of name_of rows o ≡ option_map (in_row o 1) (get roots o) → (b : Bool)
    → is_same root.0 o ≡ b
    → cond b (Some (begun root)) (row_of name_of rows o) ≡ option_map (in_row o 1) (if b then Some root.1 else get roots o)
same_row root roots o rows h true e = ap (λ p. Some (in_row p 1 root.1)) (one_name root.0 o e)
same_row root roots o rows h false e = h

elsewhere : (p o : Oid) (s : ℕ) → o.store ≡ s → (p.store == s) ≡ false → (b : Bool) → is_same p o ≡ b → is_same p o ≡ false
elsewhere p o s at e false g = g
elsewhere p o s at e true g = absurd (eqb-false p.store s e (ap (λ (q : Oid). q.store) (one_name p o g) ∙ at))

start_step : (root : Oid × Object) (roots : FlatMap) (s : ℕ) (o : Oid) → o.store ≡ s
    → row_of name_of (begun_at roots s) o ≡ option_map (in_row o 1) (get roots o) → (b : Bool) → (root.0.store == s) ≡ b
    → row_of name_of (map begun (cond b (root ∷ filter (λ root. root.0.store == s) roots) (filter (λ root. root.0.store == s) roots))) o
    ≡ option_map (in_row o 1) (get (root ∷ roots) o)
start_step root roots s o at h true e = same_row root roots o (begun_at roots s) h (is_same root.0 o) refl
start_step root roots s o at h false e =
    h ∙ sym (ap (λ b. option_map (in_row o 1) (if b then Some root.1 else get roots o)) (elsewhere root.0 o s at e (is_same root.0 o) refl))

start_row : (roots : FlatMap) (s : ℕ) (o : Oid) → o.store ≡ s → row_of name_of (begun_at roots s) o ≡ option_map (in_row o 1) (get roots o)
start_row [] s o at = refl
start_row (root ∷ roots) s o at = start_step root roots s o at (start_row roots s o at) (root.0.store == s) refl

module _ (S : Setting) (D ex : ℕ → Bool) (given : IsSetting S) where
  -- each root at version 1
  abbrev first : State
  first = record { map = within ex S.roots; version = λ o. if is_some (get (within ex S.roots) o) then 1 else 0 }

  there_is : (o : Oid) (x : Object) → get (within ex S.roots) o ≡ Some x → first.version o ≡ 1
  there_is o x h = ap (λ m. if is_some m then 1 else 0) h

  root_is : (o : Oid) (x : Object) (b : Bool) → ex o.class ≡ b → get (within ex S.roots) o ≡ Some x → (ex o.class ≡ true) × (get S.roots o ≡ Some x)
  root_is o x true e h = (e, sym (ap (λ b. if b then get S.roots o else None) e) ∙ sym (get_within ex S.roots o) ∙ h)
  root_is o x false e h = let no : None ≡ Some x = sym (ap (λ b. if b then get S.roots o else None) e) ∙ sym (get_within ex S.roots o) ∙ h in cc

  one_or_none : (o : Oid) (z : Option Object) → option_map (in_row o (if is_some z then 1 else 0)) z ≡ option_map (in_row o 1) z
  one_or_none o None = refl
  one_or_none o (Some y) = refl

  committed_is : (o : Oid) → ex o.class ≡ true → committed first o ≡ option_map (in_row o 1) (get S.roots o)
  committed_is o x =
      one_or_none o (get (within ex S.roots) o)
      ∙ ap (option_map (in_row o 1)) (get_within ex S.roots o ∙ ap (λ b. if b then get S.roots o else None) x)

  version_seen : (o : Oid) (z : Option Object) → version_in (option_map (in_row o (if is_some z then 1 else 0)) z) ≡ (if is_some z then 1 else 0)
  version_seen o None = refl
  version_seen o (Some y) = refl

  one_at_most : (z : Option Object) → (if is_some z then 1 else 0) ≤ 1
  one_at_most None = omega arith
  one_at_most (Some y) = omega arith

  shelf_here : (s : ℕ) → shelf S (at_start S) s ≡ shelf_at_start S.roots s
  shelf_here s = shelf_start S.roots s

  first_last : (s n : ℕ) → IsUnheard (sender_in (shelf S (at_start S) s).senders n)
  first_last s n = subst (λ (x : Shelf). IsUnheard (sender_in x.senders n)) (sym (shelf_here s)) (all_unheard (range_with_len 0 64) n)

  none_prepared : (s : ℕ) (p : Prepared) → In p (shelf S (at_start S) s).prepared → ⊥
  none_prepared s p h = subst (λ (x : Shelf). In p x.prepared) (shelf_here s) h

  kept_here : (n : ℕ) → kept S (at_start S) n ≡ record { boot = 1; decided = []; outcomes = [] }
  kept_here n = kept_start

  -- ---- what holds of it

  start_pair : (n s : ℕ) → Pair S D ex n s (standing S D ex (at_start S) [] n) (shelf S (at_start S) s) [] [] first
  start_pair n s =
      let boot = (first_last s n).boot in
      let number = (first_last s n).number in
      let own : (kept S (at_start S) n).boot ≡ 1 = ap (λ (k : Kept). k.boot) (kept_here n) in
      record {
        says = λ bytes message h. absurd h;
        hears = λ bytes message h. absurd h;
        kept = λ t items h. absurd (none_prepared s (t, items) h);
        voted = λ ls e. let no : workers.Idle ≡ workers.Preparing ls = e in absurd (cc);
        aged = λ c h. absurd h;
        booted = omega (arith, boot, own);
        numbered = omega (arith, number);
      }

  start_worker : (n : ℕ) → WorkerOk S D ex n (standing S D ex (at_start S) [] n) first
  start_worker n =
      let boot : (kept S (at_start S) n).boot ≡ 1 = ap (λ (k : Kept). k.boot) (kept_here n) in
      record {
        answers = λ r h. absurd h;
        cached = λ rows r h i. absurd (subst (In r) (in_blank (range_with_len 0 64) rows h) i);
        once = tt;
        awaited = λ o e. let no : workers.Idle ≡ workers.Fetching o = e in absurd (cc);
        past = λ c h. absurd h;
        closed = λ c h. absurd h;
        ended = λ h. absurd h;
        listed = ap (λ (k : Kept). k.decided) (kept_here n);
        booted = omega (arith, boot);
        low = omega (arith, boot);
      }

  start_cell : (o : Oid) → ex o.class ≡ true → CellOk S D ex o [] (shelf S (at_start S) o.store) first
  start_cell o x =
      let rows = ap (λ (s : Shelf). s.rows) (shelf_here o.store) in
      let same : row_of name_of (shelf S (at_start S) o.store).rows o ≡ committed first o =
      ap (λ rs. row_of name_of rs o) rows ∙ start_row S.roots o.store o refl ∙ sym (committed_is o x) in
      let version : version_of (shelf S (at_start S) o.store).rows o ≡ first.version o =
      version_by_row (shelf S (at_start S) o.store).rows o ∙ ap version_in same ∙ version_seen o (get (within ex S.roots) o) in
      record {
        below = omega (arith, version);
        equal = λ e. same;
        free = λ h. same;
        taken = λ p h. absurd (none_prepared o.store p h);
      }

  start_version : (o : Oid) (z : Option Object) → get (within ex S.roots) o ≡ z → 1 ≤ first.version o → (x : Object) × (get (within ex S.roots) o ≡ Some x)
  start_version o None e h = let none : first.version o ≡ 0 = ap (λ m. if is_some m then 1 else 0) e in absurd (omega (arith, none, h))
  start_version o (Some x) e h = (x, e)

  start_commits : AreCommits S D ex [] first
  start_commits = record {
    own = λ c h. absurd h;
    outside = λ c h. absurd h;
    numbered = λ c h. absurd h;
    ascending = ascends_filter (λ row. ex row.0.class) S.roots given.roots_ascend;
    within = λ o x h. (root_is o x (ex o.class) refl h).0;
    fits = λ o x h. each_of (IsFit S) S.roots (o, x) given.roots_fit (get_in S.roots o x (root_is o x (ex o.class) refl h).1);
    there = λ o x h. let one = there_is o x h in omega (arith, one);
    gone = λ o h. ap (λ m. if is_some m then 1 else 0) h;
    few = λ o. one_at_most (get (within ex S.roots) o);
    made = λ o h. let r = start_version o (get (within ex S.roots) o) refl h in
        inl (each_of (λ (row : Oid × Object). row.0.boot ≡ 0) S.roots (o, r.0) given.roots_old (get_in S.roots o r.0 (root_is o r.0 (ex o.class) refl r.1).1));
  }

  -- all of it holds at the start
  pub holds_start : Holds S D ex (at_start S) []
  holds_start = record {
    state = first;
    map = refl;
    inv = record {
      pair = λ n s hn hs. start_pair n s;
      store = λ s hs. subst (IsShelf S.rights s) (sym (shelf_here s)) (start_is S.rights S.roots s given.roots_ascend
          (all_of (λ (root : Oid × Object). length root.1.fields ≤ 16) S.roots (λ root h. (each_of (IsFit S) S.roots root given.roots_fit h).spelled.count)));
      worker = λ n hn. start_worker n;
      cells = λ o x hs. start_cell o x;
      commits = start_commits;
    };
    ordered = ordered_start S D ex given;
    redone = tt;
    left = λ B h. refl;
    idle = λ s hs. refl;
  }
