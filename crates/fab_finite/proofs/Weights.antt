-- What messages, attempts and records may still bring about, as numbers, where there are so many starts at most.
use Rattle.std.proofs.Common.{◌≡◌, ℕ, suc, ◌+◌, ◌-◌, ◌*◌, ◌≤◌, List, [], ◌∷◌, ◌++◌, map, Bool, true, false, cond, if◌then◌else◌, ◌==◌, not, Option, Some, None, refl, ap, arith}
use Rattle.std.specs.List.{filter}
use Rattle.fab_base.specs.declared.entry.Entry.{Entry}
use Rattle.fab_base.specs.declared.entry.Entry.TheVariants as e
use Rattle.fab_base.specs.declared.message.Message.{Message}
use Rattle.fab_base.specs.MessageSpelling.{spelled}
use Rattle.fab_base.specs.FlatMap.{FlatMap}
use Rattle.fab_protocol.specs.declared.parts.Decision.{Decision}
use Rattle.fab_protocol.specs.Stores.{Prepared, Shelf, shelf_of, keeps, keeps_said}
use Rattle.fab_protocol.specs.Versions.{is_tid}
use Rattle.fab_world.specs.Machine.{option_list}
use Rattle.fab_world.specs.Workers as workers
use Rattle.fab_world.specs.Workers.{Kept, Phase, kept_of, to_all, worker_keeps}
use Rattle.fab_integrity.proofs.Lasting.{kept_behind, keeps_behind, shelf_more}
use Rattle.fab_integrity.proofs.Readings.{kind_at}
use Rattle.fab_integrity.proofs.Transport.{bytes_for}
use Rattle.fab_lined.proofs.Begun.{one}
use Rattle.fab_finite.specs.Finite.{of_decision, of_prepare}
use Rattle.fab_finite.proofs.Rising.{times}

-- ---- messages

-- of a Fetch and an Inquire the answer is heard, too; of a Prepare more
abbrev pub of_kind : ℕ → ℕ → ℕ
of_kind starts kind = if kind == 1 then 2 else (if kind == 4 then of_prepare starts else (if kind == 9 then 2 else 1))

abbrev pub weight : ℕ → List ℕ → ℕ
weight starts bytes = of_kind starts (kind_at bytes)

kind_some : (starts : ℕ) (a b c : Bool) → 1 ≤ cond a 2 (cond b (of_prepare starts) (cond c 2 1))
kind_some starts true b c = omega arith
kind_some starts false true c = omega arith
kind_some starts false false true = omega arith
kind_some starts false false false = omega arith

kind_most : (starts : ℕ) (a b c : Bool) → cond a 2 (cond b (of_prepare starts) (cond c 2 1)) ≤ of_prepare starts
kind_most starts true b c = omega arith
kind_most starts false true c = omega arith
kind_most starts false false true = omega arith
kind_most starts false false false = omega arith

pub weight_some : (starts : ℕ) (bytes : List ℕ) → 1 ≤ weight starts bytes
weight_some starts bytes = kind_some starts (kind_at bytes == 1) (kind_at bytes == 4) (kind_at bytes == 9)

pub weight_most : (starts : ℕ) (bytes : List ℕ) → weight starts bytes ≤ of_prepare starts
weight_most starts bytes = kind_most starts (kind_at bytes == 1) (kind_at bytes == 4) (kind_at bytes == 9)

-- of all that waits
abbrev pub load : ℕ → List (List ℕ) → ℕ
load starts [] = 0
load starts (bytes ∷ more) = weight starts bytes + load starts more

pub load_append : (starts : ℕ) (xs ys : List (List ℕ)) → load starts (xs ++ ys) ≡ load starts xs + load starts ys
load_append starts [] ys = omega arith
load_append starts (x ∷ xs) ys = let h = load_append starts xs ys in omega (arith, h)

-- of what is sent to node y
abbrev pub out : ℕ → ℕ → List (ℕ × Message) → ℕ
out starts y [] = 0
out starts y (x ∷ sends) = (if x.0 == y then weight starts (spelled x.1) else 0) + out starts y sends

pub out_append : (starts y : ℕ) (xs ys : List (ℕ × Message)) → out starts y (xs ++ ys) ≡ out starts y xs + out starts y ys
out_append starts y [] ys = omega arith
out_append starts y (x ∷ xs) ys = let h = out_append starts y xs ys in omega (arith, h)

pub load_sent : (starts y : ℕ) (sends : List (ℕ × Message)) → load starts (bytes_for y sends) ≡ out starts y sends
load_sent starts y [] = refl
load_sent starts y (x ∷ sends) = by (x.0 == y) (load_sent starts y sends)
  where
    by : (b : Bool) → load starts (bytes_for y sends) ≡ out starts y sends
        → load starts (map (λ (z : ℕ × Message). spelled z.1) (cond b (x ∷ filter (λ z. z.0 == y) sends) (filter (λ z. z.0 == y) sends)))
        ≡ cond b (weight starts (spelled x.1)) 0 + out starts y sends
    by true h = omega (arith, h)
    by false h = omega (arith, h)

-- one message to all of these
pub out_all : (starts y : ℕ) (ss : List ℕ) (message : Message) → out starts y (to_all ss message) ≡ times y ss * weight starts (spelled message)
out_all starts y [] message = omega arith
out_all starts y (s ∷ ss) message = by (s == y) (out_all starts y ss message)
  where
    by : (b : Bool) → out starts y (to_all ss message) ≡ times y ss * weight starts (spelled message)
        → cond b (weight starts (spelled message)) 0 + out starts y (to_all ss message) ≡ (cond b 1 0 + times y ss) * weight starts (spelled message)
    by true h = omega (arith, h)
    by false h = omega (arith, h)

-- ---- records: what is sent to node y once a node comes back

-- the Commits of what was decided, and what is asked of what is prepared, to whom
abbrev pub told : ℕ → List Decision → ℕ
told y [] = 0
told y (d ∷ ds) = times y d.stores + told y ds

abbrev pub asked : ℕ → List Prepared → ℕ
asked y [] = 0
asked y (p ∷ ps) = one (p.0.worker == y) + asked y ps

-- an answer comes to each Inquire
abbrev pub owed : FlatMap → ℕ → ℕ → List Entry → ℕ
owed roots x y entries = told y (kept_of entries).decided + 2 * asked y (shelf_of roots x entries).prepared

-- how much more a record makes of it
abbrev pub gain : ℕ → Entry → ℕ
gain y (e.Decided t request value stores) = times y stores
gain y (e.Prepared t items) = 2 * one (t.worker == y)
gain y (e.Closed request code node) = 0
gain y (e.Boot b) = 0
gain y (e.Refused t) = 0
gain y (e.Applied t) = 0
gain y (e.Released t) = 0
gain y (e.BootSeen w b) = 0

abbrev pub gains : ℕ → Option Entry → ℕ
gains y None = 0
gains y (Some entry) = gain y entry

told_append : (y : ℕ) (ds es : List Decision) → told y (ds ++ es) ≡ told y ds + told y es
told_append y [] es = omega arith
told_append y (d ∷ ds) es = let h = told_append y ds es in omega (arith, h)

asked_append : (y : ℕ) (ps qs : List Prepared) → asked y (ps ++ qs) ≡ asked y ps + asked y qs
asked_append y [] qs = omega arith
asked_append y (p ∷ ps) qs = let h = asked_append y ps qs in omega (arith, h)

asked_filter : (y : ℕ) (f : Prepared → Bool) (ps : List Prepared) → asked y (filter f ps) ≤ asked y ps
asked_filter y f [] = omega arith
asked_filter y f (p ∷ ps) = by (f p) (asked_filter y f ps)
  where
    by : (b : Bool) → asked y (filter f ps) ≤ asked y ps → asked y (cond b (p ∷ filter f ps) (filter f ps)) ≤ asked y (p ∷ ps)
    by true h = omega (arith, h)
    by false h = omega (arith, h)

entry_gains : (y : ℕ) (entry : Entry) (k : Kept) (shelf : Shelf)
    → told y (worker_keeps entry k).decided + 2 * asked y (keeps entry shelf).prepared ≤ told y k.decided + 2 * asked y shelf.prepared + gain y entry
entry_gains y (e.Decided t request value stores) k shelf =
    let h = told_append y k.decided (record { tid = t; request = request; stores = stores; value = value } ∷ []) in omega (arith, h)
entry_gains y (e.Closed request code node) k shelf = omega arith
entry_gains y (e.Boot b) k shelf = omega arith
entry_gains y (e.Prepared t items) k shelf = let h = asked_append y shelf.prepared ((t, items) ∷ []) in omega (arith, h)
entry_gains y (e.Refused t) k shelf = omega arith
entry_gains y (e.Applied t) k shelf = let h = asked_filter y (λ p. not (is_tid p.0 t)) shelf.prepared in omega (arith, h)
entry_gains y (e.Released t) k shelf = let h = asked_filter y (λ p. not (is_tid p.0 t)) shelf.prepared in omega (arith, h)
entry_gains y (e.BootSeen w b) k shelf = let h = asked_filter y (λ p. not (p.0.worker == w)) shelf.prepared in omega (arith, h)

pub owed_more : (roots : FlatMap) (x y : ℕ) (entries : List Entry) (entry : Option Entry)
    → owed roots x y (entries ++ option_list entry) ≤ owed roots x y entries + gains y entry
owed_more roots x y entries entry =
    let kept = ap (λ (k : Kept). told y k.decided) (keeps_behind entries entry) in
    let shelf = ap (λ (s : Shelf). asked y s.prepared) (shelf_more roots x entries entry) in
    let h = by entry (kept_of entries) (shelf_of roots x entries) in
    omega (arith, kept, shelf, h)
  where
    by : (entry : Option Entry) (k : Kept) (s : Shelf)
        → told y (kept_behind entry k).decided + 2 * asked y (keeps_said entry s).prepared ≤ told y k.decided + 2 * asked y s.prepared + gains y entry
    by None k s = omega arith
    by (Some entry) k s = entry_gains y entry k s

-- ---- attempts

-- who prepares may give up, and tells so or what is decided
abbrev pub of_prepared : ℕ → ℕ
of_prepared starts = 1 + of_decision starts

-- who goes on with so many answers is resumed once more, and prepares; and has each missing object fetched before
abbrev pub of_answers : ℕ → ℕ → ℕ
of_answers starts answers = 3 * (1025 - answers) + 1 + of_prepare starts + of_prepared starts

abbrev pub work : ℕ → Phase → ℕ → ℕ
work starts workers.Idle answers = 0
work starts workers.Evaluating answers = of_answers starts answers
work starts (workers.Fetching o) answers = of_answers starts (suc answers)
work starts (workers.Preparing ls) answers = of_prepared starts
