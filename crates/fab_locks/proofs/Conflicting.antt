-- The first transaction that bars a name is the one that a vote names.
use Rattle.std.proofs.Common.{◌≡◌, Bool, true, false, List, [], ◌∷◌, ◌++◌, Option, Some, None, refl, ◌∙◌, ap}
use Rattle.fab_base.specs.declared.object.Tid.{Tid}
use Rattle.fab_base.specs.declared.message.Items.{Items}
use Rattle.fab_base.specs.declared.message.Answer.{Answer}
use Rattle.fab_base.specs.declared.message.Answer.TheVariants.{Locked}
use Rattle.fab_protocol.specs.Stores.{Prepared, Item, Read, Write, Create, item_name, is_locked_by, locked, first_of}
use Rattle.fab_locks.specs.Conflicts.{bars, first_barring}

-- the item isn't only read
abbrev pub is_writing : Item → Bool
is_writing (Read o version) = false
is_writing (Write o version x) = true
is_writing (Create o x) = true

pub locked_by_barring : (i : Item) (items : Items) → is_locked_by i items ≡ bars (item_name i) (is_writing i) items
locked_by_barring (Read o version) items = refl
locked_by_barring (Write o version x) items = refl
locked_by_barring (Create o x) items = refl

-- the vote over what is locked and more reasons
abbrev pub locked_or : Option Tid → Answer → Answer
locked_or None other = other
locked_or (Some t) other = Locked t

pub first_locked : (i : Item) (ps : List Prepared) (more : List (Bool × Answer)) → first_of (locked ps i ++ more) ≡ locked_or (first_barring (item_name i) (is_writing i) ps) (first_of more)
first_locked i [] more = refl
first_locked i (p ∷ ps) more = step (first_locked i ps more) (bars (item_name i) (is_writing i) p.1) refl
  where
    step : first_of (locked ps i ++ more) ≡ locked_or (first_barring (item_name i) (is_writing i) ps) (first_of more)
        → (b : Bool) → bars (item_name i) (is_writing i) p.1 ≡ b
        → first_of (locked (p ∷ ps) i ++ more) ≡ locked_or (first_barring (item_name i) (is_writing i) (p ∷ ps)) (first_of more)
    step rest true e = rw (locked_by_barring i p.1, e) refl
    step rest false e = rw (locked_by_barring i p.1, e) rest

-- the two cases
pub locked_where_barred : (i : Item) (ps : List Prepared) (more : List (Bool × Answer)) (t : Tid) → first_barring (item_name i) (is_writing i) ps ≡ Some t → first_of (locked ps i ++ more) ≡ Locked t
locked_where_barred i ps more t h = first_locked i ps more ∙ ap (λ v. locked_or v (first_of more)) h

pub unlocked_where_none : (i : Item) (ps : List Prepared) (more : List (Bool × Answer)) → first_barring (item_name i) (is_writing i) ps ≡ None → first_of (locked ps i ++ more) ≡ first_of more
unlocked_where_none i ps more h = first_locked i ps more ∙ ap (λ v. locked_or v (first_of more)) h
