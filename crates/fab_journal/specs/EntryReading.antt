-- Reading the body of a record from left to right, as fields are read.
use Rattle.std.specs.Prelude.{ℕ, zero, suc, ◌+◌, ◌-◌, ◌*◌, Bool, Option, Some, None, List, [], ◌∷◌, length, Ok, Err, nat_le, ◌&&◌, ◌==◌, if◌then◌else◌}
use Rattle.fab_base.specs.declared.object.Value.{Value}
use Rattle.fab_base.specs.declared.entry.Entry.{Entry}
use Rattle.fab_base.specs.declared.entry.Entry.TheVariants as entries
use Rattle.fab_wire.specs.Reading.{Reader, both, made, chosen, number_at, byte_at, tid_at, value_at, items_at}

-- some number within the bounds has this first byte
abbrev pub may_begin : ℕ → ℕ → ℕ → Bool
may_begin low high first = nat_le low (first * 256 + 255) && nat_le (first * 256) high

abbrev pub is_between : ℕ → ℕ → ℕ → Bool
is_between low high number = nat_le low number && nat_le number high

-- a number of two bytes within these bounds
abbrev pub between_at : ℕ → ℕ → Reader ℕ
between_at low high [] = Err 0
between_at low high (first ∷ []) = if may_begin low high first then Err 0 else Err 1
between_at low high (first ∷ second ∷ rest) =
    if may_begin low high first then (if is_between low high (first * 256 + second) then Ok (first * 256 + second, rest) else Err (length (second ∷ rest)))
    else Err (length (first ∷ second ∷ rest))

-- so many numbers of two bytes, each above the one before, the first at least low
unfoldable pub ascending_at : ℕ → ℕ → Reader (List ℕ)
ascending_at zero low = λ bytes. Ok ([], bytes)
ascending_at (suc n) low = chosen (between_at low (65535 - n)) (λ store. made (λ stores. store ∷ stores) (ascending_at n (store + 1)))

unfoldable pub stores_at : Reader (List ℕ)
stores_at = chosen (number_at 2) (λ count. ascending_at count 0)

unfoldable pub result_at : Reader (Option Value)
result_at [] = Err 0
result_at (tag ∷ rest) = if tag == 3 then Ok (None, rest) else made (λ value. Some value) value_at (tag ∷ rest)

-- the least node that may stand behind an outcome
abbrev pub least_node : ℕ → ℕ
least_node outcome = if nat_le 3 outcome && nat_le outcome 5 then 0 else 65535

unfoldable pub outcome_at : Reader (ℕ × ℕ)
outcome_at = chosen (byte_at 1 9) (λ outcome. made (λ node. (outcome, node)) (between_at (least_node outcome) 65535))

abbrev pub entry_by : ℕ → Reader Entry
entry_by kind =
    if kind == 1 then made (λ p. entries.Decided p.0 p.1.0 p.1.1.0 p.1.1.1) (both tid_at (both (number_at 4) (both result_at stores_at)))
    else if kind == 2 then made (λ p. entries.Closed p.0 p.1.0 p.1.1) (both (number_at 4) outcome_at)
    else if kind == 3 then made (λ n. entries.Boot n) (number_at 4)
    else if kind == 4 then made (λ p. entries.Prepared p.0 p.1) (both tid_at items_at)
    else if kind == 5 then made (λ t. entries.Refused t) tid_at
    else if kind == 6 then made (λ t. entries.Applied t) tid_at
    else if kind == 7 then made (λ t. entries.Released t) tid_at
    else made (λ p. entries.BootSeen p.0 p.1) (both (number_at 2) (number_at 4))

unfoldable pub entry_at : Reader Entry
entry_at = chosen (byte_at 1 8) entry_by
