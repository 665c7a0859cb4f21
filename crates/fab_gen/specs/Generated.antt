-- The bundle that is made up from a number and a size: each of four workers has so many accounts, which lie at two
-- stores in turn, and as many requests, each of which moves something from one of its accounts to the next.
use Rattle.std.specs.Prelude.{ℕ, ◌+◌, ◌*◌, ◌%◌, List, [], ◌∷◌, ◌++◌, map, codes, flat_map}
use Rattle.std.specs.List.{range_with_len}
use Rattle.std.specs.Fmt.{decimal}
use Rattle.fab_language.specs.Words.{line}

-- ---- what is the same in each

abbrev pub head : List (List ℕ)
head =
    codes "principal Bank;"
    ∷ codes "worker w0;"
    ∷ codes "worker w1;"
    ∷ codes "worker w2;"
    ∷ codes "worker w3;"
    ∷ codes "store s0;"
    ∷ codes "store s1;"
    ∷ codes "w0 actsfor Bank;"
    ∷ codes "w1 actsfor Bank;"
    ∷ codes "w2 actsfor Bank;"
    ∷ codes "w3 actsfor Bank;"
    ∷ codes "s0 actsfor Bank;"
    ∷ codes "s1 actsfor Bank;"
    ∷ codes "label T = {Bank ->; Bank <-};"
    ∷ codes "class Account label T access T { int balance; }"
    ∷ codes "method move(Account a : T, Account b : T, int n : T) begin T fails {"
    ∷ codes "  a.balance = a.balance - n;"
    ∷ codes "  b.balance = b.balance + n;"
    ∷ codes "}"
    ∷ codes "run {"
    ∷ []

abbrev pub workers : List ℕ
workers = 0 ∷ 1 ∷ 2 ∷ 3 ∷ []

-- ---- accounts

-- the name of account i of worker k
unfoldable pub account : ℕ → ℕ → List ℕ
account k i = codes "a" ++ decimal k ++ codes "_" ++ decimal i

-- what it holds at first
abbrev pub balance : ℕ → ℕ → ℕ → ℕ
balance number k i = 1000 + (number + 7 * i + 13 * k) % 100

abbrev pub root_line : ℕ → ℕ → ℕ → List ℕ
root_line number k i =
    codes "  root " ++ account k i ++ codes " : Account @ s" ++ decimal (i % 2) ++ codes " (" ++ decimal (balance number k i) ++ codes ");"

abbrev pub root_lines : ℕ → ℕ → ℕ → List (List ℕ)
root_lines number size k = map (root_line number k) (range_with_len 0 size)

-- ---- requests

-- what is moved from account i of each worker, to the next one or from the last to the first
abbrev pub amount : ℕ → ℕ → ℕ
amount number i = 1 + (number + i) % 9

abbrev pub request_line : ℕ → ℕ → ℕ → ℕ → List ℕ
request_line number size k i =
    codes "    move(" ++ account k i ++ codes ", " ++ account k ((i + 1) % size) ++ codes ", " ++ decimal (amount number i) ++ codes ");"

abbrev pub request_lines : ℕ → ℕ → ℕ → List (List ℕ)
request_lines number size k = map (request_line number size k) (range_with_len 0 size)

abbrev pub session_line : ℕ → List ℕ
session_line k = codes "  session w" ++ decimal k ++ codes " {"

abbrev pub session_lines : ℕ → ℕ → ℕ → List (List ℕ)
session_lines number size k = session_line k ∷ request_lines number size k ++ codes "  }" ∷ []

-- ---- the whole

abbrev pub generated_lines : ℕ → ℕ → List (List ℕ)
generated_lines number size = head ++ flat_map (root_lines number size) workers ++ flat_map (session_lines number size) workers ++ codes "}" ∷ []

abbrev pub generated_text : ℕ → ℕ → List ℕ
generated_text number size = flat_map line (generated_lines number size)
