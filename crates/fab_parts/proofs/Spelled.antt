-- Messages in bytes, one more behind others, and numbers below one more.
use Rattle.std.proofs.Common.{◌≡◌, ℕ, ◌+◌, ◌<◌, List, [], ◌∷◌, ◌++◌, map, length, take, get_or, append_assoc, sym, ap, ◌∙◌, arith}
use Rattle.std.proofs.lemmas.List.{map-append, map_more}
use Rattle.fab_base.specs.declared.message.Message.{Message}
use Rattle.fab_base.specs.MessageSpelling.{spelled}
use Rattle.fab_sent.specs.Messages.{all_spelled}
use Rattle.fab_world.specs.Workers.{to_all}

abbrev pub in_bytes : ℕ × Message → ℕ × List ℕ
in_bytes x = (x.0, spelled x.1)

pub two_lists : (xs ys : List (ℕ × Message)) → all_spelled xs ++ all_spelled ys ≡ all_spelled (xs ++ ys)
two_lists xs ys = sym (map-append in_bytes xs ys)

-- a message more, of one made of each
pub each_more : {A : Type 0} (f : A → ℕ × Message) (xs : List A) (i : ℕ) (d : A) → i < length xs
    → all_spelled (map f (take (i + 1) xs)) ≡ all_spelled (map f (take i xs)) ++ in_bytes (f (get_or xs i d)) ∷ []
each_more f xs i d h = ap all_spelled (map_more f xs i d h) ∙ map-append in_bytes (map f (take i xs)) (f (get_or xs i d) ∷ [])

-- behind others
pub to_all_more : (front : List (ℕ × List ℕ)) (stores : List ℕ) (message : Message) (i d : ℕ) → i < length stores
    → (front ++ all_spelled (to_all (take i stores) message)) ++ (get_or stores i d, spelled message) ∷ [] ≡ front ++ all_spelled (to_all (take (i + 1) stores) message)
to_all_more front stores message i d h =
    append_assoc front (all_spelled (to_all (take i stores) message)) ((get_or stores i d, spelled message) ∷ [])
    ∙ ap (λ l. front ++ l) (sym (each_more (λ s. (s, message)) stores i d h))
