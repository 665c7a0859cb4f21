-- What nodes of a set were sent by those outside it, as a text.
use Rattle.std.specs.Prelude.{ℕ, suc, Bool, not, List, [], ◌∷◌, ◌++◌, length, codes, count_by, flat_map, is_some, sum_by}
use Rattle.std.specs.List.{filter, range_with_len}
use Rattle.std.specs.Fmt.{decimal}
use Rattle.fab_tree.specs.declared.resolved.Resolved.{Resolved}
use Rattle.fab_language.specs.Words.{hex, line, node_text, spaced}

-- how many workers and stores a program has
abbrev pub node_count : Resolved → ℕ
node_count r = count_by (λ x. is_some x.node) r.nodes

-- those whose number passes a test, in order
abbrev pub nodes_where : Resolved → (ℕ → Bool) → List ℕ
nodes_where r test = filter test (range_with_len 0 (node_count r))

-- sender, receiver, the number among the messages of these two, and the bytes
abbrev pub message_line : Resolved → ℕ → ℕ → ℕ → List ℕ → List ℕ
message_line r n d k bytes = line (codes "message" ++ spaced (node_text r n ∷ node_text r d ∷ decimal k ∷ hex bytes ∷ []))

-- a line for each message from n to d, behind so many others
abbrev pub pair_lines : Resolved → ℕ → ℕ → ℕ → List (List ℕ) → List ℕ
pair_lines r n d k [] = []
pair_lines r n d k (bytes ∷ more) = message_line r n d (suc k) bytes ++ pair_lines r n d (suc k) more

-- ---- of what each node has sent to each other

-- a line for each message from n to these, and how many there are
abbrev pub lines_from : Resolved → (ℕ → ℕ → List (List ℕ)) → List ℕ → ℕ → List ℕ
lines_from r sent receivers n = flat_map (λ d. pair_lines r n d 0 (sent n d)) receivers

abbrev pub count_from : (ℕ → ℕ → List (List ℕ)) → List ℕ → ℕ → ℕ
count_from sent receivers n = sum_by (λ d. length (sent n d)) receivers

-- what these senders have sent to these receivers, and how many messages that is
abbrev pub sent_text : Resolved → (ℕ → ℕ → List (List ℕ)) → List ℕ → List ℕ → List ℕ
sent_text r sent senders receivers =
    flat_map (lines_from r sent receivers) senders ++ line (codes "end" ++ spaced (decimal (sum_by (count_from sent receivers) senders) ∷ []))

-- what nodes outside a set have sent to those of the set
abbrev pub listing : Resolved → (ℕ → Bool) → (ℕ → ℕ → List (List ℕ)) → List ℕ
listing r set sent = sent_text r sent (nodes_where r (λ n. not (set n))) (nodes_where r set)
