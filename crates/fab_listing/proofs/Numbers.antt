-- Numbers of nodes that pass a test, and the text of what they have sent.
use Rattle.std.proofs.Common.{◌≡◌, ◌∙◌, ℕ, ◌+◌, ◌<◌, ◌≤◌, suc, Bool, not, inl, inr, zero, List, [], ◌∷◌, ◌++◌, length, codes, flat_map, sum_by, ap, ap₂, arith}
use Rattle.std.specs.List.{AllByRecursion, filter, range_with_len}
use Rattle.std.specs.Fmt.{decimal}
use Rattle.std.proofs.lemmas.Bool.{cases_Bool}
use Rattle.std.proofs.lemmas.List.Sums.{count_by-le-length}
use Rattle.std.specs.Prelude.{is_some}
use Rattle.fab_tree.specs.declared.resolved.Resolved.{Resolved}
use Rattle.fab_language.specs.Words.{line, spaced}
use Rattle.fab_listing.specs.Listing.{count_from, lines_from, listing, node_count, nodes_where, sent_text}

one_more : (test : ℕ → Bool) (a : ℕ) (ns : List ℕ) → a < 64 → AllByRecursion (λ k. k < 64) (filter test ns) → AllByRecursion (λ k. k < 64) (filter test (a ∷ ns))
one_more test a ns here others = elim (cases_Bool (test a)) [ inl passed ↦ rw passed (here, others) | inr failed ↦ rw failed others ]

filtered_below : (test : ℕ → Bool) (a n : ℕ) → a + n ≤ 64 → AllByRecursion (λ k. k < 64) (filter test (range_with_len a n))
filtered_below test a zero within = tt
filtered_below test a (suc n) within = one_more test a (range_with_len (a + 1) n) (omega arith) (filtered_below test (a + 1) n (omega arith))

-- they are below 64
pub nodes_below : (r : Resolved) (test : ℕ → Bool) → length r.nodes ≤ 64 → AllByRecursion (λ k. k < 64) (nodes_where r test)
nodes_below r test few = let count = count_by-le-length (λ x. is_some x.node) r.nodes in filtered_below test 0 (node_count r) (omega (arith, few, count))

-- the lines, and behind them their number
pub listed : (r : Resolved) (set : ℕ → Bool) (sent : ℕ → ℕ → List (List ℕ)) (start front whole senders receivers : List ℕ) (n : ℕ)
    → start ≡ [] → senders ≡ nodes_where r (λ k. not (set k)) → receivers ≡ nodes_where r set
    → front ≡ start ++ flat_map (lines_from r sent receivers) senders → n ≡ sum_by (count_from sent receivers) senders
    → whole ≡ front ++ line (codes "end" ++ spaced (decimal n ∷ [])) → whole ≡ listing r set sent
listed r set sent start front whole senders receivers n empty outside inside lines count end =
    end
    ∙ ap₂ (λ text k. text ++ line (codes "end" ++ spaced (decimal k ∷ []))) (lines ∙ ap (λ text. text ++ flat_map (lines_from r sent receivers) senders) empty) count
    ∙ ap₂ (sent_text r sent) outside inside
