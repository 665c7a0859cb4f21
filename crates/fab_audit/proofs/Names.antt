-- The names of an accepted bundle's honest nodes are words, and no two of them are the same.
use Rattle.std.proofs.Common.{◌≡◌, Some, ℕ, zero, suc, ◌+◌, ◌≤◌, Bool, true, false, not, cond, List, [], ◌∷◌, refl, sym, ap, ◌∙◌, arith}
use Rattle.std.specs.List.{AllByRecursion, filter, range_with_len}
use Rattle.fab_base.specs.declared.token.Token.{Token}
use Rattle.fab_base.specs.Tokens.{Lexes}
use Rattle.fab_tree.specs.declared.resolved.Resolved.{Resolved}
use Rattle.fab_tree.specs.declared.start.Start.{Start}
use Rattle.fab_tree.specs.Syntax.{IsText}
use Rattle.fab_language.specs.Numbers.{resolved}
use Rattle.fab_language.specs.Words.{node_text}
use Rattle.fab_net.specs.declared.event.Event.TheVariants as e
use Rattle.fab_net.specs.declared.note.Logged.{Logged}
use Rattle.fab_rights.specs.declared.rights.Rights.{Rights}
use Rattle.fab_rights.specs.Computed.{is_node}
use Rattle.fab_settings.specs.Settings.{IsAcceptedWith, is_hostile_node}
use Rattle.fab_reports.specs.Lines.{IsWord}
use Rattle.fab_reports.specs.Showable.{HasWords, IsNode}
use Rattle.fab_reports.proofs.Showing.{each_fits}
use Rattle.fab_named.proofs.Named.{have_words}
use Rattle.fab_shown.proofs.Nodes.{rights_node}
use Rattle.fab_evidence.specs.Named.{node_named}
use Rattle.fab_audit.proofs.Numbers.{number_told}
use Rattle.fab_evidence.specs.Reading.{AreNamed}
use Rattle.fab_audit.specs.Runs.{honest_nodes}

-- a line can say of a node that it begins, and there its name is a word
node_word : (r : Resolved) (n : ℕ) → HasWords r → IsNode r n → IsWord (node_text r n)
node_word r n words is =
    let begins : Logged = record { event = e.Begin n; bytes = []; notes = []; whole = true; marked = false } in
    (each_fits r (begins ∷ []) [] [] (record { words = words; events_are_in = ((is, tt), tt); commits_are_in = tt; outcomes_are_in = tt; held_are_in = tt })).1.0

-- what holds of a number and of those behind it, holds of the number if it is kept, and of those
kept_too : (P : ℕ → Type 0) (n : ℕ) (ns : List ℕ) (kept : Bool) → P n → AllByRecursion P ns → AllByRecursion P (cond kept (n ∷ ns) ns)
kept_too P n ns true one all = (one, all)
kept_too P n ns false one all = all

module _ (r : Resolved) (rights : Rights) where
  -- of numbers, those of honest nodes
  abbrev honest_of : List ℕ → List ℕ
  honest_of ns = filter (λ n. not (is_hostile_node r n)) (filter (is_node rights) ns)

  -- what holds of each node from a number on, holds of the honest ones
  all_honest : (P : ℕ → Type 0) (low n : ℕ) → ((m : ℕ) → low ≤ m → is_node rights m ≡ true → P m) → AllByRecursion P (honest_of (range_with_len low n))
  all_honest P low zero each = tt
  all_honest P low (suc n) each = by (is_node rights low) refl (all_honest P (low + 1) n (λ m above is. each m (omega (arith, above)) is))
    where
      by : (b : Bool) → is_node rights low ≡ b → AllByRecursion P (honest_of (range_with_len (low + 1) n))
          → AllByRecursion P (filter (λ m. not (is_hostile_node r m)) (cond b (low ∷ filter (is_node rights) (range_with_len (low + 1) n)) (filter (is_node rights) (range_with_len (low + 1) n))))
      by true is later = kept_too P low (honest_of (range_with_len (low + 1) n)) (not (is_hostile_node r low)) (each low (omega arith) is) later
      by false is later = later

  module _ (words : (n : ℕ) → is_node rights n ≡ true → IsWord (node_text r n))
      (one : (m n : ℕ) → is_node rights m ≡ true → is_node rights n ≡ true → node_text r m ≡ node_text r n → m ≡ n) where
    -- behind one number
    one_more : (n : ℕ) (ns : List ℕ) (kept : Bool) → is_node rights n ≡ true → AllByRecursion (λ m. node_text r n ≡ node_text r m → ⊥) ns → AreNamed r ns
        → AreNamed r (cond kept (n ∷ ns) ns)
    one_more n ns true is others named = (words n is, others, named)
    one_more n ns false is others named = named

    named_from : (low n : ℕ) → AreNamed r (honest_of (range_with_len low n))
    named_from low zero = tt
    named_from low (suc n) = by (is_node rights low) refl (named_from (low + 1) n)
      where
        by : (b : Bool) → is_node rights low ≡ b → AreNamed r (honest_of (range_with_len (low + 1) n))
            → AreNamed r (filter (λ m. not (is_hostile_node r m)) (cond b (low ∷ filter (is_node rights) (range_with_len (low + 1) n)) (filter (is_node rights) (range_with_len (low + 1) n))))
        by true is later =
            one_more low (honest_of (range_with_len (low + 1) n)) (not (is_hostile_node r low)) is
            (all_honest (λ m. node_text r low ≡ node_text r m → ⊥) (low + 1) n (λ m above other same. let equal = one low m is other same in omega (arith, above, equal)))
            later
        by false is later = later

one_number : (m n : ℕ) → Some m ≡ Some n → m ≡ n
one_number m n e = cc

pub are_named : (text : List ℕ) (ts : List Token) (s : Start) (rights : Rights) → Lexes 0 text ts → IsText ts s → IsAcceptedWith s rights
    → AreNamed (resolved s) (honest_nodes (resolved s) rights)
are_named text ts s rights cut is a =
    let r : Resolved = resolved s in
    let nodes : (n : ℕ) → is_node rights n ≡ true → IsNode r n = λ n h. rights_node r rights a.rights_are n h in
    named_from r rights (λ n h. node_word r n (have_words cut is) (nodes n h))
    (λ m n h g same. one_number m n (sym (number_told s a.named m (nodes m h)) ∙ ap (node_named r) same ∙ number_told s a.named n (nodes n g))) 0 64
