-- Labels of words.
use Rattle.std.proofs.Common.{◌≡◌, ℕ, List, Some, None, find, option_map, sym, ap, ◌∙◌}
use Rattle.std.specs.Str.{bytes_eq}
use Rattle.fab_tree.specs.declared.start.Start.{Start}
use Rattle.fab_tree.specs.declared.resolved.NamedLabel.{NamedLabel}
use Rattle.fab_tree.specs.declared.resolved.Resolved.{Resolved}
use Rattle.fab_language.specs.Numbers.{resolved}
use Rattle.fab_front.specs.Refused.{label_of}

found_label : (s : Start) (r : Resolved) (word : List ℕ) → r ≡ resolved s → option_map (λ x. x.label) (find (λ x. bytes_eq x.name.text word) r.labels) ≡ label_of s word
found_label s r word is = ap (λ (x : Resolved). option_map (λ y. y.label) (find (λ y. bytes_eq y.name.text word) x.labels)) is

pub is_label : (s : Start) (r : Resolved) (word : List ℕ) (x : NamedLabel) → r ≡ resolved s → find (λ y. bytes_eq y.name.text word) r.labels ≡ Some x → label_of s word ≡ Some x.label
is_label s r word x is e = sym (found_label s r word is) ∙ ap (option_map (λ y. y.label)) e

pub is_no_label : (s : Start) (r : Resolved) (word : List ℕ) → r ≡ resolved s → find (λ y. bytes_eq y.name.text word) r.labels ≡ None → label_of s word ≡ None
is_no_label s r word is e = sym (found_label s r word is) ∙ ap (option_map (λ y. y.label)) e
