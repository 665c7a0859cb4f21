use Rattle.std.proofs.Common.{◌≡◌, ℕ, ◌==◌, ◌||◌, if◌then◌else◌, ap, ◌∙◌, List, [], fold}
use Rattle.std.specs.List.{flat_map, list_any}
use Rattle.std.proofs.lemmas.Result.{on_ok_weaker}
use Rattle.fab_base.specs.FlatMap.{is_among}
use Rattle.fab_net.specs.declared.note.Note.{Note}
use Rattle.fab_release.specs.Record.{changes_in, is_of, seen_behind}
use Rattle.fab_record.specs.Events.{is_number}
use Rattle.fab_record.specs.Kept.{NotesMore, at_store, is_noted, is_shown_at, touched_at}
use Rattle.fab_record.specs.declared.past.Past.{Past}
use Rattle.fab_record.specs.Views.{sight_in}
use Rattle.fab_record.proofs.Passing.{one_more}
use Rattle.fab_record.proofs.past.Past.put.Goals as goal

pub returns-in-Some : goal.returns-in-Some
returns-in-Some c =
    let sight = sight_in c.args.sights.now in
    let old = c.args.self.now in
    let new : Past = record { touched = c.put_touched.new.touched; changed = c.put_notes.new.changed } in
    let of : (n : ℕ) → is_of n c.args.logged.now.event ≡ (c.in-Some.node == n) = λ n. c.node_of_event.ensures n ∙ ap (is_number n) c.in-Some.is in
    let told : NotesMore old.changed.keys new.changed.keys (λ s t. list_any (is_shown_at sight s) (flat_map (changes_in t) c.args.logged.now.notes)) =
    λ s t. c.in_ok-put_notes.ensures s t ∙ ap (λ (xs : List Note). is_noted (at_store t s) old.changed.keys || list_any (is_shown_at sight s) (flat_map (changes_in t) xs)) c.as_slice-notes.ensures in
    on_ok_weaker c.put_touched.result
    (λ h. one_more sight c.args.logged.now old new c.in-Some.node of told
    (λ n o. h n o ∙ ap (λ (xs : List Note). is_among o (fold (seen_behind sight) (touched_at old n) (if c.in-Some.node == n then xs else []))) c.as_slice-notes.ensures))
    c.put_touched.ensures
