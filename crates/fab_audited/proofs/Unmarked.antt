-- A report doesn't say what is marked: without marks that of a log is the same.
use Rattle.std.proofs.Common.{◌≡◌, ℕ, suc, ◌+◌, false, List, [], ◌∷◌, ◌++◌, cond, refl, sym, ap, ◌∙◌}
use Rattle.std.specs.Prelude.{codes, count_by, flat_map, get_or}
use Rattle.std.specs.Fmt.{decimal}
use Rattle.std.proofs.lemmas.List.{length-map, map-append}
use Rattle.std.proofs.lemmas.List.Sums.{sum_by-cons}
use Rattle.fab_base.specs.declared.object.Oid.{Oid}
use Rattle.fab_base.specs.declared.object.Object.{Object}
use Rattle.fab_tree.specs.declared.resolved.Resolved.{Resolved}
use Rattle.fab_language.specs.Words.{line, spaced}
use Rattle.fab_net.specs.declared.event.Event.{Event}
use Rattle.fab_net.specs.declared.event.Event.TheVariants.{Post}
use Rattle.fab_net.specs.declared.note.Logged.{Logged}
use Rattle.fab_net.specs.declared.outcome.ReqOutcome.{ReqOutcome}
use Rattle.fab_trace.specs.Report.{commit_of, commits_in, commits_text, event_words, events_text, held_text, is_post_of, outcomes_text, report, target_behind, targets}
use Rattle.fab_failures.specs.Failures.{unmarked_log}

abbrev unmarked : Logged → Logged
unmarked x = record x { marked = false }

posts_same : (h : ℕ) (log : List Logged) → count_by (λ x. is_post_of h x.event) (unmarked_log log) ≡ count_by (λ x. is_post_of h x.event) log
posts_same h [] = refl
posts_same h (x ∷ log) =
    sum_by-cons (λ (y : Logged). cond (is_post_of h y.event) 1 0) (unmarked x) (unmarked_log log)
    ∙ ap (λ k. cond (is_post_of h x.event) 1 0 + k) (posts_same h log) ∙ sym (sum_by-cons (λ (y : Logged). cond (is_post_of h y.event) 1 0) x log)

module _ (r : Resolved) where
  target_same : (before : List Logged) (event : Event) → target_behind r (unmarked_log before) event ≡ target_behind r before event
  target_same before (Post h) = ap (λ k. get_or (targets r h) k 0) (posts_same h before)
  target_same before event = refl

  events_same : (before log : List Logged) → events_text r (unmarked_log before) (unmarked_log log) ≡ events_text r before log
  events_same before [] = refl
  events_same before (x ∷ log) =
      let later : events_text r (unmarked_log before ++ unmarked x ∷ []) (unmarked_log log) ≡ events_text r (before ++ x ∷ []) log =
      ap (λ (front : List Logged). events_text r front (unmarked_log log)) (sym (map-append unmarked before (x ∷ []))) ∙ events_same (before ++ x ∷ []) log in
      λ j. line (codes "event" ++ spaced (decimal (suc (length-map before unmarked j)) ∷ event_words r x.event (target_same before x.event j) x.bytes)) ++ later j

  commits_same : (log : List Logged) → commits_in (unmarked_log log) ≡ commits_in log
  commits_same [] = refl
  commits_same (x ∷ log) = ap (λ cs. flat_map commit_of x.notes ++ cs) (commits_same log)

  pub report_same : (log : List Logged) (held : List (List (Oid × ℕ × Object))) (outcomes : List (List ReqOutcome))
      → report r (unmarked_log log) held outcomes ≡ report r log held outcomes
  report_same log held outcomes = λ j.
      line (codes "fab report 1") ++ events_same [] log j ++ commits_text r 0 (commits_same log j) ++ outcomes_text r 0 outcomes ++ held_text r 0 held
      ++ line (codes "end" ++ spaced (decimal (length-map log unmarked j) ∷ []))
