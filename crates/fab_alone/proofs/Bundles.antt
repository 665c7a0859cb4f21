-- The runs of an accepted bundle with one worker come to its evaluation.
use Rattle.std.proofs.Common.{ℕ, suc, ◌<◌, sym, ap, ◌∙◌, subst}
use Rattle.std.proofs.lemmas.Option.{same_Some, slice_get_within}
use Rattle.fab_tree.specs.declared.start.Start.{Start}
use Rattle.fab_language.specs.Evaluation.{course_of}
use Rattle.fab_language.specs.Numbers.{resolved}
use Rattle.fab_rights.specs.declared.rights.Rights.{Rights}
use Rattle.fab_world.specs.Machine.{Setting}
use Rattle.fab_settings.specs.Settings.{IsAcceptedWith, lines_of, setting_of}
use Rattle.fab_settings.proofs.Gives.{gives_setting}
use Rattle.fab_settings.proofs.Meanings.{evaluates}
use Rattle.fab_settings.proofs.Posts.{hostile_post}
use Rattle.fab_ended.proofs.Reports.{runs_are_calm}
use Rattle.fab_ended.proofs.Sessions.{none_hostile}
use Rattle.fab_alone.specs.Alone.{first_tid, outcome_by}
use Rattle.fab_alone.specs.Bundles.{RunsAreEvaluated}
use Rattle.fab_alone.proofs.Courses.{course_ending, course_length, course_map, none_lacks, same_over_more}
use Rattle.fab_alone.proofs.Runs.{in_turn}

pub runs_are_evaluated : (s : Start) (rights : Rights) (n : ℕ) → IsAcceptedWith s rights → RunsAreEvaluated s rights n
runs_are_evaluated s rights n accepted moves one honest no_lines allowed run kept unmarked over =
    let S : Setting = setting_of (resolved s) rights in
    let t = in_turn S (gives_setting s rights accepted) (evaluates s rights accepted) (none_hostile s honest) n one.worker one.only allowed
    (none_lacks s rights accepted n one) (same_over_more (resolved s) rights n) (hostile_post s rights accepted) (lines_of (resolved s)) moves run
    (runs_are_calm s rights accepted moves no_lines kept unmarked) over in
    record {
      all = course_length s rights accepted n one;
      outcomes = λ k ending h.
          let low : k < S.requests n = subst (λ z. k < z) (course_length s rights accepted n one) (slice_get_within (course_of (resolved s)).endings k ending h) in
          t.outcomes k low ∙ ap (outcome_by (first_tid n (suc k))) (same_Some _ ending (sym (course_ending s rights accepted n one k low) ∙ h));
      held = t.held ∙ sym (course_map s rights accepted n one);
    }
