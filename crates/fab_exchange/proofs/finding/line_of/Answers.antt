use Rattle.std.proofs.Common.{◌≡◌, ◌==◌, length, Option, Some, None, sym, ap, ◌∙◌, arith}
use Rattle.std.specs.Prelude.{option_copied, option_map, slice_get, slice_index_or}
use Rattle.std.specs.List.{filter}
use Rattle.fab_tree.specs.declared.resolved.Crash.{Crash}
use Rattle.fab_tree.specs.declared.resolved.Resolved.{Resolved}
use Rattle.fab_exchange.specs.Dues.{line_in}
use Rattle.fab_exchange.specs.Exchanges.{none_yet}
use Rattle.fab_exchange.specs.declared.counting.Count.{Count}
use Rattle.fab_exchange.proofs.Lined.{line_down, line_up, running_low, unused_if, used_if}
use Rattle.fab_exchange.proofs.finding.line_of.Goals as goal

pub returns-then-not-may_whole : goal.returns-then-not-may_whole
returns-then-not-may_whole g c = sym (line_down c.args.core.now.given c.args.core.now.moves c.args.node (sym c.may_whole.ensures ∙ c.if-not-may_whole.true))

pub bounds-counts-from : goal.bounds-counts-from
bounds-counts-from g c =
    let low = running_low c.args.core.now.given c.args.core.now.moves c.args.node c.is_a_run.ensures.given (sym c.may_whole.ensures ∙ c.if-not-may_whole.false) in
    let at : c.from.result ≡ c.args.node = c.from.ensures in
    let long : length c.args.counts.now ≡ 64 = c.requires.long in
    omega (arith, low, at, long)

pub returns-in_err-line : goal.returns-in_err-line
returns-in_err-line g c =
    let m = c.args.core.now in
    let up = sym c.may_whole.ensures ∙ c.if-not-may_whole.false in
    let count : Count = slice_index_or c.args.counts.now c.from.result none_yet in
    let Left : Resolved → Option Crash = λ program. slice_get (filter (λ (x : Crash). x.node == c.args.node) program.crashes) count.crashes in
    ap (option_map line_in) c.from_residual.ensures
    ∙ line_up m.given m.moves c.args.node up c.args.counts.now c.requires (running_low m.given m.moves c.args.node c.is_a_run.ensures.given up) count
    (ap (λ k. slice_index_or c.args.counts.now k none_yet) c.from.ensures) None
    (sym (ap option_copied c.in_err-line.was) ∙ c.line_at.ensures ∙ ap Left (c.deref.ensures ∙ c.start.ensures))

pub returns-then-line-count : goal.returns-then-line-count
returns-then-line-count g c =
    let m = c.args.core.now in
    let up = sym c.may_whole.ensures ∙ c.if-not-may_whole.false in
    let count : Count = slice_index_or c.args.counts.now c.from.result none_yet in
    let Left : Resolved → Option Crash = λ program. slice_get (filter (λ (x : Crash). x.node == c.args.node) program.crashes) count.crashes in
    sym (used_if count.events (line_in c.in_ok-line.line.now) c.if-line-count.true)
    ∙ line_up m.given m.moves c.args.node up c.args.counts.now c.requires (running_low m.given m.moves c.args.node c.is_a_run.ensures.given up) count
    (ap (λ k. slice_index_or c.args.counts.now k none_yet) c.from.ensures) (Some c.in_ok-line.line.now)
    (sym (ap option_copied c.in_ok-line.was) ∙ c.line_at.ensures ∙ ap Left (c.deref.ensures ∙ c.start.ensures))

pub returns-else-line-count : goal.returns-else-line-count
returns-else-line-count g c =
    let m = c.args.core.now in
    let up = sym c.may_whole.ensures ∙ c.if-not-may_whole.false in
    let count : Count = slice_index_or c.args.counts.now c.from.result none_yet in
    let Left : Resolved → Option Crash = λ program. slice_get (filter (λ (x : Crash). x.node == c.args.node) program.crashes) count.crashes in
    sym (unused_if count.events (line_in c.in_ok-line.line.now) c.if-line-count.false)
    ∙ line_up m.given m.moves c.args.node up c.args.counts.now c.requires (running_low m.given m.moves c.args.node c.is_a_run.ensures.given up) count
    (ap (λ k. slice_index_or c.args.counts.now k none_yet) c.from.ensures) (Some c.in_ok-line.line.now)
    (sym (ap option_copied c.in_ok-line.was) ∙ c.line_at.ensures ∙ ap Left (c.deref.ensures ∙ c.start.ensures))
