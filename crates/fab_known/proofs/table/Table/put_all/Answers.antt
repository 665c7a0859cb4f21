use Rattle.std.proofs.Common.{◌≡◌, rules, ◌∷◌, ◌++◌, [], length, append_assoc, sym, ap, ◌∙◌}
use Rattle.std.proofs.lemmas.List.{nil_from_length}
use Rattle.fab_protocol.specs.Versions.{Rows}
use Rattle.fab_release.specs.Replay.{row_at}
use Rattle.fab_known.proofs.Tabling.{alike_behind}
use Rattle.fab_known.proofs.table.Table.put_all.Goals as goal

pub loop-row-preserved : goal.loop-row-preserved
loop-row-preserved c = λ o version.
    let rest = c.pop.new.self.items in
    let old = c.loop-row.self in
    alike_behind rest c.put.new.self (c.in-Some.row ∷ old) c.in_ok-put.ensures o version
    ∙ ap (λ (rows : Rows). row_at rows o version) (sym (append_assoc rest (c.in-Some.row ∷ []) old))
    ∙ ap (λ (rows : Rows). row_at (rows ++ old) o version) (sym c.in-Some.ensures.items)
    ∙ c.loop-row.invariant o version

pub returns : goal.returns
returns c = λ o version.
    let none : length c.loop-row.rest.items ≡ 0 = search (rules, c.in_default.ensures.cases) in
    ap (λ (rows : Rows). row_at (rows ++ c.loop-row.self) o version) (sym (nil_from_length c.loop-row.rest.items none)) ∙ c.loop-row.invariant o version
