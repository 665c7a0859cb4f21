use Rattle.std.proofs.Common.{ℕ, List, [], ◌++◌, ap, sym, ◌∙◌, Option, unwrap_or, if◌then◌else◌}
use Rattle.std.specs.Prelude.{slice_get}
use Rattle.std.specs.List.{flat_map}
use Rattle.fab_tree.specs.declared.statement.Downgrade.{Downgrade}
use Rattle.fab_trusted.specs.declared.rows.Guard.{Guard}
use Rattle.fab_downgrades.specs.Downgraded.{declassifies}
use Rattle.fab_trust.specs.Noted.{guards_at, noted}
use Rattle.fab_trust.proofs.Least.{noted_parts}
use Rattle.fab_trust.proofs.guards.note_row.Goals as goal

pub returns-in-Declassify : goal.returns-in-Declassify
returns-in-Declassify c =
    let r = c.args.scope.now.start.now in
    let row = c.args.row in
    let each : ℕ → List Guard = λ l. guards_at row.at l c.args.authority.now in
    let own = guards_at row.at row.from c.args.authority.now in
    let pc = unwrap_or (slice_get c.args.scope.now.pcs.now row.site) [] in
    c.note_label.ensures
    ∙ ap (λ (n : Option Guard). noted r n own) (c.note_labels-decided.ensures ∙ ap (λ (ls : List ℕ). noted r c.args.first (flat_map each ls)) c.pc_at.ensures)
    ∙ sym (noted_parts r c.args.first (flat_map each pc) own)
    ∙ ap (λ (k : Downgrade). noted r c.args.first (if declassifies k then flat_map each pc ++ own else [])) (sym c.in-Declassify.is)
