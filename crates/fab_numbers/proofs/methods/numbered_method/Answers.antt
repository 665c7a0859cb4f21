use Rattle.std.proofs.Common.{map, ap, ◌∙◌}
use Rattle.fab_tree.specs.declared.resolved.Method.{Method as NumberedMethod}
use Rattle.fab_language.specs.Uses.{principal_use}
use Rattle.fab_language.specs.MethodNumbers.{block_of, result_of, numbered_local, method_of}
use Rattle.fab_numbers.proofs.InTurn.{refused}
use Rattle.fab_numbers.proofs.Within.{method_first, method_second, method_made, parts_are}
use Rattle.fab_numbers.proofs.methods.numbered_method.Goals as goal

pub returns-in_err-body : goal.returns-in_err-body
returns-in_err-body c =
    refused c.from_residual-in_err-body.result c.in_err-body.field-0.0 c.numbered_block.new.sites c.numbered_block.new.sites
    (block_of c.args.tables.now c.in_ok-make.field-0 c.as_slice.result.now c.args.sites.now)
    (method_of c.args.tables.now c.args.method.now c.args.sites.now)
    c.from_residual-in_err-body.ensures.1
    (method_first c.args.tables.now c.args.method.now c.in_ok-make.field-0 c.as_slice.result.now c.args.sites.now c.in_ok-make.ensures c.as_slice.ensures)
    c.in_err-body.ensures

pub returns-in_err-result : goal.returns-in_err-result
returns-in_err-result c =
    refused c.from_residual-in_err-result.result c.in_err-result.field-0.0 c.numbered_result.new.sites c.numbered_result.new.sites
    (result_of c.args.tables.now c.in_ok-make.field-0 c.args.method.now.result c.numbered_block.new.sites)
    (method_of c.args.tables.now c.args.method.now c.args.sites.now)
    c.from_residual-in_err-result.ensures.1
    (method_second c.args.tables.now c.args.method.now c.in_ok-make.field-0 c.as_slice.result.now c.args.sites.now c.in_ok-make.ensures c.as_slice.ensures c.in_ok-body.body c.numbered_block.new.sites c.in_ok-body.ensures)
    c.in_err-result.ensures

pub returns : goal.returns
returns c =
    method_made c.args.tables.now c.args.method.now c.in_ok-make.field-0 c.as_slice.result.now c.args.sites.now c.in_ok-make.ensures c.as_slice.ensures c.in_ok-body.body c.numbered_block.new.sites c.in_ok-body.ensures
    c.in_ok-result.result c.numbered_result.new.sites c.in_ok-result.ensures
    ∙ ap (λ (w : NumberedMethod). (w, c.numbered_result.new.sites))
    (parts_are c.args.tables.now c.args.method.now c.in_ok-make.field-0 c.as_slice.result.now c.args.sites.now c.in_ok-make.ensures c.as_slice.ensures c.in_ok-body.body c.in_ok-result.result
    c.in_ok-copied.field-0 c.len.result c.in_ok-numbered_locals.field-0 c.numbered_returns.result c.label_use.result c.from_vec.result
    c.in_ok-copied.ensures c.len.ensures
    (c.in_ok-numbered_locals.ensures ∙ ap (map (numbered_local c.args.tables.now)) c.as_slice-2.ensures)
    c.numbered_returns.ensures c.label_use.ensures
    (c.from_vec.ensures ∙ c.in_ok-authority.ensures ∙ ap (map (principal_use c.args.tables.now)) c.as_slice-3.ensures))
