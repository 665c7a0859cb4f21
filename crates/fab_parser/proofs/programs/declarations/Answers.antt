use Rattle.fab_reading.specs.Reading.{any, begins_class, begins_label, begins_method, begins_name, begins_node, behind_list}
use Rattle.fab_reading.proofs.Rules.{ending, stop_part}
use Rattle.fab_reading.proofs.ListRules.{repeated_text}
use Rattle.fab_parser.proofs.Chains.{exit, texts, fitting, ◌>>◌}
use Rattle.fab_parser.proofs.PartRules.{last_read, last_stops}
use Rattle.fab_parser.proofs.ProgramRules.{after_methods, behind_methods, behind_classes, behind_delegations, behind_labels, behind_nodes, program_start}
use Rattle.fab_parser.proofs.WholeRules.{no_whole_nodes, no_whole_delegations, no_whole_labels, no_whole_classes, no_whole_methods}
use Rattle.fab_parser.proofs.programs.declarations.Goals as goal

pub returns-in_err-nodes-clause-read : goal.returns-in_err-nodes-clause-read
returns-in_err-nodes-clause-read c =
    exit _ _ _ c.from_residual.result c.from_residual.ensures.1
    (stop_part (behind_list begins_node any) c.in_err-nodes.field-0.0 (program_start c.args.tokens.now) c.in_err-nodes.ensures behind_nodes (search texts))

pub returns-in_err-nodes-clause-none_yet : goal.returns-in_err-nodes-clause-none_yet
returns-in_err-nodes-clause-none_yet c =
    exit _ _ _ c.from_residual.result c.from_residual.ensures.1
    (no_whole_nodes c.in_err-nodes.field-0.0 (program_start c.args.tokens.now) c.in_err-nodes.ensures behind_nodes)

pub returns-in_err-delegations-clause-read : goal.returns-in_err-delegations-clause-read
returns-in_err-delegations-clause-read c =
    exit _ _ _ c.from_residual-in_err-delegations.result c.from_residual-in_err-delegations.ensures.1
    (stop_part (behind_list begins_name any) c.in_err-delegations.field-0.0 (program_start c.args.tokens.now >> fitting c.in_ok-nodes.ensures behind_nodes)
    c.in_err-delegations.ensures behind_delegations (search texts))

pub returns-in_err-delegations-clause-none_yet : goal.returns-in_err-delegations-clause-none_yet
returns-in_err-delegations-clause-none_yet c =
    exit _ _ _ c.from_residual-in_err-delegations.result c.from_residual-in_err-delegations.ensures.1
    (no_whole_delegations c.in_err-delegations.field-0.0 (program_start c.args.tokens.now >> fitting c.in_ok-nodes.ensures behind_nodes) c.in_err-delegations.ensures
    behind_delegations)

pub returns-in_err-labels-clause-read : goal.returns-in_err-labels-clause-read
returns-in_err-labels-clause-read c =
    exit _ _ _ c.from_residual-in_err-labels.result c.from_residual-in_err-labels.ensures.1
    (stop_part (behind_list begins_label any) c.in_err-labels.field-0.0 (program_start c.args.tokens.now >> fitting c.in_ok-nodes.ensures behind_nodes
    >> fitting c.in_ok-delegations.ensures behind_delegations) c.in_err-labels.ensures behind_labels (search texts))

pub returns-in_err-labels-clause-none_yet : goal.returns-in_err-labels-clause-none_yet
returns-in_err-labels-clause-none_yet c =
    exit _ _ _ c.from_residual-in_err-labels.result c.from_residual-in_err-labels.ensures.1
    (no_whole_labels c.in_err-labels.field-0.0 (program_start c.args.tokens.now >> fitting c.in_ok-nodes.ensures behind_nodes
    >> fitting c.in_ok-delegations.ensures behind_delegations) c.in_err-labels.ensures behind_labels)

pub returns-in_err-classes-clause-read : goal.returns-in_err-classes-clause-read
returns-in_err-classes-clause-read c =
    exit _ _ _ c.from_residual-in_err-classes.result c.from_residual-in_err-classes.ensures.1
    (stop_part (behind_list begins_class any) c.in_err-classes.field-0.0 (program_start c.args.tokens.now >> fitting c.in_ok-nodes.ensures behind_nodes
    >> fitting c.in_ok-delegations.ensures behind_delegations >> fitting c.in_ok-labels.ensures behind_labels) c.in_err-classes.ensures behind_classes repeated_text)

pub returns-in_err-classes-clause-none_yet : goal.returns-in_err-classes-clause-none_yet
returns-in_err-classes-clause-none_yet c =
    exit _ _ _ c.from_residual-in_err-classes.result c.from_residual-in_err-classes.ensures.1
    (no_whole_classes c.in_err-classes.field-0.0 (program_start c.args.tokens.now >> fitting c.in_ok-nodes.ensures behind_nodes
    >> fitting c.in_ok-delegations.ensures behind_delegations >> fitting c.in_ok-labels.ensures behind_labels) c.in_err-classes.ensures behind_classes)

pub returns-in_err-methods-clause-read : goal.returns-in_err-methods-clause-read
returns-in_err-methods-clause-read c =
    exit _ _ _ c.from_residual-in_err-methods.result c.from_residual-in_err-methods.ensures.1
    (last_stops (behind_list begins_method any) after_methods c.in_err-methods.field-0.0 (program_start c.args.tokens.now >> fitting c.in_ok-nodes.ensures behind_nodes
    >> fitting c.in_ok-delegations.ensures behind_delegations >> fitting c.in_ok-labels.ensures behind_labels >> fitting c.in_ok-classes.ensures behind_classes)
    c.in_err-methods.ensures)

pub returns-in_err-methods-clause-none_yet : goal.returns-in_err-methods-clause-none_yet
returns-in_err-methods-clause-none_yet c =
    exit _ _ _ c.from_residual-in_err-methods.result c.from_residual-in_err-methods.ensures.1
    (no_whole_methods c.in_err-methods.field-0.0 (ending (program_start c.args.tokens.now >> fitting c.in_ok-nodes.ensures behind_nodes
    >> fitting c.in_ok-delegations.ensures behind_delegations >> fitting c.in_ok-labels.ensures behind_labels >> fitting c.in_ok-classes.ensures behind_classes))
    c.in_err-methods.ensures behind_methods)

pub returns-clause-read : goal.returns-clause-read
returns-clause-read c =
    last_read after_methods (program_start c.args.tokens.now >> fitting c.in_ok-nodes.ensures behind_nodes >> fitting c.in_ok-delegations.ensures behind_delegations
    >> fitting c.in_ok-labels.ensures behind_labels >> fitting c.in_ok-classes.ensures behind_classes) c.in_ok-methods.ensures
