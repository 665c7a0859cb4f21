use Rattle.std.proofs.lemmas.Bool.Decides.{same_from_decides}
use Rattle.fab_labelling.specs.Placement.{role_of}
use Rattle.fab_authority.specs.Decided.{is_store_role}
use Rattle.fab_authority.proofs.Deciding.{is_store_is}
use Rattle.fab_check.proofs.placement.is_store.Goals as goal

pub returns : goal.returns
returns c = same_from_decides c.is_store.result (is_store_role (role_of c.args.start.now c.args.number)) c.is_store.ensures.exact (is_store_is (role_of c.args.start.now c.args.number))
