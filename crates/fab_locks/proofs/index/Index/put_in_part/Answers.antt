use Rattle.std.proofs.Common.{refl, ap}
use Rattle.std.specs.Map.{lookup}
use Rattle.std.specs.BTreeMap.{is_at}
use Rattle.fab_locks.specs.Indexes.{is_changed, is_named, tid_cmp}
use Rattle.fab_locks.proofs.Putting.{keep_same, put_place, puts_keep, where_none}
use Rattle.fab_locks.proofs.index.Index.put_in_part.Goals as goal

-- all is put
pub returns-clause-ok : goal.returns-clause-ok
returns-clause-ok c = record {
  places = put_place c.args.tid c.args.number c.args.self.now.places c.insert.new.self c.in_ok-insert.ensures.updates.0;
  named = c.in_ok-put_named.ensures.ok;
  changed = c.in_ok-put_changed.ensures.ok;
}

-- or a part
pub returns-in_err-put_named-clause-err : goal.returns-in_err-put_named-clause-err
returns-in_err-put_named-clause-err c =
    where_none _ c.from_residual.result (record {
      places = λ u. refl;
      named = c.in_err-put_named.ensures.kept;
      changed = keep_same (is_changed c.args.items.now) c.args.number c.args.self.now.changed c.args.self.now.changed refl;
    })

pub returns-in_err-put_changed-clause-err : goal.returns-in_err-put_changed-clause-err
returns-in_err-put_changed-clause-err c =
    where_none _ c.from_residual-in_err-put_changed.result (record {
      places = λ u. refl;
      named = puts_keep (is_named c.args.items.now) c.args.number c.args.self.now.named c.put_named.new.names c.in_ok-put_named.ensures.ok;
      changed = c.in_err-put_changed.ensures.kept;
    })

pub returns-in_err-insert-clause-err : goal.returns-in_err-insert-clause-err
returns-in_err-insert-clause-err c =
    where_none _ c.from_residual-in_err-insert.result (record {
      places = λ u. ap (lookup (is_at (tid_cmp u))) c.in_err-insert.ensures.err;
      named = puts_keep (is_named c.args.items.now) c.args.number c.args.self.now.named c.put_named.new.names c.in_ok-put_named.ensures.ok;
      changed = puts_keep (is_changed c.args.items.now) c.args.number c.args.self.now.changed c.put_changed.new.names c.in_ok-put_changed.ensures.ok;
    })
