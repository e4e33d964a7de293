-- No two records of a plan have the same name.
use Rattle.std.proofs.Common.{◌&&◌, nat_le, List, length, sym, subst, IsTrue}
use Rattle.std.specs.List.{list_all}
use Rattle.std.proofs.lemmas.Bool.{and_parts}
use Rattle.fw_op.specs.declared.start.Start.{Start}
use Rattle.fw_record.specs.declared.limits.TheConstants.{MOST_RECORDS}
use Rattle.fw_record.specs.Records.{start_fits}
use Rattle.fw_store.specs.Store.{are_distinct}
use Rattle.try_plain.proofs.told.add_asked.Goals as goal

pub new-requires : goal.new-requires
new-requires c =
    let p = c.args.plan.now in
    subst (λ (xs : List Start). IsTrue (are_distinct xs)) (sym c.items.ensures)
    (and_parts (nat_le (length p.starts) MOST_RECORDS && list_all (start_fits p.params.clients) p.starts) (are_distinct p.starts) c.requires.starts).1
