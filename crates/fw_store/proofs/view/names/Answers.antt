-- What is left to show of `names`.
use Rattle.std.proofs.Common.{◌≡◌, ◌<◌, ◌++◌, ◌∷◌, [], length, take, sym, ap, ◌∙◌, arith, map}
use Rattle.fw_op.specs.declared.reply.Name.{Name}
use Rattle.fw_store.specs.Store.{visible, name_of}
use Rattle.fw_store.proofs.Told.{few-more, told-more, told-hidden}
use Rattle.fw_store.proofs.view.names.Goals as goal
use Rattle.fw_store.proofs.view.names.Goals.{then-is_seen+in_ok-copy_of+in_ok-push, else-is_seen}

pub loop-owned-preserved : goal.loop-owned-preserved
loop-owned-preserved c =
    let x = c.args.client in
    let rs = c.args.records.now in
    let k = c.loop-owned.owned-index in
    let r = c.owned-item.result in
    let names = c.loop-owned.names in
    let all = take 24 (map name_of (visible x rs)) in
    let inside : k < length rs = omega arith in
    let room : length names < 24 = omega arith in
    elim c.if-is_seen.branch [
      | then-is_seen+in_ok-copy_of+in_ok-push w ↦
          let key = w.in_ok-copy_of.ensures ∙ w.items.ensures in
          let more : c.if-is_seen.names ≡ names ++ name_of r ∷ [] = w.names-is ∙ w.in_ok-push.ensures.ok ∙ ap (λ ks. let n : Name = record { owner = r.owner; key = ks } in names ++ n ∷ []) key in
          record {
            few = few-more names c.if-is_seen.names (name_of r) 24 room more;
            told = told-more x names c.if-is_seen.names rs k r all inside c.owned-item.is (sym c.is_seen.ensures ∙ w.if-is_seen.true) room more c.loop-owned.invariant.told;
          }
      | else-is_seen w ↦
          record {
            few = omega (arith, ap length w.names-is);
            told = told-hidden x names c.if-is_seen.names rs k r all inside c.owned-item.is (sym c.is_seen.ensures ∙ w.if-is_seen.false) w.names-is c.loop-owned.invariant.told;
          }
    ]
