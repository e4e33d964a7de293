-- What is left to show of `in_order`.
use Rattle.std.proofs.Common.{◌≡◌, ◌+◌, ◌∷◌, [], suc, drop, refl, sym, ap, ◌∙◌, drop-cons, add-one, arith, length, ◌<◌}
use Rattle.std.specs.Prelude.{fold}
use Rattle.fw_op.specs.declared.start.Start.{Start}
use Rattle.fw_store.specs.Store.{name_of, record_of, added, with_added}
use Rattle.fw_store.proofs.Built.{IsBuilding, are_fresh-none, building-none, building-added}
use Rattle.fw_store.proofs.build.in_order.Goals as goal

pub loop-start-init : goal.loop-start-init
loop-start-init c =
    let none = c.new-records.ensures.items in
    rw none (record { building = record { order = refl; fresh = are_fresh-none c.args.starts.now; distinct = c.requires }; done = refl })

pub add-requires-clause-absent : goal.add-requires-clause-absent
add-requires-clause-absent c =
    let ss = c.args.starts.now in
    let k = c.loop-start.start-index in
    let s = c.start-item.result in
    let inside : k < length ss = omega arith in
    let split : drop k ss ≡ s ∷ drop (suc k) ss = drop-cons ss k s inside ∙ ap (λ (q : Start). q ∷ drop (suc k) ss) (sym c.start-item.is) in
    let now : IsBuilding c.loop-start.records.items (s ∷ drop (suc k) ss) = rw split at c.loop-start.invariant.building in
    ap (λ (q : Start). record_of (name_of q) c.loop-start.records.items) c.in_ok-copy.ensures ∙ building-none s c.loop-start.records.items (drop (suc k) ss) now

pub loop-start-preserved : goal.loop-start-preserved
loop-start-preserved c =
    let ss = c.args.starts.now in
    let k = c.loop-start.start-index in
    let s = c.start-item.result in
    let inside : k < length ss = omega arith in
    let split : drop k ss ≡ s ∷ drop (k + 1) ss = rw add-one (drop-cons ss k s inside ∙ ap (λ (q : Start). q ∷ drop (suc k) ss) (sym c.start-item.is)) in
    let now : IsBuilding c.loop-start.records.items (s ∷ drop (k + 1) ss) = rw split at c.loop-start.invariant.building in
    let done : fold with_added c.loop-start.records.items (s ∷ drop (k + 1) ss) ≡ fold with_added [] ss = rw split at c.loop-start.invariant.done in
    let next : c.add.new.records.items ≡ added s c.loop-start.records.items = c.in_ok-add.ensures ∙ ap (λ (q : Start). added q c.loop-start.records.items) c.in_ok-copy.ensures in
    rw next (record { building = building-added s c.loop-start.records.items (drop (k + 1) ss) now; done = done })
