-- What is left to show of `place_of`.
use Rattle.std.proofs.Common.{◌≡◌, ◌+◌, ◌-◌, ◌/◌, drop, get_or, sym, ap, ◌∙◌, ℕ, arith}
use Rattle.std.specs.List.{list_all}
use Rattle.std.specs.declared.cmp.Ordering.TheVariants.{Less, Equal, Greater}
use Rattle.fw_op.specs.declared.reply.Name.{Name}
use Rattle.fw_op.specs.declared.start.Start.{Start}
use Rattle.fw_store.specs.Store.{name_cmp, name_of}
use Rattle.fw_store.proofs.Found.{is_above, upto-below, from-above, stands-at, missing-at}
use Rattle.fw_store.proofs.place.place_of.Goals as goal

pub loop-low-preserved-in-Less : goal.loop-low-preserved-in-Less
loop-low-preserved-in-Less c =
    let n : Name = record { owner = c.args.owner; key = c.args.key.now } in
    let m = c.loop-low.low + (c.loop-low.high - c.loop-low.low) / 2 in
    let r = c.index-records-middle.result in
    let less : name_cmp (name_of (get_or c.args.records.now m r)) n ≡ Less = ap (λ (q : Start). name_cmp (name_of q) n) (sym c.index-records-middle.is) ∙ sym c.in-Less.ensures in
    record {
      met = omega arith;
      within = omega arith;
      below = upto-below n c.args.records.now m r c.requires (omega arith) less;
      above = c.loop-low.invariant.above;
    }

pub returns-in-Equal : goal.returns-in-Equal
returns-in-Equal c =
    let n : Name = record { owner = c.args.owner; key = c.args.key.now } in
    let m = c.loop-low.low + (c.loop-low.high - c.loop-low.low) / 2 in
    let r = c.index-records-middle.result in
    let named : name_cmp (name_of (get_or c.args.records.now m r)) n ≡ Equal = ap (λ (q : Start). name_cmp (name_of q) n) (sym c.index-records-middle.is) ∙ sym c.in-Equal.ensures in
    stands-at n c.args.records.now m r c.requires (omega arith) named

pub loop-low-preserved : goal.loop-low-preserved
loop-low-preserved c =
    let n : Name = record { owner = c.args.owner; key = c.args.key.now } in
    let m = c.loop-low.low + (c.loop-low.high - c.loop-low.low) / 2 in
    let r = c.index-records-middle.result in
    let greater : name_cmp (name_of (get_or c.args.records.now m r)) n ≡ Greater = ap (λ (q : Start). name_cmp (name_of q) n) (sym c.index-records-middle.is) ∙ sym c.in-Greater.ensures in
    record {
      met = omega arith;
      within = omega arith;
      below = c.loop-low.invariant.below;
      above = from-above n c.args.records.now m r c.requires (omega arith) greater;
    }

pub returns : goal.returns
returns c =
    let n : Name = record { owner = c.args.owner; key = c.args.key.now } in
    let meet : c.loop-low.high ≡ c.loop-low.low = omega arith in
    missing-at n c.args.records.now c.loop-low.low (omega arith) c.loop-low.invariant.below
    (ap (λ (k : ℕ). list_all (is_above n) (drop k c.args.records.now)) (sym meet) ∙ c.loop-low.invariant.above)
