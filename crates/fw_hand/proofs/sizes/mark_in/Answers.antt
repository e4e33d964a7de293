-- A mark is a seat's index, or that of a public file.
use Rattle.std.proofs.Common.{None, Some, sym}
use Rattle.fw_hand.proofs.Heads.{mark_found, no_mark, mark_of_none, behind_all}
use Rattle.fw_hand.proofs.sizes.mark_in.Goals as goal

pub returns-in_default : goal.returns-in_default
returns-in_default c = no_mark c.args.params.now c.args.reader.now c.number_in.new.reader c.number_in.new.reader c.requires c.in_default.ensures

pub returns-then-mark : goal.returns-then-mark
returns-then-mark c = mark_found c.args.params.now c.in-Some.mark None c.args.reader.now c.number_in.new.reader c.requires tt (sym c.if-mark.true) c.in-Some.ensures

pub returns-in_default-from_index : goal.returns-in_default-from_index
returns-in_default-from_index c =
    mark_of_none c.args.params.now c.in-Some.mark c.args.reader.now c.number_in.new.reader c.number_in.new.reader c.requires
    (behind_all c.args.params.now c.in-Some.mark c.in_default-from_index.ensures.none c.if-mark.false) c.in-Some.ensures

pub returns : goal.returns
returns c =
    mark_found c.args.params.now c.in-Some.mark (Some c.in-Some-from_index.seat) c.args.reader.now c.number_in.new.reader c.requires
    c.in-Some-from_index.ensures.found.0 c.in-Some-from_index.ensures.found.1 c.in-Some.ensures
