-- The part that stands there.
use Rattle.std.proofs.Common.{◌≡◌, rules}
use Rattle.fw_hand.proofs.Items.{half_on}
use Rattle.fw_hand.proofs.keys.half_in.Goals as goal

pub returns : goal.returns
returns c =
    let copied : c.copy_from_slice.new.self ≡ c.in_ok-part.part.now = search rules in
    rw copied (half_on c.args.reader.now c.in_ok-part.part.now c.fixed.new.self c.in_ok-part.ensures.0 c.in_ok-part.ensures.1)
