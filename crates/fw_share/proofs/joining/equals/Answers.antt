-- One more share, where it says the same.
use Rattle.fw_share.specs.Shares.{IsWhole, valued}
use Rattle.fw_frame.proofs.Rows.{All_map_at}
use Rattle.fw_share.proofs.Joined.{exec-most}
use Rattle.fw_share.proofs.joining.equals.Goals as goal

pub add-requires : goal.add-requires
add-requires c =
    let at = All_map_at (IsWhole c.args.params.now) valued c.args.kept.now c.loop-one.one-index c.one-item.result c.loop-one-test.true c.requires.whole in
    rw c.one-item.is (exec-most c.args.params.now c.requires.sizes _ at)
