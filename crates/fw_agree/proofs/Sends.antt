-- Each frame that an agreement node sends can be sent.
use Rattle.std.proofs.Common.{◌≡◌, IsTrue}
use Rattle.fw_base.specs.Sizes.{accepted}
use Rattle.fw_directory.specs.Directories.{PlainDirectory}
use Rattle.fw_node.specs.Histories.{History, AreSendable}
use Rattle.fw_sendable.proofs.Viewing.{agree_sends}
use Rattle.fw_agree.specs.Standing.{Agreer, rule_of}

pub all_sendable : (n : Agreer) → IsTrue (accepted n.params) → (d : PlainDirectory) (h : History) → d.params ≡ n.params → AreSendable n.params (rule_of n d h)
all_sendable n sizes d h same = agree_sends n.params n.own n.hand sizes d h same
