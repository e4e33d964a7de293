-- The rule of an agreement node, by a directory and a hand.
use Rattle.std.specs.Prelude.{ℕ}
use Rattle.fw_trace.specs.Role.{sends}
use Rattle.fw_directory.specs.Directories.{PlainDirectory}
use Rattle.fw_hand.specs.Hands.{PlainHand}
use Rattle.fw_node.specs.Histories.{History, Out}
use Rattle.fw_rules.specs.Deployed.{means_of}
use Rattle.fw_rules.specs.Views.{agree_role}

-- what agreement node i sends on the newest input of a history, by a directory and by what a hand has
abbrev pub agree_rule : ℕ → PlainHand → PlainDirectory → History → Out
agree_rule i hand d h = sends (agree_role (record { own = i; means = means_of d hand })) h
