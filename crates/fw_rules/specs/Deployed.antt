-- The rule of a seat over frames in bytes: its means are made of the directory and of the seat's hand.
use Rattle.std.specs.Prelude.{ℕ, List, option_and_then}
use Rattle.fw_base.specs.declared.seat.Seat.{Seat}
use Rattle.fw_text.specs.Texts.{hash}
use Rattle.fw_seal.specs.declared.types.Direction.TheVariants as way
use Rattle.fw_op.specs.declared.op.Op.{Op}
use Rattle.fw_op.specs.Ops.{op_bytes}
use Rattle.fw_op.specs.Replies.{reply_bytes}
use Rattle.fw_op.specs.Reading.{op_in, reply_in}
use Rattle.fw_trace.specs.declared.Input.{Input}
use Rattle.fw_directory.specs.Directories.{PlainDirectory}
use Rattle.fw_hand.specs.Hands.{PlainHand, key_in}
use Rattle.fw_means.specs.Means.{signature_by, joined_values, valid_in, written, sealed_by, opened_by}
use Rattle.fw_rules.specs.Means.{Means, Bodies}
use Rattle.fw_rules.specs.Roles.{rule_of}

abbrev pub means_of : PlainDirectory → PlainHand → Means (List ℕ)
means_of d hand = record {
  params = d.params;
  hash = hash;
  sign = signature_by hand;
  join = joined_values;
  read = valid_in d;
  write = written;
}

abbrev pub bodies_of : PlainHand → Bodies
bodies_of hand = record {
  seal_op = λ c stamp op. sealed_by (key_in hand.keys c) way.Request c stamp (op_bytes op);
  open_op = λ c stamp body. option_and_then op_in (opened_by (key_in hand.keys c) way.Request c stamp body);
  seal_reply = λ c number reply. sealed_by (key_in hand.keys c) way.Reply c number (reply_bytes reply);
  open_reply = λ c number body. option_and_then reply_in (opened_by (key_in hand.keys c) way.Reply c number body);
}

-- what the seat of a hand sends on the newest input of a history
abbrev pub rule_by : PlainDirectory → PlainHand → List (Input (List ℕ) Op) → List (Seat × List ℕ)
rule_by d hand history = rule_of (means_of d hand) (bodies_of hand) hand.starts hand.seat history
