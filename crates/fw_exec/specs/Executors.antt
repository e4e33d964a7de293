-- Which executor it is: its hand, and the keys of all clients in order.
use Rattle.std.specs.Prelude.{ℕ, ◌≡◌, ◌<◌, List, length, Some}
use Rattle.fw_seal.specs.declared.types.BodyKey.{BodyKey}
use Rattle.fw_hand.specs.declared.hand.HeldKey.{HeldKey}
use Rattle.fw_hand.specs.Hands.{key_in}
use Rattle.fw_ref.specs.Bodies.{key_of}
use Rattle.fw_directory.specs.Directories.{PlainDirectory}
use Rattle.fw_exec.specs.declared.own.Own.{Own}
use Rattle.fw_exec.specs.Kept.{Speech}
use Rattle.fw_exec.specs.Standing.{IsExecutors, speech_of}

-- the keys of the first so many clients, in order
pub record AreKeysOf (held : List HeldKey) (count : ℕ) (keys : List BodyKey) : Type 0 where
  pub long : length keys ≡ count
  pub each : (c : ℕ) → c < count → key_in held c ≡ Some (key_of keys c)

pub record IsOwn (own : Own) : Type 0 where
  pub executors : IsExecutors own.params own.exec own.hand
  pub all_keys : AreKeysOf own.hand.keys own.params.clients own.keys

-- what it says, under a directory
abbrev pub speech_by : Own → PlainDirectory → Speech
speech_by own d = speech_of own.exec own.hand d
