-- Hand files: the directory, and behind it what one seat is dealt; a public file has the directory alone.
use Rattle.std.specs.Prelude.{◌≡◌, ℕ, List, [], ◌∷◌, ◌++◌, flat_map, codes, Option, Some, None, IfSome}
use Rattle.fw_list.specs.Numbers.{u32}
use Rattle.fw_base.specs.declared.params.Params.{Params}
use Rattle.fw_base.specs.declared.seat.Seat.{Seat}
use Rattle.fw_base.specs.declared.seat.Seat.TheVariants.{Exec}
use Rattle.fw_base.specs.Seats.{seat_index}
use Rattle.fw_op.specs.declared.start.Start.{Start}
use Rattle.fw_record.specs.Records.{starts_bytes}
use Rattle.fw_hand.specs.declared.hand.HeldKey.{HeldKey}
use Rattle.fw_hand.specs.declared.file.TheConstants.{PUBLIC}
use Rattle.fw_directory.specs.Directories.{PlainDirectory, IsDirectory}
use Rattle.fw_hand.specs.Hands.{PlainHand, IsHandIn}

-- the eight sizes in order
abbrev pub params_bytes : Params → List ℕ
params_bytes p = flat_map u32 (p.f ∷ p.g ∷ p.h ∷ p.numbers ∷ p.views ∷ p.clients ∷ p.stamps ∷ p.pipe ∷ [])

-- the index of the hand's seat, or the mark of a public file
abbrev pub seat_mark : Params → Option PlainHand → ℕ
seat_mark p None = PUBLIC
seat_mark p (Some h) = seat_index p h.seat

abbrev pub held_key_bytes : HeldKey → List ℕ
held_key_bytes k = k.key.stream_key ++ k.key.mac_key

-- an executor's records
abbrev pub records_bytes : Seat → List Start → List ℕ
records_bytes (Exec j) starts = starts_bytes starts
records_bytes _ starts = []

-- the values of the slots, the keys, and the records
abbrev pub part_bytes : Option PlainHand → List ℕ
part_bytes None = []
part_bytes (Some h) = flat_map (λ s. s.values) h.held ++ flat_map held_key_bytes h.keys ++ records_bytes h.seat h.starts

-- the letters, the sizes, whose it is, the digests, and the seat's part
abbrev pub hand_file : PlainDirectory → Option PlainHand → List ℕ
hand_file d hand = codes "fwh1" ++ params_bytes d.params ++ u32 (seat_mark d.params hand) ++ d.digests ++ part_bytes hand

-- the bytes are the hand file of this directory and hand, or the public file
pub record IsHandFile (bytes : List ℕ) (d : PlainDirectory) (hand : Option PlainHand) : Type 0 where
  pub spelled : bytes ≡ hand_file d hand
  pub directory : IsDirectory d
  pub dealt : IfSome hand (IsHandIn d)
