-- What reading finds at the front of bytes.
use Rattle.std.specs.Prelude.{ℕ, Bool, ◌&&◌, nat_eq, List, ◌++◌, length, drop, map}
use Rattle.std.specs.List.{list_all}
use Rattle.fw_list.specs.Numbers.{u32, ascending}
use Rattle.fw_base.specs.declared.params.Params.{Params}
use Rattle.fw_frame.specs.Frames.{PlainFrame, Request, Propose, Vote, Change, NewView, Agreed, Share, Reply, Want}
use Rattle.fw_frame.specs.Ranges.{answer_fits, frame_fits}
use Rattle.fw_frame.specs.Spelling.{frame_bytes}

-- the kind of a frame, which is its first byte, and the bytes of its fields
abbrev pub kind_of : PlainFrame → ℕ
kind_of (Request r) = 1
kind_of (Propose view number entry sig) = 2
kind_of (Vote phase view number agree digest sig) = 3
kind_of (Change c) = 4
kind_of (NewView view changes sig) = 5
kind_of (Agreed view number entry signers) = 6
kind_of (Share number exec client stamp body shares) = 7
kind_of (Reply number client stamp body secrets) = 8
kind_of (Want number) = 9

abbrev pub fields_bytes : PlainFrame → List ℕ
fields_bytes f = drop 1 (frame_bytes f)

-- a frame of the deployment, of a kind
abbrev pub kind_fits : Params → ℕ → PlainFrame → Bool
kind_fits p kind f = nat_eq (kind_of f) kind && frame_fits p f

-- the items of a list are this many, each fits, and they are ascending by a key
abbrev pub list_fits : {A : Type 0} → (A → ℕ) → (A → Bool) → ℕ → List A → Bool
list_fits key fits count items = nat_eq (length items) count && list_all fits items && ascending (map key items)

-- whom a reply is for, and its body: a client, a stamp and the bytes
abbrev pub answer_bytes : ℕ × (ℕ × List ℕ) → List ℕ
answer_bytes x = u32 x.0 ++ (u32 x.1.0 ++ x.1.1)

abbrev pub answered_fits : Params → ℕ × (ℕ × List ℕ) → Bool
answered_fits p x = answer_fits p x.0 x.1.0 x.1.1
