-- Whole runs of all four roles, computed from the rules alone.
use Rattle.std.specs.Prelude.{ℕ, ◌≡◌, true, false, List, [], ◌∷◌, Some, refl}
use Rattle.fw_list.specs.Numbers.{u32}
use Rattle.fw_base.specs.declared.params.Params.{Params}
use Rattle.fw_base.specs.declared.seat.Seat.{Seat}
use Rattle.fw_base.specs.declared.seat.Seat.TheVariants.{Agree, Exec, Filter, Client}
use Rattle.fw_base.specs.declared.slot.Slot.TheVariants as slots
use Rattle.fw_text.specs.Texts.{text_bytes}
use Rattle.fw_op.specs.declared.op.Op.{Op}
use Rattle.fw_op.specs.declared.op.Op.TheVariants.{Put, Get}
use Rattle.fw_op.specs.declared.reply.Reply as said
use Rattle.fw_op.specs.declared.reply.Reply.TheVariants.{Done, Absent}
use Rattle.fw_store.specs.Store.{name_cmp}
use Rattle.fw_op.specs.declared.start.Start.{Start}
use Rattle.fw_trace.specs.declared.Told.{Told}
use Rattle.fw_trace.specs.Run.{Step, Submit, Flush, Deliver, Lie as Tells, run}
use Rattle.fw_frame.specs.View.{Shares, Given}
use Rattle.fw_rules.specs.Signing.{reply_text}
use Rattle.fw_rules.specs.Toy.{toy_world, toy_sign, row_or_none, Row, Lie, Gives, Copies}

abbrev pub deployment : ℕ → ℕ → ℕ → Params
deployment f g h = record { f = f; g = g; h = h; numbers = 8; views = 2; clients = 2; stamps = 4; pipe = 4 }

abbrev pub put_alpha : Op
put_alpha = Put (97 ∷ []) (49 ∷ [])

abbrev pub get_alpha : Op
get_alpha = Get 1 (97 ∷ [])

abbrev pub Steps : Type 0
Steps = List (Step Op Lie)

-- with these records and these faulty seats the run of the steps ends so
abbrev pub Ends : Params → List Start → List Seat → Steps → Row → Type 0
Ends p starts faulty steps row = row_or_none p faulty (run (toy_world p starts faulty) steps) ≡ Some row

abbrev pub told : ℕ → ℕ → said.Reply → Told said.Reply
told stamp number reply = record { number = number; stamp = stamp; reply = reply }

pub one_put : Ends (deployment 0 0 0) [] [] (Submit (Client 0) put_alpha ∷ Flush 100 ∷ [])
    (record { agreed = ((0, 1) ∷ []) ∷ []; accepted = (told 1 1 Done ∷ []) ∷ [] ∷ []; cross = 1 ∷ []; rest = true; events = 7; frames = 6 })
unfolding u32 text_bytes name_cmp
one_put = refl

pub delivered_twice : Ends (deployment 0 0 0) [] [] (Submit (Client 0) put_alpha ∷ Flush 100 ∷ Deliver 1 ∷ [])
    (record { agreed = ((0, 1) ∷ []) ∷ []; accepted = (told 1 1 Done ∷ []) ∷ [] ∷ []; cross = 2 ∷ []; rest = false; events = 8; frames = 7 })
unfolding u32 text_bytes name_cmp
delivered_twice = refl

pub hidden_record : Ends (deployment 0 0 0) (record { owner = 1; key = 97 ∷ []; value = 49 ∷ []; readers = [] } ∷ []) [] (Submit (Client 0) get_alpha ∷ Flush 100 ∷ [])
    (record { agreed = ((0, 1) ∷ []) ∷ []; accepted = (told 1 1 Absent ∷ []) ∷ [] ∷ []; cross = 1 ∷ []; rest = true; events = 7; frames = 6 })
unfolding u32 text_bytes name_cmp
hidden_record = refl

pub four_nodes : Ends (deployment 1 0 0) [] [] (Submit (Client 0) put_alpha ∷ Flush 1000 ∷ [])
    (record { agreed = ((0, 1) ∷ []) ∷ []; accepted = (told 1 1 Done ∷ []) ∷ [] ∷ []; cross = 4 ∷ []; rest = true; events = 43; frames = 42 })
unfolding u32 text_bytes name_cmp
four_nodes = refl

pub whole_grid : Ends (deployment 1 1 1) [] [] (Submit (Client 0) put_alpha ∷ Flush 1000 ∷ [])
    (record { agreed = ((0, 1) ∷ []) ∷ []; accepted = (told 1 1 Done ∷ []) ∷ [] ∷ []; cross = 8 ∷ 4 ∷ []; rest = true; events = 69; frames = 68 })
unfolding u32 text_bytes name_cmp
whole_grid = refl

-- a filter gets the reply before the agreed frame, holds it, and sends it to who asks
pub out_of_order : Ends (deployment 0 0 1) [] []
    (Submit (Client 0) put_alpha ∷ Deliver 0 ∷ Deliver 1 ∷ Deliver 3 ∷ Deliver 5 ∷ Deliver 6 ∷ Deliver 9 ∷ Deliver 2 ∷ Deliver 10 ∷ Deliver 11 ∷ [])
    (record { agreed = ((0, 1) ∷ []) ∷ []; accepted = (told 1 1 Done ∷ []) ∷ [] ∷ []; cross = 1 ∷ 2 ∷ []; rest = false; events = 10; frames = 12 })
unfolding u32 text_bytes name_cmp
out_of_order = refl

-- one seat of each kind is silent
pub silent_seats : Ends (deployment 1 1 1) [] (Agree 3 ∷ Exec 2 ∷ Filter 0 1 ∷ []) (Submit (Client 0) put_alpha ∷ Flush 1000 ∷ [])
    (record { agreed = ((0, 1) ∷ []) ∷ []; accepted = (told 1 1 Done ∷ []) ∷ [] ∷ []; cross = 4 ∷ 4 ∷ []; rest = true; events = 37; frames = 51 })
unfolding u32 text_bytes name_cmp
silent_seats = refl

abbrev pub other_answer : List Given
other_answer = record { client = 0; stamp = 1; body = 1 ∷ 0 ∷ 1 ∷ 2 ∷ 99 ∷ [] } ∷ []

-- an executor shares another answer
pub wrong_share : Ends (deployment 1 1 1) [] (Exec 2 ∷ [])
    (Submit (Client 0) put_alpha
    ∷ Tells (Gives (Exec 2) (Filter 1 0) (Shares (record { number = 1; exec = 2; answers = other_answer; values = toy_sign (slots.Reply 1) 3 (reply_text 1 other_answer) })))
    ∷ Flush 1000 ∷ [])
    (record { agreed = ((0, 1) ∷ []) ∷ []; accepted = (told 1 1 Done ∷ []) ∷ [] ∷ []; cross = 8 ∷ 4 ∷ []; rest = true; events = 66; frames = 67 })
unfolding u32 text_bytes name_cmp
wrong_share = refl

-- a filter sends a reply down once more
pub copied_reply : Ends (deployment 0 0 1) [] (Filter 0 1 ∷ []) (Submit (Client 0) put_alpha ∷ Flush 100 ∷ Tells (Copies (Filter 0 1) (Agree 0) 10) ∷ Flush 100 ∷ [])
    (record { agreed = ((0, 1) ∷ []) ∷ []; accepted = (told 1 1 Done ∷ []) ∷ [] ∷ []; cross = 2 ∷ 4 ∷ []; rest = true; events = 14; frames = 16 })
unfolding u32 text_bytes name_cmp
copied_reply = refl
