-- Whole runs of all four roles with view changes, computed from the rules alone.
use Rattle.std.specs.Prelude.{ℕ, true, [], ◌∷◌, refl}
use Rattle.fw_list.specs.Numbers.{u32}
use Rattle.fw_base.specs.declared.params.Params.{Params}
use Rattle.fw_base.specs.declared.seat.Seat.TheVariants.{Agree, Client}
use Rattle.fw_text.specs.Texts.{text_bytes}
use Rattle.fw_op.specs.declared.op.Op.{Op}
use Rattle.fw_op.specs.declared.op.Op.TheVariants.{Put, Get}
use Rattle.fw_op.specs.declared.reply.Reply.TheVariants.{Done, Value}
use Rattle.fw_store.specs.Store.{name_cmp}
use Rattle.fw_trace.specs.Run.{Step, Submit, Flush, Deliver, Tick_at, Lie as Tells}
use Rattle.fw_frame.specs.View.{Proposes, null_body}
use Rattle.fw_rules.specs.Agree.{own_proposal}
use Rattle.fw_rules.specs.Roles.{request_of}
use Rattle.fw_rules.specs.Toy.{toy_means, toy_bodies, Lie, Gives}
use Rattle.fw_rules.specs.Rows.{deployment, put_alpha, Steps, told}
use Rattle.fw_view_runs.specs.Whole.{EndsIn}

abbrev pub put_beta : ℕ → Op
put_beta v = Put (98 ∷ []) (v ∷ [])

-- an agreement node's clock ticks until it changes the view
abbrev pub patience_ends : ℕ → Steps → Steps
patience_ends i steps = Tick_at (Agree i) ∷ Tick_at (Agree i) ∷ Tick_at (Agree i) ∷ steps

-- the faulty first primary proposes a client's operation at a number to one node, or to all three others
abbrev pub proposes_to : Params → ℕ → ℕ → ℕ → ℕ → Op → Step Op Lie
proposes_to p to n c s op =
    Tells (Gives (Agree 0) (Agree to) (Proposes (own_proposal (record { own = 0; means = toy_means p }) 0 n (request_of (toy_means p) toy_bodies c s op ∷ []))))

abbrev pub proposes_to_all : Params → ℕ → ℕ → ℕ → Op → Steps → Steps
proposes_to_all p n c s op steps = proposes_to p 1 n c s op ∷ proposes_to p 2 n c s op ∷ proposes_to p 3 n c s op ∷ steps

-- the proposals of the first primary are slow, and the next primary orders the request
pub late_proposals : EndsIn (toy_means (deployment 1 0 0)) [] []
    (Submit (Client 0) put_alpha ∷ Deliver 1 ∷ Deliver 2 ∷ Deliver 3 ∷ patience_ends 1 (patience_ends 2 (patience_ends 3 (Flush 1000 ∷ []))))
    1 (record { agreed = ((0, 1) ∷ []) ∷ []; accepted = (told 1 1 Done ∷ []) ∷ [] ∷ []; cross = 4 ∷ []; rest = true; events = 70; frames = 60 })
unfolding u32 text_bytes name_cmp null_body
late_proposals = refl

-- the faulty first primary tells two nodes two stories
pub two_stories : EndsIn (toy_means (deployment 1 0 0)) [] (Agree 0 ∷ [])
    (Submit (Client 0) put_alpha ∷ Submit (Client 1) (put_beta 50) ∷ Flush 100 ∷ proposes_to (deployment 1 0 0) 1 1 0 1 put_alpha ∷ proposes_to (deployment 1 0 0) 2 1 1 1 (put_beta 50) ∷ Flush 100 ∷ patience_ends 1 (patience_ends 2 (patience_ends 3 (Flush 1000 ∷ []))))
    1 (record { agreed = ((0, 1) ∷ []) ∷ ((1, 1) ∷ []) ∷ []; accepted = (told 1 1 Done ∷ []) ∷ (told 1 2 Done ∷ []) ∷ []; cross = 8 ∷ []; rest = true; events = 85; frames = 100 })
unfolding u32 text_bytes name_cmp null_body
two_stories = refl

-- it proposes number 2 and no number 1, which becomes null
pub a_gap : EndsIn (toy_means (deployment 1 0 0)) [] (Agree 0 ∷ [])
    (Submit (Client 0) put_alpha ∷ Flush 100 ∷ proposes_to_all (deployment 1 0 0) 2 0 1 put_alpha (Flush 100 ∷ patience_ends 1 (patience_ends 2 (patience_ends 3 (Flush 1000 ∷ [])))))
    1 (record { agreed = [] ∷ ((0, 1) ∷ []) ∷ []; accepted = (told 1 2 Done ∷ []) ∷ [] ∷ []; cross = 8 ∷ []; rest = true; events = 79; frames = 94 })
unfolding u32 text_bytes name_cmp null_body
a_gap = refl

-- a faulty client has two bodies of one stamp ordered: the first alone is done
pub two_bodies_of_a_stamp : EndsIn (toy_means (deployment 1 0 0)) (record { owner = 1; key = 98 ∷ []; value = 48 ∷ []; readers = 0 ∷ [] } ∷ []) (Agree 0 ∷ Client 1 ∷ [])
    (proposes_to_all (deployment 1 0 0) 1 1 1 (put_beta 49) (proposes_to_all (deployment 1 0 0) 2 1 1 (put_beta 50) (Flush 1000 ∷ Submit (Client 0) (Get 1 (98 ∷ [])) ∷ proposes_to_all (deployment 1 0 0) 3 0 1 (Get 1 (98 ∷ [])) (Flush 1000 ∷ []))))
    0 (record { agreed = ((1, 1) ∷ []) ∷ ((1, 1) ∷ []) ∷ ((0, 1) ∷ []) ∷ []; accepted = (told 1 3 (Value (49 ∷ [])) ∷ []) ∷ [] ∷ []; cross = 12 ∷ []; rest = true; events = 76; frames = 103 })
unfolding u32 text_bytes name_cmp null_body
two_bodies_of_a_stamp = refl
