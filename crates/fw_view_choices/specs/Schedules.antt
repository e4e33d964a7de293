-- Schedules after which a new view has proofs of one number from two views, with nobody faulty.
use Rattle.std.specs.Prelude.{ℕ, true, [], ◌∷◌}
use Rattle.fw_base.specs.declared.params.Params.{Params}
use Rattle.fw_base.specs.declared.seat.Seat.TheVariants.{Client}
use Rattle.fw_op.specs.declared.op.Op.{Op}
use Rattle.fw_op.specs.declared.op.Op.TheVariants.{Put}
use Rattle.fw_op.specs.declared.reply.Reply.TheVariants.{Done}
use Rattle.fw_trace.specs.Run.{Submit, Deliver, Flush}
use Rattle.fw_rules.specs.Rows.{put_alpha, Steps, told}
use Rattle.fw_rules.specs.Toy.{Row}
use Rattle.fw_view_runs.specs.Runs.{put_beta, patience_ends}

abbrev pub put_gamma : Op
put_gamma = Put (99 ∷ []) (51 ∷ [])

abbrev pub put_delta : Op
put_delta = Put (100 ∷ []) (52 ∷ [])

abbrev pub three_views : ℕ → ℕ → Params
three_views clients stamps = record { f = 1; g = 0; h = 0; numbers = 8; views = 3; clients = clients; stamps = stamps; pipe = 8 }

-- four requests, and proofs of one number in two views: in the new view of view 2 number 1 has its proofs in the order view 0 (beta), view 1
-- (alpha), number 3 in the order view 1 (gamma), view 0 (delta), and number 2 has none
abbrev pub two_views : Steps
two_views =
    -- four requests; a0 hears beta, alpha, delta, gamma, all others alpha, beta, gamma, delta
    Submit (Client 0) put_alpha ∷ Submit (Client 1) (put_beta 50) ∷ Submit (Client 2) put_gamma ∷ Submit (Client 3) put_delta ∷ Deliver 4 ∷ Deliver 0 ∷ Deliver 12 ∷ Deliver 8 ∷ Deliver 1 ∷ Deliver 5 ∷ Deliver 9 ∷ Deliver 13 ∷ Deliver 2 ∷ Deliver 6 ∷ Deliver 10 ∷ Deliver 14 ∷ Deliver 3 ∷ Deliver 7 ∷ Deliver 11 ∷ Deliver 15 ∷
    -- view 0: a2 alone comes to hold proofs, of beta at 1 and of delta at 3
    Deliver 18 ∷ Deliver 17 ∷ Deliver 30 ∷ Deliver 24 ∷ Deliver 23 ∷ Deliver 39 ∷
    -- view 1: its new view has the view changes of a0, a1 and a3, which have no proofs
    patience_ends 0 (patience_ends 1 (patience_ends 3 (Deliver 52 ∷ Deliver 65 ∷
    -- a1 proposes alpha, beta, gamma, delta at 1 to 4; a3 alone comes to hold a proof at 1 (alpha), a1 alone at 3 (gamma)
    Deliver 67 ∷ Deliver 69 ∷ Deliver 70 ∷ Deliver 72 ∷ Deliver 76 ∷ Deliver 78 ∷ Deliver 84 ∷ Deliver 88 ∷ Deliver 92 ∷
    -- view 2: its new view has the view changes of a1 (gamma at 3, of view 1), a2 (beta at 1 and delta at 3, of view 0) and a3 (alpha at 1, of view 1)
    patience_ends 1 (patience_ends 3 (Deliver 107 ∷ Deliver 123 ∷
    -- all that was held back comes
    Flush 10000 ∷ [])))))

-- number 1 is committed and answered in view 1; in the new view of view 2 an older proof of another request stands first
abbrev pub older_first : Steps
older_first =
    -- two requests; a0 hears beta first, all others alpha
    Submit (Client 0) put_alpha ∷ Submit (Client 1) (put_beta 50) ∷ Deliver 4 ∷ Deliver 0 ∷ Deliver 1 ∷ Deliver 5 ∷ Deliver 2 ∷ Deliver 6 ∷ Deliver 3 ∷ Deliver 7 ∷
    -- view 0: a0 alone comes to hold a proof, of beta at 1
    Deliver 8 ∷ Deliver 14 ∷ Deliver 10 ∷ Deliver 17 ∷
    -- view 1: its new view has the view changes of a1, a2 and a3, which have no proofs
    patience_ends 1 (patience_ends 2 (patience_ends 3 (Deliver 33 ∷ Deliver 42 ∷
    -- a1, a2 and a3 prepare and commit alpha at 1; its reply is accepted
    Deliver 45 ∷ Deliver 48 ∷ Deliver 46 ∷ Deliver 49 ∷ Deliver 54 ∷ Deliver 55 ∷ Deliver 57 ∷ Deliver 58 ∷ Deliver 66 ∷ Deliver 60 ∷ Deliver 68 ∷ Deliver 69 ∷ Deliver 70 ∷ Deliver 72 ∷ Deliver 75 ∷
    -- view 2: its new view has the view changes of a0 (beta, of view 0), a1 (alpha, of view 1), a2 (alpha, of view 1)
    patience_ends 0 (patience_ends 0 (patience_ends 1 (Deliver 98 ∷ Deliver 107 ∷
    -- a2 commits number 1 in view 2 before it hears the commit votes of view 1
    Deliver 112 ∷ Deliver 115 ∷ Deliver 113 ∷ Deliver 116 ∷ Deliver 121 ∷ Deliver 122 ∷ Deliver 124 ∷ Deliver 125 ∷ Deliver 131 ∷ Deliver 128 ∷
    -- all that was held back comes
    Flush 10000 ∷ []))))))

-- the same, where it stands last
abbrev pub older_last : Steps
older_last =
    -- two requests; a0 hears beta first, all others alpha
    Submit (Client 0) put_alpha ∷ Submit (Client 1) (put_beta 50) ∷ Deliver 4 ∷ Deliver 0 ∷ Deliver 1 ∷ Deliver 5 ∷ Deliver 2 ∷ Deliver 6 ∷ Deliver 3 ∷ Deliver 7 ∷
    -- view 0: a3 alone comes to hold a proof, of beta at 1
    Deliver 8 ∷ Deliver 10 ∷ Deliver 16 ∷
    -- view 1: its new view has the view changes of a0, a1 and a2, which have no proofs
    patience_ends 0 (patience_ends 1 (patience_ends 2 (Deliver 29 ∷ Deliver 42 ∷
    -- a0, a1 and a2 prepare and commit alpha at 1; its reply is accepted
    Deliver 44 ∷ Deliver 47 ∷ Deliver 45 ∷ Deliver 48 ∷ Deliver 53 ∷ Deliver 54 ∷ Deliver 56 ∷ Deliver 57 ∷ Deliver 62 ∷ Deliver 60 ∷ Deliver 68 ∷ Deliver 69 ∷ Deliver 70 ∷ Deliver 72 ∷ Deliver 75 ∷
    -- view 2: its new view has the view changes of a0 (alpha, of view 1), a2 (alpha, of view 1), a3 (beta, of view 0)
    patience_ends 0 (patience_ends 3 (patience_ends 3 (Deliver 89 ∷ Deliver 114 ∷
    -- a2 commits number 1 in view 2 before it hears the commit votes of view 1
    Deliver 118 ∷ Deliver 121 ∷ Deliver 120 ∷ Deliver 123 ∷ Deliver 129 ∷ Deliver 128 ∷ Deliver 130 ∷ Deliver 132 ∷ Deliver 137 ∷ Deliver 135 ∷
    -- all that was held back comes
    Flush 10000 ∷ []))))))

-- alpha is agreed at 1, null at 2, gamma at 3, beta at 4, delta at 5
abbrev pub two_views_row : Row
two_views_row = record { agreed = ((0, 1) ∷ []) ∷ [] ∷ ((2, 1) ∷ []) ∷ ((1, 1) ∷ []) ∷ ((3, 1) ∷ []) ∷ []; accepted = (told 1 1 Done ∷ []) ∷ (told 1 4 Done ∷ []) ∷ (told 1 3 Done ∷ []) ∷ (told 1 5 Done ∷ []) ∷ []; cross = 20 ∷ []; rest = true; events = 350; frames = 331 }

-- alpha is agreed at 1, beta at 2
abbrev pub older_row : ℕ → ℕ → Row
older_row events frames = record { agreed = ((0, 1) ∷ []) ∷ ((1, 1) ∷ []) ∷ []; accepted = (told 1 1 Done ∷ []) ∷ (told 1 2 Done ∷ []) ∷ []; cross = 11 ∷ []; rest = true; events = events; frames = frames }
