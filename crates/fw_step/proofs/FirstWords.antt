-- A first word tells the kind of a lie or a step.
use Rattle.std.proofs.Common.{◌≡◌, ℕ, ◌+◌, ◌*◌, List, [], ◌∷◌, get_or, Ok, refl, ap, codes, decimal}
use Rattle.std.proofs.lemmas.Bool.{eqb-false}
use Rattle.hex.specs.Hex.{decode_of}
use Rattle.fw_base.specs.declared.seat.Seat.{Seat}
use Rattle.fw_base.specs.Names.{seat_name}
use Rattle.fw_op.specs.declared.op.Op.{Op}
use Rattle.fw_op.specs.Ops.{op_words}
use Rattle.fw_op.specs.Words.{client_word}
use Rattle.fw_step.specs.declared.step.Step.{Step}
use Rattle.fw_step.specs.declared.step.Step.TheVariants as steps
use Rattle.fw_step.specs.declared.step.Lie.{Lie}
use Rattle.fw_step.specs.declared.step.Lie.TheVariants as lies
use Rattle.fw_step.specs.declared.step.LieRequest.{LieRequest}
use Rattle.fw_step.specs.declared.step.LieReply.{LieReply}
use Rattle.fw_step.specs.Spelling.{request_words, entry_words, answer_words, phase_word, lie_words, step_words, AreLieDigits, AreLieWords, AreStepWords}

-- the first and the third letter of the first word, as one number
abbrev letters : List (List ℕ) → ℕ
letters words = get_or (get_or words 0 []) 0 0 * 256 + get_or (get_or words 0 []) 2 0

pub is_raw : (words : List (List ℕ)) (thing : Lie) → AreLieWords (codes "raw" ∷ words) thing
    → (bytes : List ℕ) × (digits : List ℕ) × (thing ≡ lies.Raw bytes) × (decode_of digits ≡ Ok bytes) × (words ≡ digits ∷ [])
is_raw words (lies.Raw bytes) are = (bytes, are.0, refl, are.1, cc)
is_raw words thing are = absurd (eqb-false (letters (codes "raw" ∷ words)) (letters (lie_words are.0 thing)) refl (ap letters are.2))

pub is_copy : (words : List (List ℕ)) (thing : Lie) → AreLieWords (codes "copy" ∷ words) thing
    → (frame : ℕ) × (thing ≡ lies.Copy frame) × (words ≡ decimal frame ∷ [])
is_copy words (lies.Copy frame) are = (frame, refl, cc)
is_copy words thing are = absurd (eqb-false (letters (codes "copy" ∷ words)) (letters (lie_words are.0 thing)) refl (ap letters are.2))

pub is_request : (words : List (List ℕ)) (thing : Lie) → AreLieWords (codes "request" ∷ words) thing
    → (request : LieRequest) × (thing ≡ lies.Request request) × (words ≡ request_words request)
is_request words (lies.Request request) are = (request, refl, cc)
is_request words thing are = absurd (eqb-false (letters (codes "request" ∷ words)) (letters (lie_words are.0 thing)) refl (ap letters are.2))

pub is_propose : (words : List (List ℕ)) (thing : Lie) → AreLieWords (codes "propose" ∷ words) thing
    → (view : ℕ) × (number : ℕ) × (entry : List LieRequest) × (thing ≡ lies.Propose view number entry) × (words ≡ decimal view ∷ decimal number ∷ entry_words entry)
is_propose words (lies.Propose view number entry) are = (view, number, entry, refl, cc)
is_propose words thing are = absurd (eqb-false (letters (codes "propose" ∷ words)) (letters (lie_words are.0 thing)) refl (ap letters are.2))

pub is_vote : (words : List (List ℕ)) (thing : Lie) → AreLieWords (codes "vote" ∷ words) thing
    → (phase : ℕ) × (view : ℕ) × (number : ℕ) × (entry : List LieRequest) × (thing ≡ lies.Vote phase view number entry) × (words ≡ phase_word phase ∷ decimal view ∷ decimal number ∷ entry_words entry)
is_vote words (lies.Vote phase view number entry) are = (phase, view, number, entry, refl, cc)
is_vote words thing are = absurd (eqb-false (letters (codes "vote" ∷ words)) (letters (lie_words are.0 thing)) refl (ap letters are.2))

pub is_change : (words : List (List ℕ)) (thing : Lie) → AreLieWords (codes "change" ∷ words) thing
    → (view : ℕ) × (thing ≡ lies.Change view) × (words ≡ decimal view ∷ [])
is_change words (lies.Change view) are = (view, refl, cc)
is_change words thing are = absurd (eqb-false (letters (codes "change" ∷ words)) (letters (lie_words are.0 thing)) refl (ap letters are.2))

pub is_share : (words : List (List ℕ)) (thing : Lie) → AreLieWords (codes "share" ∷ words) thing
    → (number : ℕ) × (answer : List LieReply) × (thing ≡ lies.Share number answer) × (words ≡ decimal number ∷ answer_words answer)
is_share words (lies.Share number answer) are = (number, answer, refl, cc)
is_share words thing are = absurd (eqb-false (letters (codes "share" ∷ words)) (letters (lie_words are.0 thing)) refl (ap letters are.2))

pub is_reply : (words : List (List ℕ)) (thing : Lie) → AreLieWords (codes "reply" ∷ words) thing
    → (number : ℕ) × (answer : List LieReply) × (thing ≡ lies.Reply number answer) × (words ≡ decimal number ∷ answer_words answer)
is_reply words (lies.Reply number answer) are = (number, answer, refl, cc)
is_reply words thing are = absurd (eqb-false (letters (codes "reply" ∷ words)) (letters (lie_words are.0 thing)) refl (ap letters are.2))

pub is_submit : (words : List (List ℕ)) (thing : Step) → AreStepWords (codes "submit" ∷ words) thing
    → (client : ℕ) × (op : Op) × (thing ≡ steps.Submit client op) × (words ≡ client_word client ∷ op_words op)
is_submit words (steps.Submit client op) are = (client, op, refl, cc)
is_submit words thing are = absurd (eqb-false (letters (codes "submit" ∷ words)) (letters (step_words are.0 thing)) refl (ap letters are.2))

pub is_deliver : (words : List (List ℕ)) (thing : Step) → AreStepWords (codes "deliver" ∷ words) thing
    → (frame : ℕ) × (thing ≡ steps.Deliver frame) × (words ≡ decimal frame ∷ [])
is_deliver words (steps.Deliver frame) are = (frame, refl, cc)
is_deliver words thing are = absurd (eqb-false (letters (codes "deliver" ∷ words)) (letters (step_words are.0 thing)) refl (ap letters are.2))

pub is_flush : (words : List (List ℕ)) (thing : Step) → AreStepWords (codes "flush" ∷ words) thing
    → (most : ℕ) × (thing ≡ steps.Flush most) × (words ≡ decimal most ∷ [])
is_flush words (steps.Flush most) are = (most, refl, cc)
is_flush words thing are = absurd (eqb-false (letters (codes "flush" ∷ words)) (letters (step_words are.0 thing)) refl (ap letters are.2))

pub is_tick : (words : List (List ℕ)) (thing : Step) → AreStepWords (codes "tick" ∷ words) thing
    → (seat : Seat) × (thing ≡ steps.Tick seat) × (words ≡ seat_name seat ∷ [])
is_tick words (steps.Tick seat) are = (seat, refl, cc)
is_tick words thing are = absurd (eqb-false (letters (codes "tick" ∷ words)) (letters (step_words are.0 thing)) refl (ap letters are.2))

pub is_lie : (words : List (List ℕ)) (thing : Step) → AreStepWords (codes "lie" ∷ words) thing
    → (from : Seat) × (to : Seat) × (lie : Lie) × (digits : List ℕ) × (thing ≡ steps.Lie from to lie) × AreLieDigits digits lie × (words ≡ seat_name from ∷ seat_name to ∷ lie_words digits lie)
is_lie words (steps.Lie from to lie) are = (from, to, lie, are.0, refl, are.1, cc)
is_lie words thing are = absurd (eqb-false (letters (codes "lie" ∷ words)) (letters (step_words are.0 thing)) refl (ap letters are.2))
