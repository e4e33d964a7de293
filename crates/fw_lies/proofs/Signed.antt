-- The parts of a lie's frame have the dealt values.
use Rattle.std.proofs.Common.{ℕ, [], ◌∷◌, refl}
use Rattle.std.specs.Prelude.{Option, Some, None, IfSome, option_map, slice_get}
use Rattle.std.specs.List.{All}
use Rattle.std.proofs.lemmas.List.Elements.{All-nil, All-cons}
use Rattle.fw_base.specs.declared.seat.Seat.{Seat}
use Rattle.fw_base.specs.declared.seat.Seat.TheVariants.{Agree, Exec, Filter, Client}
use Rattle.fw_base.specs.declared.slot.Slot.{Slot}
use Rattle.fw_base.specs.declared.slot.Slot.TheVariants as slots
use Rattle.fw_base.specs.Sizes.{primary}
use Rattle.fw_text.specs.Texts.{Text, Voted, hash}
use Rattle.fw_step.specs.declared.step.Lie.{Lie}
use Rattle.fw_step.specs.declared.step.Lie.TheVariants as lies
use Rattle.fw_step.specs.declared.step.LieRequest.{LieRequest}
use Rattle.fw_secret.specs.Dealt.{Origin}
use Rattle.fw_frame.specs.Frames.{PlainRequest, PlainEntry}
use Rattle.fw_frame.specs.Parts.{Part, parts, request_text, entry_digest, vote_slot}
use Rattle.fw_lies.specs.Signing.{signature_of}
use Rattle.fw_lies.specs.Lying.{request_of, proposal_of, lie_frame}
use Rattle.fw_lies.specs.Laws.{HasDealt}

-- of one part
one : (o : Origin) (part : Part) → HasDealt o part → All (HasDealt o) (part ∷ [])
one o part has = All-cons (HasDealt o) part [] has (All-nil (HasDealt o))

-- of a proposal: of its entry, and its own
abbrev asked_part : PlainRequest → Part
asked_part r = record { slot = slots.Request r.client r.stamp; point = 0; text = request_text r; values = r.sig }

abbrev own_part : Origin → ℕ → ℕ → PlainEntry → Part
own_part o view number entry =
    let slot : Slot = vote_slot 0 view number (primary o.params view) in
    let text : Text = Voted 0 view number (entry_digest hash entry) in
    record { slot = slot; point = 0; text = text; values = signature_of o slot 0 text }

of_proposal : (o : Origin) (view number : ℕ) (asked : Option LieRequest) → All (HasDealt o) (parts o.params hash (proposal_of o view number (option_map (request_of o) asked)))
of_proposal o view number None = one o (own_part o view number None) refl
of_proposal o view number (Some r) =
    let asked : Part = asked_part (request_of o r) in
    let own : Part = own_part o view number (Some (request_of o r)) in
    All-cons (HasDealt o) asked (own ∷ []) refl (one o own refl)

pub of_lie : (o : Origin) (from : Seat) (lie : Lie) → IfSome (lie_frame o from lie) (λ frame. All (HasDealt o) (parts o.params hash frame))
of_lie o from (lies.Raw bytes) = tt
of_lie o from (lies.Copy frame) = tt
of_lie o from (lies.Request request) = one o _ refl
of_lie o from (lies.Propose view number entry) = of_proposal o view number (slice_get entry 0)
of_lie o (Agree i) (lies.Vote phase view number entry) = one o _ refl
of_lie o (Exec j) (lies.Vote phase view number entry) = tt
of_lie o (Filter r k) (lies.Vote phase view number entry) = tt
of_lie o (Client k) (lies.Vote phase view number entry) = tt
of_lie o (Agree i) (lies.Change view) = one o _ refl
of_lie o (Exec j) (lies.Change view) = tt
of_lie o (Filter r k) (lies.Change view) = tt
of_lie o (Client k) (lies.Change view) = tt
of_lie o (Agree i) (lies.Share number answer) = tt
of_lie o (Exec j) (lies.Share number answer) = one o _ refl
of_lie o (Filter r k) (lies.Share number answer) = tt
of_lie o (Client k) (lies.Share number answer) = tt
of_lie o from (lies.Reply number answer) = one o _ refl
