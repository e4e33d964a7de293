-- A frame tells an entry where it is a valid agreed frame.
use Rattle.std.proofs.Common.{◌≡◌, ◌∙◌, ap, sym, Some, not}
use Rattle.std.specs.Prelude.{option_map}
use Rattle.fw_frame.specs.declared.frame.Frame.{Frame}
use Rattle.fw_frame.specs.Plain.{plain}
use Rattle.fw_frame.specs.Undoing.{frame_in}
use Rattle.fw_valid.specs.Validity.{IsValidFrame}
use Rattle.fw_means.proofs.Admitting as admitting
use Rattle.fw_seen.proofs.Told.{other_kind, not_valid, is_agreed, invalid_is, valid_is, kept_same, kept_new}
use Rattle.fw_seen.proofs.entries.keep.Goals as goal

pub returns-in_default-agreed_of : goal.returns-in_default-agreed_of
returns-in_default-agreed_of g c = λ n.
    let found : frame_in c.args.directory.now.params c.args.bytes.now ≡ Some (plain c.in-Some.frame) =
    admitting.read_is c.args.directory.now _ c.args.bytes.now _ c.params.ensures.same c.in_ok-frame.ensures.value ∙ ap (option_map plain) c.in-Some.is in
    kept_same _ n _ (other_kind c.args.directory.now c.args.bytes.now (plain c.in-Some.frame) found (sym c.in_default-agreed_of.ensures))

pub returns-then-is_none : goal.returns-then-is_none
returns-then-is_none g c = λ n.
    let found : frame_in c.args.directory.now.params c.args.bytes.now ≡ Some (plain c.in-Some.frame) =
    admitting.read_is c.args.directory.now _ c.args.bytes.now _ c.params.ensures.same c.in_ok-frame.ensures.value ∙ ap (option_map plain) c.in-Some.is in
    kept_same _ n _ (not_valid c.args.directory.now c.args.bytes.now (plain c.in-Some.frame) found
    (invalid_is c.check.result _ (c.is_none.ensures ∙ ap not c.if-is_none.true) c.check.ensures.none))

pub returns : goal.returns
returns g c = λ n.
    let frame = plain c.in-Some.frame in
    let found : frame_in c.args.directory.now.params c.args.bytes.now ≡ Some frame =
    admitting.read_is c.args.directory.now _ c.args.bytes.now _ c.params.ensures.same c.in_ok-frame.ensures.value ∙ ap (option_map plain) c.in-Some.is in
    let valid : IsValidFrame c.args.directory.now frame =
    valid_is c.check.result (λ (f : Frame). f ≡ c.in-Some.frame) _ (c.is_none.ensures ∙ ap not c.if-is_none.false) c.check.ensures.found in
    kept_new c.args.entries.now c.insert.new.self c.in-Some-agreed_of.number c.in-Some-agreed_of.entry _ c.in_ok-insert.ensures.updates (sym c.contains_key.ensures ∙ c.if-contains_key.false)
    (is_agreed c.args.directory.now c.args.bytes.now frame found valid ∙ sym c.in-Some-agreed_of.ensures) n
