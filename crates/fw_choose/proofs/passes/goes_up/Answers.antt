-- What is agreed at the number, where it is the next one.
use Rattle.std.proofs.Common.{◌≡◌, ℕ, Some, None, ap, sym, ◌∙◌}
use Rattle.std.proofs.lemmas.Option.{none-some, same_Some}
use Rattle.fw_rules.specs.Agree as agree
use Rattle.fw_owned.specs.declared.owned.OwnedAgreed.{OwnedAgreed}
use Rattle.fw_owned.specs.Pieces.{agreed_of}
use Rattle.fw_settled.specs.Queued.{next_up}
use Rattle.fw_choose.proofs.Choosing.{up_not, up_is}
use Rattle.fw_choose.proofs.Opening.{agreed_number, up_open}
use Rattle.fw_choose.proofs.passes.goes_up.Goals as goal

pub returns-in_default-clause-act : goal.returns-in_default-clause-act
returns-in_default-clause-act c = λ hand own.
    let none : next_up c.args.keeps.now.settled ≡ None = sym c.next_up.ensures ∙ c.in_default.is in
    up_not c.args.directory.now hand own c.args.keeps.now c.args.number (sym c.requires.1) (λ e. none-some _ (sym none ∙ e))

pub returns-then-next-number-clause-act : goal.returns-then-next-number-clause-act
returns-then-next-number-clause-act c = λ hand own.
    let next : next_up c.args.keeps.now.settled ≡ Some c.in-Some.next = sym c.next_up.ensures ∙ c.in-Some.is in
    up_not c.args.directory.now hand own c.args.keeps.now c.args.number (sym c.requires.1) (λ e. c.if-next-number.true (same_Some _ _ (sym next ∙ e)))

pub returns-in_ok-copy_agreed-in-Some-agreed_at-clause-act : goal.returns-in_ok-copy_agreed-in-Some-agreed_at-clause-act
returns-in_ok-copy_agreed-in-Some-agreed_at-clause-act c = λ hand own.
    let next : next_up c.args.keeps.now.settled ≡ Some c.args.number = sym c.next_up.ensures ∙ c.in-Some.is ∙ ap (λ (m : ℕ). Some m) c.if-next-number.false in
    ap (λ (b : OwnedAgreed). Some (agree.Up (agreed_of b))) c.in_ok-copy_agreed-in-Some-agreed_at.ensures
    ∙ up_is c.args.directory.now hand own c.args.keeps.now c.args.number c.in-Some-agreed_at.agreed.now (sym c.requires.1) next c.in-Some-agreed_at.ensures

pub returns-in_ok-copy_agreed-in-Some-agreed_at-clause-number : goal.returns-in_ok-copy_agreed-in-Some-agreed_at-clause-number
returns-in_ok-copy_agreed-in-Some-agreed_at-clause-number c =
    ap (λ (b : OwnedAgreed). b.number) c.in_ok-copy_agreed-in-Some-agreed_at.ensures ∙ agreed_number c.args.keeps.now c.args.number c.in-Some-agreed_at.agreed.now c.in-Some-agreed_at.ensures

pub returns-in_ok-copy_agreed-in-Some-agreed_at-clause-open : goal.returns-in_ok-copy_agreed-in-Some-agreed_at-clause-open
returns-in_ok-copy_agreed-in-Some-agreed_at-clause-open c =
    let next : next_up c.args.keeps.now.settled ≡ Some c.args.number = sym c.next_up.ensures ∙ c.in-Some.is ∙ ap (λ (m : ℕ). Some m) c.if-next-number.false in
    up_open c.args.keeps.now c.args.number c.in-Some-agreed_at.agreed.now c.in_ok-copy_agreed-in-Some-agreed_at.field-0 c.in-Some-agreed_at.ensures next c.in_ok-copy_agreed-in-Some-agreed_at.ensures
