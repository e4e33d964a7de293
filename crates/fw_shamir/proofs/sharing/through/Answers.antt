use Rattle.std.proofs.Common.{◌∙◌, List, ◌∷◌, length, ap, sym, lit<, arith}
use Rattle.fw_shamir.specs.Steps.{interpolated, HaveBytes}
use Rattle.fw_shamir.specs.declared.sharing.Point.{Point}
use Rattle.fw_shamir.proofs.Newton.{AreApart, at_fit}
use Rattle.fw_shamir.proofs.Existence.{points-give, have-polynomial}
use Rattle.fw_shamir.proofs.sharing.through.Goals as goal

pub returns-clause-any : goal.returns-clause-any
returns-clause-any c = λ cs low zero pass.
    let all : List Point = record { at = 0; value = c.args.byte } ∷ c.args.points.now in
    points-give all c.args.at cs (lit< tt, at_fit c.args.points.now c.copy_after.ensures.bytes) (c.requires.away, c.requires.distinct) low (zero, pass)
    ∙ sym (c.value_at.ensures ∙ ap (λ (ps : List Point). interpolated (length ps) c.args.at ps) c.copy_after.ensures.same)

pub returns-clause-exists : goal.returns-clause-exists
returns-clause-exists c =
    let all : List Point = record { at = 0; value = c.args.byte } ∷ c.args.points.now in
    let bytes : HaveBytes all = (lit< tt, omega arith, c.copy_after.ensures.bytes) in
    let apart : AreApart all = (c.requires.away, c.requires.distinct) in
    let found = have-polynomial all bytes apart in
    (found.0, found.1, found.2.0, found.2.1)
