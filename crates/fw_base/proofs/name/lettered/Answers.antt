use Rattle.std.proofs.Common.{subst, sym, ap, ◌∙◌, ◌<◌, [], ◌∷◌}
use Rattle.fw_base.proofs.Naming.{no_agreement_node, no_client}
use Rattle.fw_base.proofs.name.lettered.Goals as goal

-- src/name.rt:67:9
pub returns-in-None : goal.returns-in-None
returns-in-None c = λ seat within e. no_agreement_node c.args.params.now c.args.digit seat (λ n few. c.in-None.ensures n (subst (λ m. n < m) (sym c.agreements.ensures) few)) within (ap (λ l. l ∷ c.args.digit ∷ []) (sym c.if-letter-eq97.true) ∙ e)

-- src/name.rt:79:9
pub returns-in-None-digit_of-2 : goal.returns-in-None-digit_of-2
returns-in-None-digit_of-2 c = λ seat within e. no_client c.args.params.now c.args.digit seat c.in-None-digit_of-2.ensures within (ap (λ l. l ∷ c.args.digit ∷ []) (sym c.if-letter-eq99.true) ∙ e)
