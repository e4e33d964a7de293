-- What is left to show of `is_bad`.
use Rattle.std.proofs.Common.{◌≡◌, codes, refl, sym, ap, ◌∙◌}
use Rattle.std.proofs.lemmas.Slice.Eq.{bytes_eq-Decides}
use Rattle.fw_op.specs.Words.{sentence}
use Rattle.fw_op.proofs.Sentences.{sentence_words}
use Rattle.fw_step.proofs.text.is_bad.Goals as goal

pub returns : goal.returns
returns c =
    let decides = bytes_eq-Decides c.args.text.now (codes "bad") in (
      λ t. let same : c.args.text.now ≡ codes "bad" = decides.0 (sym c.eq.ensures ∙ t) in rw same refl,
      λ w. c.eq.ensures ∙ decides.1 (sym (sentence_words c.args.text.now) ∙ ap sentence w),
    )
