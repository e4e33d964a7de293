-- What is left to show of `lie_of`.
use Rattle.std.proofs.Common.{◌≡◌, ◌∷◌, codes, ap, ◌∙◌}
use Rattle.std.proofs.lemmas.Result.{on_err_weaker}
use Rattle.fw_op.specs.Words.{words_of}
use Rattle.fw_step.proofs.Made.{moved_lie}
use Rattle.fw_step.proofs.lie.lie_of.Goals as goal

pub returns-in-raw-clause-memory : goal.returns-in-raw-clause-memory
returns-in-raw-clause-memory c =
    let rest = words_of c.in-Some.rest.now in
    let words : words_of c.args.text.now ≡ codes "raw" ∷ rest = c.in-Some.ensures ∙ ap (λ k. k ∷ rest) c.in-raw.is in
    on_err_weaker c.raw_of.result (λ m. (m.0, moved_lie c.args.params.now c.args.from (codes "raw" ∷ rest) (words_of c.args.text.now) m.0 words (m.1 c.args.params.now c.args.from))) c.raw_of.ensures.memory

pub returns-in-request-clause-memory : goal.returns-in-request-clause-memory
returns-in-request-clause-memory c =
    let rest = words_of c.in-Some.rest.now in
    let words : words_of c.args.text.now ≡ codes "request" ∷ rest = c.in-Some.ensures ∙ ap (λ k. k ∷ rest) c.in-request.is in
    on_err_weaker c.asked_of.result (λ m. (m.0, moved_lie c.args.params.now c.args.from (codes "request" ∷ rest) (words_of c.args.text.now) m.0 words (m.1 c.args.from))) c.asked_of.ensures.memory

pub returns-in-propose-clause-memory : goal.returns-in-propose-clause-memory
returns-in-propose-clause-memory c =
    let rest = words_of c.in-Some.rest.now in
    let words : words_of c.args.text.now ≡ codes "propose" ∷ rest = c.in-Some.ensures ∙ ap (λ k. k ∷ rest) c.in-propose.is in
    on_err_weaker c.proposal_of.result (λ m. (m.0, moved_lie c.args.params.now c.args.from (codes "propose" ∷ rest) (words_of c.args.text.now) m.0 words (m.1 c.args.from))) c.proposal_of.ensures.memory

pub returns-in-reply-clause-memory : goal.returns-in-reply-clause-memory
returns-in-reply-clause-memory c =
    let rest = words_of c.in-Some.rest.now in
    let words : words_of c.args.text.now ≡ codes "reply" ∷ rest = c.in-Some.ensures ∙ ap (λ k. k ∷ rest) c.in-reply.is in
    on_err_weaker c.reply_of.result (λ m. (m.0, moved_lie c.args.params.now c.args.from (codes "reply" ∷ rest) (words_of c.args.text.now) m.0 words (m.1 c.args.from))) c.reply_of.ensures.memory
