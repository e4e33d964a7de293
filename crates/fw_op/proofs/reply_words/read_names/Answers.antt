-- What the check leaves to show of `read_names`.
use Rattle.std.proofs.Common.{◌≡◌, ◌∙◌, ap, ◌++◌, ◌∷◌, nat_le, length, map}
use Rattle.std.proofs.lemmas.Bool.{and_parts}
use Rattle.std.specs.List.{list_all}
use Rattle.fw_op.specs.Replies.{name_word, name_fits}
use Rattle.fw_op.proofs.Listing.{no_list}
use Rattle.fw_op.proofs.reply_words.read_names.Goals as goal

pub returns-in-None-clause-none : goal.returns-in-None-clause-none
returns-in-None-clause-none c = λ names fit.
    let fits = name_fits c.args.clients in
    let read : c.args.words.now ≡ map name_word c.loop-word.names ++ c.in-Some.word.now ∷ c.next.new.self =
    c.loop-word.invariant.read ∙ ap (λ ws. map name_word c.loop-word.names ++ ws) c.in-Some.ensures in
    no_list name_word fits c.args.words.now c.loop-word.names c.in-Some.word.now c.next.new.self read (rw c.in-None.is at c.name_of.ensures.none) names (and_parts (nat_le (length names) 24) (list_all fits names) fit).1
