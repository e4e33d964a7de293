-- What is left to show of `command_of`.
use Rattle.std.proofs.Common.{◌≡◌, ◌∷◌, [], List, ℕ, map, ap, ap₂, ◌∙◌, sym, refl, subst, codes, IfSome, Some}
use Rattle.std.specs.String.{string_bytes}
use Rattle.fw_command.specs.declared.command.Command.{Command}
use Rattle.fw_command.specs.Commands.{IsCommand}
use Rattle.fw_command.proofs.Known.{single, pair, each_found, if_found}
use Rattle.fw_command.proofs.command.command_of.Goals as goal

pub returns-in-len1-clause-found : goal.returns-in-len1-clause-found
returns-in-len1-clause-found c =
    let is = single c.args.words.now c.word-item.result c.in-len1.len_at_least c.in-len1.len_below c.word-item.is in
    record {
      spelled = ap (map string_bytes) is ∙ ap (λ (b : List ℕ). b ∷ []) (sym c.as_str.ensures.value ∙ c.if-asks_replay.ensures.0 refl);
      fits = refl;
    }

pub returns-in-len2-clause-found : goal.returns-in-len2-clause-found
returns-in-len2-clause-found c =
    let is = pair c.args.words.now c.first-item.result c.word-item-then-words-lt3.result c.in-len2.len_at_least c.in-len2.len_below c.first-item.is c.word-item-then-words-lt3.is in
    let first : string_bytes c.first-item.result ≡ codes "deal" = sym c.as_str-then-words-lt3.ensures.value ∙ c.if-asks_deal.ensures.0 refl in
    let words : map string_bytes c.args.words.now ≡ codes "deal" ∷ c.as_str-in-len2.result.now ∷ [] =
    ap (map string_bytes) is ∙ ap₂ (λ (a b : List ℕ). a ∷ b ∷ []) first (sym c.as_str-in-len2.ensures.value) in
    subst (λ (ws : List (List ℕ)). IfSome c.deal_of.result (λ command. IsCommand ws command)) (sym words) (if_found (codes "deal" ∷ c.as_str-in-len2.result.now ∷ []) c.deal_of.result c.deal_of.ensures)

pub returns-in-len2-clause-each : goal.returns-in-len2-clause-each
returns-in-len2-clause-each c =
    let is = pair c.args.words.now c.first-item.result c.word-item-then-words-lt3.result c.in-len2.len_at_least c.in-len2.len_below c.first-item.is c.word-item-then-words-lt3.is in
    let first : string_bytes c.first-item.result ≡ codes "deal" = sym c.as_str-then-words-lt3.ensures.value ∙ c.if-asks_deal.ensures.0 refl in
    let words : map string_bytes c.args.words.now ≡ codes "deal" ∷ c.as_str-in-len2.result.now ∷ [] =
    ap (map string_bytes) is ∙ ap₂ (λ (a b : List ℕ). a ∷ b ∷ []) first (sym c.as_str-in-len2.ensures.value) in
    subst (λ (ws : List (List ℕ)). (command : Command) → IsCommand ws command → c.deal_of.result ≡ Some command) (sym words) (each_found (codes "deal" ∷ c.as_str-in-len2.result.now ∷ []) c.deal_of.result c.deal_of.ensures)
