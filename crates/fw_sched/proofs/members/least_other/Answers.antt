-- What is left to show of `least_other`.
use Rattle.std.proofs.Common.{◌≡◌, true, false, List, ◌∷◌, Some, string_bytes, sym, ap, ◌∙◌, subst, arith}
use Rattle.std.proofs.lemmas.Grind.{common_steps}
use Rattle.std.specs.List.Sorted.{IsStrictlySortedBy}
use Rattle.std.specs.Map.{keys_of}
use Rattle.std.specs.String.{string_cmp}
use Rattle.toml.specs.View.{members_view}
use Rattle.fw_sched.specs.Members.{is_known, least_other}
use Rattle.fw_sched.proofs.Names.{Entry, first_other, known_first, ascend_behind}
use Rattle.fw_sched.proofs.members.least_other.Goals as goal

pub returns-then-not-is_known : goal.returns-then-not-is_known
returns-then-not-is_known c =
    let e : Entry = (c.in-Some.name.now, c.in-Some._value.now) in
    let next = c.next.new.self in
    let left : c.loop-name.name-iterator ≡ e ∷ next = grind (arith, common_steps) in
    let sorted = subst (λ (es : List Entry). IsStrictlySortedBy string_cmp (keys_of es)) left c.loop-name.invariant.ordered in
    let other : is_known (string_bytes e.0) ≡ false = ap is_known (sym c.as_str.ensures.value) ∙ sym c.is_known.ensures ∙ c.if-not-is_known.true in
    ap Some c.as_str-then-not-is_known.ensures.value ∙ sym (first_other e next sorted other) ∙ sym (ap (λ (es : List Entry). least_other (members_view es)) left) ∙ sym c.loop-name.invariant.same

pub loop-name-preserved : goal.loop-name-preserved
loop-name-preserved c =
    let e : Entry = (c.in-Some.name.now, c.in-Some._value.now) in
    let next = c.next.new.self in
    let left : c.loop-name.name-iterator ≡ e ∷ next = grind (arith, common_steps) in
    let sorted = subst (λ (es : List Entry). IsStrictlySortedBy string_cmp (keys_of es)) left c.loop-name.invariant.ordered in
    let known : is_known (string_bytes e.0) ≡ true = ap is_known (sym c.as_str.ensures.value) ∙ sym c.is_known.ensures ∙ c.if-not-is_known.false in
    record {
      can = tt;
      finite = tt;
      same = c.loop-name.invariant.same ∙ ap (λ (es : List Entry). least_other (members_view es)) left ∙ known_first e next known;
      ordered = ascend_behind e next sorted;
    }
