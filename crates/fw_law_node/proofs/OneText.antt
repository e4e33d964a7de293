-- At each of its slots a node has made one text.
use Rattle.std.proofs.Common.{ℕ, ◌≡◌, List, sym, ◌∙◌, ap}
use Rattle.fw_base.specs.declared.slot.Slot.{Slot}
use Rattle.fw_base.specs.declared.slot.Slot.TheVariants as slots
use Rattle.fw_text.specs.Texts.{Text, Voted}
use Rattle.fw_trace.specs.declared.Input.{Input}
use Rattle.fw_frame.specs.View.{Change}
use Rattle.fw_rules.specs.Signing.{entry_digest, change_text, new_view_text}
use Rattle.fw_rules.specs.Agree.{Self, Own, Cast, Pledge, Adopted}
use Rattle.fw_rules.specs.Views.{bare_new_view}
use Rattle.fw_law_node.specs.Once.{DidOnce, own_after, cast_place, pledge_place, change_place, adopted_place}
use Rattle.fw_law_node.specs.Sources.{Names}
use Rattle.fw_law_node.proofs.Once.{once_same, did_once}

same_pair : (a b c d v n : ℕ) → a ≡ v → b ≡ n → c ≡ v → d ≡ n → ◌≡◌ {A = ℕ × ℕ} (a, b) (c, d)
same_pair a b c d v n av bn cv dn = ap (λ (k : ℕ). (k, b)) (av ∙ sym cv) ∙ ap (λ (k : ℕ). (c, k)) (bn ∙ sym dn)

pub names_once : {M : Type 0} (me : Self M) (own : Own) → DidOnce own → (slot : Slot) (s t : Text) → Names me own slot s → Names me own slot t → s ≡ t
names_once me own once (slots.Prepare v n i) s t a b =
    let same = once_same cast_place own.casts a.1.0 b.1.0 once.casts a.1.1 b.1.1 (same_pair a.1.0.view a.1.0.number b.1.0.view b.1.0.number v n a.1.2 a.1.3 b.1.2 b.1.3) in
    a.1.4 ∙ ap (λ (c : Cast). Voted 0 v n (entry_digest me.means.hash c.entry)) same ∙ sym b.1.4
names_once me own once (slots.Commit v n i) s t a b =
    let same = once_same pledge_place own.pledges a.1.0 b.1.0 once.pledges a.1.1 b.1.1 (same_pair a.1.0.view a.1.0.number b.1.0.view b.1.0.number v n a.1.2 a.1.3 b.1.2 b.1.3) in
    a.1.4 ∙ ap (λ (c : Pledge). Voted 1 v n c.digest) same ∙ sym b.1.4
names_once me own once (slots.Change v i) s t a b =
    let same = once_same change_place own.moves a.1.0 b.1.0 once.moves a.1.1 b.1.1 (a.1.2 ∙ sym b.1.2) in
    a.1.3 ∙ ap (λ (c : Change). change_text me.means.hash c) same ∙ sym b.1.3
names_once me own once (slots.NewView v i) s t a b =
    let same = once_same adopted_place own.adopted a.1.0 b.1.0 once.adopted a.1.1 b.1.1 (a.1.2 ∙ sym b.1.2) in
    a.1.3 ∙ ap (λ (c : Adopted). new_view_text me.means.hash (bare_new_view v c.changes)) same ∙ sym b.1.3
names_once me own once (slots.Request c k) s t a b = absurd a
names_once me own once (slots.Reply n) s t a b = absurd a

pub one_text : {M O : Type 0} (me : Self M) (h : List (Input M O)) (slot : Slot) (s t : Text) → Names me (own_after me h) slot s → Names me (own_after me h) slot t → s ≡ t
one_text me h slot s t a b = names_once me (own_after me h) (did_once me h) slot s t a b
