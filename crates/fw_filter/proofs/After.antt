-- What a filter keeps and sends after one more input of a history.
use Rattle.std.proofs.Common.{◌≡◌, ℕ, ◌∷◌, ◌++◌, ap, sym, subst, ◌∙◌}
use Rattle.fw_trace.specs.Filter as filters
use Rattle.fw_trace.specs.Role.{kept, sends}
use Rattle.fw_directory.specs.Directories.{PlainDirectory}
use Rattle.fw_hand.specs.Hands.{PlainHand}
use Rattle.fw_node.specs.Histories.{Taken, History, Out}
use Rattle.fw_filter.specs.Sifting.{Keeps, IsReady, Does}
use Rattle.fw_filter.specs.Standing.{next_of, speech_of}
use Rattle.fw_filter.proofs.Ready.{ready-after}
use Rattle.fw_filter.proofs.Heard.{speaks-in}

-- it is ready after each history
pub stands-ready : (d : PlainDirectory) (hand : PlainHand) (r c : ℕ) (x : Keeps) (h : History) → x ≡ kept (filters.filter_role (speech_of r c hand d)) h → IsReady (speech_of r c hand d) x
stands-ready d hand r c x h stands =
    subst (IsReady (speech_of r c hand d)) (sym stands) (ready-after d.params r (speech_of r c hand d) (speaks-in d hand r c) h)

pub stands-more : (d : PlainDirectory) (hand : PlainHand) (r later c : ℕ) (old new : Keeps) (h : History) (i : Taken) (before after : Out) → later ≡ r → old ≡ kept (filters.filter_role (speech_of r c hand d)) h
    → Does new before after (next_of (speech_of r c hand d) old i) → new ≡ kept (filters.filter_role (speech_of later c hand d)) (i ∷ h)
stands-more d hand r later c old new h i before after row stands does =
    does.0
    ∙ ap (λ (x : Keeps). (next_of (speech_of r c hand d) x i).0) stands
    ∙ ap (λ (n : ℕ). kept (filters.filter_role (speech_of n c hand d)) (i ∷ h)) (sym row)

pub sent-more : (d : PlainDirectory) (hand : PlainHand) (r c : ℕ) (old new : Keeps) (h : History) (i : Taken) (before after : Out) → old ≡ kept (filters.filter_role (speech_of r c hand d)) h
    → Does new before after (next_of (speech_of r c hand d) old i) → after ≡ before ++ sends (filters.filter_role (speech_of r c hand d)) (i ∷ h)
sent-more d hand r c old new h i before after stands does =
    does.1 ∙ ap (λ (x : Keeps). before ++ (next_of (speech_of r c hand d) x i).1) stands
