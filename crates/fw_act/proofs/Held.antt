-- Whether a reply of a number is held, as it is kept and as the rule sees it.
use Rattle.std.proofs.Common.{◌≡◌, ℕ, zero, suc, List, [], ◌∷◌, ◌++◌, Bool, true, false, map, Option, Some, None, refl, sym, ap, ◌∙◌}
use Rattle.std.specs.Prelude.{is_some, if◌then◌else◌}
use Rattle.std.proofs.lemmas.List.{append-nil}
use Rattle.std.specs.Borrow.{Bor}
use Rattle.std.specs.Option.{option_map, option_copied}
use Rattle.fw_base.specs.declared.seat.Seat.TheVariants.{Client}
use Rattle.fw_directory.specs.Directories.{PlainDirectory}
use Rattle.fw_hand.specs.Hands.{PlainHand}
use Rattle.fw_frame.specs.View.{Given, Reply, Replies, viewed_answers}
use Rattle.fw_means.specs.Means.{written}
use Rattle.fw_node.specs.Histories.{Out}
use Rattle.fw_rules.specs.Agree as agree
use Rattle.fw_rules.specs.Agree.{Node, Self}
use Rattle.fw_kept.specs.declared.keeps.Keeps.{Keeps}
use Rattle.fw_kept.specs.Kept.{self_of, node_of}
use Rattle.fw_owned.specs.declared.owned.OwnedReply.{OwnedReply}
use Rattle.fw_owned.specs.Pieces.{reply_of}
use Rattle.fw_settled.specs.Queued.{SettledNumbers, reply_in}
use Rattle.fw_owned.proofs.Found.{found_at, copied_some}

pub held_is : (held : List OwnedReply) (n : ℕ) (o : Option (Bor OwnedReply)) (b : Bool) → option_copied o ≡ reply_in held n → is_some o ≡ b → is_some (agree.reply_of (map reply_of held) n) ≡ b
held_is held n o b is test =
    ap is_some (sym (ap (option_map reply_of) is ∙ found_at reply_of (λ r. r.number) n held)) ∙ copied_some reply_of o ∙ test

copied_same : (o : Option (Bor OwnedReply)) → is_some (option_copied o) ≡ is_some o
copied_same None = refl
copied_same (Some r) = refl

pub in_is : (o : Option (Bor OwnedReply)) (found : Option OwnedReply) (b : Bool) → option_copied o ≡ found → is_some o ≡ b → is_some found ≡ b
in_is o found b is test = ap is_some (sym is) ∙ copied_same o ∙ test

-- ---- what the rule does with a reply

again : (me : Self (List ℕ)) (x : Node) (r : Reply) → is_some (agree.reply_of x.heard.held r.number) ≡ true → (x, []) ≡ agree.hears_reply me x r
again me x r held = rw held refl

pub again_kept : (me : Self (List ℕ)) (x : Node) (r : Reply) → is_some (agree.reply_of x.heard.held r.number) ≡ true → x ≡ (agree.hears_reply me x r).0
again_kept me x r held = ap (λ t. t.0) (again me x r held)

pub again_sent : (me : Self (List ℕ)) (x : Node) (r : Reply) (out : Out) → is_some (agree.reply_of x.heard.held r.number) ≡ true → out ≡ out ++ (agree.hears_reply me x r).1
again_sent me x r out held = sym (append-nil out) ∙ ap (λ t. out ++ t.1) (again me x r held)

first : (me : Self (List ℕ)) (x : Node) (r : Reply) → is_some (agree.reply_of x.heard.held r.number) ≡ false
    → (record x { heard = record x.heard { held = r ∷ x.heard.held } }, map (λ g. (Client g.client, me.means.write (Replies r))) r.answers) ≡ agree.hears_reply me x r
first me x r none = rw none refl

-- what is kept of the first reply of a number
pub first_kept : (me : Self (List ℕ)) (k : Keeps) (s : SettledNumbers) (reply : OwnedReply) (r : Reply) → s ≡ (if is_some (reply_in k.settled.held reply.number) then k.settled else record k.settled { held = reply ∷ k.settled.held })
    → is_some (reply_in k.settled.held reply.number) ≡ false → is_some (agree.reply_of (map reply_of k.settled.held) r.number) ≡ false → reply_of reply ≡ r → node_of (record k { settled = s }) ≡ (agree.hears_reply me (node_of k) r).0
first_kept me k s reply r held none fresh same =
    let now : s ≡ record k.settled { held = reply ∷ k.settled.held } = rw none at held in
    ap (λ (t : SettledNumbers). node_of (record k { settled = t })) now
    ∙ ap (λ (q : Reply). record (node_of k) { heard = record (node_of k).heard { held = q ∷ map reply_of k.settled.held } }) same
    ∙ ap (λ t. t.0) (first me (node_of k) r fresh)

-- what is sent of it
pub first_sent : (d : PlainDirectory) (hand : PlainHand) (own : ℕ) (x : Node) (r : Reply) (g : Given) (bytes : List ℕ) → is_some (agree.reply_of x.heard.held r.number) ≡ false → r.answers ≡ g ∷ [] → bytes ≡ written (Replies r)
    → (Client g.client, bytes) ∷ [] ≡ (agree.hears_reply (self_of d hand own) x r).1
first_sent d hand own x r g bytes none one is =
    ap (λ (b : List ℕ). (Client g.client, b) ∷ []) is
    ∙ ap (map (λ k. (Client k.client, written (Replies r)))) (sym one)
    ∙ ap (λ t. t.1) (first (self_of d hand own) x r none)

-- a reply as it is kept, of what was copied
pub same_reply : (number client stamp : ℕ) (body values body' values' : List ℕ) → body ≡ body' → values ≡ values' → reply_of (record { number = number; client = client; stamp = stamp; body = body; values = values }) ≡ record { number = number; answers = viewed_answers client stamp body'; values = values' }
same_reply number client stamp body values body' values' one other =
    ap (λ (b : List ℕ). reply_of (record { number = number; client = client; stamp = stamp; body = b; values = values })) one
    ∙ ap (λ (v : List ℕ). reply_of (record { number = number; client = client; stamp = stamp; body = body'; values = v })) other

pub one_answer : (client stamp : ℕ) (body : List ℕ) → (stamp ≡ 0 → ⊥) → viewed_answers client stamp body ≡ record { client = client; stamp = stamp; body = body } ∷ []
one_answer client zero body not = absurd (not refl)
one_answer client (suc s) body not = refl
