-- What is known of lists of one and of two items, and of words by their bytes.
use Rattle.std.proofs.Common.{◌≡◌, ◌<◌, ◌≤◌, ℕ, List, [], ◌∷◌, length, get_or, ap, ap₂, sym, ◌∙◌, arith, codes, Option, Some, None, IfSome, MatchOption, refl}
use Rattle.fw_base.specs.declared.seat.Seat.{Seat}
use Rattle.fw_base.specs.Names.{seat_name}
use Rattle.fw_command.specs.declared.command.Command.{Command}
use Rattle.fw_command.specs.declared.command.Command.TheVariants.{Replay, Deal}
use Rattle.fw_command.specs.Commands.{IsCommand, command_words}
use Rattle.fw_command.proofs.Naming.{same_seat, not_public}

pub single : {A : Type 0} (xs : List A) (x : A) → 1 ≤ length xs → length xs < 2 → x ≡ get_or xs 0 x → xs ≡ x ∷ []
single [] x some few read = absurd (omega arith)
single (y ∷ []) x some few read = ap (λ z. z ∷ []) (sym read)
single (y ∷ z ∷ ys) x some few read = absurd (omega arith)

pub pair : {A : Type 0} (xs : List A) (x y : A) → 2 ≤ length xs → length xs < 3 → x ≡ get_or xs 0 x → y ≡ get_or xs 1 y → xs ≡ x ∷ y ∷ []
pair [] x y some few one two = absurd (omega arith)
pair (a ∷ []) x y some few one two = absurd (omega arith)
pair (a ∷ b ∷ []) x y some few one two = ap₂ (λ u v. u ∷ v ∷ []) (sym one) (sym two)
pair (a ∷ b ∷ c ∷ xs) x y some few one two = absurd (omega arith)

-- the words of a command are one command's
pub same_command : (words : List (List ℕ)) (c d : Command) → IsCommand words c → IsCommand words d → c ≡ d
same_command words Replay Replay a b = refl
same_command words Replay (Deal None) a b = absurd (let both = sym a.spelled ∙ b.spelled in cc)
same_command words Replay (Deal (Some t)) a b = absurd (let both = sym a.spelled ∙ b.spelled in cc)
same_command words (Deal None) Replay a b = absurd (let both = sym a.spelled ∙ b.spelled in cc)
same_command words (Deal (Some s)) Replay a b = absurd (let both = sym a.spelled ∙ b.spelled in cc)
same_command words (Deal None) (Deal None) a b = refl
same_command words (Deal None) (Deal (Some t)) a b = absurd (not_public t (second (sym a.spelled ∙ b.spelled)))
  where
    second : command_words (Deal None) ≡ command_words (Deal (Some t)) → codes "public" ≡ seat_name t
    second e = ap (λ (ws : List (List ℕ)). get_or ws 1 []) e
same_command words (Deal (Some s)) (Deal None) a b = absurd (not_public s (second (sym b.spelled ∙ a.spelled)))
  where
    second : command_words (Deal None) ≡ command_words (Deal (Some s)) → codes "public" ≡ seat_name s
    second e = ap (λ (ws : List (List ℕ)). get_or ws 1 []) e
same_command words (Deal (Some s)) (Deal (Some t)) a b =
    ap (λ (u : Seat). Deal (Some u)) (same_seat s t a.fits b.fits (ap (λ (ws : List (List ℕ)). get_or ws 1 []) (sym a.spelled ∙ b.spelled)))

-- where the words are found to be a command's, or known to be none's, each command of theirs is the one that is found
pub each_found : (words : List (List ℕ)) (r : Option Command) → MatchOption r ((c : Command) → IsCommand words c → ⊥) (λ c. IsCommand words c) → (c : Command) → IsCommand words c → r ≡ Some c
each_found words None none c is = absurd (none c is)
each_found words (Some d) found c is = ap Some (same_command words d c found is)

pub if_found : (words : List (List ℕ)) (r : Option Command) → MatchOption r ((c : Command) → IsCommand words c → ⊥) (λ c. IsCommand words c) → IfSome r (λ c. IsCommand words c)
if_found words None none = tt
if_found words (Some d) found = found
